-- The delta that is written for a number: a field of that number, and the shortest one.
use Rattle.std.proofs.Common.{◌≡◌, ℕ, zero, suc, ◌+◌, ◌/◌, ◌%◌, ◌^◌, ◌<◌, ◌≤◌, List, [], ◌∷◌, ◌++◌, length, refl, ◌∙◌, arith, inl, inr}
use Rattle.std.proofs.lemmas.Bool.{lt-ltb, le-ltb, le-leb, cases_lt}
use Rattle.jm_wire.specs.Delta.{value, delta, IsField, IsWrittenDelta}
use Rattle.jm_wire.specs.DeltaReading.{value-below, field_is_read}

one : (v : ℕ) → v < 128 → delta v ≡ v ∷ []
unfolding delta
one v h = rw (lt-ltb v 128 h) refl

two : (v : ℕ) → 128 ≤ v → v < 16384 → delta v ≡ (128 + v / 128) ∷ v % 128 ∷ []
unfolding delta
two v g h = rw (le-ltb v 128 g, lt-ltb v 16384 h) refl

three : (v : ℕ) → 16384 ≤ v → v < 2097152 → delta v ≡ (128 + v / 16384) ∷ (128 + v / 128 % 128) ∷ v % 128 ∷ []
unfolding delta
three v g h =
    let a : 128 ≤ v = omega arith in
    rw (le-ltb v 128 a, le-ltb v 16384 g, lt-ltb v 2097152 h) refl

four : (v : ℕ) → 2097152 ≤ v → delta v ≡ (128 + v / 2097152) ∷ (128 + v / 16384 % 128) ∷ (128 + v / 128 % 128) ∷ v % 128 ∷ []
unfolding delta
four v g =
    let a : 128 ≤ v = omega arith in
    let b : 16384 ≤ v = omega arith in
    rw (le-ltb v 128 a, le-ltb v 16384 b, le-ltb v 2097152 g) refl

-- a field of that value that needs as many octets
record IsSpelling (v : ℕ) (text : List ℕ) : Type 0 where
  field : IsField text
  value_is : value text ≡ v
  shortest : (n : ℕ) → 1 ≤ n → v < 128 ^ n → length text ≤ n

at_least_two : (v n : ℕ) → 128 ≤ v → v < 128 ^ n → 2 ≤ n
at_least_two v zero g below = absurd (omega arith)
at_least_two v (suc zero) g below = absurd (omega arith)
at_least_two v (suc (suc n)) g below = omega arith

at_least_three : (v n : ℕ) → 16384 ≤ v → v < 128 ^ n → 3 ≤ n
at_least_three v zero g below = absurd (omega arith)
at_least_three v (suc zero) g below = absurd (omega arith)
at_least_three v (suc (suc zero)) g below = absurd (omega arith)
at_least_three v (suc (suc (suc n))) g below = omega arith

at_least_four : (v n : ℕ) → 2097152 ≤ v → v < 128 ^ n → 4 ≤ n
at_least_four v zero g below = absurd (omega arith)
at_least_four v (suc zero) g below = absurd (omega arith)
at_least_four v (suc (suc zero)) g below = absurd (omega arith)
at_least_four v (suc (suc (suc zero))) g below = absurd (omega arith)
at_least_four v (suc (suc (suc (suc n)))) g below = omega arith

spelled_one : (v : ℕ) → v < 128 → IsSpelling v (v ∷ [])
spelled_one v h = record {
  field = record { ended = lt-ltb v 128 h; few = omega arith };
  value_is = omega arith;
  shortest = λ n some below. some;
}

spelled_two : (v : ℕ) → 128 ≤ v → v < 16384 → IsSpelling v ((128 + v / 128) ∷ v % 128 ∷ [])
spelled_two v g h =
    let first : 128 ≤ 128 + v / 128 = omega arith in
    let last : v % 128 < 128 = omega arith in
    record {
      field = record { ended = rw (le-leb 128 (128 + v / 128) first) (lt-ltb (v % 128) 128 last); few = omega arith };
      value_is = omega arith;
      shortest = λ n some below. at_least_two v n g below;
    }

spelled_three : (v : ℕ) → 16384 ≤ v → v < 2097152 → IsSpelling v ((128 + v / 16384) ∷ (128 + v / 128 % 128) ∷ v % 128 ∷ [])
spelled_three v g h =
    let first : 128 ≤ 128 + v / 16384 = omega arith in
    let second : 128 ≤ 128 + v / 128 % 128 = omega arith in
    let last : v % 128 < 128 = omega arith in
    record {
      field = record { ended = rw (le-leb 128 (128 + v / 16384) first, le-leb 128 (128 + v / 128 % 128) second) (lt-ltb (v % 128) 128 last); few = omega arith };
      value_is = omega arith;
      shortest = λ n some below. at_least_three v n g below;
    }

spelled_four : (v : ℕ) → 2097152 ≤ v → v < 268435456 → IsSpelling v ((128 + v / 2097152) ∷ (128 + v / 16384 % 128) ∷ (128 + v / 128 % 128) ∷ v % 128 ∷ [])
spelled_four v g h =
    let first : 128 ≤ 128 + v / 2097152 = omega arith in
    let second : 128 ≤ 128 + v / 16384 % 128 = omega arith in
    let third : 128 ≤ 128 + v / 128 % 128 = omega arith in
    let last : v % 128 < 128 = omega arith in
    record {
      field = record { ended = rw (le-leb 128 (128 + v / 2097152) first, le-leb 128 (128 + v / 16384 % 128) second, le-leb 128 (128 + v / 128 % 128) third) (lt-ltb (v % 128) 128 last); few = omega arith };
      value_is = omega arith;
      shortest = λ n some below. at_least_four v n g below;
    }

delta_spelled : (v : ℕ) → v < 268435456 → IsSpelling v (delta v)
delta_spelled v h =
    elim (cases_lt v 128) [
      | inl a ↦ rw (one v a) (spelled_one v a)
      | inr a ↦ elim (cases_lt v 16384) [
        | inl b ↦ rw (two v a b) (spelled_two v a b)
        | inr b ↦ elim (cases_lt v 2097152) [
          | inl d ↦ rw (three v b d) (spelled_three v b d)
          | inr d ↦ rw (four v d) (spelled_four v d h)
        ]
      ]
    ]

-- a field has an octet
some_octet : (text : List ℕ) → IsField text → 1 ≤ length text
some_octet [] field = let never = field.ended in absurd cc
some_octet (o ∷ os) field = omega arith

pub written : (v : ℕ) → v < 268435456 → IsWrittenDelta v
written v h =
    let s = delta_spelled v h in
    record {
      field = s.field;
      value_is = s.value_is;
      shortest = λ text field e. s.shortest (length text) (some_octet text field) (rw e at (value-below text));
      again = λ rest. field_is_read (delta v ++ rest) (delta v) rest refl s.field ∙ rw s.value_is refl;
    }

pub delta-length : (v : ℕ) → (1 ≤ length (delta v)) × (length (delta v) ≤ 4)
unfolding delta
delta-length v =
    elim (cases_lt v 128) [
      | inl a ↦ rw (one v a) (omega arith, omega arith)
      | inr a ↦ elim (cases_lt v 16384) [
        | inl b ↦ rw (two v a b) (omega arith, omega arith)
        | inr b ↦ elim (cases_lt v 2097152) [
          | inl d ↦ rw (three v b d) (omega arith, omega arith)
          | inr d ↦ rw (four v d) (omega arith, omega arith)
        ]
      ]
    ]
