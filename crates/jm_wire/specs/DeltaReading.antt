-- What the definition of reading a delta field comes to, and its round trip with the writer.
use Rattle.std.proofs.Common.{◌≡◌, ℕ, zero, suc, ◌+◌, ◌*◌, ◌%◌, ◌^◌, ◌<◌, ◌≤◌, ◌↔◌, List, [], ◌∷◌, ◌++◌, length, take, Result, Ok, Err, refl, ap, ◌∙◌, arith, inl, inr, length-append, add-one, IfOk}
use Rattle.std.specs.Prelude.{IsTrue}
use Rattle.std.proofs.Math.Nat.{pow-succ', mul-le-mul_right}
use Rattle.std.proofs.Math.Seq.{take-append_seam}
use Rattle.std.proofs.lemmas.Bool.{lt-ltb, le-ltb, le-leb, lt-leb, cases_lt}
use Rattle.std.proofs.lemmas.List.{length-take-le}
use Rattle.std.proofs.lemmas.Bool.Decides.{nat_tests}
use Rattle.jm_wire.specs.declared.delta.DeltaFault.{DeltaFault}
use Rattle.jm_wire.specs.declared.delta.DeltaFault.TheVariants.{Short, TooLong}
use Rattle.jm_wire.specs.Delta.{value, ends_at_last, high_run, delta_at, IsField, IsReadAs}

pub value-below : (xs : List ℕ) → value xs < 128 ^ length xs
value-below [] = omega arith
value-below (x ∷ xs) =
    let power : 128 ^ suc (length xs) ≡ 128 * 128 ^ length xs = pow-succ' 128 (length xs) in
    let part : x % 128 + 1 ≤ 128 = omega arith in
    let product : (x % 128 + 1) * 128 ^ length xs ≤ 128 * 128 ^ length xs = mul-le-mul_right (128 ^ length xs) part in
    rw power (omega (arith, value-below xs, product))

-- a field of at most four octets has 28 bits
four_parts : (n v : ℕ) → n ≤ 4 → v < 128 ^ n → v < 268435456
four_parts zero v few below = omega arith
four_parts (suc zero) v few below = omega arith
four_parts (suc (suc zero)) v few below = omega arith
four_parts (suc (suc (suc zero))) v few below = omega arith
four_parts (suc (suc (suc (suc zero)))) v few below = omega arith
four_parts (suc (suc (suc (suc (suc n))))) v few below = absurd (omega arith)

high_run-within : (b : List ℕ) → high_run b ≤ length b
high_run-within [] = omega arith
high_run-within (o ∷ os) = grind (arith, nat_tests, high_run-within os)

run_high : (o : ℕ) (os : List ℕ) → 128 ≤ o → high_run (o ∷ os) ≡ suc (high_run os)
run_high o os h = rw (le-ltb o 128 h, add-one) refl

run_low : (o : ℕ) (os : List ℕ) → o < 128 → high_run (o ∷ os) ≡ 0
run_low o os h = rw (lt-ltb o 128 h) refl

-- the octets up to the first without the high bit end there
front_ends : (b : List ℕ) → high_run b < length b → IsTrue (ends_at_last (take (suc (high_run b)) b))
front_ends [] lt = absurd (omega arith)
front_ends (o ∷ []) lt =
    elim (cases_lt o 128) [
      | inl low ↦ rw (run_low o [] low) (lt-ltb o 128 low)
      | inr high ↦ absurd (omega (arith, run_high o [] high))
    ]
front_ends (o ∷ p ∷ os) lt =
    elim (cases_lt o 128) [
      | inl low ↦ rw (run_low o (p ∷ os) low) (lt-ltb o 128 low)
      | inr high ↦ rw (run_high o (p ∷ os) high) (rw (le-leb 128 o high) (front_ends (p ∷ os) (omega (arith, run_high o (p ∷ os) high))))
    ]

field_run : (text rest : List ℕ) → IsTrue (ends_at_last text) → suc (high_run (text ++ rest)) ≡ length text
field_run [] rest h = absurd cc
field_run (o ∷ []) rest h = rw (h) refl
field_run (o ∷ p ∷ os) rest h =
    elim (cases_lt o 128) [
      | inl low ↦ let never = rw (lt-leb 128 o low) at h in absurd cc
      | inr high ↦ rw (run_high o (p ∷ os ++ rest) high) (ap suc (field_run (p ∷ os) rest (rw (le-leb 128 o high) at h)))
    ]

at_long : (b : List ℕ) → 4 ≤ high_run b → delta_at b ≡ Err TooLong
unfolding delta_at
at_long b h = rw (le-leb 4 (high_run b) h) refl

at_short : (b : List ℕ) → high_run b < 4 → length b ≤ high_run b → delta_at b ≡ Err Short
unfolding delta_at
at_short b few h = rw (lt-leb 4 (high_run b) few, le-leb (length b) (high_run b) h) refl

at_field : (b : List ℕ) → high_run b < 4 → high_run b < length b → delta_at b ≡ Ok (value (take (suc (high_run b)) b), suc (high_run b))
unfolding delta_at
at_field b few h = rw (lt-leb 4 (high_run b) few, lt-leb (length b) (high_run b) h, add-one) refl

field_at_front : (b : List ℕ) → high_run b < 4 → high_run b < length b → IsReadAs b (value (take (suc (high_run b)) b)) (suc (high_run b))
field_at_front b few lt =
    let text = take (suc (high_run b)) b in
    let len : length text ≡ suc (high_run b) = length-take-le (suc (high_run b)) b (omega arith) in
    record {
      inside = omega arith;
      field = record { ended = front_ends b lt; few = omega arith };
      value_is = refl;
      some = omega arith;
      few = omega arith;
      below = four_parts (length text) (value text) (omega arith) (value-below text);
    }

-- what is read is a field at the front
pub read_as : (b : List ℕ) (r : Result (ℕ × ℕ) DeltaFault) → r ≡ delta_at b → IfOk r (λ x. IsReadAs b x.0 x.1)
read_as b r e =
    elim (cases_lt (high_run b) 4) [
      | inl few ↦ elim (cases_lt (high_run b) (length b)) [
        | inl lt ↦ rw (e, at_field b few lt) (field_at_front b few lt)
        | inr le ↦ rw (e, at_short b few le) tt
      ]
      | inr many ↦ rw (e, at_long b many) tt
    ]

-- a field at the front is read, whatever follows
pub field_is_read : (b text rest : List ℕ) → b ≡ text ++ rest → IsField text → delta_at b ≡ Ok (value text, length text)
field_is_read b text rest e field =
    let run : suc (high_run b) ≡ length text = rw e (field_run text rest field.ended) in
    let len : length b ≡ length text + length rest = rw e (length-append text rest) in
    let front : take (suc (high_run b)) b ≡ text = rw (run, e) (take-append_seam text rest) in
    at_field b (omega (arith, field.few)) (omega arith) ∙ rw (front, run) refl

pub short_is : (b : List ℕ) → (delta_at b ≡ Err Short) ↔ ((high_run b ≡ length b) × (length b < 4))
short_is b =
    elim (cases_lt (high_run b) 4) [
      | inl few ↦ elim (cases_lt (high_run b) (length b)) [
        | inl lt ↦ (λ e. let other = at_field b few lt in absurd cc, λ h. absurd (omega (arith, h.0)))
        | inr le ↦ (λ e. (omega (arith, high_run-within b), omega (arith, high_run-within b)), λ h. at_short b few le)
      ]
      | inr many ↦ (λ e. let other = at_long b many in absurd cc, λ h. absurd (omega (arith, h.0, h.1)))
    ]

pub too_long_is : (b : List ℕ) → (delta_at b ≡ Err TooLong) ↔ (4 ≤ high_run b)
too_long_is b =
    elim (cases_lt (high_run b) 4) [
      | inl few ↦ elim (cases_lt (high_run b) (length b)) [
        | inl lt ↦ (λ e. let other = at_field b few lt in absurd cc, λ h. absurd (omega arith))
        | inr le ↦ (λ e. let other = at_short b few le in absurd cc, λ h. absurd (omega arith))
      ]
      | inr many ↦ (λ e. many, λ h. at_long b many)
    ]
