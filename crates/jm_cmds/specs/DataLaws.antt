-- What holds of the data octets at the front.
use Rattle.std.proofs.Common.{◌≡◌, ◌+◌, ◌≤◌, ◌%◌, ◌<◌, ◌∷◌, ◌++◌, [], ℕ, List, ltb, take, length, length-append, refl, ◌∙◌, arith, add-one, add_comm, inl, inr}
use Rattle.std.proofs.Math.Seq.{take-length}
use Rattle.std.proofs.lemmas.Bool.{cases_Bool, lt-ltb}
use Rattle.std.proofs.lemmas.List.{length-take-le, length-map}
use Rattle.std.proofs.lemmas.List.Folds.{list_all-append}
use Rattle.jm_cmds.specs.Data.{is_data, IsData, data_len, IsSysex}
use Rattle.jm_cmds.specs.SysexMade.{unmarked}

pub IsData-front : (xs : List ℕ) → IsData (take (data_len xs) xs)
IsData-front [] = refl
IsData-front (x ∷ xs) =
    elim (cases_Bool (ltb x 128)) [
      | inl t ↦ rw (t, add_comm 1 (data_len xs), add-one) (rw t (IsData-front xs))
      | inr f ↦ rw f refl
    ]

pub IsData-whole : (xs : List ℕ) → length xs ≤ data_len xs → data_len xs ≤ length xs → IsData xs
IsData-whole xs a b =
    let e : data_len xs ≡ length xs = omega arith in
    let w : take (data_len xs) xs ≡ xs = rw e (take-length xs) in
    rw w at (IsData-front xs)

pub IsSysex-front : (xs : List ℕ) (n : ℕ) → n ≡ data_len xs → n ≤ length xs → n ≤ 65536 → IsSysex (take n xs)
IsSysex-front xs n e l m =
    record {
      octets_are_data = rw e (IsData-front xs);
      few = rw (length-take-le n xs l) m;
    }

-- the data octets of two messages behind one another are a message, unless they are too many
pub joined_message : (xs ys : List ℕ) → IsSysex xs → IsSysex ys → length xs + length ys ≤ 65536 → IsSysex (xs ++ ys)
joined_message xs ys a b few = record {
  octets_are_data = list_all-append is_data xs ys ∙ rw (a.octets_are_data, b.octets_are_data) refl;
  few = omega (arith, length-append xs ys);
}

-- seven bits are a data octet
pub IsData-unmarked : (xs : List ℕ) → IsData (unmarked xs)
IsData-unmarked [] = refl
IsData-unmarked (x ∷ xs) =
    let lt : x % 128 < 128 = omega arith in
    rw (lt-ltb (x % 128) 128 lt) (IsData-unmarked xs)

pub IsSysex-unmarked : (xs : List ℕ) → length xs ≤ 65536 → IsSysex (unmarked xs)
IsSysex-unmarked xs few = record { octets_are_data = IsData-unmarked xs; few = rw (length-map xs (λ octet. octet % 128)) few }

pub ruleset on_data = (IsData-front, IsData-whole)
