-- A field that is read is the field that was written, and what was written is read again.
use Rattle.std.proofs.Common.{◌≡◌, ℕ, suc, ◌+◌, ◌^◌, ◌<◌, ◌≤◌, false, ltb, List, [], ◌∷◌, ◌++◌, length, take, drop, Result, Ok, Err, refl, sym, arith, inl, inr}
use Rattle.std.specs.Prelude.{MatchResult}
use Rattle.std.specs.Int.{Width, w16, w32, w64, byte_len, from_be_bytes, to_be_bytes}
use Rattle.std.proofs.lemmas.Bool.{cases_lt, lt-ltb, le-ltb}
use Rattle.std.proofs.lemmas.List.{take_at, drop_at, take-append-drop, length-append, length-take, length-drop, get_or-drop, get_or-take, get_or_past}
use Rattle.std.proofs.lemmas.Nat.{be_bytes_2, be_bytes_4, be_bytes_8, from_be_bytes-to_be_bytes_2, from_be_bytes-to_be_bytes_4, from_be_bytes-to_be_bytes_8}
use Rattle.apple_msg.specs.declared.message.MsgFault.{MsgFault}
use Rattle.apple_msg.specs.declared.message.MsgFault.TheVariants.{Short}
use Rattle.jm_wire.specs.Readers.{◌>>=◌}
use Rattle.apple_msg.specs.Reading.{number_at, octet_at, behind_octets}
use Rattle.apple_msg.specs.Grammar.{AreOctets}

AreOctets-drop : (n : ℕ) (octets : List ℕ) → AreOctets octets → AreOctets (drop n octets)
AreOctets-drop n octets h i = rw get_or-drop (h (n + i))

AreOctets-take : (n : ℕ) (octets : List ℕ) → AreOctets octets → AreOctets (take n octets)
AreOctets-take n octets h i =
    elim (cases_lt i n) [
      | inl lt ↦ rw (get_or-take n octets i 0 lt) (h i)
      | inr le ↦ rw (get_or_past (take n octets) i 0 (omega (arith, length-take n octets))) (omega arith)
    ]

pub AreOctets-rest : (octet : ℕ) (rest : List ℕ) → AreOctets (octet ∷ rest) → AreOctets rest
AreOctets-rest octet rest h i = h (suc i)

-- what holds of the first step and of each next one holds of both
pub match_bind : {A B : Type 0} (P : A → Type 0) (E : MsgFault → Type 0) (Q : B → Type 0) (F : MsgFault → Type 0) (r : Result A MsgFault) (g : A → Result B MsgFault)
    → MatchResult r P E → ((x : A) → P x → MatchResult (g x) Q F) → ((f : MsgFault) → E f → F f) → MatchResult (r >>= g) Q F
match_bind P E Q F (Ok x) g h next fails = next x h
match_bind P E Q F (Err f) g h next fails = fails f h

-- ---- numbers

pub record IsWide (w : Width) (limit : ℕ) : Type 0 where
  pub len : (n : ℕ) → length (to_be_bytes w n) ≡ byte_len w
  pub back : (octets : List ℕ) → length octets ≡ byte_len w → AreOctets octets → to_be_bytes w (from_be_bytes w octets) ≡ octets
  pub again : (n : ℕ) → n < limit → from_be_bytes w (to_be_bytes w n) ≡ n
  pub below : (octets : List ℕ) → AreOctets octets → from_be_bytes w octets < limit

pub wide16 : IsWide w16 (2 ^ 16)
wide16 = record {
  len = λ n. refl;
  back = λ octets len fits. be_bytes_2 octets _ len fits refl;
  again = λ n lt. from_be_bytes-to_be_bytes_2 n lt;
  below = λ octets fits. omega (arith, fits 0, fits 1);
}

pub wide32 : IsWide w32 (2 ^ 32)
wide32 = record {
  len = λ n. refl;
  back = λ octets len fits. be_bytes_4 octets _ len fits refl;
  again = λ n lt. from_be_bytes-to_be_bytes_4 n lt;
  below = λ octets fits. omega (arith, fits 0, fits 1, fits 2, fits 3);
}

pub wide64 : IsWide w64 (2 ^ 64)
wide64 = record {
  len = λ n. refl;
  back = λ octets len fits. be_bytes_8 octets _ len fits refl;
  again = λ n lt. from_be_bytes-to_be_bytes_8 n lt;
  below = λ octets fits. omega (arith, fits 0, fits 1, fits 2, fits 3, fits 4, fits 5, fits 6, fits 7);
}

-- too few octets
pub record IsShort (octets : List ℕ) (size : ℕ) (f : MsgFault) : Type 0 where
  pub fault : f ≡ Short
  pub few : length octets < size

-- a number that was taken from the front
pub record TakesNumber (w : Width) (limit : ℕ) (octets : List ℕ) (x : ℕ × List ℕ) : Type 0 where
  pub fits : x.0 < limit
  pub front : from_be_bytes w (take (byte_len w) octets) ≡ x.0
  pub parts : octets ≡ to_be_bytes w x.0 ++ x.1
  pub size : length octets ≡ byte_len w + length x.1
  pub rest_octets : AreOctets x.1

pub number_cases : (w : Width) (limit : ℕ) (wide : IsWide w limit) (octets : List ℕ) → AreOctets octets → MatchResult (number_at w octets) (TakesNumber w limit octets) (IsShort octets (byte_len w))
number_cases w limit wide octets fits =
    elim (cases_lt (length octets) (byte_len w)) [
      | inl lt ↦ rw (lt-ltb _ _ lt) (record { fault = refl; few = lt })
      | inr le ↦
          let whole : to_be_bytes w (from_be_bytes w (take (byte_len w) octets)) ≡ take (byte_len w) octets = wide.back (take (byte_len w) octets) (omega (arith, length-take (byte_len w) octets)) (AreOctets-take (byte_len w) octets fits) in
          rw (le-ltb _ _ le) (record {
            fits = wide.below (take (byte_len w) octets) (AreOctets-take (byte_len w) octets fits);
            front = refl;
            parts = rw whole (sym (take-append-drop (byte_len w) octets));
            size = omega (arith, length-drop (byte_len w) octets);
            rest_octets = AreOctets-drop (byte_len w) octets fits;
          })
    ]

pub number_again : (w : Width) (limit : ℕ) (wide : IsWide w limit) (n : ℕ) (rest : List ℕ) → n < limit → number_at w (to_be_bytes w n ++ rest) ≡ Ok (n, rest)
number_again w limit wide n rest lt =
    let len = wide.len n in
    let long : ltb (length (to_be_bytes w n ++ rest)) (byte_len w) ≡ false = le-ltb _ _ (omega (arith, length-append (to_be_bytes w n) rest)) in
    rw (long, take_at (to_be_bytes w n) rest (byte_len w) len, drop_at (to_be_bytes w n) rest (byte_len w) len, wide.again n lt) refl

-- a number of which the octets are there is read, whatever it is
pub number_long : (w : Width) (octets : List ℕ) → byte_len w ≤ length octets → number_at w octets ≡ Ok (from_be_bytes w (take (byte_len w) octets), drop (byte_len w) octets)
number_long w octets le = rw (le-ltb (length octets) (byte_len w) le) refl

pub number_short : (w : Width) (octets : List ℕ) → length octets < byte_len w → number_at w octets ≡ Err Short
number_short w octets lt = rw (lt-ltb (length octets) (byte_len w) lt) refl

-- ---- octets that are not looked at

pub record Skips (size : ℕ) (octets rest : List ℕ) : Type 0 where
  pub ignored : List ℕ
  pub counted : length ignored ≡ size
  pub parts : octets ≡ ignored ++ rest
  pub rest_octets : AreOctets rest

pub behind_cases : (size : ℕ) (octets : List ℕ) → AreOctets octets → MatchResult (behind_octets size octets) (Skips size octets) (IsShort octets size)
behind_cases size octets fits =
    elim (cases_lt (length octets) size) [
      | inl lt ↦ rw (lt-ltb _ _ lt) (record { fault = refl; few = lt })
      | inr le ↦ rw (le-ltb _ _ le) (record {
        ignored = take size octets;
        counted = omega (arith, length-take size octets);
        parts = sym (take-append-drop size octets);
        rest_octets = AreOctets-drop size octets fits;
      })
    ]

pub behind_again : (ignored rest : List ℕ) (size : ℕ) → length ignored ≡ size → behind_octets size (ignored ++ rest) ≡ Ok rest
behind_again ignored rest size len =
    let long : ltb (length (ignored ++ rest)) size ≡ false = le-ltb _ _ (omega (arith, length-append ignored rest)) in
    rw (long, drop_at ignored rest size len) refl

pub behind_short : (size : ℕ) (octets : List ℕ) → length octets < size → behind_octets size octets ≡ Err Short
behind_short size octets lt = rw (lt-ltb (length octets) size lt) refl

pub behind_long : (size : ℕ) (octets : List ℕ) → size ≤ length octets → behind_octets size octets ≡ Ok (drop size octets)
behind_long size octets le = rw (le-ltb (length octets) size le) refl

-- ---- an octet

pub octet_cases : (octets : List ℕ) → AreOctets octets → MatchResult (octet_at octets) (λ x. (octets ≡ x.0 ∷ x.1) × AreOctets x.1) (IsShort octets 1)
octet_cases [] fits = record { fault = refl; few = omega arith }
octet_cases (octet ∷ rest) fits = (refl, AreOctets-rest octet rest fits)

pub octet_short : (octets : List ℕ) → length octets < 1 → octet_at octets ≡ Err Short
octet_short [] lt = refl
octet_short (octet ∷ rest) lt = absurd (omega arith)
