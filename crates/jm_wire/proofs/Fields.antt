-- Facts on the fields of delta times.
use Rattle.std.proofs.Common.{◌≡◌, ℕ, zero, suc, ◌+◌, ◌*◌, ◌%◌, ◌^◌, ◌<◌, ◌≤◌, List, [], ◌∷◌, ◌++◌, length, get_or, take, drop, Ok, Err, ap, arith, length-append, add-one}
use Rattle.std.proofs.Math.Nat.{pow-succ'}
use Rattle.std.proofs.Math.Seq.{drop-cons, take-suc, drop-length}
use Rattle.std.proofs.lemmas.Bool.Decides.{nat_tests}
use Rattle.jm_wire.specs.declared.delta.DeltaFault.TheVariants.{Short, TooLong}
use Rattle.jm_wire.specs.Delta.{value, high_run, delta_at}

-- one more octet at the end
pub value-push : (xs : List ℕ) (o : ℕ) → value (xs ++ o ∷ []) ≡ value xs * 128 + o % 128
value-push [] o = omega arith
value-push (x ∷ xs) o =
    let len : length (xs ++ o ∷ []) ≡ suc (length xs) = omega (arith, length-append xs (o ∷ [])) in
    let power : 128 ^ suc (length xs) ≡ 128 * 128 ^ length xs = pow-succ' 128 (length xs) in
    rw (len, power, value-push xs o) (omega arith)

pub high_run-high : (o : ℕ) (os : List ℕ) → 128 ≤ o → high_run (o ∷ os) ≡ high_run os + 1
high_run-high o os h = grind (arith, nat_tests)

pub high_run-low : (o : ℕ) (os : List ℕ) → o < 128 → high_run (o ∷ os) ≡ 0
high_run-low o os h = grind (arith, nat_tests)

-- the first i octets have the high bit, and n is their value
pub record ReadSoFar (b : List ℕ) (i n : ℕ) : Type 0 where
  pub inside : i ≤ length b
  pub run : high_run b ≡ high_run (drop i b) + i
  pub number : n ≡ value (take i b)
  pub below : n < 128 ^ i

-- the next octet joins the value
next_value : (b : List ℕ) (i n o v : ℕ) → ReadSoFar b i n → i < length b → o ≡ get_or b i 0 → v ≡ n * 128 + o % 128 → v ≡ value (take (i + 1) b)
next_value b i n o v s lt e f =
    let cut : take (i + 1) b ≡ take i b ++ (get_or b i 0 ∷ []) = rw add-one (take-suc b i 0 lt) in
    rw (cut, value-push (take i b) (get_or b i 0), ← s.number, ← e) f

pub more : (b : List ℕ) (i n o v : ℕ) → ReadSoFar b i n → i < length b → o ≡ get_or b i 0 → 128 ≤ o → v ≡ n * 128 + o % 128 → ReadSoFar b (i + 1) v
more b i n o v s lt e high f =
    let cut : drop i b ≡ o ∷ drop (i + 1) b = rw (add-one, e) (drop-cons b i 0 lt) in
    let step : high_run (drop i b) ≡ high_run (drop (i + 1) b) + 1 = rw cut (high_run-high o (drop (i + 1) b) high) in
    let power : 128 ^ (i + 1) ≡ 128 * 128 ^ i = rw add-one (pow-succ' 128 i) in
    record {
      inside = omega arith;
      run = omega (arith, s.run);
      number = next_value b i n o v s lt e f;
      below = rw power (omega (arith, s.below));
    }

pub last_octet : (b : List ℕ) (i n o v : ℕ) → ReadSoFar b i n → i < 4 → i < length b → o ≡ get_or b i 0 → o < 128 → v ≡ n * 128 + o % 128 → delta_at b ≡ Ok (v, i + 1)
unfolding delta_at
last_octet b i n o v s few lt e low f =
    let cut : drop i b ≡ o ∷ drop (i + 1) b = rw (add-one, e) (drop-cons b i 0 lt) in
    let run : high_run b ≡ i = omega (arith, s.run, ap high_run cut, high_run-low o (drop (i + 1) b) low) in
    let number : v ≡ value (take (i + 1) b) = next_value b i n o v s lt e f in
    rw run (grind (arith, nat_tests))

pub no_octet : (b : List ℕ) (i n : ℕ) → ReadSoFar b i n → i < 4 → i ≡ length b → delta_at b ≡ Err Short
unfolding delta_at
no_octet b i n s few e =
    let cut : drop i b ≡ [] = rw e (drop-length b) in
    let run : high_run b ≡ i = omega (arith, s.run, ap high_run cut) in
    rw run (grind (arith, nat_tests))

pub all_high : (b : List ℕ) (i n : ℕ) → ReadSoFar b i n → 4 ≤ i → delta_at b ≡ Err TooLong
unfolding delta_at
all_high b i n s few = let run : 4 ≤ high_run b = omega (arith, s.run) in grind (arith, nat_tests)

-- three octets have 21 bits
pub three_parts : (i n : ℕ) → i < 4 → n < 128 ^ i → n < 2097152
three_parts zero n few below = omega arith
three_parts (suc zero) n few below = omega arith
three_parts (suc (suc zero)) n few below = omega arith
three_parts (suc (suc (suc zero))) n few below = omega arith
three_parts (suc (suc (suc (suc i)))) n few below = absurd (omega arith)
