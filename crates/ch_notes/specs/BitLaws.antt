-- The octets of bits, one after another.
use Rattle.std.proofs.Common.{◌≡◌, ℕ, suc, ◌+◌, ◌-◌, ◌≤◌, List, [], ◌∷◌, map, refl, arith}
use Rattle.std.specs.List.{range_with_len}

-- the numbers from k to last are k and those from k + 1 on
pub range-step : (k last : ℕ) → k ≤ last → range_with_len k (last + 1 - k) ≡ k ∷ range_with_len (k + 1) (last + 1 - (k + 1))
range-step k last l =
    let e : last + 1 - k ≡ suc (last + 1 - (k + 1)) = omega arith in
    rw e refl

pub map_same : {X Y : Type 0} (f g : X → Y) → ((x : X) → f x ≡ g x) → (xs : List X) → map f xs ≡ map g xs
map_same f g h [] = refl
map_same f g h (x ∷ xs) = rw (h x, map_same f g h xs) refl
