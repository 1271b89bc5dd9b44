-- One place more of several lists, and what is said of each place.
use Rattle.std.proofs.Common.{◌≡◌, ℕ, zero, suc, ◌+◌, ◌<◌, ◌≤◌, List, [], ◌∷◌, ◌++◌, length, map, take, drop, get_or, set, All, refl, sym, ap, subst, ◌∙◌, arith}
use Rattle.std.proofs.lemmas.List.{take_more, take_more_set, map-append, get_or-drop, drop-set-lt, drop-drop, length-take-le, take_all, append_assoc}
use Rattle.std.specs.List.{AllZip, zip}

pub each_push : {A B : Type 0} (R : A → B → Type 0) (xs : List A) (ys : List B) (x : A) (y : B) → AllZip R xs ys → R x y → AllZip R (xs ++ x ∷ []) (ys ++ y ∷ [])
each_push R [] [] x y h r = (r, tt)
each_push R [] (b ∷ ys) x y h r = absurd h
each_push R (a ∷ xs) [] x y h r = absurd h
each_push R (a ∷ xs) (b ∷ ys) x y h r = (h.0, each_push R xs ys x y h.1 r)

pub each_length : {A B : Type 0} (R : A → B → Type 0) (xs : List A) (ys : List B) → AllZip R xs ys → length xs ≡ length ys
each_length R [] [] h = refl
each_length R [] (b ∷ ys) h = absurd h
each_length R (a ∷ xs) [] h = absurd h
each_length R (a ∷ xs) (b ∷ ys) h = ap (λ (n : ℕ). suc n) (each_length R xs ys h.1)

-- what is said of the place k
pub each_at : {A B : Type 0} (R : A → B → Type 0) (xs : List A) (ys : List B) (k : ℕ) (d : A) (e : B) → AllZip R xs ys → k < length xs → R (get_or xs k d) (get_or ys k e)
each_at R [] ys k d e h l = absurd (below_none k l)
  where
    below_none : (k : ℕ) → k < 0 → ⊥
    below_none k l = omega (arith, l)
each_at R (a ∷ xs) [] k d e h l = absurd h
each_at R (a ∷ xs) (b ∷ ys) zero d e h l = h.0
each_at R (a ∷ xs) (b ∷ ys) (suc k) d e h l = each_at R xs ys k d e h.1 (below k (length xs) l)
  where
    below : (k n : ℕ) → suc k < suc n → k < n
    below k n l = omega (arith, l)

-- the same of what was read there
pub each_read : {A B : Type 0} (R : A → B → Type 0) (xs : List A) (ys : List B) (k : ℕ) (x : A) (y : B) → AllZip R xs ys → k < length xs → x ≡ get_or xs k x → y ≡ get_or ys k y → R x y
each_read R xs ys k x y h l at_x at_y =
    subst (λ a. R a y) (sym at_x) (subst (λ b. R (get_or xs k x) b) (sym at_y) (each_at R xs ys k x y h l))

pub all_read : {A : Type 0} (P : A → Type 0) (xs : List A) (k : ℕ) (x : A) → All P xs → k < length xs → x ≡ get_or xs k x → P x
all_read P xs k x h l at_x = subst P (sym at_x) (h k x l)

-- one place more of both lists, of which the second is written there
pub each_more : {A B : Type 0} (R : A → B → Type 0) (xs : List A) (ys : List B) (k : ℕ) (x : A) (y : B) → k < length xs → k < length ys → x ≡ get_or xs k x → AllZip R (take k xs) (take k ys) → R x y
    → AllZip R (take (k + 1) xs) (take (k + 1) (set ys k y))
each_more R xs ys k x y l m at_x h r =
    rw (take_more xs k x l, take_more_set ys k y m) (each_push R (take k xs) (take k ys) (get_or xs k x) y h (subst (λ a. R a y) at_x r))

-- one place more of the first list, and one more at the end of the second
pub each_pushed : {A B : Type 0} (R : A → B → Type 0) (xs : List A) (ys : List B) (k : ℕ) (x : A) (y : B) → k < length xs → x ≡ get_or xs k x → AllZip R (take k xs) ys → R x y → AllZip R (take (k + 1) xs) (ys ++ y ∷ [])
each_pushed R xs ys k x y l at_x h r = rw (take_more xs k x l) (each_push R (take k xs) ys (get_or xs k x) y h (subst (λ a. R a y) at_x r))

map_more : {A B : Type 0} (f : A → B) (xs : List A) (k : ℕ) (x : A) (y : B) → k < length xs → x ≡ get_or xs k x → y ≡ f x → map f (take k xs) ++ y ∷ [] ≡ map f (take (k + 1) xs)
map_more f xs k x y l at_x is =
    rw (take_more xs k x l) (ap (λ b. map f (take k xs) ++ b ∷ []) (is ∙ ap f at_x) ∙ sym (map-append f (take k xs) (get_or xs k x ∷ [])))

-- one place more is written with what f gives
pub written_more : {A : Type 0} (f : A → A) (xs ys : List A) (k : ℕ) (x y : A) → k < length xs → k < length ys → x ≡ get_or xs k x → y ≡ f x → take k ys ≡ map f (take k xs)
    → take (k + 1) (set ys k y) ≡ map f (take (k + 1) xs)
written_more f xs ys k x y l m at_x is h = take_more_set ys k y m ∙ (ap (λ t. t ++ y ∷ []) h ∙ map_more f xs k x y l at_x is)

-- one more at the end, of which g gives what f gives at the place
pub pushed_more : {A B C : Type 0} (f : A → C) (g : B → C) (xs : List A) (ys : List B) (k : ℕ) (x : A) (y : B) → k < length xs → x ≡ get_or xs k x → g y ≡ f x → map g ys ≡ map f (take k xs)
    → map g (ys ++ y ∷ []) ≡ map f (take (k + 1) xs)
pushed_more f g xs ys k x y l at_x is h = map-append g ys (y ∷ []) ∙ (ap (λ t. t ++ g y ∷ []) h ∙ map_more f xs k x (g y) l at_x is)

zip_push : {A B : Type 0} (xs : List A) (ys : List B) (x : A) (y : B) → length xs ≡ length ys → zip (xs ++ x ∷ []) (ys ++ y ∷ []) ≡ zip xs ys ++ (x, y) ∷ []
zip_push [] [] x y e = refl
zip_push [] (b ∷ ys) x y e = absurd (apart (length ys) e)
  where
    apart : (n : ℕ) → 0 ≡ suc n → ⊥
    apart n e = omega (arith, e)
zip_push (a ∷ xs) [] x y e = absurd (apart (length xs) e)
  where
    apart : (n : ℕ) → suc n ≡ 0 → ⊥
    apart n e = omega (arith, e)
zip_push (a ∷ xs) (b ∷ ys) x y e = ap (λ l. (a, b) ∷ l) (zip_push xs ys x y (same (length xs) (length ys) e))
  where
    same : (m n : ℕ) → suc m ≡ suc n → m ≡ n
    same m n e = omega (arith, e)

-- one place more of two lists, side by side
pub zip_more : {A B : Type 0} (xs : List A) (ys : List B) (k : ℕ) (x : A) (y : B) → k < length xs → k < length ys → x ≡ get_or xs k x → y ≡ get_or ys k y
    → zip (take (k + 1) xs) (take (k + 1) ys) ≡ zip (take k xs) (take k ys) ++ (x, y) ∷ []
zip_more xs ys k x y l m at_x at_y =
    let e : length (take k xs) ≡ length (take k ys) = length-take-le k xs (omega arith) ∙ sym (length-take-le k ys (omega arith)) in
    let w : zip (take k xs ++ x ∷ []) (take k ys ++ y ∷ []) ≡ zip (take k xs) (take k ys) ++ (x, y) ∷ [] = zip_push (take k xs) (take k ys) x y e in
    let a : take (k + 1) xs ≡ take k xs ++ x ∷ [] = take_more xs k x l ∙ ap (λ b. take k xs ++ b ∷ []) (sym at_x) in
    let b : take (k + 1) ys ≡ take k ys ++ y ∷ [] = take_more ys k y m ∙ ap (λ b. take k ys ++ b ∷ []) (sym at_y) in
    ap (λ t. zip t (take (k + 1) ys)) a ∙ (ap (λ t. zip (take k xs ++ x ∷ []) t) b ∙ w)

-- one place more of a list that is written there, beside two others
pub beside_more : {A B C : Type 0} (R : A × B → C → Type 0) (xs : List A) (ys : List B) (zs : List C) (k : ℕ) (x : A) (y : B) (z : C)
    → k < length xs → k < length ys → k < length zs → x ≡ get_or xs k x → y ≡ get_or ys k y → AllZip R (zip (take k xs) (take k ys)) (take k zs) → R (x, y) z
    → AllZip R (zip (take (k + 1) xs) (take (k + 1) ys)) (take (k + 1) (set zs k z))
beside_more R xs ys zs k x y z l m n at_x at_y h r =
    rw (zip_more xs ys k x y l m at_x at_y, take_more_set zs k z n) (each_push R (zip (take k xs) (take k ys)) (take k zs) (x, y) z h r)

-- what is left of a list that was written before the place k alone
pub left_at : {X : Type 0} (xs ys : List X) (k : ℕ) (d : X) → drop k ys ≡ drop k xs → get_or ys k d ≡ get_or xs k d
left_at xs ys k d same =
    let h : get_or ys (k + 0) d ≡ get_or xs (k + 0) d = sym (get_or-drop k ys 0 d) ∙ (ap (λ l. get_or l 0 d) same ∙ get_or-drop k xs 0 d) in
    let e : k + 0 ≡ k = omega arith in
    subst (λ (n : ℕ). get_or ys n d ≡ get_or xs n d) e h

-- what is behind the place is the same, if what is from it on is
rest_more : {X : Type 0} (xs ys : List X) (k : ℕ) → drop k xs ≡ drop k ys → drop (k + 1) xs ≡ drop (k + 1) ys
rest_more xs ys k same = sym (drop-drop 1 k xs) ∙ (ap (λ l. drop 1 l) same ∙ drop-drop 1 k ys)

pub left_more : {X : Type 0} (xs ys : List X) (k : ℕ) (y : X) → drop k ys ≡ drop k xs → drop (k + 1) (set ys k y) ≡ drop (k + 1) xs
left_more xs ys k y same = drop-set-lt (k + 1) ys k y (omega arith) ∙ rest_more ys xs k same

-- what was read of it is what the first list has there
pub left_read : {X : Type 0} (xs ys : List X) (k : ℕ) (x : X) → drop k ys ≡ drop k xs → x ≡ get_or ys k x → x ≡ get_or xs k x
left_read xs ys k x same at_x = at_x ∙ left_at xs ys k x same

-- the whole of a list is taken
pub each_whole : {A B : Type 0} (R : A → B → Type 0) (xs : List A) (ys : List B) (k : ℕ) → length xs ≤ k → AllZip R (take k xs) ys → AllZip R xs ys
each_whole R xs ys k l h = subst (λ t. AllZip R t ys) (take_all k xs l) h

-- the whole of both lists is taken
pub both_whole : {A B : Type 0} (R : A → B → Type 0) (xs : List A) (ys : List B) (k : ℕ) → length xs ≤ k → length ys ≤ k → AllZip R (take k xs) (take k ys) → AllZip R xs ys
both_whole R xs ys k l m h = each_whole R xs ys k l (subst (λ t. AllZip R (take k xs) t) (take_all k ys m) h)

pub three_whole : {A B C : Type 0} (R : A × B → C → Type 0) (xs : List A) (ys : List B) (zs : List C) (k : ℕ) → length xs ≤ k → length ys ≤ k → length zs ≤ k
    → AllZip R (zip (take k xs) (take k ys)) (take k zs) → AllZip R (zip xs ys) zs
three_whole R xs ys zs k l m n h =
    subst (λ t. AllZip R (zip t ys) zs) (take_all k xs l)
    (subst (λ t. AllZip R (zip (take k xs) t) zs) (take_all k ys m)
    (subst (λ t. AllZip R (zip (take k xs) (take k ys)) t) (take_all k zs n) h))

-- what is left of a list from the place k on begins with what stands there
pub rest_first : {A : Type 0} (xs rest : List A) (k : ℕ) (x : A) → x ∷ rest ≡ drop k xs → x ≡ get_or xs k x
rest_first [] rest zero x e = absurd (apart (length rest) (ap length e))
  where
    apart : (n : ℕ) → suc n ≡ 0 → ⊥
    apart n e = omega (arith, e)
rest_first [] rest (suc k) x e = absurd (apart (length rest) (ap length e))
  where
    apart : (n : ℕ) → suc n ≡ 0 → ⊥
    apart n e = omega (arith, e)
rest_first (a ∷ xs) rest zero x e = ap (λ l. get_or l 0 x) e
rest_first (a ∷ xs) rest (suc k) x e = rest_first xs rest k x e

pub rest_behind : {A : Type 0} (xs rest : List A) (k : ℕ) (x : A) → x ∷ rest ≡ drop k xs → rest ≡ drop (k + 1) xs
rest_behind xs rest k x e = ap (λ l. drop 1 l) e ∙ drop-drop 1 k xs

-- before the end something is left
pub rest_some : {A : Type 0} (xs : List A) (k : ℕ) → k < length xs → [] ≡ drop k xs → ⊥
rest_some [] k l e = omega (arith, l)
rest_some (a ∷ xs) zero l e = apart (length xs) (ap length e)
  where
    apart : (n : ℕ) → 0 ≡ suc n → ⊥
    apart n e = omega (arith, e)
rest_some (a ∷ xs) (suc k) l e = rest_some xs k (below k (length xs) l) e
  where
    below : (k n : ℕ) → suc k < suc n → k < n
    below k n l = omega (arith, l)

-- one more at the end of the first part of a whole, of which f tells what stood at the head of the rest
pub pushed_over : {A B : Type 0} (f : A → B) (xs : List A) (x : A) (y : B) (rest all : List B) → map f xs ++ (y ∷ rest) ≡ all → f x ≡ y → map f (xs ++ x ∷ []) ++ rest ≡ all
pushed_over f xs x y rest all h e =
    ap (λ l. l ++ rest) (map-append f xs (x ∷ [])) ∙ (append_assoc (map f xs) (f x ∷ []) rest ∙ (ap (λ z. map f xs ++ (z ∷ rest)) e ∙ h))

-- one more at the end of both, of which f and g tell the same
pub both_pushed : {A B C : Type 0} (f : A → C) (g : B → C) (xs : List A) (ys : List B) (x : A) (y : B) → map f xs ≡ map g ys → f x ≡ g y → map f (xs ++ x ∷ []) ≡ map g (ys ++ y ∷ [])
both_pushed f g xs ys x y h e =
    map-append f xs (x ∷ []) ∙ (ap (λ l. l ++ f x ∷ []) h ∙ (ap (λ z. map g ys ++ z ∷ []) e ∙ sym (map-append g ys (y ∷ []))))
