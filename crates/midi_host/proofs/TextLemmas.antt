-- Texts and their lines.
use Rattle.std.proofs.Common.{◌≡◌, ℕ, true, false, ◌==◌, ◌||◌, List, [], ◌∷◌, ◌++◌, refl, IsTrue}
use Rattle.midi_host.specs.Text.{lines_of, has_end, is_whole, IsOfLine}

-- what comes after an octet that ends no line
pub has_end-first : (octet : ℕ) (octets : List ℕ) → IsOfLine (octet ∷ octets) → (octet == 10) ≡ false
unfolding has_end
has_end-first octet octets h = elim (octet == 10) as (λ b. (b || has_end octets) ≡ false → b ≡ false) [ true ↦ λ e. e | false ↦ λ _. refl ] h

pub has_end-rest : (octet : ℕ) (octets : List ℕ) → IsOfLine (octet ∷ octets) → IsOfLine octets
unfolding has_end
has_end-rest octet octets h = elim (octet == 10) as (λ b. (b || has_end octets) ≡ false → has_end octets ≡ false) [ true ↦ λ e. cc | false ↦ λ e. e ] h

-- one more octet of a line
pub has_end-push : (octets : List ℕ) (octet : ℕ) → IsOfLine octets → (octet == 10) ≡ false → IsOfLine (octets ++ octet ∷ [])
unfolding has_end
has_end-push [] octet h e = rw e refl
has_end-push (x ∷ xs) octet h e = rw (has_end-first x xs h, has_end-push xs octet (has_end-rest x xs h) e) refl

pub has_end-none : IsOfLine []
unfolding has_end
has_end-none = refl

-- a line and its end
pub lines_of-line : (line more : List ℕ) → IsOfLine line → lines_of (line ++ 10 ∷ more) ≡ line ∷ lines_of more
unfolding lines_of
lines_of-line [] more h = refl
lines_of-line (x ∷ xs) more h = rw (has_end-first x xs h, lines_of-line xs more (has_end-rest x xs h)) refl

-- a line that lacks its end
pub lines_of-last : (octet : ℕ) (octets : List ℕ) → IsOfLine (octet ∷ octets) → lines_of (octet ∷ octets) ≡ (octet ∷ octets) ∷ []
unfolding lines_of
lines_of-last x [] h = rw (has_end-first x [] h) refl
lines_of-last x (y ∷ ys) h = rw (has_end-first x (y ∷ ys) h, lines_of-last y ys (has_end-rest x (y ∷ ys) h)) refl

-- the first line of a text that begins with an octet of a line
pub record Begins (octets more : List ℕ) : Type 0 where
  pub rest : List ℕ
  pub lines : List (List ℕ)
  pub split : lines_of (octets ++ more) ≡ (octets ++ rest) ∷ lines

Begins-onto : (octet : ℕ) (more : List ℕ) (lines : List (List ℕ)) → (octet == 10) ≡ false → lines_of more ≡ lines → Begins (octet ∷ []) more
unfolding lines_of
Begins-onto octet more [] e h = record { rest = []; lines = []; split = rw (e, h) refl }
Begins-onto octet more (line ∷ lines) e h = record { rest = line; lines = lines; split = rw (e, h) refl }

pub lines_of-begins : (octets : List ℕ) (octet : ℕ) (more : List ℕ) → IsOfLine octets → (octet == 10) ≡ false → Begins (octets ++ octet ∷ []) more
unfolding lines_of
lines_of-begins [] octet more h e = Begins-onto octet more (lines_of more) e refl
lines_of-begins (x ∷ xs) octet more h e =
    let b = lines_of-begins xs octet more (has_end-rest x xs h) e in
    record { rest = b.rest; lines = b.lines; split = rw (has_end-first x xs h, b.split) refl }

-- whole texts
pub is_whole-none : IsTrue (is_whole [])
unfolding is_whole
is_whole-none = refl

pub is_whole-line : (line : List ℕ) → IsTrue (is_whole (line ++ 10 ∷ []))
unfolding is_whole
is_whole-line [] = refl
is_whole-line (x ∷ []) = refl
is_whole-line (x ∷ y ∷ ys) = is_whole-line (y ∷ ys)

pub is_whole-append : (xs ys : List ℕ) → IsTrue (is_whole xs) → IsTrue (is_whole ys) → IsTrue (is_whole (xs ++ ys))
unfolding is_whole
is_whole-append [] ys h k = k
is_whole-append (x ∷ []) [] h k = h
is_whole-append (x ∷ []) (y ∷ ys) h k = k
is_whole-append (x ∷ second ∷ xs) ys h k = is_whole-append (second ∷ xs) ys h k

-- no line
pub lines_of-none : lines_of [] ≡ []
unfolding lines_of
lines_of-none = refl
