-- A text as its lines. Each ends with a line feed; the last one may lack it.
use Rattle.std.specs.Prelude.{◌≡◌, ℕ, Bool, true, false, List, [], ◌∷◌, if◌then◌else◌, ◌==◌, ◌||◌}
use Rattle.std.specs.List.{onto_first}

-- the lines of a text, without their ends
unfoldable pub lines_of : List ℕ → List (List ℕ)
lines_of [] = []
lines_of (octet ∷ octets) = if octet == 10 then [] ∷ lines_of octets else onto_first octet (lines_of octets)

-- whether a line ends in the octets
unfoldable pub has_end : List ℕ → Bool
has_end [] = false
has_end (octet ∷ octets) = octet == 10 || has_end octets

-- the octets are of one line, without its end
abbrev pub IsOfLine : List ℕ → Type 0
IsOfLine octets = has_end octets ≡ false

-- whether the octets are lines with their ends, and nothing after them
unfoldable pub is_whole : List ℕ → Bool
is_whole [] = true
is_whole (octet ∷ []) = octet == 10
is_whole (octet ∷ second ∷ octets) = is_whole (second ∷ octets)
