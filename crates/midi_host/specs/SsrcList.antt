-- Lists of SSRCs.
use Rattle.std.specs.Prelude.{ℕ, Bool, ◌==◌, if◌then◌else◌, List, [], ◌∷◌}
use Rattle.std.specs.List.{list_any}

abbrev pub is_it : (ssrc one : ℕ) → Bool
is_it ssrc one = one == ssrc

abbrev pub has_ssrc : (ssrc : ℕ) → List ℕ → Bool
has_ssrc ssrc ssrcs = list_any (is_it ssrc) ssrcs

-- those who are left where the first of an SSRC goes
abbrev pub without_first : (ssrc : ℕ) → List ℕ → List ℕ
without_first ssrc [] = []
without_first ssrc (one ∷ others) = if one == ssrc then others else one ∷ without_first ssrc others
