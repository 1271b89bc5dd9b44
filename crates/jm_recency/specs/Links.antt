-- A list of keys and stamps as links in arrays.
use Rattle.std.specs.Prelude.{◌≡◌, ℕ, zero, suc, ◌<◌, ◌≤◌, List, [], ◌∷◌, ◌==◌, ◌||◌, if◌then◌else◌, Option, Some, None, length, slice_index}
use Rattle.jm_recency.specs.Recency.{IsRecency}

-- the link behind the last key, and before the first one
abbrev pub END : ℕ
END = 65535

-- the link of a key that isn't there
abbrev pub ABSENT : ℕ
ABSENT = 65534

-- the entries that `count` links from this key on lead to
abbrev pub walk : (next stamps : List ℕ) → (count at : ℕ) → List (ℕ × ℕ)
walk next stamps zero at = []
walk next stamps (suc count) at = (at, slice_index stamps at) ∷ walk next stamps count (slice_index next at)

abbrev pub oldest_of : List (ℕ × ℕ) → ℕ
oldest_of [] = END
oldest_of (e ∷ es) = e.0

-- the newest key, or the one before the list
abbrev pub newest_of : (before : ℕ) → List (ℕ × ℕ) → ℕ
newest_of before [] = before
newest_of before (e ∷ es) = newest_of e.0 es

-- the key behind this one
abbrev pub link_after : List (ℕ × ℕ) → (key : ℕ) → ℕ
link_after [] key = ABSENT
link_after (e ∷ es) key = if e.0 == key then oldest_of es else link_after es key

-- the key before this one; before the first stands `before`
abbrev pub link_before : (before : ℕ) → List (ℕ × ℕ) → (key : ℕ) → ℕ
link_before before [] key = ABSENT
link_before before (e ∷ es) key = if e.0 == key then before else link_before e.0 es key

-- the stamps of the entries stand in the array
abbrev pub AreStamps : (stamps : List ℕ) → List (ℕ × ℕ) → Type 0
AreStamps stamps [] = Unit {0}
AreStamps stamps (e ∷ es) = (slice_index stamps e.0 ≡ e.1) × AreStamps stamps es

-- the arrays hold the links of this list
pub record AreLinks (n : ℕ) (next previous stamps : List ℕ) (oldest newest count : ℕ) (es : List (ℕ × ℕ)) : Type 0 where
  pub few : n ≤ 1024
  pub nexts : length next ≡ n
  pub previouses : length previous ≡ n
  pub stamped : length stamps ≡ n
  pub after : (key : ℕ) → key < n → slice_index next key ≡ link_after es key
  pub before : (key : ℕ) → key < n → slice_index previous key ≡ link_before END es key
  pub entries : IsRecency n 0 es
  pub stamps_are : AreStamps stamps es
  pub first : oldest ≡ oldest_of es
  pub last : newest ≡ newest_of END es
  pub counted : count ≡ length es

-- the key that a link leads to, if it leads to one
abbrev pub key_at : (link : ℕ) → Option ℕ
key_at link = if link == END || link == ABSENT then None else Some link
