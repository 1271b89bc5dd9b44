-- The reader of lines between two octets: what a call did to what is still to be answered.
use Rattle.std.specs.Prelude.{◌≡◌, ℕ, ◌+◌, ◌*◌, ◌-◌, ◌≤◌, true, false, List, [], ◌∷◌, ◌++◌, vec_len, IsTrue, ⊤}
use Rattle.std.specs.declared.result.Result.{Result}
use Rattle.std.specs.declared.result.Result.TheVariants.{Ok, Err}
use Rattle.midi_host.specs.declared.line_reader.LineReader.{LineReader}
use Rattle.midi_host.specs.declared.conversation.Flow.{Flow}
use Rattle.midi_host.specs.declared.conversation.Flow.TheVariants.{On, Stop}
use Rattle.midi_host.specs.declared.conversation.TheConstants.{MOST_LINES, MOST_OCTETS}
use Rattle.midi_host.specs.Text.{lines_of, is_whole, IsOfLine}
use Rattle.midi_host.specs.Told.{Told, after}

-- the number of lines and the line so far are within their limits, and no line ends in the line so far
pub record IsKept (longest : ℕ) (reader : LineReader) : Type 0 where
  pub few : reader.before ≤ MOST_LINES
  pub short : vec_len reader.line ≤ longest
  pub of_line : IsOfLine reader.line.items

-- At least how many more octets can be taken before the limits are met. It is linear, since each line counts
-- as the longest that any verb takes.
abbrev pub octets_to_come : LineReader → ℕ
octets_to_come reader = (MOST_LINES - reader.before) * (MOST_OCTETS + 1) + (MOST_OCTETS - vec_len reader.line)

-- Octets came after a line so far. Whole lines were answered: what any text is told after them is told after
-- them still. The rest is the line so far.
pub record Goes (old new : List (List ℕ) → Told) (out out' line line' piece : List ℕ) : Type 0 where
  pub whole : List ℕ
  pub split : line ++ piece ≡ whole ++ line'
  pub ended : IsTrue (is_whole whole)
  pub same : (more : List ℕ) → after out (old (lines_of (whole ++ more))) ≡ after out' (new (lines_of more))

-- a line outside the grammar came, whatever follows it
abbrev pub Stops : (List (List ℕ) → Told) → List ℕ → List ℕ → List ℕ → Type 0
Stops old out out' octets = (more : List ℕ) → after out (old (lines_of (octets ++ more))) ≡ record { text = out'; good = false }

-- octets were taken
abbrev pub Fed : {E : Type 0} → Result Flow E → (List (List ℕ) → Told) → (List (List ℕ) → Told) → LineReader → LineReader → List ℕ → Type 0
Fed (Ok On) told told' reader reader' piece = Goes told told' reader.answers reader'.answers reader.line.items reader'.line.items piece
Fed (Ok Stop) told told' reader reader' piece = Stops told reader.answers reader'.answers (reader.line.items ++ piece)
Fed (Err e) told told' reader reader' piece = ⊤

-- the line so far came to its end
abbrev pub Ended : {E : Type 0} → Result Flow E → (List (List ℕ) → Told) → (List (List ℕ) → Told) → LineReader → LineReader → Type 0
Ended (Ok On) told told' reader reader' = (reader'.line.items ≡ []) × ((lines : List (List ℕ)) → after reader.answers (told (reader.line.items ∷ lines)) ≡ after reader'.answers (told' lines))
Ended (Ok Stop) told told' reader reader' = (lines : List (List ℕ)) → after reader.answers (told (reader.line.items ∷ lines)) ≡ record { text = reader'.answers; good = false }
Ended (Err e) told told' reader reader' = ⊤

-- the whole text came to its end, after a line so far
abbrev pub Closed : {E : Type 0} → Result Flow E → (List (List ℕ) → Told) → LineReader → LineReader → Type 0
Closed (Ok On) told reader reader' = after reader.answers (told (lines_of reader.line.items)) ≡ record { text = reader'.answers; good = true }
Closed (Ok Stop) told reader reader' = after reader.answers (told (lines_of reader.line.items)) ≡ record { text = reader'.answers; good = false }
Closed (Err e) told reader reader' = ⊤

-- where the reading goes on, it has come nearer to its limits by so many octets, and is within them
abbrev pub Nears : {E : Type 0} → Result Flow E → (longest : ℕ) → (reader reader' : LineReader) → (count : ℕ) → Type 0
Nears (Ok On) longest reader reader' count = IsKept longest reader' × (octets_to_come reader' + count ≤ octets_to_come reader)
Nears (Ok Stop) longest reader reader' count = ⊤
Nears (Err e) longest reader reader' count = ⊤
