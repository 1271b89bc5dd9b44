-- The words of the program, and what it answers.
use Rattle.std.specs.Prelude.{ℕ, List, [], ◌∷◌, Option, Some, None, codes, if◌then◌else◌}
use Rattle.std.specs.Str.{bytes_eq}
use Rattle.midi_host.specs.declared.conversation.TheConstants.{MOST_OCTETS}
use Rattle.midi_host.specs.declared.run.VerbWord.{VerbWord}
use Rattle.midi_host.specs.declared.run.VerbWord.TheVariants.{Replay, Read, Repair}
use Rattle.midi_host.specs.Text.{lines_of}
use Rattle.midi_host.specs.Told.{Told, told_by, told_none}
use Rattle.midi_host.specs.Replay.{opening, replayed}
use Rattle.midi_host.specs.Read.{read_lined}
use Rattle.midi_host.specs.Repair.{repair_lined}

-- the verb that a word names
abbrev pub verb_named : List ℕ → Option VerbWord
verb_named word =
    if bytes_eq word (codes "replay") then Some Replay
    else if bytes_eq word (codes "read") then Some Read
    else if bytes_eq word (codes "repair") then Some Repair
    else None

-- the verb that the words are: each verb stands alone
abbrev pub verb_of : List (List ℕ) → Option VerbWord
verb_of [] = None
verb_of (word ∷ []) = verb_named word
verb_of (word ∷ second ∷ words) = None

-- what `replay` answers an input: its lines are at most 131,200 octets long
abbrev pub replay_answer : List ℕ → Told
replay_answer input = told_by MOST_OCTETS replayed 0 (opening 1) (lines_of input)

-- what `read` answers an input: its lines are at most 131,200 octets long
abbrev pub read_answer : List ℕ → Told
read_answer input = told_by MOST_OCTETS read_lined 0 tt (lines_of input)

-- what `repair` answers an input: its lines are at most 131,200 octets long
abbrev pub repair_answer : List ℕ → Told
repair_answer input = told_by MOST_OCTETS repair_lined 0 None (lines_of input)

abbrev pub answer_of : Option VerbWord → List ℕ → Told
answer_of None input = told_none
answer_of (Some Replay) input = replay_answer input
answer_of (Some Read) input = read_answer input
answer_of (Some Repair) input = repair_answer input

-- What the program answers an input, by its words. Words that are no verb's are answered nothing.
abbrev pub answer_to : List (List ℕ) → List ℕ → Told
answer_to words = answer_of (verb_of words)
