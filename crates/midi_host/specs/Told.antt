-- What a script is answered: the lines of answers, up to the first line outside the grammar.
use Rattle.std.specs.Prelude.{ℕ, ◌+◌, Bool, true, false, List, [], ◌∷◌, ◌++◌, length, Result, Ok, Err, if◌then◌else◌, nat_le, nat_lt}
use Rattle.jm_script.specs.declared.answer.AnswerLine.TheVariants.{BadScript}
use Rattle.jm_script.specs.declared.answer.Cause.{Cause}
use Rattle.jm_script.specs.declared.answer.Cause.TheVariants.{Lines, TooLong, Word, Form, Command}
use Rattle.jm_script.specs.declared.line.Line.{Line}
use Rattle.jm_script.specs.declared.line.LineFault.{LineFault}
use Rattle.jm_script.specs.declared.line.LineFault.TheVariants as faults
use Rattle.jm_script.specs.AnswerText.{answer_text}
use Rattle.midi_host.specs.declared.conversation.TheConstants.{MOST_LINES}

-- the text, and whether each line is in the grammar
pub record Told : Type 0 where
  pub text : List ℕ
  pub good : Bool

-- an answer after a text
abbrev pub after : List ℕ → Told → Told
after text told = record { text = text ++ told.text; good = told.good }

-- no line is left
abbrev pub told_none : Told
told_none = record { text = []; good = true }

-- the last line of the text where the line of this number is outside the grammar
abbrev pub bad_line : ℕ → Cause → List ℕ
bad_line number cause = answer_text (BadScript number cause)

-- the line of this number is outside the grammar
abbrev pub told_bad : ℕ → Cause → Told
told_bad number cause = record { text = bad_line number cause; good = false }

-- what a verb makes of a line within the limits: its answer and the state that it leaves, or why it is bad
pub data Lined (State : Type 0) : Type 0 where
  taken : List ℕ → State → Lined State
  refused : Cause → Lined State

-- the cause that a fault of the grammar is
abbrev pub cause_of : LineFault → Cause
cause_of faults.Word = Word
cause_of faults.Form = Form
cause_of faults.Command = Command

-- what a verb makes of a line, by what it makes of one in its grammar
abbrev pub lined_by : {State : Type 0} → (Line → Lined State) → Result Line LineFault → Lined State
lined_by answered (Ok line) = answered line
lined_by answered (Err fault) = refused (cause_of fault)

-- the limits come first: of lines, and then of the octets of a line
abbrev pub within_limits : {State : Type 0} → (longest before : ℕ) → (line : List ℕ) → Lined State → Lined State
within_limits longest before line lined = if nat_le MOST_LINES before then refused Lines else (if nat_lt longest (length line) then refused TooLong else lined)

-- a line's part of the text, and then what the lines after it are told
abbrev pub after_line : {State : Type 0} → ℕ → Lined State → (State → Told) → Told
after_line before (taken text state) later = after text (later state)
after_line before (refused cause) later = told_bad (before + 1) cause

-- What lines are told by a verb that makes `lined state line` of a line, where `before` lines came before.
unfoldable pub told_by : {State : Type 0} → (longest : ℕ) → (State → List ℕ → Lined State) → (before : ℕ) → State → List (List ℕ) → Told
told_by longest lined before state [] = told_none
told_by longest lined before state (line ∷ lines) = after_line before (within_limits longest before line (lined state line)) (λ next. told_by longest lined (before + 1) next lines)
