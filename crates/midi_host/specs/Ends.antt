-- How a run ends: its status, what was read and what was written, for an input that the source tells.
use Rattle.std.specs.Prelude.{◌≡◌, ℕ, ◌+◌, ◌-◌, ◌^◌, ◌<◌, ◌≤◌, true, false, List, [], ◌++◌, Option, Some, IfSome, IsTrue, length, ⊤}
use Rattle.midi_host.specs.declared.status.Status.{Status}
use Rattle.midi_host.specs.declared.status.Status.TheVariants.{Done, Usage, BadScript, ReadFault, WriteFault, NoMemory, PortFault, RecordFull}
use Rattle.midi_host.specs.declared.conversation.TheConstants.{MOST_LINES}
use Rattle.midi_host.specs.Text.{lines_of, is_whole, IsOfLine}
use Rattle.midi_host.specs.Told.{Told}
use Rattle.midi_host.specs.Wrote.{Wrote, WrotePart}

-- A read failed. The input is whole lines that were answered, a part of a line, and what is left.
pub record EndsAtFault (answer : List ℕ → Told) (input : List ℕ) (left' wrote wrote' : Option (List ℕ)) : Type 0 where
  pub whole : List ℕ
  pub part : List ℕ
  pub rest : List ℕ
  pub split : input ≡ whole ++ (part ++ rest)
  pub ended : IsTrue (is_whole whole)
  pub of_line : IsOfLine part
  pub left : left' ≡ Some rest
  pub good : (answer whole).good ≡ true
  pub written : Wrote wrote wrote' (answer whole).text

-- The ends, where `answer` is what the program answers a text.
abbrev pub Ends : Status → (List ℕ → Told) → (left left' wrote wrote' : Option (List ℕ)) → Type 0
Ends Done answer left left' wrote wrote' = IfSome left (λ input. (left' ≡ Some []) × ((answer input).good ≡ true) × Wrote wrote wrote' (answer input).text)
Ends Usage answer left left' wrote wrote' = (left' ≡ left) × (wrote' ≡ wrote)
Ends BadScript answer left left' wrote wrote' = IfSome left (λ input. ((answer input).good ≡ false) × Wrote wrote wrote' (answer input).text)
Ends ReadFault answer left left' wrote wrote' = IfSome left (λ input. EndsAtFault answer input left' wrote wrote')
Ends WriteFault answer left left' wrote wrote' = IfSome left (λ input. WrotePart wrote wrote' (answer input).text)
Ends NoMemory answer left left' wrote wrote' = IfSome left (λ input. WrotePart wrote wrote' (answer input).text)
Ends PortFault answer left left' wrote wrote' = ⊥
Ends RecordFull answer left left' wrote wrote' = ⊥

-- a fact for the one status
abbrev pub OnReadFault : Status → Type 0 → Type 0
OnReadFault ReadFault fact = fact
OnReadFault status fact = ⊤

abbrev pub OnWriteFault : Status → Type 0 → Type 0
OnWriteFault WriteFault fact = fact
OnWriteFault status fact = ⊤

-- How the end of the input is met, where `told` is what the rest of the text is told.
abbrev pub Finishes : Status → Told → (wrote wrote' : Option (List ℕ)) → Type 0
Finishes Done told wrote wrote' = (told.good ≡ true) × Wrote wrote wrote' told.text
Finishes BadScript told wrote wrote' = (told.good ≡ false) × Wrote wrote wrote' told.text
Finishes WriteFault told wrote wrote' = WrotePart wrote wrote' told.text
Finishes NoMemory told wrote wrote' = WrotePart wrote wrote' told.text
Finishes Usage told wrote wrote' = ⊥
Finishes ReadFault told wrote wrote' = ⊥
Finishes PortFault told wrote wrote' = ⊥
Finishes RecordFull told wrote wrote' = ⊥

-- a count of faults stayed, below its last value: none came
pub record IsFaultless (before after : ℕ) : Type 0 where
  pub below : before < 2 ^ 64 - 1
  pub same : after ≡ before

-- how a run ends where no fault came, by whether each line is in the grammar; there may have been no memory
abbrev pub Completes : Status → Told → Type 0
Completes Done told = told.good ≡ true
Completes BadScript told = told.good ≡ false
Completes NoMemory told = ⊤
Completes Usage told = ⊥
Completes ReadFault told = ⊥
Completes WriteFault told = ⊥
Completes PortFault told = ⊥
Completes RecordFull told = ⊥

-- an input that is answered whole has no more lines than one may have
abbrev pub HasFewLines : Status → List ℕ → Type 0
HasFewLines Done input = length (lines_of input) ≤ MOST_LINES
HasFewLines status input = ⊤

-- Where the source tells its octets, each read but the last brought one at least. (Its count of reads stands still at its last value.)
abbrev pub ReadsFew : (left : Option (List ℕ)) → (reads reads' : ℕ) → Type 0
ReadsFew left reads reads' = IfSome left (λ input. reads + length input + 1 < 2 ^ 64 → reads' ≤ reads + length input + 1)
