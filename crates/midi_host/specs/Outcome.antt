-- What a verb did with a line.
use Rattle.std.specs.Prelude.{◌≡◌, ◌≢◌, ℕ, ◌+◌, List, ◌∷◌, ⊤}
use Rattle.std.specs.declared.result.Result.{Result}
use Rattle.std.specs.declared.result.Result.TheVariants.{Ok, Err}
use Rattle.midi_host.specs.declared.conversation.LineOutcome.{LineOutcome}
use Rattle.midi_host.specs.declared.conversation.LineOutcome.TheVariants.{Taken, Bad}
use Rattle.jm_cmds.specs.declared.outcome.ReadError.{ReadError}
use Rattle.jm_cmds.specs.declared.outcome.ReadError.TheVariants as errors
use Rattle.jm_script.specs.declared.line.LineFault.{LineFault}
use Rattle.midi_host.specs.Told.{Told, after, told_bad, cause_of}

-- A line that is taken leaves what any lines after it are told behind its answer, which stands at the end of
-- `answers`. One that is bad is told so, and adds nothing.
abbrev pub Hears : {E : Type 0} → Result LineOutcome E → ℕ → (List (List ℕ) → Told) → (List (List ℕ) → Told) → List ℕ → List ℕ → List ℕ → Type 0
Hears (Ok Taken) before told told' line answers answers' = (lines : List (List ℕ)) → after answers (told (line ∷ lines)) ≡ after answers' (told' lines)
Hears (Ok (Bad cause)) before told told' line answers answers' = (answers' ≡ answers) × ((lines : List (List ℕ)) → told (line ∷ lines) ≡ told_bad (before + 1) cause)
Hears (Err e) before told told' line answers answers' = ⊤

-- a line that was not read is bad, unless memory was refused
abbrev pub Refuses : {E : Type 0} → ReadError LineFault → Result LineOutcome E → Type 0
Refuses (errors.Fault fault) result = result ≡ Ok (Bad (cause_of fault))
Refuses errors.Memory result = (outcome : LineOutcome) → result ≢ Ok outcome
