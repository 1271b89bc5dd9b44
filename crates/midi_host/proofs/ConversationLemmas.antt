-- What a verb did with a line of its grammar, and with one that isn't, is what it makes of the line.
use Rattle.std.proofs.Common.{◌≡◌, refl, ℕ, List, Result, Ok, Err}
use Rattle.jm_cmds.specs.declared.outcome.ReadError.{ReadError}
use Rattle.jm_cmds.specs.declared.outcome.ReadError.TheVariants as errors
use Rattle.jm_cmds.specs.Gives.{Gives}
use Rattle.jm_script.specs.declared.line.Line.{Line}
use Rattle.jm_script.specs.declared.line.LineFault.{LineFault}
use Rattle.midi_host.specs.declared.conversation.LineOutcome.{LineOutcome}
use Rattle.midi_host.specs.Told.{Lined, lined_by}
use Rattle.midi_host.specs.Did.{Did}
use Rattle.midi_host.specs.Outcome.{Refuses}

pub did-taken : {State E : Type 0} (answered : Line → Lined State) (line : Line) (meant : Result Line LineFault) (result : Result LineOutcome E) (next : State) (out out' : List ℕ)
    → meant ≡ Ok line → Did result (answered line) next out out' → Did result (lined_by answered meant) next out out'
did-taken answered line meant result next out out' e did = rw e did

pub did-refused : {State E : Type 0} (answered : Line → Lined State) (error : ReadError LineFault) (result : Result LineOutcome E) (meant : Result Line LineFault) (state : State) (out : List ℕ)
    → Gives {A = Line} {F = LineFault} (Err error) meant → Refuses error result → Did result (lined_by answered meant) state out out
did-refused answered (errors.Fault fault) result meant state out gives refuses = rw (gives, refuses) (refl, refl)
did-refused answered errors.Memory (Ok outcome) meant state out gives refuses = absurd (refuses outcome refl)
did-refused answered errors.Memory (Err e) meant state out gives refuses = tt
