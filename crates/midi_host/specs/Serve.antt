-- What `serve` does: a served session, and the line that is told of it.
use Rattle.std.specs.Prelude.{◌≡◌, ◌⊎◌, ℕ, ◌+◌, min, ◌==◌, Bool, true, false, if◌then◌else◌, List, [], length, Option, Some, None}
use Rattle.std.specs.declared.result.Result.{Result}
use Rattle.std.specs.declared.result.Result.TheVariants.{Ok, Err}
use Rattle.jm_book.specs.declared.steps.Step.{Step}
use Rattle.jm_book.specs.Legal.{IsLegal}
use Rattle.jm_serve.specs.declared.worked.Worked.{Worked}
use Rattle.jm_serve.specs.declared.worked.WorkEnd.{WorkEnd}
use Rattle.jm_serve.specs.declared.worked.WorkEnd.TheVariants as ends
use Rattle.midi_host.specs.declared.serve_words.ServeWords.{ServeWords}
use Rattle.midi_host.specs.declared.verdict.Verdict.{Verdict}
use Rattle.midi_host.specs.declared.verdict.Verdict.TheVariants as verdict
use Rattle.midi_host.specs.declared.telling.TellFault.{TellFault}
use Rattle.midi_host.specs.declared.telling.TellFault.TheVariants as untold
use Rattle.midi_host.specs.declared.status.Status.{Status}
use Rattle.midi_host.specs.declared.status.Status.TheVariants.{Done, Usage, BadScript, ReadFault, WriteFault, NoMemory, PortFault, RecordFull}
use Rattle.midi_host.specs.Wrote.{Wrote}
use Rattle.midi_host.specs.Invite.{Paper, Breaks}
use Rattle.midi_host.specs.Counts.{counts_of}
use Rattle.midi_host.specs.ServedLine.{served_line}
use Rattle.midi_host.specs.ServedSession.{config_for, Sides, AreUntouched, IsServed}

-- ---- what it comes to

-- the tape has as many steps as it takes
abbrev pub is_full : ServeWords → List Step → Bool
is_full asked tape = length tape == asked.events

abbrev pub if_full : Bool → Verdict
if_full true = verdict.Full
if_full false = verdict.Whole

-- what stands behind the end of one worker, where this stands behind the other's and the tape's
abbrev pub or_worse : WorkEnd → Verdict → Verdict
or_worse ends.NoMemory other = verdict.NoMemory
or_worse ends.RecvFailed verdict.NoMemory = verdict.NoMemory
or_worse ends.RecvFailed verdict.Whole = verdict.PortFault
or_worse ends.RecvFailed verdict.Full = verdict.PortFault
or_worse ends.RecvFailed verdict.PortFault = verdict.PortFault
or_worse ends.Made other = other
or_worse ends.RecordFull other = other

-- want of memory goes before a receive that failed, and that before a full tape
abbrev pub verdict_of : ServeWords → (control rtp : Worked) → List Step → Verdict
verdict_of asked control rtp tape = or_worse control.end (or_worse rtp.end (if_full (is_full asked tape)))

-- ---- what is told

-- how many sends of both workers failed, which stands still at 2^64 - 1
abbrev pub faults_of : (control rtp : Worked) → ℕ
faults_of control rtp = min (control.send_faults + rtp.send_faults) 18446744073709551615

abbrev pub line_of : ServeWords → (control rtp : Worked) → List Step → List ℕ
line_of asked control rtp tape = served_line (counts_of (config_for asked) tape) (faults_of control rtp)

-- the line was written, or a front of it and a write failed
abbrev pub Told : Result Unit TellFault → (line : List ℕ) → (before after : Paper) → Type 0
Told (Ok done) line before after = Wrote before.written after.written line
Told (Err untold.NoMemory) line before after = after.written ≡ before.written
Told (Err untold.WriteFailed) line before after = Breaks line before after

-- the ends, by what the session came to, and how the line was written
abbrev pub EndsWith : Status → Verdict → (line : List ℕ) → (before after : Paper) → Type 0
EndsWith Done came line before after = (came ≡ verdict.Whole) × Wrote before.written after.written line
EndsWith WriteFault came line before after = (came ≡ verdict.Whole) × Breaks line before after
EndsWith PortFault came line before after = (came ≡ verdict.PortFault) × (Wrote before.written after.written line ⊎ Breaks line before after)
EndsWith RecordFull came line before after = (came ≡ verdict.Full) × (Wrote before.written after.written line ⊎ Breaks line before after)
EndsWith NoMemory came line before after = after.written ≡ before.written
EndsWith Usage came line before after = ⊥
EndsWith BadScript came line before after = ⊥
EndsWith ReadFault came line before after = ⊥

-- a session was served
pub record Serves (status : Status) (asked : ServeWords) (tape : List Step) (old new : Sides) (before after : Paper) : Type 0 where
  pub control : Worked
  pub rtp : Worked
  pub served : IsServed (config_for asked) asked.turns control rtp tape old new
  pub legal : IsLegal (config_for asked) tape
  pub ends : EndsWith status (verdict_of asked control rtp tape) (line_of asked control rtp tape) before after

-- nothing was received, sent or written, no clock was asked, and there are no steps
pub record IsUnserved (tape : List Step) (old new : Sides) (before after : Paper) : Type 0 where
  pub empty : tape ≡ []
  pub sides : AreUntouched old new
  pub paper : after.written ≡ before.written

-- the ends of what the words ask for: a session was served, or there was no memory to open one
abbrev pub EndsServe : Status → ServeWords → List Step → (old new : Sides) → (before after : Paper) → Type 0
EndsServe status asked tape old new before after =
    Serves status asked tape old new before after ⊎ ((status ≡ NoMemory) × IsUnserved tape old new before after)

-- the same, where they may not be such words: there may have been no memory to see that
abbrev pub EndsServeBy : Option ServeWords → Status → List Step → (old new : Sides) → (before after : Paper) → Type 0
EndsServeBy None status tape old new before after = ((status ≡ Usage) ⊎ (status ≡ NoMemory)) × IsUnserved tape old new before after
EndsServeBy (Some asked) status tape old new before after = EndsServe status asked tape old new before after
