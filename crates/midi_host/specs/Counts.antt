-- What is counted on the tape of a session.
use Rattle.std.specs.Prelude.{ℕ, ◌+◌, true, List, length, fold}
use Rattle.jm_book.specs.declared.answers.Acted.{Acted}
use Rattle.jm_book.specs.declared.answers.Acted.TheVariants as acted
use Rattle.jm_book.specs.declared.answers.Said.{Said}
use Rattle.jm_book.specs.declared.answers.Said.TheVariants as said
use Rattle.jm_book.specs.declared.steps.Config.{Config}
use Rattle.jm_book.specs.declared.steps.Step.{Step}
use Rattle.jm_book.specs.declared.steps.Step.TheVariants.{Play, Cut, Join, Leave, Say}
use Rattle.jm_book.specs.Session.{Session, after, nothing}
use Rattle.jm_book.specs.Answers.{say_in}
use Rattle.midi_host.specs.declared.change.Change.{Change}
use Rattle.midi_host.specs.declared.change.Change.TheVariants.{Joins, Leaves, Neither}
use Rattle.midi_host.specs.declared.counts.Counts.{Counts}

abbrev pub change_by : Acted → Change
change_by (acted.Joined mark player) = Joins
change_by acted.Left = Leaves
change_by _ = Neither

abbrev pub change_said : Said → Change
change_said (said.Done reply act) = change_by act
change_said (said.RecordFull events) = Neither

-- Who joins or leaves by a step that is taken in this session, also by what a message is answered. (That there was room for the
-- step is known: it was taken. The number that stands for a full tape is of no account.)
abbrev pub change_of : Session → Step → Change
change_of session (Join ssrc) = Joins
change_of session (Leave ssrc) = Leaves
change_of session (Say port from message now) = change_said (say_in true 0 session port from message now)
change_of session _ = Neither

-- ---- counted one after another

abbrev pub none_counted : Counts
none_counted = record { packets = 0; commands = 0; joins = 0; leaves = 0 }

abbrev pub with_change : Change → Counts → Counts
with_change Joins counts = record counts { joins = counts.joins + 1 }
with_change Leaves counts = record counts { leaves = counts.leaves + 1 }
with_change Neither counts = counts

abbrev pub with_kind : Step → Counts → Counts
with_kind (Cut tick) counts = record counts { packets = counts.packets + 1 }
with_kind (Play player command tick) counts = record counts { commands = counts.commands + 1 }
with_kind _ counts = counts

-- the session after some steps, and what was counted
pub record Tally : Type 0 where
  pub session : Session
  pub counts : Counts

abbrev pub tallied : Tally → Step → Tally
tallied tally step = record { session = after tally.session step; counts = with_kind step (with_change (change_of tally.session step) tally.counts) }

abbrev pub tally_at_first : Config → Tally
tally_at_first config = record { session = nothing config; counts = none_counted }

-- what is counted on a tape: each packet, each command, and who joins and leaves
abbrev pub counts_of : Config → List Step → Counts
counts_of config tape = (fold tallied (tally_at_first config) tape).counts
