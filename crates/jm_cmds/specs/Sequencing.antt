-- The song position, which RFC 6295, B.3 codes as Chapter Q. What Stop, Continue and Song Position do to the downbeat is
-- this project's own: Stop and Continue take it away and Song Position leaves it, where the standard has them the other
-- way round.
use Rattle.std.specs.Prelude.{ℕ, ◌+◌, ◌*◌, ◌%◌, ◌<◌, Bool, true, false, List, Option, Some, None, fold, if◌then◌else◌}
use Rattle.jm_cmds.specs.declared.commands.Command.{Command}
use Rattle.jm_cmds.specs.declared.commands.Command.TheVariants.{SongPosition, Clock, Start, Continue, Stop}
use Rattle.jm_cmds.specs.declared.history.Sent.{Sent}
use Rattle.jm_cmds.specs.Control.{is_reset}
use Rattle.jm_cmds.specs.declared.sequencing.SequencerPart.{SequencerPart}
use Rattle.jm_cmds.specs.declared.sequencing.SequencerEvent.{SequencerEvent}
use Rattle.jm_cmds.specs.declared.sequencing.SequencerEvent.TheVariants.{Clocked, Started, Continued, Stopped, Located, Cleared, Other}

abbrev pub sequencer_event : Command → SequencerEvent
sequencer_event Clock = Clocked
sequencer_event Start = Started
sequencer_event Continue = Continued
sequencer_event Stop = Stopped
sequencer_event (SongPosition value) = Located value
sequencer_event command = if is_reset command then Cleared else Other

-- a position that is set has fourteen bits
abbrev pub IsSequencerEvent : SequencerEvent → Type 0
IsSequencerEvent (Located value) = value < 16384
IsSequencerEvent _ = Unit {0}

-- what the next command starts from: where no position is there, it stands at the beginning
abbrev pub sequencer_from : Option SequencerPart → SequencerPart
sequencer_from None = record { running = false; downbeat = false; position = 0 }
sequencer_from (Some s) = s

-- A clock while it runs: the first plays the position, each further one moves it. Else nothing.
abbrev pub clocked : SequencerPart → SequencerPart
clocked s =
    if s.running then (if s.downbeat then record s { position = (s.position + 1) % 524288 } else record s { downbeat = true })
    else s

-- it begins to run, or ceases to, and the position is still to be played
abbrev pub turned : Bool → ℕ → SequencerPart
turned running position = record { running = running; downbeat = false; position = position }

abbrev pub sequencer_step : Option SequencerPart → SequencerEvent → Option SequencerPart
sequencer_step state Clocked = Some (clocked (sequencer_from state))
sequencer_step state Started = Some (turned true 0)
sequencer_step state Continued = Some (turned true (sequencer_from state).position)
sequencer_step state Stopped = Some (turned false (sequencer_from state).position)
sequencer_step state (Located value) = Some (record (sequencer_from state) { position = 6 * value })
sequencer_step state Cleared = None
sequencer_step state Other = state

abbrev pub sequencer_along : Option SequencerPart → Sent → Option SequencerPart
sequencer_along state place = sequencer_step state (sequencer_event place.command)

-- The song position behind these commands: none where none of its commands came since the last Reset State command.
unfoldable pub sequencer_after : List Sent → Option SequencerPart
sequencer_after sent = fold sequencer_along None sent

-- the position is one modulo 2^19
abbrev pub IsSequencer : Option SequencerPart → Type 0
IsSequencer None = Unit {0}
IsSequencer (Some s) = s.position < 524288
