use Rattle.std.proofs.Common.{length}
use Rattle.std.specs.List.{flat_map}
use Rattle.jm_wire.specs.Octets.{Owes}
use Rattle.jm_cmds.specs.History.{standing}
use Rattle.ch_notes.specs.NoteEvent.{note_ends}
use Rattle.ch_notes.specs.ChapterN.{note_log}
use Rattle.ch_notes.proofs.n.write_note_logs.Given as goal

abbrev pub invariant-loop-place : goal.invariant-loop-place
invariant-loop-place l =
    Owes l.initial.out l.out
    (flat_map (note_log l.channel l.packet l.tick) (standing (note_ends l.channel) l.places))
    (flat_map (note_log l.channel l.packet l.tick) (standing (note_ends l.channel) l.rest))

abbrev pub decreases-loop-place : goal.decreases-loop-place
decreases-loop-place l = length l.rest
