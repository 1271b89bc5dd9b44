use Rattle.std.proofs.Common.{◌≡◌, ◌+◌, ◌≤◌, length}
use Rattle.jm_cmds.specs.History.{standing}
use Rattle.ch_notes.specs.NoteEvent.{note_ends, AreWithin}
use Rattle.ch_notes.specs.Shape.{counted, no_notes}
use Rattle.ch_notes.proofs.n.shape_of.Given as goal

abbrev pub invariant-loop-place : goal.invariant-loop-place
invariant-loop-place l =
    (counted l.channel l.packet l.shape (standing (note_ends l.channel) l.rest) ≡ counted l.channel l.packet no_notes (standing (note_ends l.channel) l.places))
    × (AreWithin l.channel (standing (note_ends l.channel) l.rest) → AreWithin l.channel (standing (note_ends l.channel) l.places))
    × (l.shape.logs + length l.rest ≤ length l.places)
    × (l.shape.off + length l.rest ≤ length l.places)

abbrev pub decreases-loop-place : goal.decreases-loop-place
decreases-loop-place l = length l.rest
