use Rattle.std.proofs.Common.{◌≡◌, [], sym, subst}
use Rattle.jm_cmds.specs.History.{standing}
use Rattle.ch_notes.specs.NoteEvent.{AreWithin, note_ends}
use Rattle.ch_notes.specs.Shape.{counted, no_notes}
use Rattle.ch_notes.specs.Count.{IsCount}
use Rattle.ch_notes.specs.CountBounds.{IsCount-counted}
use Rattle.ch_notes.proofs.n.shape_of.Goals as goal

pub returns-clause-count : goal.returns-clause-count
returns-clause-count c =
    let channel = c.args.channel in
    let packet = c.args.packet in
    let places = c.args.places.now in
    let ended : standing (note_ends channel) c.loop-place.rest.now ≡ [] = c.in_default.ensures.stands in
    let done : c.loop-place.shape ≡ counted channel packet no_notes (standing (note_ends channel) places) = rw ended at c.loop-place.invariant.0 in
    let within : AreWithin channel (standing (note_ends channel) places) = (rw ended at c.loop-place.invariant.1) tt in
    subst IsCount (sym done) (IsCount-counted channel packet places within)
