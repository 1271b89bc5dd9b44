use Rattle.ch_notes.specs.PolyTableLaws.{mute_up_to, noted_dropped, noted_other}
use Rattle.ch_notes.proofs.poly_table.PolyTable.change.Goals as goal

pub press-requires-clause-order : goal.press-requires-clause-order
press-requires-clause-order c =
    rw c.mute.ensures (mute_up_to c.args.ends c.args.packet c.args.self.now c.requires.order)

pub returns-in-Dropped : goal.returns-in-Dropped
returns-in-Dropped c =
    rw (c.in-Dropped.is, c.clear.ensures) (noted_dropped c.args.ends c.args.packet c.args.self.now)

pub returns-in-Other : goal.returns-in-Other
returns-in-Other c =
    rw (c.in-Other.is, c.mute.ensures) (noted_other c.args.ends c.args.packet c.args.self.now)
