use Rattle.ch_control.proofs.LatestLaws.{controls_dropped, controls_other}
use Rattle.ch_control.proofs.latest.Latest.note.Goals as goal

pub returns-in-Dropped-clause-kept : goal.returns-in-Dropped-clause-kept
returns-in-Dropped-clause-kept c =
    rw (c.in-Dropped.is, c.clear.ensures) (controls_dropped c.args.self.now.values c.args.packet c.args.self.now.order)

pub returns-in-Other-clause-kept : goal.returns-in-Other-clause-kept
returns-in-Other-clause-kept c =
    rw c.in-Other.is (controls_other c.args.self.now.values c.args.packet c.args.self.now.order)
