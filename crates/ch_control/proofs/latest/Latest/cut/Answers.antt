use Rattle.std.proofs.Common.{leb}
use Rattle.ch_control.proofs.LatestLaws.{controls_since, apart_filter}
use Rattle.ch_control.proofs.latest.Latest.cut.Goals as goal

pub returns-clause-kept : goal.returns-clause-kept
returns-clause-kept c = rw c.trim.ensures (controls_since c.args.self.now.values c.args.packet c.args.self.now.order)

pub returns-clause-apart : goal.returns-clause-apart
returns-clause-apart c = rw c.trim.ensures (apart_filter 6 (λ e. leb c.args.packet e.1) c.args.self.now.order c.requires)
