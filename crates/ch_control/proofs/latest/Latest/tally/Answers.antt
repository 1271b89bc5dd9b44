use Rattle.ch_control.proofs.LatestLaws.{tally_starts}
use Rattle.ch_control.proofs.latest.Latest.tally.Goals as goal

pub loop-at-init : goal.loop-at-init
loop-at-init c =
    let session = c.args.session.now in
    tally_starts session.counts session.pedal.toggles c.args.packet c.args.self.now.values c.args.self.now.order c.first-at.result c.first-at.ensures c.len.ensures.order c.requires.apart
