use Rattle.std.proofs.Common.{◌≡◌, ◌<◌, ◌≤◌, Some, get_or, sym, ◌∙◌, arith}
use Rattle.jm_recency.specs.Recency.{first_key}
use Rattle.jm_recency.proofs.LinkLaws.{trim_step, trim_stays}
use Rattle.jm_recency.proofs.recency.Recency.first_before.Goals as goal

pub returns-then-self-k : goal.returns-then-self-k
returns-then-self-k g c =
    let l = rw c.self.view_is at c.self.invariant in
    let f : first_key c.args.self.now ≡ Some c.in-Some.k = cc in
    let early : get_or c.self.inside.stamps c.in-Some.k 0 < c.args.stamp = c.if-self-k.true in
    trim_step g.row.N 0 c.args.stamp c.self.inside.stamps c.in-Some.k c.args.self.now l.entries l.stamps_are f early

pub returns-else-self-k : goal.returns-else-self-k
returns-else-self-k g c =
    let l = rw c.self.view_is at c.self.invariant in
    let f : first_key c.args.self.now ≡ Some c.in-Some.k = cc in
    let late : c.args.stamp ≤ get_or c.self.inside.stamps c.in-Some.k 0 = c.if-self-k.false in
    trim_stays g.row.N 0 c.args.stamp c.self.inside.stamps c.in-Some.k c.args.self.now l.entries l.stamps_are f late
