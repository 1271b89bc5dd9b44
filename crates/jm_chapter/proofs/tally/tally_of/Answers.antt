use Rattle.std.proofs.Common.{◌≡◌, ◌+◌, [], ap, sym, ◌∙◌, arith}
use Rattle.std.specs.List.{AllByRecursion}
use Rattle.jm_cmds.specs.History.{standing}
use Rattle.jm_cmds.specs.HistoryLaws.{Unended-standing}
use Rattle.jm_chapter.specs.Logs.{log_count}
use Rattle.jm_chapter.proofs.tally.tally_of.Goals as goal

pub returns-clause-few : goal.returns-clause-few
returns-clause-few g c =
    let ends = g.C.Items.ends c.args.chapter.now in
    let logs_at = g.C.Listed.logs c.args.chapter.now c.args.session.now in
    let is_within = g.C.Listed.is_within c.args.chapter.now in
    let stand = standing ends c.args.places.now in
    let ended : standing ends c.loop-place.rest.now ≡ [] = c.in_default.ensures.stands in
    let done : c.loop-place.tally.logs + 0 ≡ log_count logs_at stand = rw ended at c.loop-place.invariant.0 in
    let within : AllByRecursion is_within stand = (rw ended at c.loop-place.invariant.2) tt in
    omega (arith, done, g.met.C.Listed.few c.args.chapter.now c.args.session.now stand (Unended-standing ends c.args.places.now) within)

pub returns-clause-size : goal.returns-clause-size
returns-clause-size g c =
    let ends = g.C.Items.ends c.args.chapter.now in
    let logs_at = g.C.Listed.logs c.args.chapter.now c.args.session.now in
    let is_within = g.C.Listed.is_within c.args.chapter.now in
    let stand = standing ends c.args.places.now in
    let ended : standing ends c.loop-place.rest.now ≡ [] = c.in_default.ensures.stands in
    let done : c.loop-place.tally.logs + 0 ≡ log_count logs_at stand = rw ended at c.loop-place.invariant.0 in
    let within : AllByRecursion is_within stand = (rw ended at c.loop-place.invariant.2) tt in
    omega (
      arith,
      done,
      g.met.C.Listed.few c.args.chapter.now c.args.session.now stand (Unended-standing ends c.args.places.now) within,
      g.met.C.Listed.fits c.args.chapter.now,
    )
