use Rattle.std.proofs.Common.{Bool, ◌&&◌, sym, ap, ◌∙◌}
use Rattle.jm_jam.specs.Parting.{in_order, all_done}
use Rattle.jm_jam.proofs.Making.{all_back, works}
use Rattle.jm_jam.proofs.whole.work_all.Goals as goal

pub returns-then-cut-clause-works : goal.returns-then-cut-clause-works
returns-then-cut-clause-works g c = λ worked.
    let old = c.args.pass.now in
    let backs = c.work_together-backs.result in
    let came = all_back c.args.desk.now old.view.seen c.args.seed c.args.count c.split_all-low.result backs c.split_all-low.ensures.crew
    c.work_together-backs.ensures.low c.work_together-backs.ensures.high c.work_together-backs.ensures.feedback c.work_together-backs.ensures.sender in
    works c.args.desk.now c.args.seed c.args.count old c.split_all-low.new.pass c.cut_last-cut.new.pass c.gather-worked.new.pass backs c.cut_last-cut.result
    c.requires.fresh c.split_all-low.ensures.parted c.cut_last-cut.ensures.worked came c.gather-worked.ensures.gathers
    (ap (λ (b : Bool). b && all_done (in_order backs)) c.if-cut.true ∙ (sym c.gather-worked.ensures.done ∙ worked))
