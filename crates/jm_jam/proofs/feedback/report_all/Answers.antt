use Rattle.std.proofs.Common.{[], ◌∷◌}
use Rattle.jm_book.specs.declared.steps.Step.TheVariants as step
use Rattle.jm_desk.specs.declared.turn.Outcome.TheVariants as outcome
use Rattle.jm_desk.specs.History.{turned}
use Rattle.jm_jam.specs.Workers.{Reports, report_turns}
use Rattle.jm_jam.proofs.Adding.{adds_call, not_done, reporting_more}
use Rattle.jm_jam.proofs.feedback.report_all.Goals as goal

pub returns-in-Err-clause-worked : goal.returns-in-Err-clause-worked
returns-in-Err-clause-worked g c =
    let reporting = c.loop-made.invariant.reporting in
    let call = step.Ack c.args.ssrc c.loop-made.number in
    not_done (Reports c.args.ssrc c.args.count) (report_turns c.args.ssrc 1 reporting.answers) (turned call outcome.NoMemory ∷ []) c.args.pass.now c.loop-made.pass c.ack_once.new.pass reporting.adds
    (adds_call c.args.desk.now c.loop-made.pass c.ack_once.new.pass call outcome.NoMemory c.in-Err.ensures.turn)

pub loop-made-preserved : goal.loop-made-preserved
loop-made-preserved g c =
    let answer = c.in-Ok.turn.answer in
    record {
      own = c.in-Ok.ensures.own;
      reporting = reporting_more c.args.ssrc c.loop-made._made c.loop-made.number c.next_report-number.result answer c.args.pass.now c.loop-made.pass c.ack_once.new.pass c.loop-made.invariant.reporting
          (adds_call c.args.desk.now c.loop-made.pass c.ack_once.new.pass (step.Ack c.args.ssrc c.loop-made.number) (outcome.Acked answer) c.in-Ok.ensures.turn) c.next_report-number.ensures;
    }
