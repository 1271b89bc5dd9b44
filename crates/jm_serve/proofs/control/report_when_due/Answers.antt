use Rattle.std.proofs.Common.{ℕ, ◌∙◌, sym, subst, Some}
use Rattle.jm_serve.specs.declared.worked.Rounded.TheVariants as rounded
use Rattle.jm_serve.specs.Acts.{Scene}
use Rattle.jm_serve.specs.Control.{ReportsWhenDue}
use Rattle.jm_serve.proofs.Telling.{reports_not, reports_due}
use Rattle.jm_serve.proofs.control.report_when_due.Goals as goal

pub returns-then-not-is_report_due-clause-reports : goal.returns-then-not-is_report_due-clause-reports
returns-then-not-is_report_due-clause-reports g c =
    let here : Scene = record { pass = c.args.pass.now; wire = g.P.Port.wire c.args.port.now; call = c.args.reporter.now.call; faults = c.args.reporter.now.send_faults } in
    subst (λ (k : ℕ). ReportsWhenDue c.args.desk.now c.args.reporter.now.last_report c.args.now rounded.Whole (Some k) here here) (sym c.since.ensures)
    (reports_not c.args.desk.now c.args.reporter.now.last_report c.args.now here (sym c.is_report_due.ensures ∙ c.if-not-is_report_due.true))

pub returns-clause-reports : goal.returns-clause-reports
returns-clause-reports g c =
    reports_due c.args.desk.now c.args.reporter.now.last_report c.args.now c.report_once.result _ _ (sym c.is_report_due.ensures ∙ c.if-not-is_report_due.false) c.report_once.ensures.reports
