use Rattle.std.proofs.Common.{◌∙◌, sym}
use Rattle.jm_serve.proofs.Departing.{pumps_idle}
use Rattle.jm_serve.proofs.pumping.pump.Goals as goal

pub returns-then-not-is_due-clause-pumps : goal.returns-then-not-is_due-clause-pumps
returns-then-not-is_due-clause-pumps g c =
    pumps_idle c.args.desk.now c.args.at_once c.args.now c.args.sender.now c.args.pass.now (g.P.Port.wire c.args.port.now) (sym c.is_due.ensures ∙ c.if-not-is_due.true)
