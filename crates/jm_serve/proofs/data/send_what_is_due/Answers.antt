use Rattle.jm_serve.proofs.Hearing.{sends_due}
use Rattle.jm_serve.proofs.data.send_what_is_due.Goals as goal

pub returns-clause-sends : goal.returns-clause-sends
returns-clause-sends g c =
    sends_due c.args.desk.now c.args.now c.pump-pumped.result c.pumped_came.result c.args.sender.now c.pump-pumped.new.sender _ _ c.pump-pumped.ensures.pumps c.pumped_came.ensures
