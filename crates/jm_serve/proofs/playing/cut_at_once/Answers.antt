use Rattle.jm_serve.proofs.Retrying.{cuts_at_once}
use Rattle.jm_serve.proofs.playing.cut_at_once.Goals as goal

pub returns-clause-cuts : goal.returns-clause-cuts
returns-clause-cuts g c =
    cuts_at_once c.args.desk.now c.args.now c.pump-pumped.result c.pumped_came.result c.args.sender.now c.pump-pumped.new.sender _ _ c.pump-pumped.ensures.pumps c.pumped_came.ensures
