use Rattle.jm_serve.proofs.Hearing.{tells_once}
use Rattle.jm_serve.proofs.listening.take_message.Goals as goal

pub returns-clause-tells : goal.returns-clause-tells
returns-clause-tells g c =
    tells_once c.args.desk.now c.args.from c.args.message.now c.args.now c.tell-what.result c.welcome.result c.args.listener.now.receivers c.welcome.new.receivers _ _ c.tell-what.ensures.tells c.welcome.ensures
