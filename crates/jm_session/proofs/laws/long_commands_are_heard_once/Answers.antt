use Rattle.jm_session.proofs.LongTold.{long_heard}
use Rattle.jm_session.proofs.laws.long_commands_are_heard_once.Goals as goal

pub returns : goal.returns
returns c = long_heard c.segments_are_heard_once.ensures c.packets_are_read.ensures
