use Rattle.jm_cmds.specs.Keys.{keys_push, keys_met, keys_later, weights_push, weights_later}
use Rattle.jm_cmds.specs.Sent.{packet_of}
use Rattle.jm_cmds.proofs.laws.codes_few.Goals as goal

pub returns : goal.returns
returns c = record {
  one_more = λ ends key checkpoint sent last l. keys_push ends packet_of key checkpoint sent last l;
  none_more = λ ends key meets checkpoint sent last k l e h. keys_met ends packet_of key meets checkpoint sent last k l e h;
  fewer = λ ends key checkpoint later sent l. keys_later ends packet_of key checkpoint later sent l;
  weight = λ ends weight_of checkpoint sent last l. weights_push ends packet_of weight_of checkpoint sent last l;
  lighter = λ ends weight_of checkpoint later sent l. weights_later ends packet_of weight_of checkpoint later sent l;
}
