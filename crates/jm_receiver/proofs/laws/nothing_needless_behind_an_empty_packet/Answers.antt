use Rattle.jm_receiver.specs.Unfresh.{nothing_needless_behind}
use Rattle.jm_receiver.proofs.laws.nothing_needless_behind_an_empty_packet.Goals as goal

pub returns : goal.returns
returns c = nothing_needless_behind
