use Rattle.jm_smf.proofs.FileLists.{lists_are_in_order}
use Rattle.jm_smf.proofs.laws.lists_are_in_order.Goals as goal

pub returns : goal.returns
returns c = lists_are_in_order
