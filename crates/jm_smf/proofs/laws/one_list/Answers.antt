use Rattle.jm_smf.proofs.FileLaws.{one_list}
use Rattle.jm_smf.proofs.laws.one_list.Goals as goal

pub returns : goal.returns
returns c = one_list
