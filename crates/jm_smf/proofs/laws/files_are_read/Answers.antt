use Rattle.jm_smf.proofs.FileLaws.{files_are_read}
use Rattle.jm_smf.proofs.laws.files_are_read.Goals as goal

pub returns : goal.returns
returns c = files_are_read
