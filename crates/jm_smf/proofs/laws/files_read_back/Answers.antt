use Rattle.jm_smf.proofs.WrittenFiles.{files_read_back}
use Rattle.jm_smf.proofs.laws.files_read_back.Goals as goal

pub returns : goal.returns
returns c = files_read_back
