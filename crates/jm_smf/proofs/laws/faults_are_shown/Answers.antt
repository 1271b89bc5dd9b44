use Rattle.jm_smf.proofs.FileLaws.{faults_are_shown}
use Rattle.jm_smf.proofs.laws.faults_are_shown.Goals as goal

pub returns : goal.returns
returns c = faults_are_shown
