use Rattle.jm_section.proofs.Written.{only_section}
use Rattle.jm_section.proofs.laws.one_section.Goals as goal

pub returns : goal.returns
returns c = only_section
