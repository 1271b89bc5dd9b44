use Rattle.jm_section.proofs.Written.{section_written}
use Rattle.jm_section.proofs.laws.sections_read_back.Goals as goal

pub returns : goal.returns
returns c = section_written
