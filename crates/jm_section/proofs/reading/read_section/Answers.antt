use Rattle.std.proofs.Common.{subst}
use Rattle.jm_section.specs.Reading.{GivesBy, section_view}
use Rattle.jm_section.proofs.Sections.{is_found, section_spelled}
use Rattle.jm_section.proofs.Refused.{fault_told}
use Rattle.jm_section.proofs.ToldSections.{is_told}
use Rattle.jm_section.proofs.reading.read_section.Goals as goal

pub returns-clause-read : goal.returns-clause-read
returns-clause-read c = is_found c.args.b.now c.section_at.result c.section_at.ensures

pub returns-clause-only : goal.returns-clause-only
returns-clause-only c =
    λ section s. subst (λ meant. GivesBy section_view c.section_at.result meant) (section_spelled c.args.b.now section s) c.section_at.ensures

pub returns-clause-told : goal.returns-clause-told
returns-clause-told c = is_told c.args.b.now c.section_at.result c.section_at.ensures

pub returns-clause-faults : goal.returns-clause-faults
returns-clause-faults c =
    λ fault f. subst (λ meant. GivesBy section_view c.section_at.result meant) (fault_told c.args.b.now fault f) c.section_at.ensures
