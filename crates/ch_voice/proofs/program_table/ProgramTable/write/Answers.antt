use Rattle.std.proofs.Common.{ap, ◌∙◌}
use Rattle.ch_voice.specs.ProgramTable.{ProgramsKept}
use Rattle.ch_voice.specs.ProgramTable.{programs_text}
use Rattle.ch_voice.specs.TableLaws.{program_coded}
use Rattle.ch_voice.proofs.program_table.ProgramTable.write.Goals as goal

pub returns-clause-stands : goal.returns-clause-stands
returns-clause-stands c = λ channel from sent e h.
    let same = ap (λ (t : ProgramsKept). programs_text c.args.packet t.kept) e ∙ program_coded channel from c.args.packet sent h in
    rw same at c.write_text.ensures
