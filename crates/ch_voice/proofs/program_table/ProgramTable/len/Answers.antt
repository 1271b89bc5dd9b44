use Rattle.std.proofs.Common.{length, ap, ◌∙◌}
use Rattle.ch_voice.specs.ProgramTable.{ProgramsKept}
use Rattle.ch_voice.specs.ProgramTable.{programs_text}
use Rattle.ch_voice.specs.TableLaws.{program_coded}
use Rattle.ch_voice.proofs.program_table.ProgramTable.len.Goals as goal

pub returns-clause-stands : goal.returns-clause-stands
returns-clause-stands c = λ channel from sent e h.
    c.text_len.ensures.number ∙ ap length (ap (λ (t : ProgramsKept). programs_text c.args.packet t.kept) e ∙ program_coded channel from c.args.packet sent h)
