use Rattle.std.proofs.Common.{ap, sym, ◌∙◌}
use Rattle.ch_voice.specs.ProgramTable.{program_cut}
use Rattle.ch_voice.specs.TableLaws.{program_later}
use Rattle.ch_voice.proofs.program_table.ProgramTable.trim.Goals as goal

pub returns-clause-stands : goal.returns-clause-stands
returns-clause-stands c = λ channel from sent e l.
    c.cut.ensures ∙ ap (program_cut c.args.packet) e ∙ sym (program_later channel from c.args.packet sent l)
