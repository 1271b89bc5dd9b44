use Rattle.std.proofs.Common.{ap, sym, ◌∙◌}
use Rattle.ch_system.specs.Tables.{time_cut}
use Rattle.ch_system.specs.TableLaws.{time_later}
use Rattle.ch_system.proofs.time_table.TimeTable.trim.Goals as goal

pub returns-clause-stands : goal.returns-clause-stands
returns-clause-stands c = λ from sent e l.
    c.cut.ensures ∙ ap (time_cut c.args.packet) e ∙ sym (time_later from c.args.packet sent l)
