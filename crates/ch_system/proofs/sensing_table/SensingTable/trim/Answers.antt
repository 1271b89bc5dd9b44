use Rattle.std.proofs.Common.{ap, sym, ◌∙◌}
use Rattle.ch_system.specs.Tables.{counted_cut}
use Rattle.ch_system.specs.TableLaws.{sensing_later}
use Rattle.ch_system.proofs.sensing_table.SensingTable.trim.Goals as goal

pub returns-clause-stands : goal.returns-clause-stands
returns-clause-stands c = λ from sent e l.
    c.cut.ensures ∙ ap (counted_cut c.args.packet) e ∙ sym (sensing_later from c.args.packet sent l)
