use Rattle.std.proofs.Common.{ap, sym, ◌∙◌}
use Rattle.ch_system.specs.Tables.{simple_cut}
use Rattle.ch_system.specs.TableLaws.{simple_later}
use Rattle.ch_system.proofs.simple_table.SimpleTable.trim.Goals as goal

pub returns-clause-stands : goal.returns-clause-stands
returns-clause-stands c = λ from sent e l.
    c.cut.ensures ∙ ap (simple_cut c.args.packet) e ∙ sym (simple_later from c.args.packet sent l)
