use Rattle.std.proofs.Common.{ap, ◌∙◌}
use Rattle.ch_system.specs.Tables.{simple_text}
use Rattle.ch_system.specs.TableLaws.{simple_coded}
use Rattle.ch_system.proofs.simple_table.SimpleTable.write.Goals as goal

pub returns-clause-stands : goal.returns-clause-stands
returns-clause-stands c = λ from sent e h.
    let same = ap (simple_text c.args.packet) e ∙ simple_coded from c.args.packet sent h in
    rw same at c.write_text.ensures
