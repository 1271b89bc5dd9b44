use Rattle.std.proofs.Common.{ap, ◌∙◌}
use Rattle.ch_system.specs.Tables.{counted_text}
use Rattle.ch_system.specs.TableLaws.{sensing_coded}
use Rattle.ch_system.proofs.sensing_table.SensingTable.write.Goals as goal

pub returns-clause-stands : goal.returns-clause-stands
returns-clause-stands c = λ from sent e h.
    let same = ap (counted_text c.args.packet) e ∙ sensing_coded from c.args.packet sent h in
    rw same at c.write_text.ensures
