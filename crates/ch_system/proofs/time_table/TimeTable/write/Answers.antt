use Rattle.std.proofs.Common.{ap, ◌∙◌}
use Rattle.ch_system.specs.Tables.{time_text}
use Rattle.ch_system.specs.TableLaws.{time_coded}
use Rattle.ch_system.proofs.time_table.TimeTable.write.Goals as goal

pub returns-clause-stands : goal.returns-clause-stands
returns-clause-stands c = λ from sent e h.
    let same = ap (time_text c.args.packet) e ∙ time_coded from c.args.packet sent h in
    rw same at c.write_text.ensures
