use Rattle.std.proofs.Common.{length, ap, ◌∙◌}
use Rattle.ch_system.specs.Tables.{counted_text}
use Rattle.ch_system.specs.TableLaws.{sensing_coded}
use Rattle.ch_system.proofs.sensing_table.SensingTable.len.Goals as goal

pub returns-clause-stands : goal.returns-clause-stands
returns-clause-stands c = λ from sent e h.
    c.text_len.ensures.number ∙ ap length (ap (counted_text c.args.packet) e ∙ sensing_coded from c.args.packet sent h)
