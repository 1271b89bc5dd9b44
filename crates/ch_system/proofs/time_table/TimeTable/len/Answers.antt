use Rattle.std.proofs.Common.{length, ap, ◌∙◌}
use Rattle.ch_system.specs.Tables.{time_text}
use Rattle.ch_system.specs.TableLaws.{time_coded}
use Rattle.ch_system.proofs.time_table.TimeTable.len.Goals as goal

pub returns-clause-stands : goal.returns-clause-stands
returns-clause-stands c = λ from sent e h.
    c.text_len.ensures.number ∙ ap length (ap (time_text c.args.packet) e ∙ time_coded from c.args.packet sent h)
