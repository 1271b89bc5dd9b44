use Rattle.std.proofs.Common.{length, ap, ◌∙◌}
use Rattle.ch_system.specs.Tables.{simple_text}
use Rattle.ch_system.specs.TableLaws.{simple_coded}
use Rattle.ch_system.proofs.simple_table.SimpleTable.len.Goals as goal

pub returns-clause-stands : goal.returns-clause-stands
returns-clause-stands c = λ from sent e h.
    c.text_len.ensures.number ∙ ap length (ap (simple_text c.args.packet) e ∙ simple_coded from c.args.packet sent h)
