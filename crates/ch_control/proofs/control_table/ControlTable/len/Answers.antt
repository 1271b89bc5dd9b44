use Rattle.std.proofs.Common.{length, ap, ◌∙◌}
use Rattle.ch_control.specs.ControlTable.{controls_text}
use Rattle.ch_control.specs.TableLaws.{controls_coded}
use Rattle.ch_control.proofs.control_table.ControlTable.len.Goals as goal

pub returns-clause-stands : goal.returns-clause-stands
returns-clause-stands c = λ channel from sent e h.
    c.text_len.ensures.number ∙ ap length (ap (controls_text c.args.packet) e ∙ controls_coded channel from c.args.packet sent h)
