use Rattle.std.proofs.Common.{ap, sym, ◌∙◌}
use Rattle.ch_control.specs.ControlTable.{controls_cut}
use Rattle.ch_control.specs.TableLaws.{controls_later, cut_up_to}
use Rattle.ch_control.proofs.control_table.ControlTable.trim.Goals as goal

pub returns-clause-stands : goal.returns-clause-stands
returns-clause-stands c = λ channel from sent e l.
    c.cut.ensures ∙ ap (controls_cut c.args.packet) e ∙ sym (controls_later channel from c.args.packet sent l)

pub returns-clause-order : goal.returns-clause-order
returns-clause-order c = λ later h. rw c.cut.ensures (cut_up_to c.args.packet later c.args.self.now.kept h)
