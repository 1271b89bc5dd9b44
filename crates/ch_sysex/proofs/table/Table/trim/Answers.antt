use Rattle.std.proofs.Common.{ap, sym, ◌∙◌}
use Rattle.ch_sysex.specs.SysexTable.{sysex_cut}
use Rattle.ch_sysex.specs.TableLaws.{sysex_later, cut_up_to}
use Rattle.ch_sysex.proofs.table.Table.trim.Goals as goal

pub returns-clause-stands : goal.returns-clause-stands
returns-clause-stands c = λ from sent e l.
    c.cut.ensures ∙ ap (sysex_cut c.args.packet) e ∙ sym (sysex_later from c.args.packet sent l)

pub returns-clause-order : goal.returns-clause-order
returns-clause-order c = λ later h. rw c.cut.ensures (cut_up_to c.args.packet later c.args.self.now.logs h)
