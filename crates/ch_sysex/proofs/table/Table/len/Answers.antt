use Rattle.std.proofs.Common.{length, ap, ◌∙◌}
use Rattle.ch_sysex.specs.SysexTable.{SysexKept, sysex_text}
use Rattle.ch_sysex.specs.TableLaws.{sysex_coded}
use Rattle.ch_sysex.proofs.table.Table.len.Goals as goal

pub returns-clause-stands : goal.returns-clause-stands
returns-clause-stands c = λ from sent e h.
    c.text_len.ensures ∙ ap length (ap (λ (t : SysexKept). sysex_text c.args.packet t.logs) e ∙ sysex_coded from c.args.packet sent h)
