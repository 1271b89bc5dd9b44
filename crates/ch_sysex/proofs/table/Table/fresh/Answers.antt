use Rattle.std.proofs.Common.{ap, ◌∙◌}
use Rattle.std.specs.List.{list_any}
use Rattle.ch_sysex.specs.SysexTable.{SysexKept, log_fresh}
use Rattle.ch_sysex.specs.TableLaws.{sysex_any}
use Rattle.ch_sysex.proofs.table.Table.fresh.Goals as goal

pub returns-clause-stands : goal.returns-clause-stands
returns-clause-stands c = λ from sent e h.
    c.is_fresh.ensures ∙ ap (λ (t : SysexKept). list_any (log_fresh c.args.packet) t.logs) e ∙ sysex_any from c.args.packet sent h
