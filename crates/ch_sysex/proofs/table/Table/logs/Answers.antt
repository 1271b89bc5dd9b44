use Rattle.std.proofs.Common.{length, ap, ◌∙◌}
use Rattle.ch_sysex.specs.SysexTable.{SysexKept}
use Rattle.ch_sysex.specs.TableLaws.{logs_kept}
use Rattle.ch_sysex.proofs.table.Table.logs.Goals as goal

pub returns-clause-stands : goal.returns-clause-stands
returns-clause-stands c = λ from sent e.
    c.count_logs.ensures.number ∙ ap (λ (t : SysexKept). length t.logs) e ∙ logs_kept from sent
