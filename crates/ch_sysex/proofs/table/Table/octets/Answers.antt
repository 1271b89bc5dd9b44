use Rattle.std.proofs.Common.{ap, ◌∙◌}
use Rattle.ch_sysex.specs.SysexTable.{SysexKept, kept_octets}
use Rattle.ch_sysex.specs.TableLaws.{octets_kept}
use Rattle.ch_sysex.proofs.table.Table.octets.Goals as goal

pub returns-clause-stands : goal.returns-clause-stands
returns-clause-stands c = λ from sent e.
    c.total.ensures ∙ ap (λ (t : SysexKept). kept_octets t.logs) e ∙ octets_kept from sent
