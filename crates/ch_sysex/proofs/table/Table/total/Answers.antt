use Rattle.std.proofs.Common.{◌≡◌, ap, sym, ◌∙◌}
use Rattle.ch_sysex.specs.SysexTable.{SysexKept, kept_octets, logs_in}
use Rattle.ch_sysex.proofs.KeptLaws.{second_short, octets_joined}
use Rattle.ch_sysex.proofs.table.Table.total.Goals as goal

pub octets_of-requires-2-clause-short : goal.octets_of-requires-2-clause-short
octets_of-requires-2-clause-short c =
    second_short c.as_slices.result.0.now c.as_slices.result.1.now c.self.inside.messages.items c.as_slices.ensures c.self.invariant.1

pub returns : goal.returns
returns c =
    let logs : logs_in c.self.inside.messages.items ≡ c.args.self.now.logs = ap (λ (t : SysexKept). t.logs) c.self.view_is in
    let joined = octets_joined c.as_slices.result.0.now c.as_slices.result.1.now c.self.inside.messages.items c.as_slices.ensures in
    rw (c.octets_of.ensures.number, c.octets_of-2.ensures.number) (sym joined ∙ ap kept_octets logs)
