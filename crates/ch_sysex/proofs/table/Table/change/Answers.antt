use Rattle.std.proofs.Common.{◌≡◌, ap, ◌∙◌}
use Rattle.ch_sysex.specs.SysexTable.{SysexKept, AreLogsUpTo, log_packet, logs_in}
use Rattle.ch_sysex.proofs.KeptLaws.{push_kept}
use Rattle.ch_sysex.proofs.table.Table.change.Goals as goal

pub invariant_of-self : goal.invariant_of-self
invariant_of-self c =
    let logs : logs_in c.self.inside.messages.items ≡ c.args.self.now.logs = ap (λ (t : SysexKept). t.logs) c.self.view_is in
    let up : AreLogsUpTo c.args.packet (logs_in c.self.inside.messages.items) = rw logs c.requires.order in
    let both = push_kept c.push.new.messages.items c.self.inside.messages.items c.kept_message.result c.args.packet c.push.ensures.items c.self.invariant.1 c.kept_message.ensures.short c.self.invariant.2 up (ap log_packet c.kept_message.ensures.log) in
    (c.push.ensures.capacity ∙ c.self.invariant.0, both.0, both.1)
