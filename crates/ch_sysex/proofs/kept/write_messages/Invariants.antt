use Rattle.std.proofs.Common.{drop}
use Rattle.jm_wire.specs.Octets.{Owes}
use Rattle.ch_sysex.specs.SysexTable.{AreShort, sysex_text, logs_in}
use Rattle.ch_sysex.proofs.kept.write_messages.Given as goal

abbrev pub invariant-loop-message : goal.invariant-loop-message
invariant-loop-message l =
    AreShort (drop l.message-index l.messages)
    × Owes l.initial.out l.out (sysex_text l.packet (logs_in l.messages)) (sysex_text l.packet (logs_in (drop l.message-index l.messages)))
