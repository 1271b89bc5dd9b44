use Rattle.std.proofs.Common.{◌≡◌, length}
use Rattle.ch_sysex.specs.SysexTable.{logs_since}
use Rattle.ch_sysex.proofs.table.Table.cut.Given as goal

abbrev pub invariant-loop-self : goal.invariant-loop-self
invariant-loop-self l = (logs_since l.packet l.self.logs ≡ logs_since l.packet l.initial.self.logs) × (l.self.count ≡ l.initial.self.count)

abbrev pub decreases-loop-self : goal.decreases-loop-self
decreases-loop-self l = length l.self.logs
