use Rattle.std.proofs.Common.{◌≡◌, ◌+◌, drop}
use Rattle.jm_cmds.specs.Data.{data_len}
use Rattle.jm_cmds.proofs.system_exclusive.data_len.Given as goal

abbrev pub invariant-loop-i : goal.invariant-loop-i
invariant-loop-i l = l.i + data_len (drop l.i l.octets) ≡ data_len l.octets
