use Rattle.std.proofs.Common.{◌≡◌, ◌+◌, ◌≤◌, length}
use Rattle.ch_param.specs.ParamTable.{last_halves}
use Rattle.ch_param.proofs.param_table.count.Given as goal

abbrev pub invariant-loop-later : goal.invariant-loop-later
invariant-loop-later l = (l.count + length (last_halves l.rest) ≡ length (last_halves l.halves)) × (l.count + length l.rest ≤ length l.halves)

abbrev pub decreases-loop-later : goal.decreases-loop-later
decreases-loop-later l = length l.rest
