use Rattle.std.proofs.Common.{◌≡◌, ◌≤◌, length}
use Rattle.ch_param.specs.ParamTable.{last_halves}
use Rattle.ch_param.proofs.param_table.next_last.Given as goal

abbrev pub invariant-loop-row : goal.invariant-loop-row
invariant-loop-row l = (last_halves l.rest ≡ last_halves l.halves) × (length l.rest ≤ length l.halves)

abbrev pub decreases-loop-row : goal.decreases-loop-row
decreases-loop-row l = length l.rest
