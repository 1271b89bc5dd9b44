use Rattle.std.proofs.Common.{◌≡◌, ◌+◌, ◌*◌, ◌≤◌, ℕ, length}
use Rattle.std.specs.List.{flat_map}
use Rattle.ch_param.specs.ParamTable.{row_log, row_logs, last_halves}
use Rattle.ch_param.proofs.param_table.logs_len.Given as goal

abbrev pub invariant-loop-row : goal.invariant-loop-row
invariant-loop-row l =
    ((packet : ℕ) → l.len + length (flat_map (row_log packet l.halves) (last_halves l.rest)) ≡ length (row_logs packet l.halves))
    × (l.len + 5 * length l.rest ≤ 5 * length l.halves)
    × (l.len + 5 * length (last_halves l.rest) ≤ 5 * length (last_halves l.halves))

abbrev pub decreases-loop-row : goal.decreases-loop-row
decreases-loop-row l = length l.rest
