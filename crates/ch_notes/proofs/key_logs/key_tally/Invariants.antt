use Rattle.std.specs.List.{AllByRecursion}
use Rattle.std.proofs.Common.{ℕ, ◌≡◌, ◌+◌, ◌≤◌, ◌||◌, length}
use Rattle.jm_recency.specs.Recency.{from_key, IsAtKey}
use Rattle.ch_notes.specs.KeptRows.{key_logs, key_fresh}
use Rattle.ch_notes.proofs.key_logs.key_tally.Given as goal

abbrev pub invariant-loop-at : goal.invariant-loop-at
invariant-loop-at g l =
    IsAtKey l.recent l.at
    × (l.tally.logs + key_logs (g.T.KeyLogs.logs l.table) (from_key l.recent l.at) ≡ key_logs (g.T.KeyLogs.logs l.table) l.recent)
    × ((l.tally.fresh || key_fresh (g.T.KeyLogs.logs l.table) l.packet (from_key l.recent l.at)) ≡ key_fresh (g.T.KeyLogs.logs l.table) l.packet l.recent)
    × (l.tally.logs + length (from_key l.recent l.at) ≤ length l.recent)
    × (AllByRecursion (λ (e : ℕ × ℕ). g.T.KeyLogs.is_within l.table e.0) (from_key l.recent l.at) → AllByRecursion (λ (e : ℕ × ℕ). g.T.KeyLogs.is_within l.table e.0) l.recent)

abbrev pub decreases-loop-at : goal.decreases-loop-at
decreases-loop-at g l = length (from_key l.recent l.at)
