use Rattle.std.proofs.Common.{◌≡◌, length}
use Rattle.jm_recency.specs.Recency.{since_stamp}
use Rattle.jm_recency.proofs.recency.Recency.trim.Given as goal

abbrev pub invariant-loop-k : goal.invariant-loop-k
invariant-loop-k g l = since_stamp l.stamp l.self ≡ since_stamp l.stamp l.initial.self

abbrev pub decreases-loop-k : goal.decreases-loop-k
decreases-loop-k g l = length l.self
