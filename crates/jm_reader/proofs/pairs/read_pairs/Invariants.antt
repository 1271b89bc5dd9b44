use Rattle.std.proofs.Common.{◌≡◌, ◌++◌, length}
use Rattle.jm_reader.specs.Pairs.{pair_logs}
use Rattle.jm_reader.proofs.pairs.read_pairs.Given as goal

abbrev pub invariant-loop-rest : goal.invariant-loop-rest
invariant-loop-rest l = l.logs ++ pair_logs l.kind l.channel l.rest ≡ l.initial.logs ++ pair_logs l.kind l.channel l.octets

abbrev pub decreases-loop-rest : goal.decreases-loop-rest
decreases-loop-rest l = length l.rest
