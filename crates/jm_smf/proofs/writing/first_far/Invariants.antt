use Rattle.std.proofs.Common.{◌≡◌, drop}
use Rattle.jm_smf.specs.File.{first_tick, first_far}
use Rattle.jm_smf.proofs.writing.first_far.Given as goal

abbrev pub invariant-loop-timed : goal.invariant-loop-timed
invariant-loop-timed l = (first_far l.index l.before (drop l.timed-index l.list) ≡ first_far 0 (first_tick l.list) l.list) × (l.index ≡ l.timed-index)
