use Rattle.std.proofs.Common.{◌≡◌, ◌+◌, ◌≤◌, drop, length}
use Rattle.jm_smf.specs.File.{first_tick, events}
use Rattle.jm_smf.proofs.writing.track_len.Given as goal

abbrev pub invariant-loop-timed : goal.invariant-loop-timed
invariant-loop-timed l = record {
  sum : l.len + length (events l.before (drop l.timed-index l.list)) ≡ 4 + length (events (first_tick l.list) l.list);
  few : l.len ≤ 4294967295;
}
