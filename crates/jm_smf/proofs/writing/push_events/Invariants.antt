use Rattle.std.proofs.Common.{◌≡◌, ◌+◌, ◌++◌, drop, length, None}
use Rattle.jm_smf.specs.File.{first_tick, first_far, events}
use Rattle.jm_smf.proofs.writing.push_events.Given as goal

abbrev pub invariant-loop-timed : goal.invariant-loop-timed
invariant-loop-timed l = record {
  out : l.out.items ++ events l.before (drop l.timed-index l.list) ≡ l.initial.out.items ++ events (first_tick l.list) l.list;
  room : l.room.spare + length l.room.octets ≡ 65538;
  near : first_far l.timed-index l.before (drop l.timed-index l.list) ≡ None;
}
