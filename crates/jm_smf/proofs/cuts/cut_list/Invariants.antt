use Rattle.std.proofs.Common.{◌≤◌, ◌*◌, take}
use Rattle.jm_book.specs.Stream.{stream_of}
use Rattle.jm_smf.proofs.Sent.{KeptList}
use Rattle.jm_smf.proofs.cuts.cut_list.Given as goal

abbrev pub invariant-loop-step : goal.invariant-loop-step
invariant-loop-step l = record {
  kept : KeptList (stream_of (take l.step-index l.tape)) l.list.items l.sent l.waiting l.latest;
  few : l.waiting ≤ 33 * l.step-index;
}
