use Rattle.std.proofs.Common.{◌+◌, ◌≤◌, length, drop}
use Rattle.jm_serve.specs.Messages.{reports_to}
use Rattle.jm_serve.proofs.Telling.{PostsRest}
use Rattle.jm_serve.proofs.message_calls.send_reports.Given as goal

abbrev pub invariant-loop-entry : goal.invariant-loop-entry
invariant-loop-entry g l = record {
  room : 21100 ≤ l.out.spare + length l.out.octets;
  posts : PostsRest (reports_to l.ssrc l.entries) (reports_to l.ssrc (drop l.entry-index l.entries)) l.initial.faults l.faults (g.P.Port.wire l.initial.port) (g.P.Port.wire l.port);
}
