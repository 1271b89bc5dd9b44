use Rattle.std.proofs.Common.{◌≡◌, ◌≤◌, ◌++◌, drop, length}
use Rattle.jm_book.specs.Answers.{feedback_of}
use Rattle.jm_book.proofs.roster.Roster.feedback.Given as goal

abbrev pub invariant-loop-k : goal.invariant-loop-k
invariant-loop-k l = record {
  rest : l.out ++ feedback_of l.self.joined (drop l.k l.self.host.peers) ≡ feedback_of l.self.joined l.self.host.peers;
  few : length l.out ≤ l.k;
}
