use Rattle.std.proofs.Common.{◌≡◌, ◌≤◌, ◌++◌, drop, length}
use Rattle.jm_book.specs.Answers.{addresses_of}
use Rattle.jm_book.proofs.roster.Roster.addresses.Given as goal

abbrev pub invariant-loop-k : goal.invariant-loop-k
invariant-loop-k l = record {
  rest : l.out ++ addresses_of (drop l.k l.self.host.peers) ≡ addresses_of l.self.host.peers;
  few : length l.out ≤ l.k;
}
