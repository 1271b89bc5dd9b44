use Rattle.std.proofs.Common.{◌≡◌, ◌++◌, take, drop}
use Rattle.jm_book.specs.Participants.{moved}
use Rattle.jm_book.proofs.participants.move_mark.Given as goal

abbrev pub invariant-loop-one : goal.invariant-loop-one
invariant-loop-one l = record {
  same : l.joined ≡ l.fn.joined;
  rest : take l.one-index l.joined ++ moved l.ssrc l.mark (drop l.one-index l.joined) ≡ moved l.ssrc l.mark l.joined;
}
