use Rattle.std.proofs.Common.{◌≡◌, ◌++◌, take, drop}
use Rattle.jm_book.specs.Participants.{noted}
use Rattle.jm_book.proofs.participants.note_heard.Given as goal

abbrev pub invariant-loop-one : goal.invariant-loop-one
invariant-loop-one l = record {
  same : l.joined ≡ l.fn.joined;
  rest : take l.one-index l.joined ++ noted l.ssrc l.seq (drop l.one-index l.joined) ≡ noted l.ssrc l.seq l.joined;
}
