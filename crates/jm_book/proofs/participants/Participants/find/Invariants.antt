use Rattle.std.proofs.Common.{◌≡◌, drop}
use Rattle.jm_book.specs.Participants.{find_joined}
use Rattle.jm_book.proofs.participants.Participants.find.Given as goal

abbrev pub invariant-loop-one : goal.invariant-loop-one
invariant-loop-one l = find_joined l.ssrc (drop l.one-index l.one-items) ≡ find_joined l.ssrc l.one-items
