use Rattle.std.proofs.Common.{◌≡◌, drop}
use Rattle.jm_book.specs.Participants.{has_slot}
use Rattle.jm_book.proofs.participants.Participants.has_slot.Given as goal

abbrev pub invariant-loop-one : goal.invariant-loop-one
invariant-loop-one l = has_slot (drop l.one-index l.one-items) l.slot ≡ has_slot l.one-items l.slot
