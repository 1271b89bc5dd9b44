use Rattle.std.proofs.Common.{◌≡◌, ◌-◌}
use Rattle.jm_book.specs.Participants.{free_from}
use Rattle.jm_book.proofs.participants.Participants.free_slot.Given as goal

abbrev pub invariant-loop-slot : goal.invariant-loop-slot
invariant-loop-slot l = free_from l.self (32 - l.slot) l.slot ≡ free_from l.self 32 0
