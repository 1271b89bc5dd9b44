use Rattle.std.proofs.Common.{◌≡◌, ◌+◌, ◌-◌, arith}
use Rattle.jm_book.specs.Participants.{free_from_more, free_from_none}
use Rattle.jm_book.proofs.participants.Participants.free_slot.Goals as goal

pub returns-then-not-has_slot-clause-value : goal.returns-then-not-has_slot-clause-value
returns-then-not-has_slot-clause-value c =
    let slot = c.loop-slot.slot in
    grind (arith, free_from_more c.args.self.now (32 - (slot + 1)) (32 - slot) slot (omega arith))

pub loop-slot-preserved : goal.loop-slot-preserved
loop-slot-preserved c =
    let slot = c.loop-slot.slot in
    grind (arith, free_from_more c.args.self.now (32 - (slot + 1)) (32 - slot) slot (omega arith))

pub returns-clause-value : goal.returns-clause-value
returns-clause-value c =
    let slot = c.loop-slot.slot in
    let none : 32 - slot ≡ 0 = omega arith in
    grind (arith, free_from_none c.args.self.now slot)
