use Rattle.std.proofs.Common.{◌+◌, ◌<◌, ◌≤◌, ◌∙◌, length}
use Rattle.jm_book.proofs.Left.{left_all, left_drop}
use Rattle.jm_book.specs.Unsent.{left_none}
use Rattle.jm_book.proofs.waiting.Unsent.take_off.Goals as goal

pub returns-then-self-as_slice : goal.returns-then-self-as_slice
returns-then-self-as_slice c =
    let octets = c.self.inside.data.octets in
    let few : length octets ≤ c.self.inside.sent + 2046 = rw c.as_slice.ensures at c.if-self-as_slice.true in
    rw (← c.self.view_is) (left_none 0 c.clear.new.self.octets c.clear.ensures.octets ∙ left_all c.self.inside.sent octets c.self.invariant.long few)

pub returns-else-self-as_slice : goal.returns-else-self-as_slice
returns-else-self-as_slice c =
    let octets = c.self.inside.data.octets in
    let more : c.self.inside.sent + 2046 < length octets = rw c.as_slice.ensures at c.if-self-as_slice.false in
    rw (← c.self.view_is) (left_drop c.self.inside.sent octets more)
