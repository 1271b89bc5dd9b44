use Rattle.std.proofs.Common.{◌≡◌, ◌∙◌, ℕ, List, refl, ap, sym, drop}
use Rattle.jm_book.proofs.Left.{left_count, first_many}
use Rattle.jm_book.proofs.waiting.Unsent.len.Goals as goal

pub returns-clause-number : goal.returns-clause-number
returns-clause-number c =
    let sent = c.self.inside.sent in
    let octets = c.self.inside.data.octets in
    let rest : c.behind.result.now ≡ drop sent octets = c.behind.ensures ∙ ap (λ (o : List ℕ). drop sent o) c.as_slice.ensures in
    let count = rw rest at c.div_ceil.ensures in
    rw (← c.self.view_is) (count ∙ sym (left_count sent (drop sent octets) (λ is some. first_many sent octets (drop sent octets) is refl c.self.invariant.long some)))
