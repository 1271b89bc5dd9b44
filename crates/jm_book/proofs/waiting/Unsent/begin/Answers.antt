use Rattle.std.proofs.Common.{◌≡◌, ◌∙◌, ◌++◌, ℕ, List, ap, arith}
use Rattle.jm_book.proofs.Left.{left_first}
use Rattle.jm_book.specs.Unsent.{segments_left}
use Rattle.jm_book.proofs.waiting.Unsent.begin.Goals as goal

pub returns : goal.returns
returns c =
    let octets = c.args.octets.now in
    let text : c.push_slice.new.self.octets ≡ octets = c.push_slice.ensures.octets ∙ ap (λ (front : List ℕ). front ++ octets) c.clear.ensures.octets in
    ap (λ (o : List ℕ). segments_left 0 o) text ∙ left_first octets (omega (arith, c.requires.long))
