use Rattle.std.proofs.Common.{◌≡◌, ◌<◌, ◌∙◌, ℕ, List, ap, sym, length, drop, arith}
use Rattle.std.proofs.lemmas.Bool.Decides.{nat_tests}
use Rattle.jm_book.proofs.Left.{first_many, next_nothing, next_first, next_last, next_middle}
use Rattle.jm_book.proofs.waiting.Unsent.next.Goals as goal

pub returns-then-is_empty-clause-segment : goal.returns-then-is_empty-clause-segment
returns-then-is_empty-clause-segment c =
    let sent = c.self.inside.sent in
    let octets = c.self.inside.data.octets in
    let rest : c.behind-rest.result.now ≡ drop sent octets = c.behind-rest.ensures ∙ ap (λ (o : List ℕ). drop sent o) c.as_slice.ensures in
    let none : length c.behind-rest.result.now ≡ 0 = grind (arith, nat_tests, c.is_empty.ensures, c.if-is_empty.true) in
    rw (← c.self.view_is) (sym (next_nothing sent octets c.behind-rest.result.now rest none))

pub full_part-requires : goal.full_part-requires
full_part-requires c =
    let sent = c.self.inside.sent in
    let octets = c.self.inside.data.octets in
    let rest : c.behind-rest.result.now ≡ drop sent octets = c.behind-rest.ensures ∙ ap (λ (o : List ℕ). drop sent o) c.as_slice.ensures in
    let some : 0 < length c.behind-rest.result.now = grind (arith, nat_tests, c.is_empty.ensures, c.if-is_empty.false) in
    omega (arith, first_many sent octets c.behind-rest.result.now c.if-self-eq0.true rest c.self.invariant.long some)

pub returns-then-self-eq0-clause-segment : goal.returns-then-self-eq0-clause-segment
returns-then-self-eq0-clause-segment c =
    let sent = c.self.inside.sent in
    let octets = c.self.inside.data.octets in
    let rest : c.behind-rest.result.now ≡ drop sent octets = c.behind-rest.ensures ∙ ap (λ (o : List ℕ). drop sent o) c.as_slice.ensures in
    let some : 0 < length c.behind-rest.result.now = grind (arith, nat_tests, c.is_empty.ensures, c.if-is_empty.false) in
    rw (← c.self.view_is) (sym (next_first sent octets c.behind-rest.result.now c.full_part.result.now c.if-self-eq0.true rest c.full_part.ensures.octets some))

pub returns-then-rest-le-LONGEST_WHOLE-clause-segment : goal.returns-then-rest-le-LONGEST_WHOLE-clause-segment
returns-then-rest-le-LONGEST_WHOLE-clause-segment c =
    let sent = c.self.inside.sent in
    let octets = c.self.inside.data.octets in
    let rest : c.behind-rest.result.now ≡ drop sent octets = c.behind-rest.ensures ∙ ap (λ (o : List ℕ). drop sent o) c.as_slice.ensures in
    let some : 0 < length c.behind-rest.result.now = grind (arith, nat_tests, c.is_empty.ensures, c.if-is_empty.false) in
    let begun : 0 < sent = omega (arith, c.if-self-eq0.false) in
    rw (← c.self.view_is) (sym (next_last sent octets c.behind-rest.result.now begun rest some c.if-rest-le-LONGEST_WHOLE.true))

pub returns-clause-segment : goal.returns-clause-segment
returns-clause-segment c =
    let sent = c.self.inside.sent in
    let octets = c.self.inside.data.octets in
    let rest : c.behind-rest.result.now ≡ drop sent octets = c.behind-rest.ensures ∙ ap (λ (o : List ℕ). drop sent o) c.as_slice.ensures in
    let begun : 0 < sent = omega (arith, c.if-self-eq0.false) in
    rw (← c.self.view_is) (sym (next_middle sent octets c.behind-rest.result.now c.full_part-2.result.now begun rest c.full_part-2.ensures.octets c.if-rest-le-LONGEST_WHOLE.false))
