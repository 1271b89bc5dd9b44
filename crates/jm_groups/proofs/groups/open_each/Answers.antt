use Rattle.std.proofs.Common.{◌≡◌, ◌∙◌, [], ◌∷◌, ◌++◌, length, map, All, ap, sym, subst, arith}
use Rattle.std.proofs.lemmas.List.Elements.{All-head, All-tail, All-push}
use Rattle.std.specs.List.{AllZip}
use Rattle.std.specs.Option.{option_to_list}
use Rattle.std.specs.Vec.Iter.{into_iter_items}
use Rattle.jm_book.specs.Book.{Told}
use Rattle.jm_desk.specs.Sharing.{IsOf}
use Rattle.jm_groups.specs.Sharing.{IsOpening, HasOut, book_of, first_view, view_of}
use Rattle.jm_groups.proofs.Places.{each_push, pushed_over, both_pushed}
use Rattle.jm_groups.proofs.groups.open_each.Goals as goal

pub new-requires : goal.new-requires
new-requires c =
    let rest = into_iter_items c.next.new.self in
    let from = c.next.ensures.items ∙ ap (λ o. option_to_list o ++ rest) c.in-Some.is in
    All-head (λ (b : Told). b.steps ≡ []) c.in-Some.book rest (subst (All (λ (b : Told). b.steps ≡ [])) from c.loop-book.invariant.steps)

pub loop-book-preserved : goal.loop-book-preserved
loop-book-preserved c =
    let kept = c.loop-book.invariant in
    let desks = c.loop-book.desks.items in
    let passes = c.loop-book.passes.items in
    let book = c.in-Some.book in
    let desk = c.in_ok-desk.desk in
    let pass = c.in_ok-desk.pass in
    let rest = into_iter_items c.next.new.self in
    let from = c.next.ensures.items ∙ ap (λ o. option_to_list o ++ rest) c.in-Some.is in
    let desks_now = c.push_reserved.ensures.items in
    let passes_now = c.push_reserved-in-Some.ensures.items in
    let view : view_of pass ≡ first_view desk = c.in_ok-desk.ensures.view in
    record {
      steps = All-tail (λ (b : Told). b.steps ≡ []) book rest (subst (All (λ (b : Told). b.steps ≡ [])) from kept.steps);
      over = ap (λ l. map book_of l ++ rest) desks_now
          ∙ pushed_over book_of desks desk book rest c.args.books.items (subst (λ l. map book_of desks ++ l ≡ c.args.books.items) from kept.over) c.in_ok-desk.ensures.book;
      own = subst (λ l. AllZip IsOf l c.push_reserved-in-Some.new.self.items) (sym desks_now)
          (subst (λ l. AllZip IsOf (desks ++ desk ∷ []) l) (sym passes_now) (each_push IsOf desks passes desk pass kept.own c.in_ok-desk.ensures.own));
      views = ap (map view_of) passes_now ∙ (both_pushed view_of first_view passes desks pass desk kept.views view ∙ sym (ap (map first_view) desks_now));
      opening = subst (All IsOpening) (sym passes_now) (All-push IsOpening passes pass kept.opening (ap (λ v. v.kind) view));
      alone = subst (All (HasOut 0)) (sym passes_now) (All-push (HasOut 0) passes pass kept.alone (ap (λ v. v.out) view));
      count = omega (arith, kept.count, ap length from, c.push_reserved.ensures.len);
      same = omega (arith, kept.same, c.push_reserved.ensures.len, c.push_reserved-in-Some.ensures.len);
      desk_room = rw c.push_reserved.ensures.capacity kept.desk_room;
      pass_room = rw c.push_reserved-in-Some.ensures.capacity kept.pass_room;
    }
