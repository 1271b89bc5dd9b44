use Rattle.std.proofs.Common.{◌≡◌, ◌∙◌, ◌∷◌, ◌++◌, length, map, All, ap, sym, subst, arith}
use Rattle.std.proofs.lemmas.List.Elements.{All-tail}
use Rattle.std.specs.List.{AllZip}
use Rattle.std.specs.Option.{option_to_list}
use Rattle.std.specs.Vec.Iter.{into_iter_items}
use Rattle.jm_book.specs.Legal.{IsLegal}
use Rattle.jm_desk.specs.Sharing.{IsOf, config_of}
use Rattle.jm_groups.specs.Sharing.{IsOpening, IsWhole, HasOut, items_of, taken_seen}
use Rattle.jm_groups.proofs.Places.{pushed_over}
use Rattle.jm_groups.proofs.groups.close_each.Goals as goal

pub loop-desk-preserved : goal.loop-desk-preserved
loop-desk-preserved c =
    let kept = c.loop-desk.invariant in
    let desk = c.in-Some.desk in
    let pass = c.in-Some-next.pass in
    let desks = into_iter_items c.next.new.self in
    let passes = into_iter_items c.next-in-Some.new.self in
    let desks_from = c.next.ensures.items ∙ ap (λ o. option_to_list o ++ desks) c.in-Some.is in
    let passes_from = c.next-in-Some.ensures.items ∙ ap (λ o. option_to_list o ++ passes) c.in-Some-next.is in
    let both : AllZip IsOf (desk ∷ desks) (pass ∷ passes) =
    subst (λ l. AllZip IsOf l (pass ∷ passes)) desks_from (subst (λ l. AllZip IsOf (into_iter_items c.loop-desk.desks) l) passes_from kept.own) in
    let ends : IsWhole desk pass = record {
      history = c.close.ensures.history;
      legal = subst (IsLegal (config_of desk)) c.close.ensures.steps c.close.ensures.legal;
      accounts = c.close.ensures.accounts;
      once = c.close.ensures.once;
    } in
    let told : map items_of c.loop-desk.tapes.items ++ (taken_seen pass ∷ map taken_seen passes) ≡ map taken_seen c.args.passes.items =
    subst (λ l. map items_of c.loop-desk.tapes.items ++ map taken_seen l ≡ map taken_seen c.args.passes.items) passes_from kept.steps in
    record {
      own = both.1;
      opening = All-tail IsOpening pass passes (subst (All IsOpening) passes_from kept.opening);
      alone = All-tail (HasOut 0) pass passes (subst (All (HasOut 0)) passes_from kept.alone);
      steps = ap (λ l. map items_of l ++ map taken_seen passes) c.push_reserved.ensures.items
          ∙ pushed_over items_of c.loop-desk.tapes.items c.close.result (taken_seen pass) (map taken_seen passes) (map taken_seen c.args.passes.items) told c.close.ensures.steps;
      whole = λ rest. kept.whole (subst (λ l. AllZip IsWhole l (into_iter_items c.loop-desk.passes)) (sym desks_from) (subst (λ l. AllZip IsWhole (desk ∷ desks) l) (sym passes_from) (ends, rest)));
      room = omega (arith, kept.room, ap length desks_from, c.push_reserved.ensures.len, c.push_reserved.ensures.capacity);
    }
