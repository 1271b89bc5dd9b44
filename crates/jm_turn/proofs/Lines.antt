-- The words, the tickets and the slot, where one view has changed.
use Rattle.std.proofs.Common.{◌≡◌, ◌≢◌, ℕ, ◌+◌, ◌%◌, ◌<◌, ◌≤◌, List, [], ◌∷◌, ◌++◌, length, set, Option, Some, sym, refl, ap, ◌∙◌, subst, ⊎_elim, arith, length-append}
use mathlib.Core.Option.{some, some-injective, some-ne-none}
use lib.ListN.{get_elem?}
use Rattle.atomic_table.specs.Table.{State}
use Rattle.atomic_table.proofs.Lists.{at_set}
use Rattle.jm_turn.specs.declared.view.Made.{Made}
use Rattle.jm_turn.specs.declared.view.View.{View}
use Rattle.jm_turn.specs.declared.view.Stage.TheVariants.{Holding}
use Rattle.jm_turn.specs.Turns.{made}
use Rattle.jm_turn.specs.Rule.{total, tickets, counts, queued, Fits, Line}
use Rattle.jm_turn.proofs.Lists.{begins_trans, follows_push}

module _ {T C : Type 0} where
  -- what a view says stays so where more tickets are out
  pub fits_wider : (first : T) (log : List (Made C)) (n n' : ℕ) (v : View T C) → n ≤ n' → Fits first log n v → Fits first log n' v
  fits_wider first log n n' v more f = record {
    given = f.given;
    begins = f.begins;
    others = f.others;
    own = f.own;
    before = f.before;
    told = f.told;
    waits = λ t. let x = f.waits t in (x.0, x.1, (let y : v.ticket < length log + n = x.2 in omega arith));
    holds = f.holds;
  }

  -- and where the next turn was made by another pass
  pub fits_push : (first : T) (log : List (Made C)) (n n' by : ℕ) (what : C) (v : View T C) → n ≡ n' + 1 → (counts v.kind ≡ 1 → v.number ≢ by) → (tickets v.stage ≡ 1 → v.ticket ≢ length log)
      → Fits first log n v → Fits first (log ++ made by what ∷ []) n' v
  fits_push first log n n' by what v less other behind f =
      let l : length (log ++ made by what ∷ []) ≡ length log + 1 = omega (arith, length-append log (made by what ∷ [])) in
      record {
        given = f.given;
        begins = begins_trans v.seen log (log ++ made by what ∷ []) f.begins (made by what ∷ [], refl);
        others = λ c. follows_push v.number v.seen log (made by what ∷ []) (f.others c) ((λ (e : by ≡ v.number). other c (sym e)), tt);
        own = f.own;
        before = f.before;
        told = f.told;
        waits = λ t. let x = f.waits t in let b = behind t in
            (x.0, (let y : length log ≤ v.ticket = x.1 in omega arith), (let y : v.ticket < length log + n = x.2 in omega arith));
        holds = λ h. absurd (behind (ap tickets h) ((f.holds h).0));
      }

  pub line_moved : (first : T) (stands : T → List (Made C) → Type 0) (log log' : List (Made C)) (s : State (Option T) (View T C)) (words : List ℕ) (homes : List (mathlib.Core.Option.Option (Option T))) (id : ℕ) (v w : View T C)
      → Line first stands log s
      → get_elem? s.views id ≡ some v
      → words ≡ (length log' + total queued (set s.views id w)) % 18446744073709551616 ∷ length log' % 18446744073709551616 ∷ []
      → (x : T) × stands x log'
      → Fits first log' (total queued (set s.views id w)) w
      → ((j : ℕ) (u : View T C) → j ≢ id → get_elem? s.views j ≡ some u → Fits first log (total queued s.views) u → Fits first log' (total queued (set s.views id w)) u)
      → (tickets w.stage ≡ 1 → (j : ℕ) (u : View T C) → j ≢ id → get_elem? s.views j ≡ some u → tickets u.stage ≡ 1 → w.ticket ≢ u.ticket)
      → (((j : ℕ) (u : View T C) → get_elem? (set s.views id w) j ≡ some u → u.stage ≢ Holding) → (x : T) × (homes ≡ some (Some x) ∷ []) × stands x log')
      → Line first stands log' record { words = words; homes = homes; views = set s.views id w }
  line_moved first stands log log' s words homes id v w line at is legal mine others apart home = record {
    words = is;
    legal = legal;
    each_seat = λ j u e. ⊎_elim
        (λ (t : (j ≡ id) × (w ≡ u)). subst (Fits first log' (total queued (set s.views id w))) t.1 mine)
        (λ (t : (j ≢ id) × (get_elem? s.views j ≡ some u)). others j u t.0 t.1 (line.each_seat j u t.1))
        (at_set s.views id j w u e);
    apart = λ j k x y ej ek tx ty same. ⊎_elim
        (λ (a : (j ≡ id) × (w ≡ x)). ⊎_elim
        (λ (b : (k ≡ id) × (w ≡ y)). a.0 ∙ sym b.0)
        (λ (b : (k ≢ id) × (get_elem? s.views k ≡ some y)). absurd (apart (ap (λ (z : View T C). tickets z.stage) a.1 ∙ tx) k y b.0 b.1 ty (ap (λ (z : View T C). z.ticket) a.1 ∙ same)))
        (at_set s.views id k w y ek))
        (λ (a : (j ≢ id) × (get_elem? s.views j ≡ some x)). ⊎_elim
        (λ (b : (k ≡ id) × (w ≡ y)). absurd (apart (ap (λ (z : View T C). tickets z.stage) b.1 ∙ ty) j x a.0 a.1 tx (ap (λ (z : View T C). z.ticket) b.1 ∙ sym same)))
        (λ (b : (k ≢ id) × (get_elem? s.views k ≡ some y)). line.apart j k x y a.1 b.1 tx ty same)
        (at_set s.views id k w y ek))
        (at_set s.views id j w x ej);
    home = home;
  }
