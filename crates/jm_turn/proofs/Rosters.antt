-- The passes, where one view has changed.
use Rattle.std.proofs.Common.{◌≡◌, ◌≢◌, ℕ, ◌<◌, ◌≤◌, Bool, true, false, List, [], ◌∷◌, ◌++◌, set, nat_lt, sym, refl, ap, ◌∙◌, subst, ⊎_elim, arith, eq-eqb}
use Rattle.std.proofs.lemmas.Bool.Decides.{nat_tests}
use mathlib.Core.Option.{some, some-injective}
use mathlib.Core.Logic.{dite}
use native.Mathlib.Decide.{ℕ_discrete}
use lib.ListN.{get_elem?}
use Rattle.atomic_table.proofs.Lists.{at_set, set_here, set_else}
use Rattle.jm_turn.specs.declared.view.Made.{Made}
use Rattle.jm_turn.specs.declared.view.View.{View}
use Rattle.jm_turn.specs.declared.view.Kind.TheVariants.{Opening}
use Rattle.jm_turn.specs.Turns.{made, Everyone}
use Rattle.jm_turn.specs.Rule.{total, counts, numbered, counted, ended_as, once_below, EndedOwn, Roster}
use Rattle.jm_turn.proofs.Lists.{places_more, total_set, total_one, total_two, at_length}

-- one number is below another, or there is none
pub once_at_most : (n next : ℕ) → once_below n next ≤ 1
once_at_most n next = cases (nat_lt n next) refl
  where
    cases : (b : Bool) → nat_lt n next ≡ b → once_below n next ≤ 1
    cases true t = rw t (omega arith)
    cases false t = rw t (omega arith)

pub once_means : (n next : ℕ) → 1 ≤ once_below n next → n < next
once_means n next = cases (nat_lt n next) refl
  where
    cases : (b : Bool) → nat_lt n next ≡ b → 1 ≤ once_below n next → n < next
    cases true t = rw t (λ _. grind (arith, nat_tests))
    cases false t = rw t (λ (l : 1 ≤ 0). absurd (omega arith))

module _ {T C : Type 0} where
  -- of its own number a pass is the one that counts
  pub numbered_self : (n : ℕ) (v : View T C) → v.number ≡ n → counts v.kind ≡ 1 → numbered n v ≡ 1
  numbered_self n v e c = rw (eq-eqb v.number n e) c

  -- the number of a pass is below the next one, is not of one that ended, and not of another
  pub number_of : (log : List (Made C)) (o : View T C) (views : List (View T C)) (id : ℕ) (v : View T C) → Roster log o views → get_elem? views id ≡ some v → counts v.kind ≡ 1
      → (v.number < o.next) × (total (ended_as v.number) o.ended ≡ 0)
  number_of log o views id v r at c =
      let one = total_one (numbered v.number) views id v at in
      let self = numbered_self v.number v refl c in
      let all = r.numbers v.number in
      let most = once_at_most v.number o.next in
      let some_there : 1 ≤ once_below v.number o.next = omega arith in
      (once_means v.number o.next some_there, omega arith)

  pub number_apart : (log : List (Made C)) (o : View T C) (views : List (View T C)) (id j : ℕ) (v u : View T C) → Roster log o views → get_elem? views id ≡ some v → counts v.kind ≡ 1
      → j ≢ id → get_elem? views j ≡ some u → counts u.kind ≡ 1 → u.number ≢ v.number
  number_apart log o views id j v u r at c other there d same =
      let two = total_two (numbered v.number) views j id u v there at other in
      let self = numbered_self v.number v refl c in
      let them = numbered_self v.number u same d in
      let all = r.numbers v.number in
      let most = once_at_most v.number o.next in
      absurd (omega arith)

  -- what two views have in common, as far as the roster reads them
  pub record Alike (v w : View T C) : Type 0 where
    pub counts_same : counts w.kind ≡ counts v.kind
    pub numbers : (n : ℕ) → numbered n w ≡ numbered n v
    pub opening : w.kind ≡ Opening → v.kind ≡ Opening
    pub still : v.kind ≡ Opening → (w.kind ≡ Opening) × (w.next ≡ v.next) × (w.out ≡ v.out) × (w.ended ≡ v.ended)

  roster_with : (log log' : List (Made C)) (o o' : View T C) (views : List (View T C)) (id : ℕ) (v w : View T C) → Roster log o views → get_elem? views id ≡ some v → Alike v w
      → Everyone (λ by. by < o.next) log' → EndedOwn log' o.ended
      → (j : ℕ) × (u : View T C) × (get_elem? (set views id w) j ≡ some u) × (counts u.kind ≡ 1) × (u.seen ≡ log')
      → get_elem? (set views id w) 0 ≡ some o' → o'.kind ≡ Opening → o'.next ≡ o.next → o'.out ≡ o.out → o'.ended ≡ o.ended
      → Roster log' o' (set views id w)
  roster_with log log' o o' views id v w r at alike named ended longest first opens next out es = record {
    at = first;
    opens = opens;
    alone = λ j u e k. ⊎_elim
        (λ (t : (j ≡ id) × (w ≡ u)). t.0 ∙ r.alone id v at (alike.opening (ap (λ (z : View T C). z.kind) t.1 ∙ k)))
        (λ (t : (j ≢ id) × (get_elem? views j ≡ some u)). r.alone j u t.1 k)
        (at_set views id j w u e);
    out = (let s = total_set counted views id v w at in let c : counted w ≡ counted v = alike.counts_same in let h = r.out in omega arith);
    few = (let h = r.few in omega arith);
    numbers = λ n. (let s = total_set (numbered n) views id v w at in let c = alike.numbers n in let h = r.numbers n in
        let e : total (ended_as n) o'.ended ≡ total (ended_as n) o.ended = ap (total (ended_as n)) es in
        let b : once_below n o'.next ≡ once_below n o.next = ap (once_below n) next in omega arith);
    named = subst (λ (k : ℕ). Everyone (λ by. by < k) log') (sym next) named;
    ended = subst (EndedOwn log') (sym es) ended;
    longest = longest;
  }

  pub roster_moved : (log log' : List (Made C)) (o : View T C) (views : List (View T C)) (id : ℕ) (v w : View T C) → Roster log o views → get_elem? views id ≡ some v → Alike v w
      → Everyone (λ by. by < o.next) log' → EndedOwn log' o.ended
      → (j : ℕ) × (u : View T C) × (get_elem? (set views id w) j ≡ some u) × (counts u.kind ≡ 1) × (u.seen ≡ log')
      → (o' : View T C) × Roster log' o' (set views id w)
  roster_moved log log' o views id v w r at alike named ended longest = dite (ℕ_discrete id 0)
      (λ (e : id ≡ 0).
      let same : v ≡ o = some-injective v o (sym at ∙ (ap (get_elem? views) e ∙ r.at)) in
      let opens : v.kind ≡ Opening = ap (λ (z : View T C). z.kind) same ∙ r.opens in
      let st = alike.still opens in
      let here : get_elem? (set views id w) 0 ≡ some w = subst (λ (k : ℕ). get_elem? (set views id w) k ≡ some w) e (set_here views id w (at_length views id v at)) in
      (w, roster_with log log' o w views id v w r at alike named ended longest here st.0 (st.1 ∙ ap (λ (z : View T C). z.next) same) (st.2 ∙ ap (λ (z : View T C). z.out) same) (st.3 ∙ ap (λ (z : View T C). z.ended) same)))
      (λ (n : id ≢ 0).
      let here : get_elem? (set views id w) 0 ≡ some o = set_else views id 0 w (λ (e : 0 ≡ id). n (sym e)) ∙ r.at in
      (o, roster_with log log' o o views id v w r at alike named ended longest here r.opens refl refl refl))

  -- where some pass had seen all and the view of another changed, or saw more, some pass has seen all
  pub longest_kept : (log : List (Made C)) (views : List (View T C)) (id : ℕ) (v w : View T C) → get_elem? views id ≡ some v → (counts v.kind ≡ 1 → v.seen ≡ log → (counts w.kind ≡ 1) × (w.seen ≡ log))
      → (j : ℕ) × (u : View T C) × (get_elem? views j ≡ some u) × (counts u.kind ≡ 1) × (u.seen ≡ log)
      → (j : ℕ) × (u : View T C) × (get_elem? (set views id w) j ≡ some u) × (counts u.kind ≡ 1) × (u.seen ≡ log)
  longest_kept log views id v w at keeps l = dite (ℕ_discrete l.0 id)
      (λ (e : l.0 ≡ id).
      let same : l.1 ≡ v = some-injective (l.1) v (sym l.2 ∙ (ap (get_elem? views) e ∙ at)) in
      let k = keeps (ap (λ (z : View T C). counts z.kind) (sym same) ∙ l.3) (ap (λ (z : View T C). z.seen) (sym same) ∙ l.4) in
      (id, w, set_here views id w (at_length views id v at), k.0, k.1))
      (λ (n : l.0 ≢ id). (l.0, l.1, set_else views id l.0 w n ∙ l.2, l.3, l.4))

-- who has ended has no turn more
pub ended_push : {C : Type 0} (log : List (Made C)) (n : ℕ) (what : C) (es : List (ℕ × List ℕ)) → total (ended_as n) es ≡ 0 → EndedOwn log es → EndedOwn (log ++ made n what ∷ []) es
ended_push log n what [] none h = tt
ended_push log n what (e ∷ es) none h =
    let apart : n ≢ e.0 = (λ (q : n ≡ e.0). let one : ended_as n e ≡ 1 = rw (eq-eqb e.0 n (sym q)) refl in absurd (omega arith)) in
    (h.0 ∙ sym (places_more e.0 log (made n what ∷ []) (apart, tt)), ended_push log n what es (omega arith) h.1)
