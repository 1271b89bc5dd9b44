-- What is so at the end, where no pass is out.
use Rattle.std.proofs.Common.{◌≡◌, ◌≢◌, ℕ, zero, suc, ◌+◌, ◌<◌, ◌≤◌, Bool, true, false, List, [], ◌∷◌, length, map, set, nat_lt, ◌==◌, if◌then◌else◌, Option, Some, sym, refl, ap, ◌∙◌, subst, arith, eq-eqb, ne_eqb}
use Rattle.std.proofs.lemmas.Bool.Decides.{nat_tests}
use mathlib.Core.Option.{some, some-injective, some-ne-none}
use mathlib.Core.Logic.{dite}
use native.Mathlib.Decide.{ℕ_discrete}
use lib.ListN.{get_elem?}
use Rattle.atomic_table.specs.Table.{State, opening}
use Rattle.jm_turn.specs.declared.view.Made.{Made}
use Rattle.jm_turn.specs.declared.view.View.{View}
use Rattle.jm_turn.specs.declared.view.Stage.TheVariants.{Idle, Holding}
use Rattle.jm_turn.specs.declared.view.Kind.TheVariants.{Opening}
use Rattle.jm_turn.specs.Turns.{places, Everyone}
use Rattle.jm_turn.specs.Views.{spent, newcomer}
use Rattle.jm_turn.specs.Rule.{total, tickets, counts, one_at, numbered, counted, ended_as, once_below, EndedOwn, Fits, Roster, Keyed}
use Rattle.jm_turn.specs.Steps.{since}
use Rattle.jm_turn.specs.Closing.{times, Accounts, StandsOnce}
use Rattle.jm_turn.proofs.Lists.{everyone_map, total_set, total_le, total_two}
use Rattle.jm_turn.proofs.Steps.{not_spent}
use Rattle.jm_turn.proofs.Parts.{first_seat, numbered_one, numbered_none}

eq_sym : (a b : ℕ) → (a == b) ≡ (b == a)
eq_sym a b = dite (ℕ_discrete a b) (λ (e : a ≡ b). eq-eqb a b e ∙ sym (eq-eqb b a (sym e))) (λ (n : a ≢ b). ne_eqb a b n ∙ sym (ne_eqb b a (λ (e : b ≡ a). n (sym e))))

one_self : (k : ℕ) → one_at k k ≡ 1
one_self k = rw (eq-eqb k k refl) refl

one_other : (k i : ℕ) → i ≢ k → one_at k i ≡ 0
one_other k i n = rw (ne_eqb i k n) refl

once_here : (n next : ℕ) → n < next → once_below n next ≡ 1
once_here n next l = cases (nat_lt n next) refl
  where
    cases : (b : Bool) → nat_lt n next ≡ b → once_below n next ≡ 1
    cases true t = rw t refl
    cases false t = absurd (grind (arith, nat_tests))

module _ {C : Type 0} where
  times_step : (n k base : ℕ) (m : Made C) (ms : List (Made C)) → times k (places n base (m ∷ ms)) ≡ (if m.by == n then one_at k base else 0) + times k (places n (base + 1) ms)
  times_step n k base m ms = cases (m.by == n) refl
    where
      cases : (b : Bool) → (m.by == n) ≡ b → times k (places n base (m ∷ ms)) ≡ (if m.by == n then one_at k base else 0) + times k (places n (base + 1) ms)
      cases true t = rw t refl
      cases false t = rw t (omega arith)

  -- no place stands before the first
  times_none : (n k base : ℕ) (ms : List (Made C)) → k < base → times k (places n base ms) ≡ 0
  times_none n k base [] l = refl
  times_none n k base (m ∷ ms) l =
      let z : one_at k base ≡ 0 = one_other k base (λ (e : base ≡ k). omega arith) in
      let c : (if m.by == n then one_at k base else 0) ≡ 0 = cond_none (m.by == n) (one_at k base) z in
      let s = times_step n k base m ms in let h = times_none n k (base + 1) ms (omega arith) in omega arith
    where
      cond_none : (b : Bool) (x : ℕ) → x ≡ 0 → (if b then x else 0) ≡ 0
      cond_none true x e = e
      cond_none false x e = refl

  -- a place stands among those of the pass whose turn it is, once
  times_at : (n k base : ℕ) (ms : List (Made C)) (m : Made C) → get_elem? ms k ≡ some m → times (base + k) (places n base ms) ≡ one_at m.by n
  times_at n k base [] m e = absurd (some-ne-none m (sym e))
  times_at n zero base (x ∷ ms) m e =
      let same : x ≡ m = some-injective x m e in
      let b : base + zero ≡ base = omega arith in
      let one : one_at (base + zero) base ≡ 1 = ap (λ (k : ℕ). one_at k base) b ∙ one_self base in
      let c : (if x.by == n then one_at (base + zero) base else 0) ≡ one_at m.by n =
      ap (λ (k : ℕ). if x.by == n then k else 0) one ∙ (ap (λ (z : Made C). if z.by == n then 1 else 0) same ∙ ap (λ (t : Bool). if t then 1 else 0) (eq_sym m.by n)) in
      let s = times_step n (base + zero) base x ms in let z = times_none n (base + zero) (base + 1) ms (omega arith) in omega arith
  times_at n (suc k) base (x ∷ ms) m e =
      let i : base + suc k ≡ (base + 1) + k = omega arith in
      let zero_is : one_at (base + suc k) base ≡ 0 = one_other (base + suc k) base (λ (q : base ≡ base + suc k). omega arith) in
      let c : (if x.by == n then one_at (base + suc k) base else 0) ≡ 0 = ap (λ (z : ℕ). if x.by == n then z else 0) zero_is ∙ cond_zero (x.by == n) 0 in
      let s = times_step n (base + suc k) base x ms in
      let h : times (base + suc k) (places n (base + 1) ms) ≡ one_at m.by n = ap (λ (z : ℕ). times z (places n (base + 1) ms)) i ∙ times_at n k (base + 1) ms m e in
      omega arith
    where
      cond_zero : (b : Bool) (x : ℕ) → (if b then x else x) ≡ x
      cond_zero true x = refl
      cond_zero false x = refl

  at_exists : (l : List (Made C)) (i : ℕ) → i < length l → (x : Made C) × (get_elem? l i ≡ some x)
  at_exists [] i h = absurd (omega arith)
  at_exists (x ∷ xs) zero h = (x, refl)
  at_exists (x ∷ xs) (suc i) h = at_exists xs i (omega arith)

  everyone_at : (P : ℕ → Type 0) (ms : List (Made C)) (k : ℕ) (m : Made C) → Everyone P ms → get_elem? ms k ≡ some m → P m.by
  everyone_at P [] k m h e = absurd (some-ne-none m (sym e))
  everyone_at P (x ∷ ms) zero m h e = subst (λ (z : Made C). P z.by) (some-injective x m e) h.0
  everyone_at P (x ∷ ms) (suc k) m h e = everyone_at P ms k m h.1 e

  times_ended : (log : List (Made C)) (k : ℕ) (m : Made C) → get_elem? log k ≡ some m → (es : List (ℕ × List ℕ)) → EndedOwn log es → total (λ (e : ℕ × List ℕ). times k e.1) es ≡ total (ended_as m.by) es
  times_ended log k m at [] h = refl
  times_ended log k m at (e ∷ es) h =
      let one : times k e.1 ≡ one_at m.by e.0 = ap (times k) h.0 ∙ (ap (λ (z : ℕ). times z (places e.0 0 log)) (let q : k ≡ 0 + k = omega arith in q) ∙ times_at e.0 k 0 log m at) in
      let rest = times_ended log k m at es h.1 in omega arith

module _ {T C : Type 0} where
  numbered_few : (n : ℕ) (v : View T C) → numbered n v ≤ counted v
  numbered_few n v = cond_few (v.number == n) (counts v.kind)
    where
      cond_few : (b : Bool) (x : ℕ) → (if b then x else 0) ≤ x
      cond_few true x = omega arith
      cond_few false x = omega arith

  pub once_of : (v : View T C) → Accounts v → StandsOnce v
  once_of v a k l =
      let m = at_exists v.seen k l in
      let one : times k v.mine ≡ one_at m.0.by v.number = ap (times k) a.own ∙ (ap (λ (z : ℕ). times z (places v.number 0 v.seen)) (let q : k ≡ 0 + k = omega arith in q) ∙ times_at v.number k 0 v.seen m.0 m.1) in
      let es = times_ended v.seen k m.0 m.1 v.ended a.ended in
      let all : one_at m.0.by v.number + total (ended_as m.0.by) v.ended ≡ 1 = everyone_at (λ by. one_at by v.number + total (ended_as by) v.ended ≡ 1) v.seen k m.0 a.each m.1 in
      omega arith

  -- where one pass alone counts, it alone has its number
  numbered_alone : (n : ℕ) (views : List (View T C)) (v : View T C) → get_elem? views 0 ≡ some v → counts v.kind ≡ 1 → total counted views ≡ 1 → total (numbered n) views ≡ one_at n v.number
  numbered_alone n views v at c one =
      let gone : View T C = spent in
      let a = total_set counted views 0 v gone at in
      let b = total_set (numbered n) views 0 v gone at in
      let few = total_le (numbered n) counted (numbered_few n) (set views 0 gone) in
      let z = numbered_none n gone refl in
      let q = numbered_one n v c in
      omega arith

module _ {T C : Type 0} (stands : T → T → List (Made C) → Type 0) (first : T) where
  pub closes : (s : State (Option T) (View T C)) (h : Keyed stands first s) (id : ℕ) (v : View T C) → get_elem? s.views id ≡ some v → v.kind ≡ Opening → v.stage ≡ Idle → v.out ≡ 0
      → (x : T) × (get_elem? s.homes 0 ≡ some (some (Some x))) × (length s.homes ≡ 1) × since stands v.first x v.seen × Accounts v
  closes s h id v at opens idle none_out =
      let log : List (Made C) = h.0 in
      let place = first_seat log (h.1) s.views id v h.3 at opens in
      let r : Roster log v s.views = subst (λ (z : View T C). Roster log z s.views) place.1 h.3 in
      let c : counts v.kind ≡ 1 = ap counts opens in
      let f = h.2.each_seat id v at in
      let one : total counted s.views ≡ 1 = (let o = r.out in omega arith) in
      let alone : (j : ℕ) (u : View T C) → get_elem? s.views j ≡ some u → counts u.kind ≡ 1 → u ≡ v = (λ j u e d. dite (ℕ_discrete j 0)
      (λ (q : j ≡ 0). some-injective u v (sym e ∙ (ap (get_elem? s.views) q ∙ r.at)))
      (λ (n : j ≢ 0). let two = total_two counted s.views j 0 u v e r.at n in absurd (omega arith))) in
      let whole : v.seen ≡ log = ap (λ (z : View T C). z.seen) (sym (alone r.longest.0 r.longest.1 r.longest.2 r.longest.3)) ∙ r.longest.4 in
      let nobody : (j : ℕ) (u : View T C) → get_elem? s.views j ≡ some u → u.stage ≢ Holding = (λ j u e hold.
      let same = alone j u e (((h.2.each_seat j u e).waits (ap tickets hold)).0) in
      let both : Idle ≡ Holding = sym idle ∙ (ap (λ (z : View T C). z.stage) (sym same) ∙ hold) in
      absurd (cc)) in
      let home = h.2.home nobody in
      let each : Everyone (λ by. one_at by v.number + total (ended_as by) v.ended ≡ 1) log = everyone_map (λ by. by < v.next) (λ by. one_at by v.number + total (ended_as by) v.ended ≡ 1)
      (λ by l. let a = r.numbers by in let b = numbered_alone by s.views v r.at c one in let d = once_here by v.next l in omega arith) log r.named in (
        home.0,
        ap (λ (hs : List (mathlib.Core.Option.Option (Option T))). get_elem? hs 0) home.1,
        ap length home.1,
        subst (λ (z : Option T × List (Made C)). since stands z.0 (home.0) z.1) (λ i. (sym (f.given (not_spent v c)) i, sym whole i)) home.2,
        record {
          own = f.own c;
          ended = subst (λ (l : List (Made C)). EndedOwn l v.ended) (sym whole) r.ended;
          each = subst (Everyone (λ by. one_at by v.number + total (ended_as by) v.ended ≡ 1)) (sym whole) each;
        },
      )

  -- the table at the start
  pub starts : (items : List (Option T)) → items ≡ Some first ∷ [] → stands first first [] → Keyed stands first (opening (0 ∷ 0 ∷ []) items (newcomer first))
  starts items is good = (
    [],
    newcomer first,
    record {
      words = refl;
      legal = (first, good);
      each_seat = seats;
      apart = λ j k v w ej ek tv tw same. at_start j v ej ∙ sym (at_start k w ek);
      home = λ _. (first, ap (map some) is, good);
    },
    record {
      at = refl;
      opens = refl;
      alone = λ j v e _. at_start j v e;
      out = refl;
      few = omega arith;
      numbers = λ n. first_number n;
      named = tt;
      ended = tt;
      longest = (0, newcomer first, refl, refl, refl);
    },
  )
    where
      at_start : (j : ℕ) (v : View T C) → get_elem? (newcomer first ∷ []) j ≡ some v → j ≡ 0
      at_start zero v e = refl
      at_start (suc j) v e = absurd (some-ne-none v (sym e))

      fits : Fits first [] 0 (newcomer {T = T} {C = C} first)
      fits = record {
        given = λ _. refl;
        begins = ([], refl);
        others = λ _. ([], refl, tt);
        own = λ _. refl;
        before = ([], refl);
        told = ([], refl);
        waits = λ t. absurd (omega arith);
        holds = λ q. absurd (cc);
      }

      seats : (j : ℕ) (v : View T C) → get_elem? (newcomer first ∷ []) j ≡ some v → Fits first [] 0 v
      seats zero v e = subst (Fits first [] 0) (some-injective (newcomer first) v e) fits
      seats (suc j) v e = absurd (some-ne-none v (sym e))

      first_number : (n : ℕ) → ((if 0 == n then 1 else 0) + 0) + 0 ≡ once_below n 1
      first_number n = grind (arith, nat_tests)
