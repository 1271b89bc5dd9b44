-- Each step keeps the rule: split and join, with notes.
use Rattle.std.proofs.Common.{◌≡◌, ◌≢◌, ℕ, ◌+◌, ◌%◌, ◌<◌, ◌≤◌, Bool, true, false, List, [], ◌∷◌, ◌++◌, length, set, ◌==◌, if◌then◌else◌, Option, sym, refl, ap, ◌∙◌, subst, ⊎_elim, arith, length-append, append-nil}
use Rattle.std.proofs.lemmas.Bool.Decides.{nat_tests}
use mathlib.Core.Option.{some, some-injective}
use mathlib.Core.Logic.{dite}
use native.Mathlib.Decide.{ℕ_discrete}
use lib.ListN.{get_elem?}
use Rattle.atomic_table.specs.Table.{State, Splits, Joins}
use Rattle.atomic_table.proofs.Lists.{at_set, set_here, set_else, set_again, at_snoc, at_longer}
use Rattle.jm_turn.specs.declared.view.Made.{Made}
use Rattle.jm_turn.specs.declared.view.View.{View}
use Rattle.jm_turn.specs.declared.view.Stage.TheVariants.{Idle, Holding}
use Rattle.jm_turn.specs.declared.view.Kind.TheVariants.{Opening, Split, Note, Spent}
use Rattle.jm_turn.specs.Turns.{places, Everyone, AllOthers, Begins, longer}
use Rattle.jm_turn.specs.Views.{parted, part_of, note_of, learned, joined, spent}
use Rattle.jm_turn.specs.Rule.{total, tickets, counts, numbered, queued, counted, ended_as, once_below, Fits, Line, EndedOwn, Roster, Keyed}
use Rattle.jm_turn.proofs.Lists.{everyone_map, everyone_left, everyone_right, places_others, places_follow, longer_begins, follows_between, total_set, total_append, total_two, at_length}
use Rattle.jm_turn.proofs.Lines.{fits_wider, line_moved}
use Rattle.jm_turn.proofs.Rosters.{Alike, roster_moved, longest_kept}
use Rattle.jm_turn.proofs.Steps.{not_spent, nobody_before, line_still, alike_same}

-- one number more is given out
once_more : (n next : ℕ) → once_below n (next + 1) ≡ once_below n next + (if next == n then 1 else 0)
once_more n next = grind (arith, nat_tests)

cond_same : (b : Bool) (x : ℕ) → (if b then x else x) ≡ x
cond_same true x = refl
cond_same false x = refl

module _ {C : Type 0} where
  begins_both : (xs ys : List (Made C)) → Begins xs ys → Begins ys xs → xs ≡ ys
  begins_both xs ys f g = whole xs ys f.0 f.1 (omega (arith, ap length f.1, ap length g.1, length-append xs f.0, length-append ys g.0))
    where
      whole : (xs ys d : List (Made C)) → ys ≡ xs ++ d → length d ≡ 0 → xs ≡ ys
      whole xs ys [] e z = sym (e ∙ append-nil xs)
      whole xs ys (x ∷ d) e z = absurd (omega arith)

  -- the longer of two beginnings, one of which is the whole, is the whole
  longer_left : (log xs ys : List (Made C)) → Begins xs log → Begins ys log → xs ≡ log → longer xs ys ≡ log
  longer_left log xs ys f g e = let l = longer_begins log xs ys f g in begins_both (longer xs ys) log l.0 (subst (λ (z : List (Made C)). Begins z (longer xs ys)) e l.1)

  longer_right : (log xs ys : List (Made C)) → Begins xs log → Begins ys log → ys ≡ log → longer xs ys ≡ log
  longer_right log xs ys f g e = let l = longer_begins log xs ys f g in begins_both (longer xs ys) log l.0 (subst (λ (z : List (Made C)). Begins z (longer xs ys)) e l.2)

  ended_snoc : (log : List (Made C)) (es : List (ℕ × List ℕ)) (e : ℕ × List ℕ) → EndedOwn log es → e.1 ≡ places e.0 0 log → EndedOwn log (es ++ e ∷ [])
  ended_snoc log [] e h is = (is, tt)
  ended_snoc log (x ∷ es) e h is = (h.0, ended_snoc log es e h.1 is)

module _ {T C : Type 0} where
  pub numbered_none : (n : ℕ) (v : View T C) → counts v.kind ≡ 0 → numbered n v ≡ 0
  numbered_none n v c = ap (λ (k : ℕ). if v.number == n then k else 0) c ∙ cond_same (v.number == n) 0

  pub numbered_one : (n : ℕ) (v : View T C) → counts v.kind ≡ 1 → numbered n v ≡ (if v.number == n then 1 else 0)
  numbered_one n v c = ap (λ (k : ℕ). if v.number == n then k else 0) c

  -- a new view without a ticket comes last
  line_snoc : (first : T) (stands : T → List (Made C) → Type 0) (log : List (Made C)) (s : State (Option T) (View T C)) (w : View T C) → Line first stands log s → w.stage ≡ Idle → Fits first log (total queued s.views) w
      → Line first stands log record { words = s.words; homes = s.homes; views = s.views ++ w ∷ [] }
  line_snoc first stands log s w line idle fits =
      let q : queued w ≡ 0 = ap tickets idle in
      let n : total queued (s.views ++ w ∷ []) ≡ total queued s.views = (let t = total_append queued s.views (w ∷ []) in omega arith) in
      record {
        words = line.words ∙ ap (λ (k : ℕ). (length log + k) % 18446744073709551616 ∷ length log % 18446744073709551616 ∷ []) (sym n);
        legal = line.legal;
        each_seat = λ j u e. fits_wider first log (total queued s.views) (total queued (s.views ++ w ∷ [])) u (omega arith)
            (⊎_elim (λ (t : get_elem? s.views j ≡ some u). line.each_seat j u t) (λ (t : w ≡ u). subst (Fits first log (total queued s.views)) t fits) (at_snoc s.views w u j e));
        apart = λ j k x y ej ek tx ty same. ⊎_elim
            (λ (a : get_elem? s.views j ≡ some x). ⊎_elim
            (λ (b : get_elem? s.views k ≡ some y). line.apart j k x y a b tx ty same)
            (λ (b : w ≡ y). let z : tickets y.stage ≡ 0 = ap (λ (u : View T C). tickets u.stage) (sym b) ∙ q in absurd (omega arith))
            (at_snoc s.views w y k ek))
            (λ (a : w ≡ x). let z : tickets x.stage ≡ 0 = ap (λ (u : View T C). tickets u.stage) (sym a) ∙ q in absurd (omega arith))
            (at_snoc s.views w x j ej);
        home = λ nobody. line.home (λ j u e. nobody j u (at_longer s.views (w ∷ []) j u e));
      }

  -- a new view that is no pass of its own comes last
  roster_snoc : (log : List (Made C)) (o : View T C) (views : List (View T C)) (w : View T C) → Roster log o views → w.kind ≡ Note → Roster log o (views ++ w ∷ [])
  roster_snoc log o views w r note =
      let c : counts w.kind ≡ 0 = ap counts note in record {
        at = at_longer views (w ∷ []) 0 o r.at;
        opens = r.opens;
        alone = λ j u e k. ⊎_elim
            (λ (t : get_elem? views j ≡ some u). r.alone j u t k)
            (λ (t : w ≡ u). let both : Note ≡ Opening = sym note ∙ (ap (λ (z : View T C). z.kind) t ∙ k) in absurd (cc))
            (at_snoc views w u j e);
        out = (let t = total_append counted views (w ∷ []) in let h = r.out in omega arith);
        few = r.few;
        numbers = λ n. (let t = total_append (numbered n) views (w ∷ []) in let z = numbered_none n w c in let h = r.numbers n in omega arith);
        named = r.named;
        ended = r.ended;
        longest = (r.longest.0, r.longest.1, at_longer views (w ∷ []) r.longest.0 r.longest.1 r.longest.2, r.longest.3, r.longest.4);
      }

  -- the seat of the opening pass is the first, and its view is the roster's
  pub first_seat : (log : List (Made C)) (o : View T C) (views : List (View T C)) (id : ℕ) (v : View T C) → Roster log o views → get_elem? views id ≡ some v → v.kind ≡ Opening → (id ≡ 0) × (o ≡ v)
  first_seat log o views id v r at k =
      let z = r.alone id v at k in
      (z, some-injective o v (sym r.at ∙ (ap (get_elem? views) (sym z) ∙ at)))

  roster_split : (log : List (Made C)) (v : View T C) (views : List (View T C)) → Roster log v views → v.out < 4294967295 → Roster log (parted v) (set views 0 (parted v) ++ part_of v ∷ [])
  roster_split log v views r room =
      let left : View T C = parted v in
      let right : View T C = part_of v in
      let views' : List (View T C) = set views 0 left in
      record {
        at = at_longer views' (right ∷ []) 0 left (set_here views 0 left (at_length views 0 v r.at));
        opens = r.opens;
        alone = λ j u e k. ⊎_elim
            (λ (t : get_elem? views' j ≡ some u). ⊎_elim (λ (a : (j ≡ 0) × (left ≡ u)). a.0) (λ (a : (j ≢ 0) × (get_elem? views j ≡ some u)). r.alone j u a.1 k) (at_set views 0 j left u t))
            (λ (t : right ≡ u). let both : Split ≡ Opening = ap (λ (z : View T C). z.kind) t ∙ k in absurd (cc))
            (at_snoc views' right u j e);
        out = (let t = total_append counted views' (right ∷ []) in let x = total_set counted views 0 v left r.at in let h = r.out in omega arith);
        few = omega arith;
        numbers = λ n. (let t = total_append (numbered n) views' (right ∷ []) in let x = total_set (numbered n) views 0 v left r.at in let h = r.numbers n in let y = once_more n v.next in omega arith);
        named = everyone_map (λ by. by < v.next) (λ by. by < v.next + 1) (λ n l. omega arith) log r.named;
        ended = r.ended;
        longest = (let l = longest_kept log views 0 v left r.at (λ c e. (c, e)) r.longest in (l.0, l.1, at_longer views' (right ∷ []) l.0 l.1 l.2, l.3, l.4));
      }

  -- what v says where it has learned from w
  fits_learned : (first : T) (log : List (Made C)) (n m : ℕ) (v w : View T C) → v.stage ≡ Idle → Fits first log n v → Fits first log m w → Fits first log n (learned v w)
  fits_learned first log n m v w idle f g =
      let l = longer_begins log v.seen w.seen f.begins g.begins in record {
        given = f.given;
        begins = l.0;
        others = λ c. (follows_between v.number v.seen (longer v.seen w.seen) log (f.others c) l.1 l.0).1;
        own = λ c. f.own c ∙ sym (places_follow v.number v.seen (longer v.seen w.seen) (follows_between v.number v.seen (longer v.seen w.seen) log (f.others c) l.1 l.0).0);
        before = l.1;
        told = l.2;
        waits = f.waits;
        holds = λ h. (let both : Idle ≡ Holding = sym idle ∙ h in absurd (cc));
      }

  fits_joined : (first : T) (log : List (Made C)) (n : ℕ) (v w : View T C) → Fits first log n (learned v w) → Fits first log n (joined v w)
  fits_joined first log n v w f = record { given = f.given; begins = f.begins; others = f.others; own = f.own; before = f.before; told = f.told; waits = f.waits; holds = f.holds }

  fits_spent : (first : T) (log : List (Made C)) (n : ℕ) → Fits first log n spent
  fits_spent first log n = record {
    given = λ not. absurd (not refl);
    begins = (log, refl);
    others = λ c. absurd (omega arith);
    own = λ c. absurd (omega arith);
    before = ([], refl);
    told = ([], refl);
    waits = λ t. absurd (omega arith);
    holds = λ h. absurd (cc);
  }

  roster_join : (log : List (Made C)) (v w : View T C) (views : List (View T C)) (other : ℕ) → Roster log v views → get_elem? views other ≡ some w → w.kind ≡ Split → other ≢ 0
      → w.mine ≡ places w.number 0 log → (v.seen ≡ log → longer v.seen w.seen ≡ log) → (w.seen ≡ log → longer v.seen w.seen ≡ log)
      → Roster log (joined v w) (set (set views 0 (joined v w)) other spent)
  roster_join log v w views other r at split apart own left right =
      let both : View T C = joined v w in
      let half : List (View T C) = set views 0 both in
      let none_left : View T C = spent in
      let there : get_elem? half other ≡ some w = set_else views 0 other both apart ∙ at in
      let first : get_elem? half 0 ≡ some both = set_here views 0 both (at_length views 0 v r.at) in
      let apart' : 0 ≢ other = (λ (e : 0 ≡ other). apart (sym e)) in
      let cv : counts v.kind ≡ 1 = ap counts r.opens in
      let cw : counts w.kind ≡ 1 = ap counts split in
      let out : total counted (set half other none_left) + 1 ≡ total counted views = (let x = total_set counted views 0 v both r.at in let y = total_set counted half other w none_left there in omega arith) in
      let two : 2 ≤ total counted views = (let t = total_two counted views 0 other v w r.at at apart' in omega arith) in
      let all = r.out in
      record {
        at = set_else half other 0 none_left apart' ∙ first;
        opens = r.opens;
        alone = λ j u e k. ⊎_elim
            (λ (t : (j ≡ other) × (none_left ≡ u)). let two : Spent ≡ Opening = ap (λ (z : View T C). z.kind) t.1 ∙ k in absurd (cc))
            (λ (t : (j ≢ other) × (get_elem? half j ≡ some u)). ⊎_elim (λ (a : (j ≡ 0) × (both ≡ u)). a.0) (λ (a : (j ≢ 0) × (get_elem? views j ≡ some u)). r.alone j u a.1 k) (at_set views 0 j both u t.1))
            (at_set half other j none_left u e);
        out = omega arith;
        few = (let h = r.few in omega arith);
        numbers = λ n.
            (let x = total_set (numbered n) views 0 v both r.at in let y = total_set (numbered n) half other w none_left there in
            let z = numbered_one n w cw in let q = numbered_none n none_left refl in
            let t = total_append (ended_as n) v.ended ((w.number, w.mine) ∷ []) in let h = r.numbers n in omega arith);
        named = r.named;
        ended = ended_snoc log v.ended (w.number, w.mine) r.ended own;
        longest = dite (ℕ_discrete r.longest.0 other)
            (λ (e : r.longest.0 ≡ other).
            let same : r.longest.1 ≡ w = some-injective (r.longest.1) w (sym r.longest.2 ∙ (ap (get_elem? views) e ∙ at)) in
            (0, both, set_else half other 0 none_left apart' ∙ first, cv, right (ap (λ (z : View T C). z.seen) (sym same) ∙ r.longest.4)))
            (λ (n : r.longest.0 ≢ other).
            let l = longest_kept log views 0 v both r.at (λ c e. (c, left e)) r.longest in
            dite (ℕ_discrete l.0 other)
            (λ (e : l.0 ≡ other).
            let same : l.1 ≡ w = some-injective (l.1) w (sym l.2 ∙ (ap (get_elem? half) e ∙ there)) in
            (0, both, set_else half other 0 none_left apart' ∙ first, cv, right (ap (λ (z : View T C). z.seen) (sym same) ∙ l.4)))
            (λ (m : l.0 ≢ other). (l.0, l.1, set_else half other l.0 none_left m ∙ l.2, l.3, l.4)));
      }

module _ {T C : Type 0} (stands : T → T → List (Made C) → Type 0) (first : T) where
  pub splits_note : (id : ℕ) (v : View T C) → counts v.kind ≡ 1 → Splits (Keyed stands first) id v v (note_of v)
  splits_note id v c s h at =
      let f = h.2.each_seat id v at in
      let w : View T C = note_of v in
      let fits : Fits first (h.0) (total queued s.views) w = record {
        given = λ _. f.given (not_spent v c);
        begins = f.begins;
        others = λ d. absurd (omega arith);
        own = λ d. absurd (omega arith);
        before = (v.seen, refl);
        told = (v.seen, refl);
        waits = λ t. absurd (omega arith);
        holds = λ q. absurd (cc);
      } in
      let k : Keyed stands first record { words = s.words; homes = s.homes; views = s.views ++ w ∷ [] } =
      (h.0, h.1, line_snoc first (stands first) (h.0) s w h.2 refl fits, roster_snoc (h.0) (h.1) s.views w h.3 refl) in
      subst (λ (vs : List (View T C)). Keyed stands first record { words = s.words; homes = s.homes; views = vs ++ w ∷ [] }) (sym (set_again s.views id v at)) k

  pub splits_part : (id : ℕ) (v : View T C) → v.kind ≡ Opening → v.out < 4294967295 → Splits (Keyed stands first) id v (parted v) (part_of v)
  splits_part id v opens room s h at =
      let log : List (Made C) = h.0 in
      let place = first_seat log (h.1) s.views id v h.3 at opens in
      let r : Roster log v s.views = subst (λ (z : View T C). Roster log z s.views) place.1 h.3 in
      let c : counts v.kind ≡ 1 = ap counts opens in
      let f = h.2.each_seat id v at in
      let left : View T C = parted v in
      let right : View T C = part_of v in
      let kept : Fits first log (total queued s.views) left = record { given = f.given; begins = f.begins; others = f.others; own = f.own; before = f.before; told = f.told; waits = f.waits; holds = f.holds } in
      let half = line_still first (stands first) log s id v left h.2 at refl refl kept in
      let nobody : (ms : List (Made C)) → Everyone (λ by. by < v.next) ms → AllOthers v.next ms = (λ ms e. everyone_map (λ by. by < v.next) (λ by. by ≢ v.next) (λ n l q. omega arith) ms e) in
      let none_all : AllOthers v.next (v.seen ++ f.begins.0) = subst (AllOthers v.next) f.begins.1 (nobody log r.named) in
      let fits : (n : ℕ) → Fits first log n right = (λ n. record {
        given = λ _. f.given (not_spent v c);
        begins = f.begins;
        others = λ _. (f.begins.0, f.begins.1, everyone_right (λ by. by ≢ v.next) v.seen f.begins.0 none_all);
        own = λ _. sym (places_others v.next 0 v.seen (everyone_left (λ by. by ≢ v.next) v.seen f.begins.0 none_all));
        before = (v.seen, refl);
        told = (v.seen, refl);
        waits = λ t. absurd (omega arith);
        holds = λ q. absurd (cc);
      }) in
      let line = line_snoc first (stands first) log record { words = s.words; homes = s.homes; views = set s.views id left } right half refl (fits (total queued (set s.views id left))) in
      let r' : Roster log left (set s.views id left ++ right ∷ []) = subst (λ (i : ℕ). Roster log left (set s.views i left ++ right ∷ [])) (sym place.0) (roster_split log v s.views r room) in
      (log, left, line, r')

  -- a view without a ticket has been spent
  line_gone : (log : List (Made C)) (s : State (Option T) (View T C)) (other : ℕ) (w : View T C) → Line first (stands first) log s → get_elem? s.views other ≡ some w → w.stage ≡ Idle
      → Line first (stands first) log record { words = s.words; homes = s.homes; views = set s.views other spent }
  line_gone log s other w line at idle =
      let gone : View T C = spent in
      let q : queued w ≡ 0 = ap tickets idle in
      let n : total queued (set s.views other gone) ≡ total queued s.views = (let t = total_set queued s.views other w gone at in omega arith) in
      line_moved first (stands first) log log s s.words s.homes other w gone line at
      (line.words ∙ ap (λ (k : ℕ). (length log + k) % 18446744073709551616 ∷ length log % 18446744073709551616 ∷ []) (sym n))
      line.legal
      (fits_spent first log (total queued (set s.views other gone)))
      (λ j u _ _ g. fits_wider first log (total queued s.views) (total queued (set s.views other gone)) u (omega arith) g)
      (λ t. absurd (omega arith))
      (λ nobody. line.home (nobody_before s.views other w gone at (λ h. (let both : Idle ≡ Holding = sym idle ∙ h in absurd (cc))) nobody))

  -- the words, the tickets and the slot, where one pass has joined another
  line_join : (log : List (Made C)) (s : State (Option T) (View T C)) (id other : ℕ) (v w both : View T C) → Line first (stands first) log s → get_elem? s.views id ≡ some v → both.stage ≡ v.stage → both.ticket ≡ v.ticket
      → get_elem? (set s.views id both) other ≡ some w → w.stage ≡ Idle → Fits first log (total queued s.views) both
      → Line first (stands first) log record { words = s.words; homes = s.homes; views = set (set s.views id both) other spent }
  line_join log s id other v w both line at stage ticket there idle fits =
      let half = line_still first (stands first) log s id v both line at stage ticket fits in
      line_gone log record { words = s.words; homes = s.homes; views = set s.views id both } other w half there idle

  pub joins_part : (id other : ℕ) (v w : View T C) → v.kind ≡ Opening → w.kind ≡ Split → v.stage ≡ Idle → w.stage ≡ Idle → Joins (Keyed stands first) id v other w (joined v w) spent
  joins_part id other v w opens split idle idle' s h at apart there =
      let log : List (Made C) = h.0 in
      let place = first_seat log (h.1) s.views id v h.3 at opens in
      let r : Roster log v s.views = subst (λ (z : View T C). Roster log z s.views) place.1 h.3 in
      let at' : get_elem? s.views other ≡ some w = sym (set_else s.views id other (joined v w) apart) ∙ there in
      let f = h.2.each_seat id v at in
      let g = h.2.each_seat other w at' in
      let c : counts w.kind ≡ 1 = ap counts split in
      let fits = fits_joined first log (total queued s.views) v w (fits_learned first log (total queued s.views) (total queued s.views) v w idle f g) in
      let line = line_join log s id other v w (joined v w) h.2 at refl refl there idle' fits in
      let r' = roster_join log v w s.views other r at' split (λ (e : other ≡ 0). apart (e ∙ sym place.0)) (g.own c ∙ sym (places_follow w.number w.seen log (g.others c)))
      (longer_left log v.seen w.seen f.begins g.begins) (longer_right log v.seen w.seen f.begins g.begins) in
      (log, joined v w, line, subst (λ (i : ℕ). Roster log (joined v w) (set (set s.views i (joined v w)) other spent)) (sym place.0) r')

  pub joins_note : (id other : ℕ) (v w : View T C) → counts v.kind ≡ 1 → w.kind ≡ Note → v.stage ≡ Idle → w.stage ≡ Idle → Joins (Keyed stands first) id v other w (learned v w) spent
  joins_note id other v w c note idle idle' s h at apart there =
      let log : List (Made C) = h.0 in
      let both : View T C = learned v w in
      let at' : get_elem? s.views other ≡ some w = sym (set_else s.views id other both apart) ∙ there in
      let f = h.2.each_seat id v at in
      let g = h.2.each_seat other w at' in
      let line = line_join log s id other v w both h.2 at refl refl there idle' (fits_learned first log (total queued s.views) (total queued s.views) v w idle f g) in
      let half = roster_moved log log (h.1) s.views id v both h.3 at (alike_same v both refl refl refl refl refl) h.3.named h.3.ended
      (longest_kept log s.views id v both at (λ d e. (d, longer_left log v.seen w.seen f.begins g.begins e)) h.3.longest) in
      let r = half.1 in
      let none_left : View T C = spent in
      let gone : Alike w none_left = record {
        counts_same = sym (ap counts note);
        numbers = λ n. numbered_none n none_left refl ∙ sym (numbered_none n w (ap counts note));
        opening = λ q. absurd (cc);
        still = λ q. (let two : Note ≡ Opening = sym note ∙ q in absurd (cc));
      } in
      let r' = roster_moved log log (half.0) (set s.views id both) other w none_left r there gone r.named r.ended
      (longest_kept log (set s.views id both) other w none_left there (λ d e. (let z : counts w.kind ≡ 0 = ap counts note in absurd (omega arith))) r.longest) in
      (log, r'.0, line, r'.1)
