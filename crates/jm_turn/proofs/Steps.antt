-- Each step keeps the rule: draw, look, take and commit.
use Rattle.std.proofs.Common.{◌≡◌, ◌≢◌, ℕ, suc, ◌==◌, if◌then◌else◌, ◌+◌, ◌%◌, ◌^◌, ◌<◌, ◌≤◌, List, [], ◌∷◌, ◌++◌, length, set, get_or, Option, Some, sym, refl, ap, ◌∙◌, subst, arith, length-append, append-nil}
use Rattle.std.specs.Prelude.{slice_index}
use mathlib.Core.Option.{some, none, some-injective, some-ne-none}
use mathlib.Core.Logic.{dite}
use native.Mathlib.Decide.{ℕ_discrete}
use lib.ListN.{get_elem?}
use lib.Seq.{set-get_or}
use Rattle.atomic_table.specs.Table.{State, Me, step, Allows, keeps, takes, gives, put_back}
use Rattle.atomic_table.proofs.Lists.{set_here, set_else, one_turn}
use Rattle.jm_turn.specs.declared.view.Made.{Made}
use Rattle.jm_turn.specs.declared.view.View.{View}
use Rattle.jm_turn.specs.declared.view.Stage.{Stage}
use Rattle.jm_turn.specs.declared.view.Stage.TheVariants.{Idle, Waiting, Holding}
use Rattle.jm_turn.specs.declared.view.Kind.TheVariants.{Spent}
use Rattle.jm_turn.specs.Turns.{made, Everyone}
use Rattle.jm_turn.specs.Views.{drew, saw, took, gave}
use Rattle.jm_turn.specs.Rule.{total, tickets, counts, queued, counted, Fits, Line, Roster, Keyed}
use Rattle.jm_turn.specs.Steps.{since, Sees, Finds, Draws, Looks, Takes, Commits}
use Rattle.jm_turn.proofs.Lists.{everyone_both, places_own, places_follow, begins_refl, begins_trans, follows_refl, total_set, at_length, sole, one_more}
use Rattle.jm_turn.proofs.Lines.{fits_wider, fits_push, line_moved}
use Rattle.jm_turn.proofs.Rosters.{Alike, number_of, number_apart, roster_moved, longest_kept, ended_push}

few_tickets : (st : Stage) (n : ℕ) → (tickets st ≡ 1 → n ≡ 1) → tickets st ≤ n
few_tickets Idle n f = omega arith
few_tickets Waiting n f = let e = f refl in omega arith
few_tickets Holding n f = let e = f refl in omega arith

module _ {A : Type 0} where
  total_at : (f g : A → ℕ) (l : List A) → ((i : ℕ) (x : A) → get_elem? l i ≡ some x → f x ≤ g x) → total f l ≤ total g l
  total_at f g [] h = omega arith
  total_at f g (x ∷ xs) h = let a = h 0 x refl in let b = total_at f g xs (λ i y e. h (suc i) y e) in omega arith

module _ {T C : Type 0} where
  -- the pass can't be spent
  pub not_spent : (v : View T C) → counts v.kind ≡ 1 → v.kind ≢ Spent
  not_spent v c e = let z : counts v.kind ≡ 0 = ap counts e in absurd (omega arith)

  -- at most as many tickets are out as there are passes
  pub tickets_few : (first : T) (stands : T → List (Made C) → Type 0) (log : List (Made C)) (o : View T C) (s : State (Option T) (View T C)) → Line first stands log s → Roster log o s.views → total queued s.views ≤ 4294967296
  tickets_few first stands log o s line r =
      let l = total_at queued counted s.views (λ i x e. few_tickets x.stage (counts x.kind) (λ t. ((line.each_seat i x e).waits t).0)) in
      let h = r.out in let k = r.few in omega arith

  -- who has the value afterwards had it before, or another has it
  pub nobody_before : (views : List (View T C)) (id : ℕ) (v w : View T C) → get_elem? views id ≡ some v → (v.stage ≡ Holding → w.stage ≡ Holding)
      → ((j : ℕ) (u : View T C) → get_elem? (set views id w) j ≡ some u → u.stage ≢ Holding) → (j : ℕ) (u : View T C) → get_elem? views j ≡ some u → u.stage ≢ Holding
  nobody_before views id v w at still nobody j u e hold = dite (ℕ_discrete j id)
      (λ (q : j ≡ id).
      let same : u ≡ v = some-injective u v (sym e ∙ (ap (get_elem? views) q ∙ at)) in
      nobody id w (set_here views id w (at_length views id v at)) (still (ap (λ (z : View T C). z.stage) (sym same) ∙ hold)))
      (λ (n : j ≢ id). nobody j u (set_else views id j w n ∙ e) hold)

  -- a view has changed in which no ticket and no value lies, nor did words or slot
  pub line_still : (first : T) (stands : T → List (Made C) → Type 0) (log : List (Made C)) (s : State (Option T) (View T C)) (id : ℕ) (v w : View T C)
      → Line first stands log s → get_elem? s.views id ≡ some v → w.stage ≡ v.stage → w.ticket ≡ v.ticket → Fits first log (total queued s.views) w
      → Line first stands log record { words = s.words; homes = s.homes; views = set s.views id w }
  line_still first stands log s id v w line at stage ticket fits =
      let q : queued w ≡ queued v = ap tickets stage in
      let n : total queued (set s.views id w) ≡ total queued s.views = (let t = total_set queued s.views id v w at in omega arith) in
      line_moved first stands log log s s.words s.homes id v w line at
      (line.words ∙ ap (λ (k : ℕ). (length log + k) % 18446744073709551616 ∷ length log % 18446744073709551616 ∷ []) (sym n))
      line.legal
      (fits_wider first log (total queued s.views) (total queued (set s.views id w)) w (omega arith) fits)
      (λ j u _ _ g. fits_wider first log (total queued s.views) (total queued (set s.views id w)) u (omega arith) g)
      (λ t j u other e tu same. absurd (other (sym (line.apart id j v u at e (sym q ∙ t) tu (sym ticket ∙ same)))))
      (λ nobody. line.home (nobody_before s.views id v w at (λ h. stage ∙ h) nobody))

  -- a view that has the same kind, number and accounts
  pub alike_same : (v w : View T C) → w.kind ≡ v.kind → w.number ≡ v.number → w.next ≡ v.next → w.out ≡ v.out → w.ended ≡ v.ended → Alike v w
  alike_same v w k n x o e = record {
    counts_same = ap counts k;
    numbers = λ i. λ p. if (n p) == i then counts (k p) else 0;
    opening = λ q. sym k ∙ q;
    still = λ q. (k ∙ q, x, o, e);
  }

module _ {T C : Type 0} (stands : T → T → List (Made C) → Type 0) (first : T) where
  given_since : (v : View T C) (x : T) (log : List (Made C)) → v.first ≡ Some first → stands first x log → since stands v.first x log
  given_since v x log g h = subst (λ (f : Option T). since stands f x log) (sym g) h

  -- what a pass may see
  pub sees : (s : State (Option T) (View T C)) (h : Keyed stands first s) (id : ℕ) (v : View T C) → get_elem? s.views id ≡ some v → counts v.kind ≡ 1 → Sees stands v (h.0)
  sees s h id v at c =
      let f = h.2.each_seat id v at in
      record {
        more = f.others c;
        legal = (h.2.legal.0, given_since v (h.2.legal.0) (h.0) (f.given (not_spent v c)) h.2.legal.1);
        own = f.own c ∙ sym (places_follow v.number v.seen (h.0) (f.others c));
        named = λ k.
            let zero_is : id ≡ 0 = h.3.alone id v at k in
            let same : h.1 ≡ v = some-injective (h.1) v (sym h.3.at ∙ (ap (get_elem? s.views) (sym zero_is) ∙ at)) in
            subst (λ (z : View T C). (v.number < z.next) × Everyone (λ by. by < z.next) (h.0)) same ((number_of (h.0) (h.1) s.views id v h.3 at c).0, h.3.named);
      }

  finds : (s : State (Option T) (View T C)) (h : Keyed stands first s) (id : ℕ) (v : View T C) → get_elem? s.views id ≡ some v → counts v.kind ≡ 1 → Finds stands v (h.0)
  finds s h id v at c =
      let f = h.2.each_seat id v at in
      record {
        sees = sees s h id v at c;
        before = begins_trans v.before v.seen (h.0) f.before f.begins;
        told = begins_trans v.told v.seen (h.0) f.told f.begins;
      }

  -- the rule, where a pass has seen the whole history
  looked : (s : State (Option T) (View T C)) (h : Keyed stands first s) (id : ℕ) (v : View T C) → get_elem? s.views id ≡ some v → counts v.kind ≡ 1
      → Keyed stands first record { words = set s.words 1 (get_or s.words 1 0); homes = s.homes; views = set s.views id (saw (h.0) v) }
  looked s h id v at c =
      let log : List (Made C) = h.0 in
      let w : View T C = saw log v in
      let f = h.2.each_seat id v at in
      let k = finds s h id v at c in
      let fits : Fits first log (total queued s.views) w = record {
        given = f.given;
        begins = begins_refl log;
        others = λ _. follows_refl v.number log;
        own = λ _. k.sees.own;
        before = k.before;
        told = k.told;
        waits = f.waits;
        holds = λ q. ((f.holds q).0, refl);
      } in
      let line = line_still first (stands first) log s id v w h.2 at refl refl fits in
      let r = roster_moved log log (h.1) s.views id v w h.3 at (alike_same v w refl refl refl refl refl) h.3.named h.3.ended (longest_kept log s.views id v w at (λ d _. (d, refl)) h.3.longest) in
      subst (λ (ws : List ℕ). Keyed stands first record { words = ws; homes = s.homes; views = set s.views id w }) (sym (set-get_or s.words 1 0)) (log, r.0, line, r.1)

  pub looks : (slots id : ℕ) (m : Me (Option T) (View T C)) → counts m.0.kind ≡ 1 → Allows (Keyed stands first) slots id m 1 (λ n. n) (Looks stands (step 0 0 0 0 none) m)
  looks slots id m c s h long at below =
      let w : View T C = saw (h.0) m.0 in
      let f = h.2.each_seat id m.0 at in
      let found : slice_index s.words 1 ≡ length (h.0) % 18446744073709551616 = ap (λ (ws : List ℕ). slice_index ws 1) h.2.words in
      (w, keeps, tt, looked s h id m.0 at c, (refl, finds s h id m.0 at c, found, λ q. sym (f.holds q).1))

  pub draws : (slots id : ℕ) (m : Me (Option T) (View T C)) → counts m.0.kind ≡ 1 → m.0.stage ≡ Idle
      → Allows (Keyed stands first) slots id m 0 (λ n. (n + 1) % 2 ^ 64) (Draws (step 0 0 0 0 none) m)
  draws slots id m c idle s h long at below =
      let log : List (Made C) = h.0 in
      let line = h.2 in
      let v : View T C = m.0 in
      let n : ℕ = total queued s.views in
      let ticket : ℕ = length log + n in
      let w : View T C = drew ticket v in
      let f = line.each_seat id v at in
      let no_ticket : queued v ≡ 0 = ap tickets idle in
      let more : total queued (set s.views id w) ≡ n + 1 = (let t = total_set queued s.views id v w at in omega arith) in
      let found : slice_index s.words 0 ≡ ticket % 18446744073709551616 = ap (λ (ws : List ℕ). slice_index ws 0) line.words in
      let words : set s.words 0 ((slice_index s.words 0 + 1) % 2 ^ 64) ≡ (length log + total queued (set s.views id w)) % 18446744073709551616 ∷ length log % 18446744073709551616 ∷ [] =
      ap (λ (ws : List ℕ). set ws 0 ((slice_index ws 0 + 1) % 2 ^ 64)) line.words
      ∙ ap (λ (k : ℕ). k ∷ length log % 18446744073709551616 ∷ []) (one_more ticket (length log + total queued (set s.views id w)) (omega arith)) in
      let fits : Fits first log (total queued (set s.views id w)) w = record {
        given = f.given;
        begins = f.begins;
        others = f.others;
        own = f.own;
        before = f.before;
        told = f.told;
        waits = λ _. (c, (omega arith), (omega arith));
        holds = λ q. absurd (cc);
      } in
      let line' = line_moved first (stands first) log log s (set s.words 0 ((slice_index s.words 0 + 1) % 2 ^ 64)) s.homes id v w line at words line.legal fits
      (λ j u _ _ g. fits_wider first log n (total queued (set s.views id w)) u (omega arith) g)
      (λ _ j u other e tu same. let x : u.ticket < length log + n = ((line.each_seat j u e).waits tu).2 in let same' : ticket ≡ u.ticket = same in absurd (omega arith))
      (λ nobody. line.home (nobody_before s.views id v w at (λ q. absurd (cc)) nobody)) in
      let r = roster_moved log log (h.1) s.views id v w h.3 at (alike_same v w refl refl refl refl refl) h.3.named h.3.ended (longest_kept log s.views id v w at (λ d e. (d, e)) h.3.longest) in
      (w, keeps, tt, (log, r.0, line', r.1), (ticket, found, refl))

  -- the turn of the pass has come
  came : (slots id : ℕ) (m : Me (Option T) (View T C)) → counts m.0.kind ≡ 1 → m.0.stage ≡ Waiting → (s : State (Option T) (View T C)) (h : Keyed stands first s) → get_elem? s.views id ≡ some m.0
      → slice_index s.words 1 ≡ m.0.ticket % 18446744073709551616
      → (x : T) × (get_elem? s.homes 0 ≡ some (some (Some x))) × Keyed stands first record { words = set s.words 1 (get_or s.words 1 0); homes = set s.homes 0 none; views = set s.views id (took (h.0) m.0) } × since stands m.0.first x (h.0)
  came slots id m c waiting s h at is =
      let log : List (Made C) = h.0 in
      let line = h.2 in
      let v : View T C = m.0 in
      let w : View T C = took log v in
      let f = line.each_seat id v at in
      let k = finds s h id v at c in
      let mine : tickets v.stage ≡ 1 = ap tickets waiting in
      let range = f.waits mine in
      let few = tickets_few first (stands first) log (h.1) s line h.3 in
      let found : slice_index s.words 1 ≡ length log % 18446744073709551616 = ap (λ (ws : List ℕ). slice_index ws 1) line.words in
      let low : length log ≤ v.ticket = range.1 in
      let high : v.ticket < length log + total queued s.views = range.2 in
      let turn : length log ≡ v.ticket = one_turn (length log) v.ticket 18446744073709551616 low (omega arith) (sym found ∙ is) in
      let nobody : (j : ℕ) (u : View T C) → get_elem? s.views j ≡ some u → u.stage ≢ Holding = (λ j u e hold.
      let q : j ≡ id = line.apart j id u v e at (ap tickets hold) mine (((line.each_seat j u e).holds hold).0 ∙ turn) in
      let same : u ≡ v = some-injective u v (sym e ∙ (ap (get_elem? s.views) q ∙ at)) in
      let both : Waiting ≡ Holding = sym waiting ∙ (ap (λ (z : View T C). z.stage) (sym same) ∙ hold) in
      absurd (cc)) in
      let home = line.home nobody in
      let q : queued w ≡ queued v = sym mine in
      let n : total queued (set s.views id w) ≡ total queued s.views = (let t = total_set queued s.views id v w at in omega arith) in
      let fits : Fits first log (total queued (set s.views id w)) w = record {
        given = f.given;
        begins = begins_refl log;
        others = λ _. follows_refl v.number log;
        own = λ _. k.sees.own;
        before = k.before;
        told = k.told;
        waits = λ _. (c, low, (omega arith));
        holds = λ _. (sym turn, refl);
      } in
      let line' = line_moved first (stands first) log log s (set s.words 1 (get_or s.words 1 0)) (set s.homes 0 none) id v w line at
      (set-get_or s.words 1 0 ∙ (line.words ∙ ap (λ (i : ℕ). (length log + i) % 18446744073709551616 ∷ length log % 18446744073709551616 ∷ []) (sym n)))
      line.legal
      fits
      (λ j u _ _ g. fits_wider first log (total queued s.views) (total queued (set s.views id w)) u (omega arith) g)
      (λ _ j u other e tu same. absurd (other (sym (line.apart id j v u at e mine tu same))))
      (λ none_holds. absurd (none_holds id w (set_here s.views id w (at_length s.views id v at)) refl)) in
      let r = roster_moved log log (h.1) s.views id v w h.3 at (alike_same v w refl refl refl refl refl) h.3.named h.3.ended (longest_kept log s.views id v w at (λ d _. (d, refl)) h.3.longest) in
      (home.0, ap (λ (hs : List (mathlib.Core.Option.Option (Option T))). get_elem? hs 0) home.1, (log, r.0, line', r.1), given_since v (home.0) log (f.given (not_spent v c)) home.2)

  pub takes_turn : (slots id : ℕ) (m : Me (Option T) (View T C)) → counts m.0.kind ≡ 1 → m.0.stage ≡ Waiting → Allows (Keyed stands first) slots id m 1 (λ n. n) (Takes stands (step 0 0 0 0 none) m)
  takes_turn slots id m c waiting s h long at below = dite (ℕ_discrete (slice_index s.words 1) (m.0.ticket % 18446744073709551616))
      (λ (is : slice_index s.words 1 ≡ m.0.ticket % 18446744073709551616).
      let t = came slots id m c waiting s h at is in
      (took (h.0) m.0, takes 0 (Some (t.0)), t.1, t.2, ((λ _. (t.0, refl, finds s h id m.0 at c, t.3)), (λ other. absurd (other is)))))
      (λ (other : slice_index s.words 1 ≢ m.0.ticket % 18446744073709551616).
      (saw (h.0) m.0, keeps, tt, looked s h id m.0 at c, ((λ is. absurd (other is)), (λ _. (refl, finds s h id m.0 at c)))))

  pub commits : (slots id : ℕ) (m : Me (Option T) (View T C)) (what : C) (value : T) → counts m.0.kind ≡ 1 → m.0.stage ≡ Holding → slots ≡ 1 → m.1 ≡ (0, Some value) ∷ []
      → since stands m.0.first value (m.0.seen ++ made m.0.number what ∷ []) → Allows (Keyed stands first) slots id m 1 (λ n. (n + 1) % 2 ^ 64) (Commits what (step 0 0 0 0 none) m)
  commits slots id m what value c holding one hand legal s h long at below =
      let log : List (Made C) = h.0 in
      let line = h.2 in
      let v : View T C = m.0 in
      let w : View T C = gave what v in
      let log' : List (Made C) = log ++ made v.number what ∷ [] in
      let f = line.each_seat id v at in
      let mine : tickets v.stage ≡ 1 = ap tickets holding in
      let here = f.holds holding in
      let all : v.seen ++ made v.number what ∷ [] ≡ log' = ap (λ (l : List (Made C)). l ++ made v.number what ∷ []) here.1 in
      let good : stands first value log' = subst (λ (z : Option T × List (Made C)). since stands z.0 value z.1) (λ i. (f.given (not_spent v c) i, all i)) legal in
      let fewer : total queued s.views ≡ total queued (set s.views id w) + 1 = (let t = total_set queued s.views id v w at in omega arith) in
      let l : length log' ≡ length log + 1 = omega (arith, length-append log (made v.number what ∷ [])) in
      let words : set s.words 1 ((slice_index s.words 1 + 1) % 2 ^ 64) ≡ (length log' + total queued (set s.views id w)) % 18446744073709551616 ∷ length log' % 18446744073709551616 ∷ [] =
      let a : length log + total queued s.views ≡ length log' + total queued (set s.views id w) = omega arith in
      ap (λ (ws : List ℕ). set ws 1 ((slice_index ws 1 + 1) % 2 ^ 64)) line.words
      ∙ (ap (λ (k : ℕ). (length log + total queued s.views) % 18446744073709551616 ∷ k ∷ []) (one_more (length log) (length log') l)
      ∙ ap (λ (k : ℕ). k % 18446744073709551616 ∷ length log' % 18446744073709551616 ∷ []) a) in
      let lone = sole s.homes (long ∙ one) in
      let homes : put_back s.homes m.1 ≡ some (Some value) ∷ [] = ap (put_back s.homes) hand ∙ ap (λ (hs : List (mathlib.Core.Option.Option (Option T))). set hs 0 (some (Some value))) lone.1 in
      let fits : Fits first log' (total queued (set s.views id w)) w = record {
        given = f.given;
        begins = ([], sym all ∙ sym (append-nil w.seen));
        others = λ _. ([], sym all ∙ sym (append-nil w.seen), tt);
        own = λ _. ap (λ (ps : List ℕ). ps ++ length v.seen ∷ []) (f.own c) ∙ sym (places_own v.number v.seen what);
        before = begins_trans v.before v.seen w.seen f.before (made v.number what ∷ [], refl);
        told = begins_trans v.told v.seen w.seen f.told (made v.number what ∷ [], refl);
        waits = λ t. absurd (omega arith);
        holds = λ q. absurd (cc);
      } in
      let line' = line_moved first (stands first) log log' s (set s.words 1 ((slice_index s.words 1 + 1) % 2 ^ 64)) (put_back s.homes m.1) id v w line at words (value, good) fits
      (λ j u other e g. fits_push first log (total queued s.views) (total queued (set s.views id w)) v.number what u fewer
      (λ d. number_apart log (h.1) s.views id j v u h.3 at c other e d)
      (λ t same. other (line.apart j id u v e at t mine (same ∙ sym here.0))) g)
      (λ t. absurd (omega arith))
      (λ _. (value, homes, good)) in
      let number = number_of log (h.1) s.views id v h.3 at c in
      let r = roster_moved log log' (h.1) s.views id v w h.3 at (alike_same v w refl refl refl refl refl) (everyone_both _ log (made v.number what ∷ []) h.3.named (number.0, tt)) (ended_push log v.number what h.1.ended number.1 h.3.ended)
      (id, w, set_here s.views id w (at_length s.views id v at), c, all) in
      (w, gives, tt, (log', r.0, line', r.1), refl)
