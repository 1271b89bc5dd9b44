-- The history of a jam, from what the caller's pass knows at the end.
use Rattle.std.proofs.Common.{◌≡◌, ◌≢◌, ℕ, ◌+◌, ◌<◌, ◌≤◌, Bool, true, false, ◌&&◌, ◌==◌, IsTrue, List, [], ◌∷◌, ◌++◌, length, refl, sym, ap, subst, ◌∙◌, inl, inr, arith, nat_lt, eq-eqb}
use Rattle.std.proofs.lemmas.Bool.{cases_Bool}
use Rattle.std.proofs.lemmas.Bool.Decides.{nat_tests}
use Rattle.jm_turn.specs.declared.view.Made.{Made}
use Rattle.jm_turn.specs.Turns.{places, Everyone}
use Rattle.jm_turn.specs.Rule.{total, one_at, ended_as, EndedOwn}
use Rattle.jm_turn.specs.Closing.{Accounts}
use Rattle.jm_desk.specs.declared.turn.DeskTurn.{DeskTurn}
use Rattle.jm_desk.specs.History.{IsHistory}
use Rattle.jm_desk.specs.OwnTurns.{turns_by, turns_by-places}
use Rattle.jm_desk.specs.Sharing.{Shared, PassView}
use Rattle.jm_jam.specs.declared.job.Job.{Job}
use Rattle.jm_jam.specs.Workers.{Program}
use Rattle.jm_jam.specs.Whole.{jam_config, jam_jobs, AreDone, by_caller, IsJam}
use Rattle.jm_jam.specs.Parting.{CameBackAll, all_done, kept_of, AllBegin, Makes}

both : (a b : Bool) → (a && b) ≡ true → (a ≡ true) × (b ≡ true)
both true b h = (refl, h)
both false b h = absurd cc

module _ (desk : Shared) (caller : List (Made DeskTurn)) (seed count : ℕ) where
  -- each worker's turns in the whole are those that its pass had seen
  are_done : (turns : List (Made DeskTurn)) (number : ℕ) (jobs : List Job) (backs : List (PassView × Bool)) → CameBackAll desk caller seed count number jobs backs → IsTrue (all_done backs) → AllBegin backs turns → EndedOwn turns (kept_of backs) → AreDone seed count turns number jobs
  are_done turns number [] [] h d t e = tt
  are_done turns number [] (back ∷ backs) h d t e = absurd h
  are_done turns number (job ∷ jobs) [] h d t e = absurd h
  are_done turns number (job ∷ jobs) (back ∷ backs) h d t e =
      let dones = both back.1 (all_done backs) d in
      let own : places number 0 turns ≡ places number 0 back.0.view.seen = subst (λ (k : ℕ). places k 0 turns ≡ places k 0 back.0.view.seen) h.0.number_is (sym e.0 ∙ h.0.places) in
      let same : turns_by number turns ≡ turns_by number back.0.view.seen = turns_by-places number back.0.view.seen turns t.0 own in
      (subst (λ (l : List DeskTurn). Program job seed count l) (sym same) (h.0.did dones.0), are_done turns (number + 1) jobs backs h.1 dones.1 t.1 e.1)

  -- no pass has a number beyond
  none_beyond : (by number : ℕ) (jobs : List Job) (backs : List (PassView × Bool)) → CameBackAll desk caller seed count number jobs backs → number + length jobs ≤ by → total (ended_as by) (kept_of backs) ≡ 0
  none_beyond by number [] [] h far = refl
  none_beyond by number [] (back ∷ backs) h far = absurd h
  none_beyond by number (job ∷ jobs) [] h far = absurd h
  none_beyond by number (job ∷ jobs) (back ∷ backs) h far =
      let apart : (back.0.view.number == by) ≡ false = grind (arith, nat_tests, h.0.number_is, far) in
      rw apart (omega (arith, none_beyond by (number + 1) jobs backs h.1 (omega (arith, far))))

  -- a pass that was joined had made no turn when the caller had seen so much
  owner : (by number : ℕ) (jobs : List Job) (backs : List (PassView × Bool)) → CameBackAll desk caller seed count number jobs backs → total (ended_as by) (kept_of backs) ≢ 0 → turns_by by caller ≡ []
  owner by number [] [] h some = absurd (some refl)
  owner by number [] (back ∷ backs) h some = absurd h
  owner by number (job ∷ jobs) [] h some = absurd h
  owner by number (job ∷ jobs) (back ∷ backs) h some = elim (cases_Bool (back.0.view.number == by)) [
    | inl t ↦ let is : number ≡ by = grind (arith, nat_tests, h.0.number_is, t) in subst (λ (k : ℕ). turns_by k caller ≡ []) is h.0.none
    | inr t ↦ owner by (number + 1) jobs backs h.1 (λ none. some (rw t (omega (arith, none))))
  ]

everyone-map : (P Q : ℕ → Type 0) → ((by : ℕ) → P by → Q by) → (ms : List (Made DeskTurn)) → Everyone P ms → Everyone Q ms
everyone-map P Q f [] h = tt
everyone-map P Q f (m ∷ ms) h = (f m.by h.0, everyone-map P Q f ms h.1)

everyone-front : (P : ℕ → Type 0) (xs ys : List (Made DeskTurn)) → Everyone P (xs ++ ys) → Everyone P xs
everyone-front P [] ys h = tt
everyone-front P (m ∷ xs) ys h = (h.0, everyone-front P xs ys h.1)

-- ---- the turns before any worker came

tail_none : (n : ℕ) (m : Made DeskTurn) (ms : List (Made DeskTurn)) (b : Bool) → (m.by == n) ≡ b → turns_by n (m ∷ ms) ≡ [] → turns_by n ms ≡ []
tail_none n m ms true t h = absurd (some t (rw t at h))
  where
    some : (m.by == n) ≡ true → m.what ∷ turns_by n ms ≡ [] → ⊥
    some t h = absurd cc
tail_none n m ms false t h = rw t at h

own_first : (m : Made DeskTurn) (ms : List (Made DeskTurn)) → turns_by m.by (m ∷ ms) ≡ m.what ∷ turns_by m.by ms
own_first m ms = let t : (m.by == m.by) ≡ true = eq-eqb m.by m.by refl in rw t refl

-- who isn't the caller had made no turn
caller_alone : (ended : List (ℕ × List ℕ)) (ms : List (Made DeskTurn)) → Everyone (λ (by : ℕ). one_at by 0 + total (ended_as by) ended ≡ 1) ms → ((n : ℕ) → total (ended_as n) ended ≢ 0 → turns_by n ms ≡ []) → ms ≡ by_caller (turns_by 0 ms)
caller_alone ended [] each none = refl
caller_alone ended (m ∷ ms) each none = elim (cases_Bool (m.by == 0)) [ inl t ↦ here t (caller_alone ended ms each.1 rest) | inr t ↦ absurd (other t) ]
  where
    rest : (n : ℕ) → total (ended_as n) ended ≢ 0 → turns_by n ms ≡ []
    rest n some = tail_none n m ms (m.by == n) refl (none n some)

    here : (m.by == 0) ≡ true → ms ≡ by_caller (turns_by 0 ms) → m ∷ ms ≡ by_caller (turns_by 0 (m ∷ ms))
    here t others =
        let zero : m.by ≡ 0 = grind (arith, nat_tests, t) in
        let first : m ≡ record { by = 0; what = m.what } = λ i. record { by = zero i; what = m.what } in
        rw t (ap (λ (x : Made DeskTurn). x ∷ ms) first ∙ ap (λ (l : List (Made DeskTurn)). record { by = 0; what = m.what } ∷ l) others)

    other : (m.by == 0) ≡ false → ⊥
    other t =
        let z : one_at m.by 0 ≡ 0 = (let e : (0 == m.by) ≡ false = grind (arith, nat_tests, t) in rw e refl) in
        let some : total (ended_as m.by) ended ≢ 0 = λ none. absurd (not_one z none each.0) in
        absurd (nonempty (sym (own_first m ms) ∙ none m.by some))
      where
        not_one : one_at m.by 0 ≡ 0 → total (ended_as m.by) ended ≡ 0 → one_at m.by 0 + total (ended_as m.by) ended ≡ 1 → ⊥
        not_one z n e = omega (arith, z, n, e)

        nonempty : m.what ∷ turns_by m.by ms ≡ [] → ⊥
        nonempty h = absurd cc

-- ---- all of it

pub is_jam : (desk : Shared) (seed count : ℕ) (new : PassView) → new.view.number ≡ 0 → Makes desk seed count new → Accounts new.view → IsHistory jam_config new.view.seen → IsJam seed count new.view.seen
is_jam desk seed count new zero makes accounts legal =
    let works = makes.works in
    let caller = makes.caller in
    let ended = kept_of works.backs in
    let own : EndedOwn new.view.seen ended = subst (λ (e : List (ℕ × List ℕ)). EndedOwn new.view.seen e) works.ended_is accounts.ended in
    let each : Everyone (λ (by : ℕ). one_at by 0 + total (ended_as by) ended ≡ 1) new.view.seen =
    subst (λ (k : ℕ). Everyone (λ (by : ℕ). one_at by k + total (ended_as by) ended ≡ 1) new.view.seen) zero
    (subst (λ (e : List (ℕ × List ℕ)). Everyone (λ (by : ℕ). one_at by new.view.number + total (ended_as by) e ≡ 1) new.view.seen) works.ended_is accounts.each) in
    let front : Everyone (λ (by : ℕ). one_at by 0 + total (ended_as by) ended ≡ 1) caller =
    everyone-front (λ (by : ℕ). one_at by 0 + total (ended_as by) ended ≡ 1) caller works.begins.0 (subst (λ (l : List (Made DeskTurn)). Everyone (λ (by : ℕ). one_at by 0 + total (ended_as by) ended ≡ 1) l) works.begins.1 each) in
    let alone = caller_alone ended caller front (λ n some. owner desk caller seed count n 1 jam_jobs works.backs works.came some) in
    record {
      opening = turns_by 0 caller;
      opens = makes.opens;
      rest = works.begins.0;
      in_order = works.begins.1 ∙ ap (λ (l : List (Made DeskTurn)). l ++ works.begins.0) alone;
      last = works.last;
      cuts = works.cuts;
      caller = works.own;
      workers = are_done desk caller seed count new.view.seen 1 jam_jobs works.backs works.came works.done works.told own;
      each = everyone-map (λ (by : ℕ). one_at by 0 + total (ended_as by) ended ≡ 1) (λ (by : ℕ). by < 8) below_8 new.view.seen each;
      legal = legal;
    }
  where
    below_8 : (by : ℕ) → one_at by 0 + total (ended_as by) (kept_of makes.works.backs) ≡ 1 → by < 8
    below_8 by one = elim (cases_Bool (nat_lt by 8)) [
      | inl t ↦ grind (arith, nat_tests, t)
      | inr t ↦ absurd (too_many t one)
    ]
      where
        too_many : nat_lt by 8 ≡ false → one_at by 0 + total (ended_as by) (kept_of makes.works.backs) ≡ 1 → ⊥
        too_many t one =
            let far : 8 ≤ by = grind (arith, nat_tests, t) in
            let e : (0 == by) ≡ false = grind (arith, nat_tests, far) in
            let z : one_at by 0 ≡ 0 = rw e refl in
            omega (arith, z, one, none_beyond desk makes.caller seed count by 1 jam_jobs makes.works.backs makes.works.came far)
