-- The caller's turns, put together from its single calls.
use Rattle.std.proofs.Common.{◌≡◌, ℕ, ◌+◌, true, List, [], ◌∷◌, ◌++◌, refl, sym, ap, subst, ◌∙◌, arith, length-append}
use Rattle.jm_book.specs.declared.answers.Entered.{Entered}
use Rattle.jm_desk.specs.Sharing.{PassView}
use Rattle.jm_jam.specs.Workers.{Adds, Worked}
use Rattle.jm_jam.specs.Whole.{enter_turn, enter_turns, Enters, JoinsBoth, Opens}
use Rattle.jm_jam.specs.Parting.{Entering}
use Rattle.jm_jam.proofs.Adding.{adds_none, adds_then}

enter-turns : (xs : List Entered) (answer : Entered) → enter_turns (xs ++ answer ∷ []) ≡ enter_turns xs ++ enter_turn answer ∷ []
enter-turns [] answer = refl
enter-turns (x ∷ xs) answer = ap (λ l. enter_turn x ∷ l) (enter-turns xs answer)

pub entering_none : (pass : PassView) → Entering 0 pass pass
entering_none pass = record { answers = []; count_is = refl; adds = adds_none pass }

pub entering_more : (count : ℕ) (answer : Entered) (old middle new : PassView) → Entering count old middle → Adds (enter_turn answer ∷ []) middle new → Entering (count + 1) old new
entering_more count answer old middle new first now = record {
  answers = first.answers ++ answer ∷ [];
  count_is = omega (arith, length-append first.answers (answer ∷ []), first.count_is);
  adds = subst (λ l. Adds l old new) (sym (enter-turns first.answers answer)) (adds_then (enter_turns first.answers) (enter_turn answer ∷ []) old middle new first.adds now);
}

pub entered_all : (count made : ℕ) (old new : PassView) → made ≡ count → Entering made old new → Worked (Enters count) true old new
entered_all count made old new all r = record {
  turns = enter_turns r.answers;
  adds = r.adds;
  did = λ _. record { answers = r.answers; count_is = r.count_is ∙ all; turns_are = refl };
}

-- both came
pub opened : (old middle new : PassView) → Worked (Enters 4) true old middle → Worked JoinsBoth true middle new → Worked Opens true old new
opened old middle new enters joins = record {
  turns = enters.turns ++ joins.turns;
  adds = adds_then enters.turns joins.turns old middle new enters.adds joins.adds;
  did = λ _. record { entering = enters.turns; joining = joins.turns; enters = enters.did refl; joins = joins.did refl; turns_are = refl };
}
