-- What a pass has seen after a call, put together from the parts of the call.
use Rattle.std.proofs.Common.{◌≡◌, ℕ, List, [], ◌∷◌, ◌++◌, length, refl, sym, ap, ◌∙◌, subst}
use Rattle.jm_turn.specs.declared.view.Made.{Made}
use Rattle.jm_turn.specs.declared.view.View.{View}
use Rattle.jm_turn.specs.Turns.{made, places, Follows}
use Rattle.jm_turn.specs.Views.{drew, saw, took, gave}
use Rattle.jm_turn.specs.Steps.{since, Sees}
use Rattle.jm_book.specs.declared.steps.Step.{Step}
use Rattle.jm_desk.specs.declared.turn.DeskTurn.{DeskTurn}
use Rattle.jm_desk.specs.declared.turn.Outcome.{Outcome}
use Rattle.jm_desk.specs.declared.held.Held.{Held}
use Rattle.jm_desk.specs.History.{turned, answer_to, is_taken, taken, IsAnswer, IsHistory, StandsFor, before_last, steps_before}
use Rattle.jm_desk.specs.HistoryLaws.{before_last-push, answers_pop, stands_after}
use Rattle.jm_book.specs.Book.{Takes}
use Rattle.jm_desk.specs.OwnTurns.{turns_by, turns_by-push, turns_by-follows, places-own}
use Rattle.jm_desk.specs.Sharing.{Shared, PassView, IsOf, OwnsPlaces, config_of, MakesTurn, HoldsTurn}

-- the view of a pass of the desk is from the desk's first book
pub since_first : (desk : Shared) (pass : PassView) (now : Held) (turns : List (Made DeskTurn)) → IsOf desk pass → since StandsFor pass.view.first now turns → StandsFor desk.first now turns
since_first desk pass now turns own s = subst (λ first. since StandsFor first now turns) own.first s

-- what was seen before a turn that was given back
pub seen_before : (mid new : PassView) (turn : DeskTurn) → new ≡ record mid { view = gave turn mid.view } → before_last new.view.seen ≡ mid.view.seen
seen_before mid new turn e = ap (λ (p : PassView). before_last p.view.seen) e ∙ before_last-push mid.view.seen (made mid.view.number turn)

pub makes_turn : (desk : Shared) (old mid new : PassView) (held now : Held) (call : Step) (came : Outcome) → HoldsTurn desk old mid held → StandsFor desk.first now (mid.view.seen ++ made mid.view.number (turned call came) ∷ []) → new ≡ record mid { view = gave (turned call came) mid.view } → MakesTurn desk old new call came
makes_turn desk old mid new held now call came h s e =
    let turn = turned call came in
    let before = seen_before mid new turn e in
    let seen : new.view.seen ≡ mid.view.seen ++ made mid.view.number turn ∷ [] = ap (λ (p : PassView). p.view.seen) e in
    record {
      more = subst (λ l. Follows old.view.number old.view.seen l) (sym before) h.more;
      made = e ∙ (ap (λ (m : PassView). record m { view = gave turn m.view }) h.holds.1 ∙ ap (λ l. record old { view = gave turn (saw l old.view) }) (sym before));
      answer = subst (λ l. IsAnswer (config_of desk) (taken l) turn) (sym before) (answers_pop (config_of desk) [] mid.view.seen (made mid.view.number turn) s.legal).1;
      legal = subst (IsHistory (config_of desk)) (sym seen) s.legal;
      own = subst (λ (p : PassView). OwnsPlaces p.view) (sym e) (ap (λ l. l ++ length mid.view.seen ∷ []) h.own ∙ sym (places-own mid.view.number mid.view.seen turn));
    }

-- a pass whose turn has come, from what the taking of a turn tells
pub turn_taken : (desk : Shared) (old new : PassView) (held : Held) → new.table ≡ old.table → new.seat ≡ old.seat → (ticket : ℕ) → new.view ≡ took new.view.seen (drew ticket old.view) → Sees StandsFor old.view new.view.seen → StandsFor desk.first held new.view.seen → HoldsTurn desk old new held
turn_taken desk old new held table seat ticket view sees stands = record {
  more = sees.more;
  holds = (ticket, λ i. record { table = table i; seat = seat i; view = view i });
  stands = stands;
  own = ap (λ (v : View Held DeskTurn). v.mine) view ∙ (sees.own ∙ ap (λ (k : ℕ). places k 0 new.view.seen) (sym (ap (λ (v : View Held DeskTurn). v.number) view)));
}

-- the book answered the call: it stands for the turns, with this one
pub call_stands : (desk : Shared) (old mid : PassView) (held now : Held) (call told : Step) (came : Outcome) → told ≡ call → HoldsTurn desk old mid held → came ≡ answer_to held.book.config held.book.steps call → Takes held.book now.book (is_taken came) call → StandsFor desk.first now (mid.view.seen ++ made mid.view.number (turned told came) ∷ [])
call_stands desk old mid held now call told came e h is t =
    rw e (stands_after desk.first held now mid.view.seen mid.view.number call came h.stands is t)

-- and the pass made just this turn
pub call_makes : (desk : Shared) (old mid new : PassView) (held now : Held) (call told : Step) (came : Outcome) → told ≡ call → HoldsTurn desk old mid held → came ≡ answer_to held.book.config held.book.steps call → Takes held.book now.book (is_taken came) call → new ≡ record mid { view = gave (turned told came) mid.view } → MakesTurn desk old new call came
call_makes desk old mid new held now call told came e h is t given =
    makes_turn desk old mid new held now call came h (call_stands desk old mid held now call call came refl h is t) (given ∙ ap (λ s. record mid { view = gave (turned s came) mid.view }) e)

-- the book's steps when it answered are those taken before the turn
pub call_steps : (desk : Shared) (old mid new : PassView) (held : Held) (turn : DeskTurn) → HoldsTurn desk old mid held → new ≡ record mid { view = gave turn mid.view } → held.book.steps ≡ steps_before new.view.seen
call_steps desk old mid new held turn h e = h.stands.steps ∙ sym (ap taken (seen_before mid new turn e))

-- a call adds just its own turn to those of its pass
pub adds_own : (desk : Shared) (old new : PassView) (call : Step) (came : Outcome) → MakesTurn desk old new call came → turns_by old.view.number new.view.seen ≡ turns_by old.view.number old.view.seen ++ turned call came ∷ []
adds_own desk old new call came m =
    let before = before_last new.view.seen in
    let n = old.view.number in
    ap (λ (p : PassView). turns_by n p.view.seen) m.made
    ∙ (turns_by-push n before (turned call came) ∙ ap (λ l. l ++ turned call came ∷ []) (turns_by-follows n old.view.seen before m.more))
