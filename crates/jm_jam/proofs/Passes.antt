-- Passes for workers, and what comes back of them.
use Rattle.std.proofs.Common.{◌≡◌, ℕ, Bool, List, [], ◌∷◌, ◌++◌, refl, sym, ap, subst, ◌∙◌, arith, append_assoc, length-append}
use Rattle.jm_turn.specs.declared.view.Made.{Made}
use Rattle.jm_turn.specs.declared.view.View.{View}
use Rattle.jm_turn.specs.Turns.{places, Begins, Follows}
use Rattle.jm_turn.specs.Views.{saw, part_of, joined}
use Rattle.jm_desk.specs.declared.turn.DeskTurn.{DeskTurn}
use Rattle.jm_desk.specs.declared.held.Held.{Held}
use Rattle.jm_desk.specs.OwnTurns.{turns_by, turns_by-append, turns_by-places, turns_by-follows}
use Rattle.jm_desk.specs.Sharing.{Shared, PassView, IsOf, SeesMore}
use Rattle.jm_jam.specs.declared.job.Job.{Job}
use Rattle.jm_jam.specs.declared.hand.Hand.{Hand}
use Rattle.jm_jam.specs.Workers.{Program}
use Rattle.jm_jam.specs.Crew.{Serves}
use Rattle.jm_jam.specs.Parting.{IsPart, IsHand, CameBack, kept_of, AllBegin, Gathers}
use Rattle.jm_jam.proofs.Adding.{begins-then}

-- a pass that was just split, behind a look, has made no turn
pub part_made : (desk : Shared) (old part new : PassView) → IsOf desk new → part.view ≡ part_of old.view → SeesMore desk part new → IsPart desk old.view.seen old.view.next new
part_made desk old part new own given sees =
    let v : new.view ≡ saw new.view.seen (part_of old.view) = ap (λ (p : PassView). p.view) sees.same ∙ ap (saw new.view.seen) given in
    let n : new.view.number ≡ old.view.next = ap (λ (w : View Held DeskTurn). w.number) v in
    let mine : new.view.mine ≡ [] = ap (λ (w : View Held DeskTurn). w.mine) v in
    let seen : part.view.seen ≡ old.view.seen = ap (λ (w : View Held DeskTurn). w.seen) given in
    let no_place : places old.view.next 0 new.view.seen ≡ [] = ap (λ (k : ℕ). places k 0 new.view.seen) (sym n) ∙ (sym sees.own ∙ mine) in
    record {
      own = own;
      kind_is = ap (λ (w : View Held DeskTurn). w.kind) v;
      number_is = n;
      told = (sees.more.0, sees.more.1 ∙ ap (λ (l : List (Made DeskTurn)). l ++ sees.more.0) seen);
      places = sees.own;
      none = turns_by-places old.view.next [] new.view.seen (new.view.seen, refl) no_place;
    }

front_none : (xs ys : List DeskTurn) → xs ++ ys ≡ [] → xs ≡ []
front_none [] ys h = refl
front_none (x ∷ xs) ys h = absurd cc

-- where there is no turn of a pass there was none before
pub none_before : (n : ℕ) (xs ys : List (Made DeskTurn)) → Begins xs ys → turns_by n ys ≡ [] → turns_by n xs ≡ []
none_before n xs ys b none = front_none (turns_by n xs) (turns_by n b.0) (sym (turns_by-append n xs b.0) ∙ (ap (turns_by n) (sym b.1) ∙ none))

pub came_back : (desk : Shared) (caller : List (Made DeskTurn)) (seed count number : ℕ) (job : Job) (hand : Hand) (back : PassView × Bool) → IsHand desk caller number job hand → Serves desk seed count hand back → CameBack desk caller seed count number job back
came_back desk caller seed count number job hand back h s =
    let part = h.part in
    let adds = s.worked.adds in
    let turns = s.worked.turns in
    let all : turns_by number back.0.view.seen ≡ turns_by number hand.pass.view.seen ++ turns = subst (λ (k : ℕ). turns_by k back.0.view.seen ≡ turns_by k hand.pass.view.seen ++ turns) part.number_is adds.own in
    let own : turns_by number back.0.view.seen ≡ turns = all ∙ ap (λ (l : List DeskTurn). l ++ turns) part.none in
    record {
      own = s.own;
      kind_is = ap (λ (p : PassView). p.view.kind) adds.rest ∙ part.kind_is;
      number_is = ap (λ (p : PassView). p.view.number) adds.rest ∙ part.number_is;
      told = begins-then caller hand.pass.view.seen back.0.view.seen part.told adds.longer;
      places = adds.places part.places;
      none = none_before number caller hand.pass.view.seen part.told part.none;
      did = λ done. subst (λ (l : List DeskTurn). Program job seed count l) (sym own) (subst (λ (j : Job). Program j seed count turns) h.job_is (s.worked.did done));
    }

-- ---- joined again

pub gathers_one : (old new : PassView) (back : PassView × Bool) → new ≡ record old { view = saw new.view.seen (joined old.view back.0.view) } → Follows old.view.number old.view.seen new.view.seen → Begins back.0.view.seen new.view.seen → Gathers (back ∷ []) old new
gathers_one old new back e follows begins =
    let v = ap (λ (p : PassView). p.view) e in
    record {
      kind_is = ap (λ (w : View Held DeskTurn). w.kind) v;
      number_is = ap (λ (w : View Held DeskTurn). w.number) v;
      out_is = ap (λ (w : View Held DeskTurn). w.out) v;
      ended_is = ap (λ (w : View Held DeskTurn). w.ended) v;
      seen = (follows.0, follows.1);
      own = turns_by-follows old.view.number old.view.seen new.view.seen follows;
      told = (begins, tt);
    }

kept-append : (xs ys : List (PassView × Bool)) → kept_of (xs ++ ys) ≡ kept_of xs ++ kept_of ys
kept-append [] ys = refl
kept-append (x ∷ xs) ys = ap (λ (l : List (ℕ × List ℕ)). (x.0.view.number, x.0.view.mine) ∷ l) (kept-append xs ys)

all_begin-then : (backs : List (PassView × Bool)) (a b : List (Made DeskTurn)) → AllBegin backs a → Begins a b → AllBegin backs b
all_begin-then [] a b h more = tt
all_begin-then (back ∷ backs) a b h more = (begins-then back.0.view.seen a b h.0 more, all_begin-then backs a b h.1 more)

all_begin-append : (xs ys : List (PassView × Bool)) (seen : List (Made DeskTurn)) → AllBegin xs seen → AllBegin ys seen → AllBegin (xs ++ ys) seen
all_begin-append [] ys seen h i = i
all_begin-append (x ∷ xs) ys seen h i = (h.0, all_begin-append xs ys seen h.1 i)

pub gathers-then : (xs ys : List (PassView × Bool)) (old middle new : PassView) → Gathers xs old middle → Gathers ys middle new → Gathers (xs ++ ys) old new
gathers-then xs ys old middle new first second =
    let own : turns_by old.view.number new.view.seen ≡ turns_by old.view.number middle.view.seen = subst (λ (k : ℕ). turns_by k new.view.seen ≡ turns_by k middle.view.seen) first.number_is second.own in
    record {
      kind_is = second.kind_is ∙ first.kind_is;
      number_is = second.number_is ∙ first.number_is;
      out_is = omega (arith, first.out_is, second.out_is, length-append xs ys);
      ended_is = second.ended_is ∙ (ap (λ (l : List (ℕ × List ℕ)). l ++ kept_of ys) first.ended_is ∙ (append_assoc old.view.ended (kept_of xs) (kept_of ys) ∙ ap (λ (l : List (ℕ × List ℕ)). old.view.ended ++ l) (sym (kept-append xs ys))));
      seen = begins-then old.view.seen middle.view.seen new.view.seen first.seen second.seen;
      own = own ∙ first.own;
      told = all_begin-append xs ys new.view.seen (all_begin-then xs middle.view.seen new.view.seen first.told second.seen) second.told;
    }
