-- The local players are as many as steps say that one entered.
use Rattle.std.proofs.Common.{ℕ, ◌+◌, ◌<◌, ◌≡◌, refl, sym, ◌∙◌, Bool, true, false, List, [], ◌∷◌, fold, arith}
use Rattle.std.specs.Prelude.{not, nat_le, if◌then◌else◌}
use Rattle.std.proofs.lemmas.Bool.Decides.{nat_tests}
use Rattle.jm_book.specs.declared.answers.Entered.TheVariants as entered
use Rattle.jm_book.specs.declared.steps.Config.{Config}
use Rattle.jm_book.specs.declared.steps.Step.{Step}
use Rattle.jm_book.specs.declared.steps.Step.TheVariants.{Enter, Play, Cut, Ack, Join, Leave, Hear, Feedback, Say}
use Rattle.jm_book.specs.Session.{Session, members_of, after, nothing}
use Rattle.jm_book.specs.BookAnswers.{has_room}
use Rattle.jm_book.specs.InvitedLaws.{legal_sound}
use Rattle.jm_book.specs.MembersConduct.{enter_count, CountsPlayers}

enter_push : (s : Session) (step : Step) (steps : List Step) → (after s step).members.entered + enter_count steps ≡ s.members.entered + enter_count (step ∷ steps)
enter_push s Enter steps = omega arith
enter_push s (Play player command tick) steps = refl
enter_push s (Cut tick) steps = refl
enter_push s (Ack ssrc seq) steps = refl
enter_push s (Join ssrc) steps = refl
enter_push s (Leave ssrc) steps = refl
enter_push s (Hear ssrc seq) steps = refl
enter_push s Feedback steps = refl
enter_push s (Say port from message now) steps = refl

enter_along : (s : Session) (steps : List Step) → (fold after s steps).members.entered ≡ s.members.entered + enter_count steps
enter_along s [] = omega arith
enter_along s (step ∷ steps) = enter_along (after s step) steps ∙ enter_push s step steps

entered_are : (config : Config) (steps : List Step) → (members_of config steps).entered ≡ enter_count steps
entered_are config steps = enter_along (nothing config) steps ∙ omega arith

player_came : (room many : Bool) (events most next player : ℕ) → (if not room then entered.RecordFull events else if many then entered.PlayersFull most else entered.Player next) ≡ entered.Player player → (many ≡ false) × (next ≡ player)
player_came false many events most next player h = absurd cc
player_came true true events most next player h = absurd cc
player_came true false events most next player h = (refl, cc)

pub counts_players : CountsPlayers
counts_players config steps = (
  entered_are config steps,
  λ legal. let few = (legal_sound config steps legal).few_players in omega (arith, entered_are config steps),
  λ player h.
      let entered = (members_of config steps).entered in
      let came = player_came (has_room config steps) (nat_le 64 entered) config.events 64 entered player h in
      let below : entered < 64 = grind (arith, nat_tests, came.0) in
      (sym came.1 ∙ entered_are config steps, omega (arith, came.1)),
)
