-- Passes that are split for workers, come back from their work and are joined again.
use Rattle.std.specs.Prelude.{◌≡◌, ℕ, ◌+◌, ◌-◌, Bool, ◌&&◌, true, IsTrue, List, [], ◌∷◌, ◌++◌, length}
use Rattle.jm_turn.specs.declared.view.Made.{Made}
use Rattle.jm_turn.specs.declared.view.Kind.TheVariants.{Opening, Split}
use Rattle.jm_turn.specs.Turns.{Begins}
use Rattle.jm_book.specs.declared.answers.Entered.{Entered}
use Rattle.jm_desk.specs.declared.turn.DeskTurn.{DeskTurn}
use Rattle.jm_desk.specs.OwnTurns.{turns_by}
use Rattle.jm_desk.specs.Sharing.{Shared, PassView, IsOf, OwnsPlaces}
use Rattle.jm_jam.specs.declared.job.Job.{Job}
use Rattle.jm_jam.specs.declared.job.Job.TheVariants.{Player, Feedback, Sender}
use Rattle.jm_jam.specs.declared.hand.Hand.{Hand}
use Rattle.jm_jam.specs.declared.crew.Backs.{Backs}
use Rattle.jm_jam.specs.declared.parting.Crew.{Crew}
use Rattle.jm_jam.specs.Workers.{Program, Adds}
use Rattle.jm_jam.specs.Whole.{enter_turns, Opens, CutsLast, jam_jobs}

-- so many players entered
pub record Entering (made : ℕ) (old new : PassView) : Type 0 where
  pub answers : List Entered
  pub count_is : length answers ≡ made
  pub adds : Adds (enter_turns answers) old new

-- a pass of this number that was split from the caller's, which had seen so much, and made no turn
pub record IsPart (desk : Shared) (caller : List (Made DeskTurn)) (number : ℕ) (part : PassView) : Type 0 where
  pub own : IsOf desk part
  pub kind_is : part.view.kind ≡ Split
  pub number_is : part.view.number ≡ number
  pub told : Begins caller part.view.seen
  pub places : OwnsPlaces part.view
  pub none : turns_by number part.view.seen ≡ []

-- a worker with this job and such a pass
pub record IsHand (desk : Shared) (caller : List (Made DeskTurn)) (number : ℕ) (job : Job) (hand : Hand) : Type 0 where
  pub job_is : hand.job ≡ job
  pub part : IsPart desk caller number hand.pass

-- such a pass came back from this job
pub record CameBack (desk : Shared) (caller : List (Made DeskTurn)) (seed count number : ℕ) (job : Job) (back : PassView × Bool) : Type 0 where
  pub own : IsOf desk back.0
  pub kind_is : back.0.view.kind ≡ Split
  pub number_is : back.0.view.number ≡ number
  pub told : Begins caller back.0.view.seen
  pub places : OwnsPlaces back.0.view
  pub none : turns_by number caller ≡ []
  pub did : IsTrue back.1 → Program job seed count (turns_by number back.0.view.seen)

-- such passes came back, with numbers from this one on
abbrev pub CameBackAll : (desk : Shared) → (caller : List (Made DeskTurn)) → (seed count number : ℕ) → List Job → List (PassView × Bool) → Type 0
CameBackAll desk caller seed count number [] [] = Unit {0}
CameBackAll desk caller seed count number [] (back ∷ backs) = ⊥
CameBackAll desk caller seed count number (job ∷ jobs) [] = ⊥
CameBackAll desk caller seed count number (job ∷ jobs) (back ∷ backs) = CameBack desk caller seed count number job back × CameBackAll desk caller seed count (number + 1) jobs backs

-- the workers' passes in the order of their numbers
abbrev pub in_order : Backs → List (PassView × Bool)
in_order backs = backs.low.0 ∷ backs.low.1 ∷ backs.high.0 ∷ backs.high.1 ∷ backs.feedback.0 ∷ backs.feedback.1 ∷ backs.sender ∷ []

-- there was memory for all of it
abbrev pub all_done : List (PassView × Bool) → Bool
all_done [] = true
all_done (back ∷ backs) = back.1 && all_done backs

-- what is kept of passes that were joined: their numbers, with their places
abbrev pub kept_of : List (PassView × Bool) → List (ℕ × List ℕ)
kept_of [] = []
kept_of (back ∷ backs) = (back.0.view.number, back.0.view.mine) ∷ kept_of backs

-- what was seen goes on from what each of the passes had seen
abbrev pub AllBegin : List (PassView × Bool) → List (Made DeskTurn) → Type 0
AllBegin [] seen = Unit {0}
AllBegin (back ∷ backs) seen = Begins back.0.view.seen seen × AllBegin backs seen

-- such passes are of the desk, and none is the opening one
abbrev pub AreSplit : Shared → List (PassView × Bool) → Type 0
AreSplit desk [] = Unit {0}
AreSplit desk (back ∷ backs) = IsOf desk back.0 × (back.0.view.kind ≡ Split) × AreSplit desk backs

-- the opening pass took in these passes
pub record Gathers (backs : List (PassView × Bool)) (old new : PassView) : Type 0 where
  pub kind_is : new.view.kind ≡ old.view.kind
  pub number_is : new.view.number ≡ old.view.number
  pub out_is : new.view.out ≡ old.view.out - length backs
  pub ended_is : new.view.ended ≡ old.view.ended ++ kept_of backs
  pub seen : Begins old.view.seen new.view.seen
  pub own : turns_by old.view.number new.view.seen ≡ turns_by old.view.number old.view.seen
  pub told : AllBegin backs new.view.seen

-- the opening pass has split none, or has none out
pub record IsAlone (pass : PassView) : Type 0 where
  pub kind_is : pass.view.kind ≡ Opening
  pub number_is : pass.view.number ≡ 0
  pub out_is : pass.view.out ≡ 0

-- and none was joined
pub record IsFresh (pass : PassView) : Type 0 where
  pub alone : IsAlone pass
  pub next_is : pass.view.next ≡ 1
  pub ended_is : pass.view.ended ≡ []

-- all workers before their work
pub record IsCrew (desk : Shared) (caller : List (Made DeskTurn)) (crew : Crew) : Type 0 where
  pub player_0 : IsHand desk caller 1 (Player 0) crew.low.0
  pub player_1 : IsHand desk caller 2 (Player 1) crew.low.1
  pub player_2 : IsHand desk caller 3 (Player 2) crew.high.0
  pub player_3 : IsHand desk caller 4 (Player 3) crew.high.1
  pub feedback_1 : IsHand desk caller 5 (Feedback 4 1) crew.feedback.0
  pub feedback_2 : IsHand desk caller 6 (Feedback 5 2) crew.feedback.1
  pub sender : IsHand desk caller 7 Sender crew.sender

-- all workers did their jobs beside the caller, who had seen so much, and the caller cut once more and took in their passes
pub record Works (desk : Shared) (seed count : ℕ) (caller : List (Made DeskTurn)) (new : PassView) : Type 0 where
  pub backs : List (PassView × Bool)
  pub came : CameBackAll desk caller seed count 1 jam_jobs backs
  pub done : IsTrue (all_done backs)
  pub ended_is : new.view.ended ≡ kept_of backs
  pub told : AllBegin backs new.view.seen
  pub begins : Begins caller new.view.seen
  pub last : List DeskTurn
  pub cuts : CutsLast count last
  pub own : turns_by 0 new.view.seen ≡ turns_by 0 caller ++ last

-- and before that the caller opened
pub record Makes (desk : Shared) (seed count : ℕ) (new : PassView) : Type 0 where
  pub caller : List (Made DeskTurn)
  pub opens : Opens (turns_by 0 caller)
  pub works : Works desk seed count caller new
