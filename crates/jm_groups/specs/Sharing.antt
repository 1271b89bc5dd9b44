-- What contracts see of the groups and of the passes for them, and what each call says of each group.
use Rattle.std.specs.Prelude.{ℕ, ◌≡◌, ◌<◌, List}
use Rattle.std.specs.Global.{Vec}
use Rattle.std.specs.List.{AllZip}
use Rattle.jm_turn.specs.declared.view.View.{View}
use Rattle.jm_turn.specs.declared.view.Kind.TheVariants.{Opening, Split}
use Rattle.jm_turn.specs.Turns.{Begins, Follows}
use Rattle.jm_turn.specs.Views.{newcomer, parted, part_of, joined, saw}
use Rattle.jm_turn.specs.Closing.{Accounts, StandsOnce}
use Rattle.jm_book.specs.declared.steps.Step.{Step}
use Rattle.jm_book.specs.Legal.{IsLegal}
use Rattle.jm_book.specs.Book.{Told}
use Rattle.jm_desk.specs.declared.held.Held.{Held}
use Rattle.jm_desk.specs.declared.turn.DeskTurn.{DeskTurn}
use Rattle.jm_desk.specs.History.{taken, IsHistory}
use Rattle.jm_desk.specs.Sharing.{Shared, PassView, IsOf, OwnsPlaces, config_of}
use Rattle.jm_groups.specs.declared.route.Route.{Route}

-- the groups: the desk of each, and the routes by which an address finds its group
pub record Grouped : Type 0 where
  pub desks : List Shared
  pub routes : List Route

-- there is a pass for each desk, in order
abbrev pub AreOf : Grouped → List PassView → Type 0
AreOf groups passes = AllZip IsOf groups.desks passes

abbrev pub IsOpening : PassView → Type 0
IsOpening pass = pass.view.kind ≡ Opening

abbrev pub IsSplit : PassView → Type 0
IsSplit pass = pass.view.kind ≡ Split

-- so many passes are out beside it
abbrev pub HasOut : ℕ → PassView → Type 0
HasOut out pass = pass.view.out ≡ out

-- one more can be split off
abbrev pub HasRoom : PassView → Type 0
HasRoom pass = pass.view.out < 4294967295

abbrev pub view_of : PassView → View Held DeskTurn
view_of pass = pass.view

abbrev pub book_of : Shared → Told
book_of desk = desk.first.book

-- what the opening pass of a desk knows at first
abbrev pub first_view : Shared → View Held DeskTurn
first_view desk = newcomer desk.first

-- the pass after a split, and what the one that was split off knows
abbrev pub after_split : PassView → PassView
after_split pass = record pass { view = parted pass.view }

abbrev pub split_view : PassView → View Held DeskTurn
split_view pass = part_of pass.view

-- The pass has taken in another one with all that it has seen, and perhaps turns of others behind that.
pub record TakesIn (old other new : PassView) : Type 0 where
  pub joined : new ≡ record old { view = saw new.view.seen (joined old.view other.view) }
  pub seen : Follows old.view.number old.view.seen new.view.seen
  pub told : Begins other.view.seen new.view.seen
  pub places : OwnsPlaces new.view

-- what the pass has seen is a legal history of a session at the desk
abbrev pub SeesHistory : Shared → PassView → Type 0
SeesHistory desk pass = IsHistory (config_of desk) pass.view.seen

abbrev pub TakesInPair : PassView × PassView → PassView → Type 0
TakesInPair p new = TakesIn p.0 p.1 new

-- the steps that were taken in the turns that the pass has seen
abbrev pub taken_seen : PassView → List Step
taken_seen pass = taken pass.view.seen

-- What the pass had seen when its desk was closed is the whole history: it is legal, as are the steps taken in it, and each turn is of this
-- pass or of one that was joined to it.
pub record IsWhole (desk : Shared) (pass : PassView) : Type 0 where
  pub history : IsHistory (config_of desk) pass.view.seen
  pub legal : IsLegal (config_of desk) (taken_seen pass)
  pub accounts : Accounts pass.view
  pub once : StandsOnce pass.view

abbrev pub items_of : Vec Step → List Step
items_of tape = tape.items
