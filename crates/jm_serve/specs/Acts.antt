-- What one pass did at a desk and through a port: its turns, each with the history before it, and what was sent.
use Rattle.std.specs.Prelude.{◌≡◌, ℕ, ◌+◌, ◌%◌, List, [], ◌∷◌, ◌++◌, length, Option}
use Rattle.jm_edge.specs.Wire.{Letter, Wire}
use Rattle.jm_turn.specs.declared.view.Made.{Made}
use Rattle.jm_turn.specs.Turns.{made, Begins}
use Rattle.jm_book.specs.declared.steps.Config.{Config}
use Rattle.jm_book.specs.declared.steps.Step.{Step}
use Rattle.jm_desk.specs.declared.turn.DeskTurn.{DeskTurn}
use Rattle.jm_desk.specs.declared.turn.Outcome.{Outcome}
use Rattle.jm_desk.specs.History.{turned, taken, IsAnswer}
use Rattle.jm_desk.specs.OwnTurns.{turns_by}
use Rattle.jm_desk.specs.Sharing.{Shared, PassView, config_of}
use Rattle.jm_serve.specs.Exchange.{Posts}

-- a turn, with all turns that were made at the desk before it
pub record Act : Type 0 where
  pub before : List (Made DeskTurn)
  pub turn : DeskTurn

abbrev pub act : (before : List (Made DeskTurn)) → Step → Outcome → Act
act before call came = record { before = before; turn = turned call came }

abbrev pub turns_of : List Act → List DeskTurn
turns_of [] = []
turns_of (one ∷ acts) = one.turn ∷ turns_of acts

-- their places in the history
abbrev pub places_of : List Act → List ℕ
places_of [] = []
places_of (one ∷ acts) = length one.before ∷ places_of acts

-- the number of the next call, modulo 2^32, after these
abbrev pub next_call : (call : ℕ) → List Act → ℕ
next_call call [] = call
next_call call (one ∷ acts) = next_call ((call + 1) % 4294967296) acts

-- The history has each of these turns at its place, of this pass, behind those that were before it. Its outcome is the answer after
-- the steps taken before it, unless there was no memory.
abbrev pub StandIn : Config → (pass : ℕ) → (seen : List (Made DeskTurn)) → List Act → Type 0
StandIn config pass seen [] = Unit {0}
StandIn config pass seen (one ∷ acts) =
    Begins (one.before ++ made pass one.turn ∷ []) seen × IsAnswer config (taken one.before) one.turn × StandIn config pass seen acts

-- all that a pass doesn't learn by its turns is as it was
abbrev pub GoesOn : PassView → PassView → Type 0
GoesOn old new = new ≡ record old { view = record old.view { stage = new.view.stage; ticket = new.view.ticket; seen = new.view.seen; mine = new.view.mine } }

-- The pass made just these turns, in this order.
pub record Gains (desk : Shared) (acts : List Act) (old new : PassView) : Type 0 where
  pub longer : Begins old.view.seen new.view.seen
  pub own : turns_by old.view.number new.view.seen ≡ turns_by old.view.number old.view.seen ++ turns_of acts
  pub mine : new.view.mine ≡ old.view.mine ++ places_of acts
  pub stand : StandIn (config_of desk) old.view.number new.view.seen acts
  pub rest : GoesOn old new

-- what there is before and after some turns: a pass, a port, the number of the next call as a gate is told it, and a count of sends
-- that failed
pub record Scene : Type 0 where
  pub pass : PassView
  pub wire : Wire
  pub call : ℕ
  pub faults : ℕ

-- These turns were made, these datagrams sent and these receives made.
pub record Works (desk : Shared) (acts : List Act) (givens : List (Option Letter)) (letters : List Letter) (old new : Scene) : Type 0 where
  pub gains : Gains desk acts old.pass new.pass
  pub posts : Posts givens letters old.faults new.faults old.wire new.wire
  pub calls : new.call ≡ next_call old.call acts
