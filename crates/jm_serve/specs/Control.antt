-- What a round of the control port's worker does for one desk.
use Rattle.std.specs.Prelude.{◌≡◌, ℕ, Bool, true, false, nat_le, List, [], ◌∷◌, ◌++◌, Option, Some, None}
use Rattle.std.specs.declared.result.Result.{Result}
use Rattle.std.specs.declared.alloc.AllocError.{AllocError}
use Rattle.jm_edge.specs.declared.Addr.{Addr}
use Rattle.jm_edge.specs.Wire.{Letter}
use Rattle.apple_msg.specs.declared.message.Message.{Message}
use Rattle.apple_session.specs.declared.answer.PortKind.TheVariants.{Ctl}
use Rattle.jm_turn.specs.declared.view.Made.{Made}
use Rattle.jm_book.specs.declared.steps.Config.{Config}
use Rattle.jm_book.specs.declared.steps.Step.TheVariants as step
use Rattle.jm_book.specs.declared.answers.Said.{Said}
use Rattle.jm_book.specs.declared.answers.Given.{Given}
use Rattle.jm_desk.specs.declared.turn.DeskTurn.{DeskTurn}
use Rattle.jm_desk.specs.Sharing.{Shared, config_of}
use Rattle.jm_serve.specs.declared.worked.Rounded.{Rounded}
use Rattle.jm_serve.specs.declared.worked.Rounded.TheVariants as rounded
use Rattle.jm_serve.specs.declared.control.Reporter.{Reporter}
use Rattle.jm_serve.specs.Acts.{Act, act, Scene, Works}
use Rattle.jm_serve.specs.Pump.{passed}
use Rattle.jm_serve.specs.Messages.{message_in, said_outcome, reply_letters, told_of, told_came, given_outcome, report_letters, given_came}
use Rattle.jm_serve.specs.Rounds.{Round}

-- A datagram that reads as a message is told to the session, and its reply goes out. Any other is passed over.
pub data Answers (given : Option Letter) (moment : ℕ) : List Act → List Letter → Rounded → Type 0 where
  passed_over : message_in given ≡ None → Answers given moment [] [] rounded.Whole
  answered : (before : List (Made DeskTurn)) (from : Addr) (m : Message) (answer : Result Said AllocError) → message_in given ≡ Some (from, m)
      → Answers given moment (act before (step.Say Ctl from m moment) (said_outcome answer) ∷ []) (reply_letters from answer) (told_came (told_of answer))

-- the moment from which the next report is counted: that of the last one, or of the first round
abbrev pub since : (last : Option ℕ) → (moment : ℕ) → ℕ
since (Some earlier) moment = earlier
since None moment = moment

-- 10,000 units have passed
abbrev pub is_report_due : (last : Option ℕ) → (moment : ℕ) → Bool
is_report_due last moment = nat_le 10000 (passed (since last moment) moment)

-- Behind what was answered, unless that stopped the worker: where it is due, the session is asked what is to be reported, and that is
-- sent.
pub data Reports (config : Config) (last : Option ℕ) (moment : ℕ) : (answers : Rounded) → List Act → List Letter → (came : Rounded) → (last' : Option ℕ) → Type 0 where
  was_full : Reports config last moment rounded.RecordFull [] [] rounded.RecordFull (Some (since last moment))
  no_room : Reports config last moment rounded.NoMemory [] [] rounded.NoMemory (Some (since last moment))
  not_due : is_report_due last moment ≡ false → Reports config last moment rounded.Whole [] [] rounded.Whole (Some (since last moment))
  was_due : (before : List (Made DeskTurn)) (answer : Result Given AllocError) → is_report_due last moment ≡ true
      → Reports config last moment rounded.Whole (act before step.Feedback (given_outcome answer) ∷ []) (report_letters config before answer) (given_came answer) (Some moment)

-- a round, and what the worker keeps before and after it
pub record ControlRound (config : Config) (reporter : Reporter) (round : Round) (reporter' : Reporter) : Type 0 where
  pub answers : List Act
  pub replies : List Letter
  pub first : Rounded
  pub says : Answers round.given round.moment answers replies first
  pub asks : List Act
  pub reports : List Letter
  pub reporting : Reports config reporter.last_report round.moment first asks reports round.came reporter'.last_report
  pub acts_are : round.acts ≡ answers ++ asks
  pub letters_are : round.letters ≡ replies ++ reports

-- ---- its parts

-- the datagram was answered
pub record AnswersOnce (desk : Shared) (given : Option Letter) (moment : ℕ) (came : Rounded) (old new : Scene) : Type 0 where
  pub acts : List Act
  pub letters : List Letter
  pub answers : Answers given moment acts letters came
  pub works : Works desk acts [] letters old new

-- what was due was reported
pub record ReportsWhenDue (desk : Shared) (last : Option ℕ) (moment : ℕ) (came : Rounded) (last' : Option ℕ) (old new : Scene) : Type 0 where
  pub acts : List Act
  pub letters : List Letter
  pub reports : Reports (config_of desk) last moment rounded.Whole acts letters came last'
  pub works : Works desk acts [] letters old new
