-- Messages at a session, and what is sent for them.
use Rattle.std.specs.Prelude.{◌≡◌, ℕ, ◌+◌, ◌%◌, List, [], ◌∷◌, Option, Some, None}
use Rattle.std.specs.declared.result.Result.{Result}
use Rattle.std.specs.declared.result.Result.TheVariants.{Ok, Err}
use Rattle.std.specs.declared.alloc.AllocError.{AllocError}
use Rattle.jm_edge.specs.declared.Addr.{Addr}
use Rattle.jm_edge.specs.Wire.{Letter}
use Rattle.apple_msg.specs.declared.message.Message.{Message}
use Rattle.apple_msg.specs.declared.message.Message.TheVariants as message
use Rattle.apple_msg.specs.declared.message.MsgFault.{MsgFault}
use Rattle.apple_msg.specs.Spelling.{text}
use Rattle.apple_msg.specs.Reading.{read}
use Rattle.apple_session.specs.declared.answer.PortKind.{PortKind}
use Rattle.jm_turn.specs.declared.view.Made.{Made}
use Rattle.jm_book.specs.declared.steps.Config.{Config}
use Rattle.jm_book.specs.declared.steps.Step.TheVariants as step
use Rattle.jm_book.specs.declared.lists.FeedbackEntry.{FeedbackEntry}
use Rattle.jm_book.specs.declared.answers.Said.{Said}
use Rattle.jm_book.specs.declared.answers.Said.TheVariants as said
use Rattle.jm_book.specs.declared.answers.Given.{Given}
use Rattle.jm_book.specs.declared.answers.Given.TheVariants as given
use Rattle.jm_book.specs.BookAnswers.{feedback_list}
use Rattle.jm_desk.specs.declared.turn.DeskTurn.{DeskTurn}
use Rattle.jm_desk.specs.declared.turn.Outcome.{Outcome}
use Rattle.jm_desk.specs.declared.turn.Outcome.TheVariants as outcome
use Rattle.jm_desk.specs.History.{taken}
use Rattle.jm_desk.specs.Sharing.{Shared, PassView, config_of}
use Rattle.jm_serve.specs.declared.worked.Rounded.{Rounded}
use Rattle.jm_serve.specs.declared.worked.Rounded.TheVariants as rounded
use Rattle.jm_serve.specs.declared.message_calls.Told.{Told}
use Rattle.jm_serve.specs.declared.message_calls.Told.TheVariants as told
use Rattle.jm_serve.specs.Acts.{act, Gains, Scene, Works}

-- the datagram of a message
abbrev pub letter_with : Addr → Message → Letter
letter_with to m = record { addr = to; octets = text m }

-- ---- a message that came

-- what a datagram says, and where it came from
abbrev pub says : (from : Addr) → Result Message MsgFault → Option (Addr × Message)
says from (Ok m) = Some (from, m)
says from (Err fault) = None

abbrev pub message_in : Option Letter → Option (Addr × Message)
message_in (Some letter) = says letter.addr (read letter.octets)
message_in None = None

abbrev pub said_outcome : Result Said AllocError → Outcome
said_outcome (Ok answer) = outcome.Said answer
said_outcome (Err none) = outcome.NoMemory

-- a reply goes to where the message came from
abbrev pub reply_to : Addr → Option Message → List Letter
reply_to to (Some reply) = letter_with to reply ∷ []
reply_to to None = []

abbrev pub reply_letters : Addr → Result Said AllocError → List Letter
reply_letters to (Ok (said.Done reply acted)) = reply_to to reply
reply_letters to (Ok (said.RecordFull events)) = []
reply_letters to (Err none) = []

-- what it came to, for the worker
abbrev pub told_of : Result Said AllocError → Told
told_of (Ok (said.Done reply acted)) = told.Done acted
told_of (Ok (said.RecordFull events)) = told.RecordFull
told_of (Err none) = told.NoMemory

abbrev pub told_came : Told → Rounded
told_came (told.Done acted) = rounded.Whole
told_came told.RecordFull = rounded.RecordFull
told_came told.NoMemory = rounded.NoMemory

pub record SaysOnce (desk : Shared) (port : PortKind) (from : Addr) (m : Message) (moment : ℕ) (result : Result Said AllocError) (old new : PassView) (call call' : ℕ) : Type 0 where
  pub before : List (Made DeskTurn)
  pub gains : Gains desk (act before (step.Say port from m moment) (said_outcome result) ∷ []) old new
  pub calls : call' ≡ (call + 1) % 4294967296

-- The session was told the message, and its reply went out.
pub record Tells (desk : Shared) (port : PortKind) (from : Addr) (m : Message) (moment : ℕ) (result : Told) (old new : Scene) : Type 0 where
  pub before : List (Made DeskTurn)
  pub answer : Result Said AllocError
  pub told_is : told_of answer ≡ result
  pub works : Works desk (act before (step.Say port from m moment) (said_outcome answer) ∷ []) [] (reply_letters from answer) old new

-- ---- feedback

abbrev pub given_outcome : Result Given AllocError → Outcome
given_outcome (Ok answer) = outcome.Given answer
given_outcome (Err none) = outcome.NoMemory

-- what the host reports to each of these, under its own source
abbrev pub reports_to : (ssrc : ℕ) → List FeedbackEntry → List Letter
reports_to ssrc [] = []
reports_to ssrc (entry ∷ entries) = letter_with entry.to (message.Feedback ssrc entry.seq) ∷ reports_to ssrc entries

abbrev pub report_letters : Config → (before : List (Made DeskTurn)) → Result Given AllocError → List Letter
report_letters config before (Ok given.Given) = reports_to config.ssrc (feedback_list config (taken before))
report_letters config before (Ok (given.RecordFull events)) = []
report_letters config before (Err none) = []

abbrev pub given_came : Result Given AllocError → Rounded
given_came (Ok given.Given) = rounded.Whole
given_came (Ok (given.RecordFull events)) = rounded.RecordFull
given_came (Err none) = rounded.NoMemory

-- The session was asked what is to be reported, and that was sent.
pub record ReportsOnce (desk : Shared) (result : Rounded) (old new : Scene) : Type 0 where
  pub before : List (Made DeskTurn)
  pub answer : Result Given AllocError
  pub came_is : given_came answer ≡ result
  pub works : Works desk (act before step.Feedback (given_outcome answer) ∷ []) [] (report_letters (config_of desk) before answer) old new
