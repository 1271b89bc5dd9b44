-- What is done for one session with a datagram of the data port.
use Rattle.std.specs.Prelude.{◌≡◌, ℕ, ◌+◌, ◌%◌, Bool, true, false, ◌&&◌, ◌==◌, List, [], ◌∷◌, remove, Option, Some, None}
use Rattle.std.specs.declared.result.Result.{Result}
use Rattle.std.specs.declared.result.Result.TheVariants.{Ok, Err}
use Rattle.std.specs.declared.alloc.AllocError.{AllocError}
use Rattle.jm_edge.specs.declared.Addr.{Addr}
use Rattle.jm_edge.specs.Wire.{Letter}
use Rattle.apple_msg.specs.declared.message.Message.{Message}
use Rattle.apple_msg.specs.declared.message.Message.TheVariants as message
use Rattle.apple_session.specs.declared.answer.PortKind.TheVariants.{Rtp}
use Rattle.jm_turn.specs.declared.view.Made.{Made}
use Rattle.jm_book.specs.declared.steps.Config.{Config}
use Rattle.jm_book.specs.declared.steps.Step.TheVariants as step
use Rattle.jm_book.specs.declared.answers.Acted.{Acted}
use Rattle.jm_book.specs.declared.answers.Acted.TheVariants as acted
use Rattle.jm_book.specs.declared.answers.Said.{Said}
use Rattle.jm_book.specs.declared.answers.Heard.TheVariants as heard
use Rattle.jm_book.specs.declared.answers.Heard.{Heard}
use Rattle.jm_desk.specs.declared.turn.DeskTurn.{DeskTurn}
use Rattle.jm_desk.specs.declared.turn.Outcome.{Outcome}
use Rattle.jm_desk.specs.declared.turn.Outcome.TheVariants as outcome
use Rattle.jm_desk.specs.Sharing.{Shared, PassView, config_of}
use Rattle.jm_serve.specs.declared.receivers.Slot.{Slot}
use Rattle.jm_serve.specs.declared.receivers.Came.{Came}
use Rattle.jm_serve.specs.declared.worked.Rounded.{Rounded}
use Rattle.jm_serve.specs.declared.worked.Rounded.TheVariants as rounded
use Rattle.jm_serve.specs.declared.message_calls.Told.{Told}
use Rattle.jm_serve.specs.declared.message_calls.Told.TheVariants as told
use Rattle.jm_serve.specs.declared.playing.Course.{Course}
use Rattle.jm_serve.specs.declared.playing.Course.TheVariants as course
use Rattle.jm_serve.specs.Acts.{Act, act, Gains, Scene, Works}
use Rattle.jm_serve.specs.Messages.{message_in, said_outcome, reply_letters, told_of, told_came}
use Rattle.jm_serve.specs.Receivers.{with_newcomer, TakesPacket}
use Rattle.jm_serve.specs.Playing.{Pace, is_next, PlaysEach}

-- ---- a message

-- who joins by a message, where the session answers that its sender joined
abbrev pub joins_by : Message → (player : ℕ) → Option (ℕ × ℕ)
joins_by (message.Invite token ssrc name) player = Some (player, ssrc)
joins_by (message.Accept token ssrc name) player = None
joins_by (message.Reject token ssrc name) player = None
joins_by (message.Bye token ssrc) player = None
joins_by (message.Clock ssrc count times) player = None
joins_by (message.Feedback ssrc seq) player = None
joins_by message.RateLimit player = None

abbrev pub acted_by : Message → Acted → Option (ℕ × ℕ)
acted_by m (acted.Joined mark player) = joins_by m player
acted_by m acted.Plain = None
acted_by m acted.Left = None
acted_by m (acted.Moved mark) = None
acted_by m (acted.Clocked offset) = None
acted_by m (acted.Ignored why) = None
acted_by m (acted.Old mark) = None
acted_by m (acted.NotSent last) = None

-- the player's number and the source of who joined by a message
abbrev pub newcomer_by : Message → Told → Option (ℕ × ℕ)
newcomer_by m (told.Done came) = acted_by m came
newcomer_by m told.RecordFull = None
newcomer_by m told.NoMemory = None

abbrev pub with_new : Option (ℕ × ℕ) → List Slot → List Slot
with_new (Some (player, ssrc)) slots = with_newcomer player ssrc slots
with_new None slots = slots

-- Behind a message that the session was told: who joined by it has a receiver, unless there is no memory for that.
pub data Welcomes (m : Message) (what : Told) (slots : List Slot) (came : Rounded) (slots' : List Slot) : Type 0 where
  welcomed : came ≡ told_came what → slots' ≡ with_new (newcomer_by m what) slots → Welcomes m what slots came slots'
  no_receiver : (player ssrc : ℕ) → newcomer_by m what ≡ Some (player, ssrc) → came ≡ rounded.NoMemory → slots' ≡ slots → Welcomes m what slots came slots'

-- ---- a packet

abbrev pub heard_outcome : Result Heard AllocError → Outcome
heard_outcome (Ok answer) = outcome.Heard answer
heard_outcome (Err none) = outcome.NoMemory

-- how it goes on behind the report that a packet was heard
abbrev pub heard_course : Result Heard AllocError → Course
heard_course (Ok heard.Noted) = course.Next
heard_course (Ok heard.UnknownSsrc) = course.Dropped
heard_course (Ok (heard.RecordFull events)) = course.RecordFull
heard_course (Err none) = course.NoMemory

-- The session is told that the packet was heard; where it is noted, what was heard of it is played.
pub data Hears (config : Config) (came : Came) (moment : ℕ) (pace : Pace) : List Act → List Letter → Course → Pace → Type 0 where
  unplayed : (before : List (Made DeskTurn)) (answer : Result Heard AllocError) → is_next (heard_course answer) ≡ false
      → Hears config came moment pace (act before (step.Hear came.ssrc (came.took.number % 65536)) (heard_outcome answer) ∷ []) [] (heard_course answer) pace
  played : (before : List (Made DeskTurn)) (acts : List Act) (letters : List Letter) (come : Course) (pace' : Pace)
      → PlaysEach config came.player moment came.took.heard pace acts letters come pace'
      → Hears config came moment pace (act before (step.Hear came.ssrc (came.took.number % 65536)) (outcome.Heard heard.Noted) ∷ acts) letters come pace'

-- a participant that isn't there any more is dropped
abbrev pub slots_after : Course → (place : ℕ) → List Slot → List Slot
slots_after course.Next place slots = slots
slots_after course.Dropped place slots = remove slots place
slots_after course.RecordFull place slots = slots
slots_after course.NoMemory place slots = slots

abbrev pub came_by : Course → Rounded
came_by course.Next = rounded.Whole
came_by course.Dropped = rounded.Whole
came_by course.RecordFull = rounded.RecordFull
came_by course.NoMemory = rounded.NoMemory

-- A datagram that is no message goes to the receiver of its stream, and what that takes is heard.
pub data Takes (config : Config) (octets : List ℕ) (moment : ℕ) (slots : List Slot) (pace : Pace) : List Act → List Letter → Rounded → List Slot → Pace → Type 0 where
  nothing : (slots' : List Slot) → TakesPacket octets slots (Ok None) slots' → Takes config octets moment slots pace [] [] rounded.Whole slots' pace
  no_room : (none : AllocError) (slots' : List Slot) → TakesPacket octets slots (Err none) slots' → Takes config octets moment slots pace [] [] rounded.NoMemory slots' pace
  taken : (came : Came) (slots' : List Slot) (acts : List Act) (letters : List Letter) (come : Course) (pace' : Pace)
      → TakesPacket octets slots (Ok (Some came)) slots' → Hears config came moment pace acts letters come pace'
      → Takes config octets moment slots pace acts letters (came_by come) (slots_after come came.place slots') pace'

-- ---- a datagram

-- FF FF stands at the front, as of every message of the session protocol
abbrev pub begins_as_message : List ℕ → Bool
begins_as_message (first ∷ second ∷ rest) = (first == 255) && (second == 255)
begins_as_message (first ∷ []) = false
begins_as_message [] = false

-- A datagram that begins as a message and reads as one is told to the session, and its reply goes to where it came from; if it doesn't
-- read as one, it is passed over. Any other datagram is taken as a packet.
pub data Listens (config : Config) (given : Option Letter) (moment : ℕ) (slots : List Slot) (pace : Pace) : List Act → List Letter → Rounded → List Slot → Pace → Type 0 where
  quiet : given ≡ None → Listens config given moment slots pace [] [] rounded.Whole slots pace
  message_came : (before : List (Made DeskTurn)) (from : Addr) (m : Message) (answer : Result Said AllocError) (came : Rounded) (slots' : List Slot)
      → message_in given ≡ Some (from, m) → Welcomes m (told_of answer) slots came slots'
      → Listens config given moment slots pace (act before (step.Say Rtp from m moment) (said_outcome answer) ∷ []) (reply_letters from answer) came slots' pace
  passed_over : (letter : Letter) → given ≡ Some letter → begins_as_message letter.octets ≡ true → message_in given ≡ None → Listens config given moment slots pace [] [] rounded.Whole slots pace
  packet_came : (letter : Letter) (acts : List Act) (letters : List Letter) (came : Rounded) (slots' : List Slot) (pace' : Pace)
      → given ≡ Some letter → begins_as_message letter.octets ≡ false → Takes config letter.octets moment slots pace acts letters came slots' pace'
      → Listens config given moment slots pace acts letters came slots' pace'

-- ---- its parts

pub record HearsOnce (desk : Shared) (ssrc number : ℕ) (result : Result Heard AllocError) (old new : PassView) (call call' : ℕ) : Type 0 where
  pub before : List (Made DeskTurn)
  pub gains : Gains desk (act before (step.Hear ssrc number) (heard_outcome result) ∷ []) old new
  pub calls : call' ≡ (call + 1) % 4294967296

pub record HearsPacket (desk : Shared) (came : Came) (moment : ℕ) (come : Course) (pace pace' : Pace) (old new : Scene) : Type 0 where
  pub acts : List Act
  pub letters : List Letter
  pub hears : Hears (config_of desk) came moment pace acts letters come pace'
  pub works : Works desk acts [] letters old new

pub record TellsOnce (desk : Shared) (from : Addr) (m : Message) (moment : ℕ) (came : Rounded) (slots slots' : List Slot) (old new : Scene) : Type 0 where
  pub before : List (Made DeskTurn)
  pub answer : Result Said AllocError
  pub welcomes : Welcomes m (told_of answer) slots came slots'
  pub works : Works desk (act before (step.Say Rtp from m moment) (said_outcome answer) ∷ []) [] (reply_letters from answer) old new

pub record TakesOnce (desk : Shared) (octets : List ℕ) (moment : ℕ) (came : Rounded) (slots slots' : List Slot) (pace pace' : Pace) (old new : Scene) : Type 0 where
  pub acts : List Act
  pub letters : List Letter
  pub takes : Takes (config_of desk) octets moment slots pace acts letters came slots' pace'
  pub works : Works desk acts [] letters old new

pub record ListensOnce (desk : Shared) (given : Option Letter) (moment : ℕ) (came : Rounded) (slots slots' : List Slot) (pace pace' : Pace) (old new : Scene) : Type 0 where
  pub acts : List Act
  pub letters : List Letter
  pub listens : Listens (config_of desk) given moment slots pace acts letters came slots' pace'
  pub works : Works desk acts [] letters old new
