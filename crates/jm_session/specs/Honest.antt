-- An honest participant: it stays, and reports only packets that its receiver took. What befalls the session and this receiver.
use Rattle.std.specs.Prelude.{ℕ, ◌≡◌, ◌+◌, ◌≤◌, ◌<◌, ◌^◌, Bool, true, false, ◌==◌, List, [], ◌∷◌, ◌++◌, Option, Some, None, Result, Ok, Err, fold}
use Rattle.std.specs.List.{list_any}
use Rattle.apple_msg.specs.declared.message.Message.{Message}
use Rattle.apple_session.specs.Conduct.{ssrc_of}
use Rattle.jm_receiver.specs.declared.opening.AcceptFault.{AcceptFault}
use Rattle.jm_receiver.specs.declared.receiver.Took.{Took}
use Rattle.jm_receiver.specs.Accept.{accepted}
use Rattle.jm_receiver.specs.InStep.{first_lacking, CanTell}
use Rattle.jm_receiver.specs.Receiver.{Received}
use Rattle.jm_book.specs.declared.answers.Acked.TheVariants as acked
use Rattle.jm_book.specs.declared.answers.Acted.TheVariants as acted
use Rattle.jm_book.specs.declared.answers.Said.TheVariants as said
use Rattle.jm_book.specs.declared.steps.Config.{Config}
use Rattle.jm_book.specs.declared.steps.Step.{Step}
use Rattle.jm_book.specs.declared.steps.Step.TheVariants.{Cut, Ack, Say}
use Rattle.jm_book.specs.Participants.{is_member}
use Rattle.jm_book.specs.Session.{session_of, members_of, checkpoint_of}
use Rattle.jm_book.specs.BookAnswers.{ack_answer, say_answer}
use Rattle.jm_book.specs.Legal.{IsTaken, IsLegal}
use Rattle.jm_book.specs.Commands.{HasCommand, HaveCommands}
use Rattle.jm_book.specs.Packet.{packet_of as octets_of_cut}
use Rattle.jm_session.specs.Packets.{number_of}
use Rattle.jm_session.specs.InStep.{IsInStep, ComesInStep}

-- The steps that the session took, a participant's receiver, and the numbers of the packets that it took since the participant joined.
pub record Situation : Type 0 where
  pub steps : List Step
  pub receiver : Received
  pub taken : List ℕ

pub data Event : Type 0 where
  -- the session takes a step
  goes : (step : Step) → Event
  -- the receiver is given the packet that was cut behind these steps at this tick
  arrives : (before : List Step) (tick : ℕ) → Event

-- the receiver as it is behind what it answered to a packet: as it was where it refused it
abbrev pub with_answer : Situation → Result (Received × Took) AcceptFault → Situation
with_answer s (Ok (after, took)) = record s { receiver = after; taken = took.number ∷ s.taken }
with_answer s (Err fault) = s

abbrev pub situation_after : Config → Situation → Event → Situation
situation_after config s (goes step) = record s { steps = s.steps ++ step ∷ [] }
situation_after config s (arrives before tick) = with_answer s (accepted s.receiver (octets_of_cut (session_of config before) tick))

-- ---- what an honest participant does

abbrev pub is_one_of : ℕ → List ℕ → Bool
is_one_of number numbers = list_any (λ other. other == number) numbers

-- Where this step is a report of this SSRC, by itself or as a message, that moves its mark, the mark is a packet that its receiver took.
abbrev pub ReportsTaken : Config → (steps : List Step) → (ssrc : ℕ) → (taken : List ℕ) → Step → Type 0
ReportsTaken config steps ssrc taken (Ack other seq) =
    (mark : ℕ) → other ≡ ssrc → ack_answer config steps other seq ≡ acked.Moved mark → is_one_of mark taken ≡ true
ReportsTaken config steps ssrc taken (Say port from message now) =
    (mark : ℕ) (reply : Option Message) → ssrc_of message ≡ Some ssrc → say_answer config steps port from message now ≡ said.Done reply (acted.Moved mark) → is_one_of mark taken ≡ true
ReportsTaken config steps ssrc taken _ = Unit {0}

-- The step is taken, brings a command within its bounds if it is a play, leaves the participant joined, and is no report of a packet that its
-- receiver didn't take.
pub record IsHonestStep (config : Config) (ssrc : ℕ) (s : Situation) (step : Step) : Type 0 where
  pub legal : IsTaken config s.steps step
  pub command : HasCommand step
  pub stays : is_member ssrc (members_of config (s.steps ++ step ∷ [])).joined ≡ true
  pub reports : ReportsTaken config s.steps ssrc s.taken step

-- The packet was cut by one of the session's steps, and is later than all that the receiver took. Between, any may be lost.
pub record IsLater (config : Config) (s : Situation) (before : List Step) (tick : ℕ) : Type 0 where
  pub behind : List Step
  pub cut : s.steps ≡ before ++ Cut tick ∷ behind
  pub later : first_lacking s.receiver.last ≤ number_of (session_of config before)

abbrev pub IsHonest : Config → (ssrc : ℕ) → Situation → Event → Type 0
IsHonest config ssrc s (goes step) = IsHonestStep config ssrc s step
IsHonest config ssrc s (arrives before tick) = IsLater config s before tick

abbrev pub AreHonest : Config → (ssrc : ℕ) → Situation → List Event → Type 0
AreHonest config ssrc s [] = Unit {0}
AreHonest config ssrc s (event ∷ events) = IsHonest config ssrc s event × AreHonest config ssrc (situation_after config s event) events

-- ---- how it joins

-- its receiver took the last packet that was sent, or took none and packet 1 wasn't sent yet
abbrev pub HasLast : (last : Option ℕ) → (packets : ℕ) → Type 0
HasLast None packets = packets ≤ 1
HasLast (Some last) packets = last + 1 ≡ packets

-- It joins by this step, in step.
pub record JoinsInStep (config : Config) (ssrc : ℕ) (before : List Step) (join : Step) (r : Received) : Type 0 where
  pub legal : IsLegal config (before ++ join ∷ [])
  pub commands : HaveCommands (before ++ join ∷ [])
  pub absent : is_member ssrc (members_of config before).joined ≡ false
  pub joined : is_member ssrc (members_of config (before ++ join ∷ [])).joined ≡ true
  pub in_step : IsInStep config before r
  pub last : HasLast r.last (number_of (session_of config before))

abbrev pub joined_with : (steps : List Step) → Received → Situation
joined_with steps r = record { steps = steps; receiver = r; taken = [] }

abbrev pub situation_of : Config → Situation → List Event → Situation
situation_of config s events = fold (situation_after config) s events

-- ---- what follows

-- The packet's checkpoint isn't later than the first packet that the receiver lacks, the packet isn't too far ahead, and the receiver takes it and
-- is in step again.
pub record Meets (config : Config) (before : List Step) (tick : ℕ) (r : Received) : Type 0 where
  pub early : checkpoint_of (session_of config before) ≤ first_lacking r.last
  pub near : CanTell r.last (number_of (session_of config before))
  pub again : ComesInStep config before tick r

-- The receiver is in step, and so is it behind whichever later packet it is given next.
pub record StaysInStep (config : Config) (s : Situation) : Type 0 where
  pub in_step : IsInStep config s.steps s.receiver
  pub next : (before : List Step) (tick : ℕ) → IsLater config s before tick → Meets config before tick s.receiver

-- So it is after whatever befalls the session and an honest participant's receiver, whichever packets are lost or late. (Not: a sender that
-- goes on where a participant is further behind than its receiver can tell; a mark that moves by another step than a report of its own; a
-- late packet whose checkpoint is past what the receiver has.)
abbrev pub HonestParticipantsStayInStep : Type 0
HonestParticipantsStayInStep =
    (config : Config) (ssrc : ℕ) (before : List Step) (join : Step) (r : Received) (events : List Event) → config.ssrc < 2 ^ 32 → config.events < 2 ^ 64
    → JoinsInStep config ssrc before join r → AreHonest config ssrc (joined_with (before ++ join ∷ []) r) events
    → StaysInStep config (situation_of config (joined_with (before ++ join ∷ []) r) events)
