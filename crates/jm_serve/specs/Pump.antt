-- When the sender of a session cuts a packet, and what comes of it.
use Rattle.std.specs.Prelude.{◌≡◌, ℕ, ◌+◌, ◌-◌, ◌%◌, ◌<◌, ◌≤◌, Bool, true, false, ◌&&◌, ◌||◌, nat_le, List, [], ◌∷◌, ◌++◌, length, Option, Some, None}
use Rattle.std.specs.declared.result.Result.{Result}
use Rattle.std.specs.declared.result.Result.TheVariants.{Ok, Err}
use Rattle.std.specs.declared.alloc.AllocError.{AllocError}
use Rattle.jm_edge.specs.Wire.{Letter}
use Rattle.jm_turn.specs.declared.view.Made.{Made}
use Rattle.jm_book.specs.declared.steps.Config.{Config}
use Rattle.jm_book.specs.declared.steps.Step.TheVariants as step
use Rattle.jm_book.specs.declared.answers.Cutted.{Cutted}
use Rattle.jm_book.specs.declared.answers.Cutted.TheVariants as cutted
use Rattle.jm_book.specs.declared.answers.Gone.{Gone}
use Rattle.jm_book.specs.declared.answers.Gone.TheVariants as gone
use Rattle.jm_book.specs.Session.{session_of}
use Rattle.jm_book.specs.Packet.{packet_of}
use Rattle.jm_book.specs.BookAnswers.{address_list}
use Rattle.jm_desk.specs.declared.turn.DeskTurn.{DeskTurn}
use Rattle.jm_desk.specs.declared.turn.Outcome.{Outcome}
use Rattle.jm_desk.specs.declared.turn.Outcome.TheVariants as outcome
use Rattle.jm_desk.specs.History.{taken}
use Rattle.jm_desk.specs.Sharing.{Shared, PassView, config_of}
use Rattle.jm_serve.specs.declared.sender.Sender.{Sender}
use Rattle.jm_serve.specs.declared.sender.Pumped.{Pumped}
use Rattle.jm_serve.specs.declared.sender.Pumped.TheVariants as pumped
use Rattle.jm_serve.specs.Exchange.{letters_to}
use Rattle.jm_serve.specs.Acts.{Act, act, Gains, Scene, Works}

-- the units that passed, none where the later moment is less
abbrev pub passed : (earlier later : ℕ) → ℕ
passed earlier later = later - earlier

-- A packet is due: at once, where that is asked; 100 units after the last one where a play was accepted since; 10,000 units after it.
abbrev pub is_due : (at_once : Bool) → (moment : ℕ) → Sender → Bool
is_due at_once moment sender =
    at_once || (sender.owed && nat_le 100 (passed sender.last_cut moment)) || nat_le 10000 (passed sender.last_cut moment)

-- the packet that is cut behind these turns, to each address that the session then sends to
abbrev pub packet_letters : Config → (before : List (Made DeskTurn)) → (moment : ℕ) → List Letter
packet_letters config before moment =
    letters_to (packet_of (session_of config (taken before)) moment) (address_list config (taken before))

-- ---- the single calls

abbrev pub cut_outcome : Result Cutted AllocError → Outcome
cut_outcome (Ok answer) = outcome.Cut answer
cut_outcome (Err none) = outcome.NoMemory

abbrev pub cut_letters : Config → (before : List (Made DeskTurn)) → (moment : ℕ) → Result Cutted AllocError → List Letter
cut_letters config before moment (Ok (cutted.Packet number)) = packet_letters config before moment
cut_letters config before moment (Ok (cutted.RecordFull events)) = []
cut_letters config before moment (Ok (cutted.Behind ssrc mark)) = []
cut_letters config before moment (Err none) = []

abbrev pub leave_outcome : Result Gone AllocError → Outcome
leave_outcome (Ok answer) = outcome.Gone answer
leave_outcome (Err none) = outcome.NoMemory

-- ---- participants that are too far behind

-- A cut was answered that the named participant is behind, and then it was taken out, or had left meanwhile.
pub record Departure : Type 0 where
  pub cut_before : List (Made DeskTurn)
  pub ssrc : ℕ
  pub mark : ℕ
  pub leave_before : List (Made DeskTurn)
  pub was_there : Bool

abbrev pub gone_of : (was_there : Bool) → Gone
gone_of true = gone.Left
gone_of false = gone.UnknownSsrc

abbrev pub departure_acts : (moment : ℕ) → Departure → List Act
departure_acts moment one =
    act one.cut_before (step.Cut moment) (outcome.Cut (cutted.Behind one.ssrc one.mark))
    ∷ act one.leave_before (step.Leave one.ssrc) (outcome.Gone (gone_of one.was_there)) ∷ []

abbrev pub departures_acts : (moment : ℕ) → List Departure → List Act
departures_acts moment [] = []
departures_acts moment (one ∷ departures) = departure_acts moment one ++ departures_acts moment departures

-- ---- the last calls

-- What the last calls of the sender are after so many departures, the datagrams that they send, and what the sender answers. A cut is
-- tried once more after each of at most 32 departures.
pub data Ends (config : Config) (moment departures : ℕ) : List Act → List Letter → Result Pumped AllocError → Type 0 where
  cut_packet : (before : List (Made DeskTurn)) (number : ℕ)
      → Ends config moment departures (act before (step.Cut moment) (outcome.Cut (cutted.Packet number)) ∷ []) (packet_letters config before moment) (Ok (pumped.Packet number))
  tape_full : (before : List (Made DeskTurn)) (events : ℕ)
      → Ends config moment departures (act before (step.Cut moment) (outcome.Cut (cutted.RecordFull events)) ∷ []) [] (Ok (pumped.RecordFull events))
  still_behind : (before : List (Made DeskTurn)) (ssrc mark : ℕ) → departures ≡ 32
      → Ends config moment departures (act before (step.Cut moment) (outcome.Cut (cutted.Behind ssrc mark)) ∷ []) [] (Ok (pumped.Behind ssrc mark))
  no_room : (before : List (Made DeskTurn)) (none : AllocError)
      → Ends config moment departures (act before (step.Cut moment) outcome.NoMemory ∷ []) [] (Err none)
  full_then : (before later : List (Made DeskTurn)) (ssrc mark events : ℕ) → departures < 32
      → Ends config moment departures (act before (step.Cut moment) (outcome.Cut (cutted.Behind ssrc mark)) ∷ act later (step.Leave ssrc) (outcome.Gone (gone.RecordFull events)) ∷ []) [] (Ok (pumped.RecordFull events))
  no_room_then : (before later : List (Made DeskTurn)) (ssrc mark : ℕ) (none : AllocError) → departures < 32
      → Ends config moment departures (act before (step.Cut moment) (outcome.Cut (cutted.Behind ssrc mark)) ∷ act later (step.Leave ssrc) outcome.NoMemory ∷ []) [] (Err none)

-- the last calls were made
pub record Ended (desk : Shared) (moment departures : ℕ) (result : Result Pumped AllocError) (old new : Scene) : Type 0 where
  pub acts : List Act
  pub letters : List Letter
  pub ends : Ends (config_of desk) moment departures acts letters result
  pub works : Works desk acts [] letters old new

-- ---- the parts of the sender

-- one cut
pub record CutsOnce (desk : Shared) (moment : ℕ) (result : Result Cutted AllocError) (old new : Scene) : Type 0 where
  pub before : List (Made DeskTurn)
  pub works : Works desk (act before (step.Cut moment) (cut_outcome result) ∷ []) [] (cut_letters (config_of desk) before moment result) old new

-- one departure
pub record LeavesOnce (desk : Shared) (ssrc : ℕ) (result : Result Gone AllocError) (old new : PassView) (call call' : ℕ) : Type 0 where
  pub before : List (Made DeskTurn)
  pub gains : Gains desk (act before (step.Leave ssrc) (leave_outcome result) ∷ []) old new
  pub calls : call' ≡ (call + 1) % 4294967296

pub record Departs (desk : Shared) (moment : ℕ) (old new : Scene) : Type 0 where
  pub departure : Departure
  pub works : Works desk (departure_acts moment departure) [] [] old new

-- one cut, and a departure where it is answered that a participant is behind: nothing more to do, or one departure
abbrev pub Parts : Shared → (moment : ℕ) → Result (Option Pumped) AllocError → Scene → Scene → Type 0
Parts desk moment (Ok None) old new = Departs desk moment old new
Parts desk moment (Ok (Some answer)) old new = (departures : ℕ) → departures < 32 → Ended desk moment departures (Ok answer) old new
Parts desk moment (Err none) old new = (departures : ℕ) → departures < 32 → Ended desk moment departures (Err none) old new

-- so many departures
pub record DepartsAll (desk : Shared) (moment count : ℕ) (old new : Scene) : Type 0 where
  pub departures : List Departure
  pub count_is : length departures ≡ count
  pub works : Works desk (departures_acts moment departures) [] [] old new

-- ---- the whole

-- What the sender's turns are where a packet is due, the datagrams that they send, and what it answers: at most 32 departures, and
-- then the last calls.
pub record Cuts (config : Config) (moment : ℕ) (acts : List Act) (letters : List Letter) (result : Result Pumped AllocError) : Type 0 where
  pub departures : List Departure
  pub few : length departures ≤ 32
  pub last : List Act
  pub acts_are : acts ≡ departures_acts moment departures ++ last
  pub ends : Ends config moment (length departures) last letters result

pub record CutsAll (desk : Shared) (moment : ℕ) (result : Result Pumped AllocError) (old new : Scene) : Type 0 where
  pub acts : List Act
  pub letters : List Letter
  pub cuts : Cuts (config_of desk) moment acts letters result
  pub works : Works desk acts [] letters old new

-- and where none is
pub record Rests (acts : List Act) (letters : List Letter) (result : Result Pumped AllocError) : Type 0 where
  pub no_acts : acts ≡ []
  pub no_letters : letters ≡ []
  pub idle : result ≡ Ok pumped.Idle

abbrev pub Does : (due : Bool) → Config → (moment : ℕ) → List Act → List Letter → Result Pumped AllocError → Type 0
Does true config moment acts letters result = Cuts config moment acts letters result
Does false config moment acts letters result = Rests acts letters result

-- a packet sets the moment of the last one, and nothing is owed then
abbrev pub settled : (moment : ℕ) → Result Pumped AllocError → Sender → Sender
settled moment (Ok (pumped.Packet number)) sender = record sender { last_cut = moment; owed = false }
settled moment (Ok pumped.Idle) sender = sender
settled moment (Ok (pumped.RecordFull events)) sender = sender
settled moment (Ok (pumped.Behind ssrc mark)) sender = sender
settled moment (Err none) sender = sender

-- What the sender did for one desk at a moment. It counts its calls and its failed sends whatever it answers.
pub record Pumps (desk : Shared) (at_once : Bool) (moment : ℕ) (result : Result Pumped AllocError) (sender sender' : Sender) (old new : Scene) : Type 0 where
  pub acts : List Act
  pub letters : List Letter
  pub does : Does (is_due at_once moment sender) (config_of desk) moment acts letters result
  pub works : Works desk acts [] letters old new
  pub sender_is : sender' ≡ settled moment result (record sender { call = new.call; send_faults = new.faults })
