-- What a participant sent, played at the desk.
use Rattle.std.specs.Prelude.{◌≡◌, ℕ, ◌+◌, ◌<◌, ◌≤◌, Bool, true, false, List, [], ◌∷◌, ◌++◌, Option, Some, None}
use Rattle.std.specs.declared.result.Result.{Result}
use Rattle.std.specs.declared.result.Result.TheVariants.{Ok, Err}
use Rattle.std.specs.declared.alloc.AllocError.{AllocError}
use Rattle.jm_edge.specs.Wire.{Letter, Wire}
use Rattle.jm_cmds.specs.declared.commands.Command.{Command}
use Rattle.jm_turn.specs.declared.view.Made.{Made}
use Rattle.jm_book.specs.declared.steps.Config.{Config}
use Rattle.jm_book.specs.declared.steps.Step.TheVariants as step
use Rattle.jm_book.specs.declared.answers.Played.{Played}
use Rattle.jm_book.specs.declared.answers.Played.TheVariants as played
use Rattle.jm_book.specs.declared.answers.PlayFault.{PlayFault}
use Rattle.jm_book.specs.declared.answers.PlayFault.TheVariants as refusal
use Rattle.jm_desk.specs.declared.turn.DeskTurn.{DeskTurn}
use Rattle.jm_desk.specs.declared.turn.Outcome.TheVariants as outcome
use Rattle.jm_desk.specs.Sharing.{Shared, PassView, config_of}
use Rattle.jm_receiver.specs.declared.heard.Heard.{Heard}
use Rattle.jm_serve.specs.declared.sender.Sender.{Sender}
use Rattle.jm_serve.specs.declared.sender.Pumped.{Pumped}
use Rattle.jm_serve.specs.declared.sender.Pumped.TheVariants as pumped
use Rattle.jm_serve.specs.declared.worked.Rounded.{Rounded}
use Rattle.jm_serve.specs.declared.worked.Rounded.TheVariants as rounded
use Rattle.jm_serve.specs.declared.playing.Tried.{Tried}
use Rattle.jm_serve.specs.declared.playing.Tried.TheVariants as tried
use Rattle.jm_serve.specs.declared.playing.Course.{Course}
use Rattle.jm_serve.specs.declared.playing.Course.TheVariants as course
use Rattle.jm_serve.specs.Acts.{Act, act, next_call, Gains, Scene, Works}
use Rattle.jm_serve.specs.Pump.{Cuts}

-- ---- the sender's pace

-- what tells when the next packet is due: the moment of the last one, and whether a play was accepted since
pub record Pace : Type 0 where
  pub last_cut : ℕ
  pub owed : Bool

abbrev pub pace_of : Sender → Pace
pace_of sender = record { last_cut = sender.last_cut; owed = sender.owed }

abbrev pub scene_of : PassView → Wire → Sender → Scene
scene_of pass wire sender = record { pass = pass; wire = wire; call = sender.call; faults = sender.send_faults }

-- a packet sets the moment of the last one, and nothing is owed then
abbrev pub pace_after : (moment : ℕ) → Result Pumped AllocError → Pace → Pace
pace_after moment (Ok (pumped.Packet number)) pace = record { last_cut = moment; owed = false }
pace_after moment (Ok pumped.Idle) pace = pace
pace_after moment (Ok (pumped.RecordFull events)) pace = pace
pace_after moment (Ok (pumped.Behind ssrc mark)) pace = pace
pace_after moment (Err none) pace = pace

-- what a round comes to by what the sender answers
abbrev pub pumped_came : Result Pumped AllocError → Rounded
pumped_came (Ok (pumped.Packet number)) = rounded.Whole
pumped_came (Ok pumped.Idle) = rounded.Whole
pumped_came (Ok (pumped.Behind ssrc mark)) = rounded.Whole
pumped_came (Ok (pumped.RecordFull events)) = rounded.RecordFull
pumped_came (Err none) = rounded.NoMemory

-- ---- one play

abbrev pub refused_as : PlayFault → Tried
refused_as refusal.UnknownPlayer = tried.UnknownPlayer
refused_as (refusal.RecordFull events) = tried.RecordFull
refused_as (refusal.ParamsFull channel kept) = tried.PassedOver
refused_as (refusal.PolyFull channel kept) = tried.PassedOver
refused_as (refusal.SysexFull logs octets) = tried.PassedOver
refused_as (refusal.NeedsCut pending octets delta) = tried.NeedsCut

abbrev pub tried_of : Played → Tried
tried_of (played.Accepted serial kept) = tried.Accepted
tried_of (played.Refused why command) = refused_as why

-- A command is played once, or there is no memory for it.
pub data Once (player : ℕ) (command : Command) (moment : ℕ) : List Act → Tried → Type 0 where
  answered : (before : List (Made DeskTurn)) (answer : Played) → Once player command moment (act before (step.Play player command moment) (outcome.Played answer) ∷ []) (tried_of answer)
  no_room : (before : List (Made DeskTurn)) → Once player command moment (act before (step.Play player command moment) outcome.NoMemory ∷ []) tried.NoMemory
  no_copy : Once player command moment [] tried.NoMemory

-- ---- one command

-- how it goes on behind a play; where a packet has to be cut first, the command is passed over
abbrev pub course_of : Tried → Course
course_of tried.Accepted = course.Next
course_of tried.PassedOver = course.Next
course_of tried.NeedsCut = course.Next
course_of tried.UnknownPlayer = course.Dropped
course_of tried.RecordFull = course.RecordFull
course_of tried.NoMemory = course.NoMemory

-- a play that is accepted is owed to the peers
abbrev pub pace_tried : Tried → Pace → Pace
pace_tried tried.Accepted pace = record pace { owed = true }
pace_tried tried.PassedOver pace = pace
pace_tried tried.NeedsCut pace = pace
pace_tried tried.UnknownPlayer pace = pace
pace_tried tried.RecordFull pace = pace
pace_tried tried.NoMemory pace = pace

abbrev pub needs_cut : Tried → Bool
needs_cut tried.NeedsCut = true
needs_cut tried.Accepted = false
needs_cut tried.PassedOver = false
needs_cut tried.UnknownPlayer = false
needs_cut tried.RecordFull = false
needs_cut tried.NoMemory = false

-- how it goes on behind a round's part
abbrev pub course_by : Rounded → Course
course_by rounded.Whole = course.Next
course_by rounded.RecordFull = course.RecordFull
course_by rounded.NoMemory = course.NoMemory

-- the sender stops its worker
abbrev pub stops : Rounded → Bool
stops rounded.Whole = false
stops rounded.RecordFull = true
stops rounded.NoMemory = true

-- So many times the play was answered that a packet has to be cut first, and the sender was then asked for one at once.
pub data Retries (config : Config) (player : ℕ) (command : Command) (moment : ℕ) (first : Pace) : (cuts : ℕ) → List Act → List Letter → Pace → Type 0 where
  none_yet : Retries config player command moment first 0 [] [] first
  one_more : (cuts : ℕ) (acts play sends : List Act) (letters packets : List Letter) (pace : Pace) (result : Result Pumped AllocError)
      → Retries config player command moment first cuts acts letters pace → Once player command moment play tried.NeedsCut
      → Cuts config moment sends packets result → stops (pumped_came result) ≡ false
      → Retries config player command moment first (cuts + 1) (acts ++ (play ++ sends)) (letters ++ packets) (pace_after moment result pace)

-- What is done last for a command, behind so many cuts: it is played, and behind the 34th cut that is all, whatever is answered; or it needs
-- a cut, and that stops the worker.
pub data Last (config : Config) (player : ℕ) (command : Command) (moment cuts : ℕ) (pace : Pace) : List Act → List Letter → Course → Pace → Type 0 where
  settled : (acts : List Act) (what : Tried) → Once player command moment acts what → needs_cut what ≡ false
      → Last config player command moment cuts pace acts [] (course_of what) (pace_tried what pace)
  given_up : (acts : List Act) → Once player command moment acts tried.NeedsCut → cuts ≡ 34
      → Last config player command moment cuts pace acts [] course.Next pace
  stopped : (play sends : List Act) (packets : List Letter) (result : Result Pumped AllocError) → Once player command moment play tried.NeedsCut → cuts < 34
      → Cuts config moment sends packets result → stops (pumped_came result) ≡ true
      → Last config player command moment cuts pace (play ++ sends) packets (course_by (pumped_came result)) (pace_after moment result pace)

-- A command is played, with at most 34 cuts before it is passed over.
pub record Plays (config : Config) (player : ℕ) (command : Command) (moment : ℕ) (pace : Pace) (acts : List Act) (letters : List Letter) (come : Course) (pace' : Pace) : Type 0 where
  pub cuts : ℕ
  pub few : cuts ≤ 34
  pub retried : List Act
  pub packets : List Letter
  pub middle : Pace
  pub retries : Retries config player command moment pace cuts retried packets middle
  pub rest : List Act
  pub others : List Letter
  pub last : Last config player command moment cuts middle rest others come pace'
  pub acts_are : acts ≡ retried ++ rest
  pub letters_are : letters ≡ packets ++ others

-- ---- all commands of a packet

abbrev pub is_next : Course → Bool
is_next course.Next = true
is_next course.Dropped = false
is_next course.RecordFull = false
is_next course.NoMemory = false

-- They are played in order, until one stops it.
pub data PlaysEach (config : Config) (player : ℕ) (moment : ℕ) : List Heard → Pace → List Act → List Letter → Course → Pace → Type 0 where
  all_played : (pace : Pace) → PlaysEach config player moment [] pace [] [] course.Next pace
  goes_on : (heard : Heard) (rest : List Heard) (pace middle last : Pace) (acts later : List Act) (letters others : List Letter) (come : Course)
      → Plays config player heard.command moment pace acts letters course.Next middle → PlaysEach config player moment rest middle later others come last
      → PlaysEach config player moment (heard ∷ rest) pace (acts ++ later) (letters ++ others) come last
  stopped_at : (heard : Heard) (rest : List Heard) (pace last : Pace) (acts : List Act) (letters : List Letter) (come : Course)
      → Plays config player heard.command moment pace acts letters come last → is_next come ≡ false
      → PlaysEach config player moment (heard ∷ rest) pace acts letters come last

-- ---- its parts

pub record PlaysOnce (desk : Shared) (player : ℕ) (command : Command) (moment : ℕ) (what : Tried) (old new : PassView) (call call' : ℕ) : Type 0 where
  pub acts : List Act
  pub once : Once player command moment acts what
  pub gains : Gains desk acts old new
  pub calls : call' ≡ next_call call acts

-- a play that needs a cut, and the cut
pub record Retried (desk : Shared) (player : ℕ) (command : Command) (moment : ℕ) (pace pace' : Pace) (old new : Scene) : Type 0 where
  pub play : List Act
  pub sends : List Act
  pub packets : List Letter
  pub result : Result Pumped AllocError
  pub once : Once player command moment play tried.NeedsCut
  pub cuts : Cuts (config_of desk) moment sends packets result
  pub goes_on : stops (pumped_came result) ≡ false
  pub paced : pace' ≡ pace_after moment result pace
  pub works : Works desk (play ++ sends) [] packets old new

-- the last that is done for a command, behind so many cuts
pub record PlaysLast (desk : Shared) (player : ℕ) (command : Command) (moment cuts : ℕ) (come : Course) (pace pace' : Pace) (old new : Scene) : Type 0 where
  pub acts : List Act
  pub letters : List Letter
  pub last : Last (config_of desk) player command moment cuts pace acts letters come pace'
  pub works : Works desk acts [] letters old new

abbrev pub Tries : Shared → (player : ℕ) → Command → (moment : ℕ) → Option Course → (pace pace' : Pace) → (old new : Scene) → Type 0
Tries desk player command moment None pace pace' old new = Retried desk player command moment pace pace' old new
Tries desk player command moment (Some come) pace pace' old new = (cuts : ℕ) → cuts < 34 → PlaysLast desk player command moment cuts come pace pace' old new

-- a cut at once
pub record CutsAtOnce (desk : Shared) (moment : ℕ) (came : Rounded) (pace pace' : Pace) (old new : Scene) : Type 0 where
  pub acts : List Act
  pub letters : List Letter
  pub result : Result Pumped AllocError
  pub cuts : Cuts (config_of desk) moment acts letters result
  pub came_is : pumped_came result ≡ came
  pub paced : pace' ≡ pace_after moment result pace
  pub works : Works desk acts [] letters old new

-- so many times
pub record RetriesSoFar (desk : Shared) (player : ℕ) (command : Command) (moment cuts : ℕ) (pace pace' : Pace) (old new : Scene) : Type 0 where
  pub acts : List Act
  pub letters : List Letter
  pub retries : Retries (config_of desk) player command moment pace cuts acts letters pace'
  pub works : Works desk acts [] letters old new

pub record PlaysCommand (desk : Shared) (player : ℕ) (command : Command) (moment : ℕ) (come : Course) (pace pace' : Pace) (old new : Scene) : Type 0 where
  pub acts : List Act
  pub letters : List Letter
  pub plays : Plays (config_of desk) player command moment pace acts letters come pace'
  pub works : Works desk acts [] letters old new

pub record PlaysList (desk : Shared) (player : ℕ) (heard : List Heard) (moment : ℕ) (come : Course) (pace pace' : Pace) (old new : Scene) : Type 0 where
  pub acts : List Act
  pub letters : List Letter
  pub plays : PlaysEach (config_of desk) player moment heard pace acts letters come pace'
  pub works : Works desk acts [] letters old new
