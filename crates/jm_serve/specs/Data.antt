-- What a round of the data port's worker does for one desk.
use Rattle.std.specs.Prelude.{◌≡◌, ℕ, Bool, true, false, if◌then◌else◌, List, [], ◌++◌}
use Rattle.std.specs.declared.result.Result.{Result}
use Rattle.std.specs.declared.alloc.AllocError.{AllocError}
use Rattle.jm_edge.specs.Wire.{Letter}
use Rattle.jm_book.specs.declared.steps.Config.{Config}
use Rattle.jm_desk.specs.Sharing.{Shared, config_of}
use Rattle.jm_serve.specs.declared.listener.Listener.{Listener}
use Rattle.jm_serve.specs.declared.sender.Pumped.{Pumped}
use Rattle.jm_serve.specs.declared.worked.Rounded.{Rounded}
use Rattle.jm_serve.specs.declared.worked.Rounded.TheVariants as rounded
use Rattle.jm_serve.specs.Acts.{Act, Scene, Works}
use Rattle.jm_serve.specs.Pump.{is_due, Does}
use Rattle.jm_serve.specs.Rounds.{Round}
use Rattle.jm_serve.specs.Playing.{Pace, pace_after, pumped_came}
use Rattle.jm_serve.specs.Listening.{Listens}

-- packets are counted from the moment of the first round
abbrev pub pace_at : (moment : ℕ) → Listener → Pace
pace_at moment listener = if listener.has_begun then record { last_cut = listener.sender.last_cut; owed = listener.sender.owed } else record { last_cut = moment; owed = listener.sender.owed }

-- a packet is due by this pace
abbrev pub is_packet_due : Pace → (moment : ℕ) → Bool
is_packet_due pace moment = is_due false moment (record { last_cut = pace.last_cut; owed = pace.owed; call = 0; send_faults = 0 })

-- Behind what was done with the datagram, unless that stopped the worker, the sender sends what is due.
pub data Sends (config : Config) (moment : ℕ) (pace : Pace) : (first : Rounded) → List Act → List Letter → (came : Rounded) → Pace → Type 0 where
  was_full : Sends config moment pace rounded.RecordFull [] [] rounded.RecordFull pace
  no_room : Sends config moment pace rounded.NoMemory [] [] rounded.NoMemory pace
  sent : (acts : List Act) (letters : List Letter) (result : Result Pumped AllocError) → Does (is_packet_due pace moment) config moment acts letters result
      → Sends config moment pace rounded.Whole acts letters (pumped_came result) (pace_after moment result pace)

-- a round, and what the worker keeps before and after it
pub record DataRound (config : Config) (listener : Listener) (round : Round) (listener' : Listener) : Type 0 where
  pub heard : List Act
  pub replies : List Letter
  pub first : Rounded
  pub middle : Pace
  pub listens : Listens config round.given round.moment listener.receivers (pace_at round.moment listener) heard replies first listener'.receivers middle
  pub cuts : List Act
  pub packets : List Letter
  pub sends : Sends config round.moment middle first cuts packets round.came (record { last_cut = listener'.sender.last_cut; owed = listener'.sender.owed })
  pub has_begun : listener'.has_begun ≡ true
  pub acts_are : round.acts ≡ heard ++ cuts
  pub letters_are : round.letters ≡ replies ++ packets

-- ---- its parts

-- the sender sent what was due
pub record SendsWhatIsDue (desk : Shared) (moment : ℕ) (came : Rounded) (pace pace' : Pace) (old new : Scene) : Type 0 where
  pub acts : List Act
  pub letters : List Letter
  pub sends : Sends (config_of desk) moment pace rounded.Whole acts letters came pace'
  pub works : Works desk acts [] letters old new
