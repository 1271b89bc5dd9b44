-- The rounds of a worker, one after another, and how they come to their end.
use Rattle.std.specs.Prelude.{◌≡◌, ◌⊎◌, ℕ, ◌+◌, ◌<◌, ◌≤◌, List, [], ◌∷◌, ◌++◌, Option}
use Rattle.std.specs.Option.{option_map}
use Rattle.jm_edge.specs.declared.Addr.{Addr}
use Rattle.jm_edge.specs.Faults.{Rose}
use Rattle.jm_edge.specs.Wire.{Letter, Wire}
use Rattle.std.specs.declared.result.Result.{Result}
use Rattle.std.specs.declared.result.Result.TheVariants.{Ok, Err}
use Rattle.jm_desk.specs.Sharing.{Shared}
use Rattle.jm_serve.specs.declared.serving.RecvFailed.{RecvFailed}
use Rattle.jm_serve.specs.declared.worked.Rounded.{Rounded}
use Rattle.jm_serve.specs.declared.worked.Rounded.TheVariants as rounded
use Rattle.jm_serve.specs.declared.worked.WorkEnd.{WorkEnd}
use Rattle.jm_serve.specs.declared.worked.WorkEnd.TheVariants as ends
use Rattle.jm_edge.specs.Moments.{Gave}
use Rattle.jm_serve.specs.Acts.{Act, Scene, Works}

-- the datagram of these octets, where one came
abbrev pub letter_of : (from : Option Addr) → (octets : List ℕ) → Option Letter
letter_of from octets = option_map (λ addr. record { addr = addr; octets = octets }) from

-- One round: the datagram that was given, if one was, and the moment; its turns at the desk and the datagrams that were sent; and what
-- it came to.
pub record Round : Type 0 where
  pub given : Option Letter
  pub moment : ℕ
  pub acts : List Act
  pub letters : List Letter
  pub came : Rounded

pub data Rounds : Type 0 where
  start : Rounds
  then_round : Rounds → Round → Rounds

abbrev pub count_of : Rounds → ℕ
count_of start = 0
count_of (then_round rounds round) = count_of rounds + 1

abbrev pub acts_of : Rounds → List Act
acts_of start = []
acts_of (then_round rounds round) = acts_of rounds ++ round.acts

abbrev pub letters_of : Rounds → List Letter
letters_of start = []
letters_of (then_round rounds round) = letters_of rounds ++ round.letters

abbrev pub givens_of : Rounds → List (Option Letter)
givens_of start = []
givens_of (then_round rounds round) = givens_of rounds ++ round.given ∷ []

abbrev pub moments_of : Rounds → List ℕ
moments_of start = []
moments_of (then_round rounds round) = moments_of rounds ++ round.moment ∷ []

-- Each round does what it has to do with what the worker keeps from the rounds before, and all but the last are whole.
pub data Follow {S : Type 0} (Does : S → Round → S → Type 0) (first : S) : Rounds → (last : S) → (came : Rounded) → Type 0 where
  none_yet : Follow Does first start first rounded.Whole
  one_more : (rounds : Rounds) (round : Round) (middle last : S) → Follow Does first rounds middle rounded.Whole → Does middle round last
      → Follow Does first (then_round rounds round) last round.came

-- One round was done for a desk.
pub record DoesRound {S : Type 0} (Does : S → Round → S → Type 0) (desk : Shared) (given : Option Letter) (moment : ℕ) (came : Rounded) (kept kept' : S) (old new : Scene) : Type 0 where
  pub acts : List Act
  pub letters : List Letter
  pub does : Does kept (record { given = given; moment = moment; acts = acts; letters = letters; came = came }) kept'
  pub works : Works desk acts [] letters old new

-- what there is before and after rounds: what a round has to do with, and the moments that are coming, where the clock tells them
pub record Outside : Type 0 where
  pub scene : Scene
  pub coming : Option (ℕ → ℕ)

-- Rounds were made, one after another: what their receives gave, their moments, their turns and what they sent.
pub record Makes {S : Type 0} (Does : S → Round → S → Type 0) (first : S) (desk : Shared) (made : ℕ) (came : Rounded) (last : S) (old new : Outside) : Type 0 where
  pub rounds : Rounds
  pub count : count_of rounds ≡ made
  pub follow : Follow Does first rounds last came
  pub works : Works desk (acts_of rounds) (givens_of rounds) (letters_of rounds) old.scene new.scene
  pub moments : Gave (moments_of rounds) old.coming new.coming

-- Why a worker came to its end, after so many rounds of which the last came to this: all were made; a receive failed, which the port
-- counted, and all rounds before were whole; a call was answered that the tape is full; or there was no memory, maybe before the first.
abbrev pub EndsBy : WorkEnd → (turns made : ℕ) → Rounded → (old new : Wire) → Type 0
EndsBy ends.Made turns made came old new = (made ≡ turns) × (came ≡ rounded.Whole)
EndsBy ends.RecvFailed turns made came old new = (made < turns) × (came ≡ rounded.Whole) × Rose old.recv_faults new.recv_faults
EndsBy ends.RecordFull turns made came old new = (made ≤ turns) × (came ≡ rounded.RecordFull)
EndsBy ends.NoMemory turns made came old new = (made ≤ turns) × ((came ≡ rounded.NoMemory) ⊎ (made ≡ 0))

-- A worker that was to make so many rounds came to its end.
pub record MakesRounds {S : Type 0} (Does : S → Round → S → Type 0) (first : S) (desk : Shared) (turns : ℕ) (stop : WorkEnd) (old new : Outside) : Type 0 where
  pub made : ℕ
  pub came : Rounded
  pub last : S
  pub makes : Makes Does first desk made came last old new
  pub stops : EndsBy stop turns made came old.scene.wire new.scene.wire

-- ---- its parts

-- one round, with its receive and its moment
pub record MakesOne {S : Type 0} (Does : S → Round → S → Type 0) (desk : Shared) (came : Rounded) (kept kept' : S) (old new : Outside) : Type 0 where
  pub given : Option Letter
  pub moment : ℕ
  pub acts : List Act
  pub letters : List Letter
  pub does : Does kept (record { given = given; moment = moment; acts = acts; letters = letters; came = came }) kept'
  pub works : Works desk acts (given ∷ []) letters old.scene new.scene
  pub moments : Gave (moment ∷ []) old.coming new.coming

-- a receive that failed, and nothing behind it
pub record Breaks (desk : Shared) (old new : Outside) : Type 0 where
  pub works : Works desk [] [] [] old.scene new.scene
  pub moments : new.coming ≡ old.coming
  pub rose : Rose old.scene.wire.recv_faults new.scene.wire.recv_faults

abbrev pub TakesRound : {S : Type 0} → (Does : S → Round → S → Type 0) → Shared → Result Rounded RecvFailed → (kept kept' : S) → (old new : Outside) → Type 0
TakesRound Does desk (Ok came) kept kept' old new = MakesOne Does desk came kept kept' old new
TakesRound Does desk (Err failed) kept kept' old new = (kept' ≡ kept) × Breaks desk old new
