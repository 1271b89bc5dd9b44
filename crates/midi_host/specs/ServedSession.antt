-- A served session: whose turns its history has, and what they are.
use Rattle.std.specs.Prelude.{◌≡◌, ◌⊎◌, ℕ, None, false, List, [], Option, codes}
use Rattle.jm_edge.specs.Moments.{Gave}
use Rattle.jm_edge.specs.Wire.{Wire}
use Rattle.jm_turn.specs.declared.view.Made.{Made}
use Rattle.jm_turn.specs.Turns.{Everyone}
use Rattle.jm_book.specs.declared.steps.Config.{Config}
use Rattle.jm_book.specs.declared.steps.Step.{Step}
use Rattle.jm_desk.specs.declared.turn.DeskTurn.{DeskTurn}
use Rattle.jm_desk.specs.History.{taken, IsHistory}
use Rattle.jm_desk.specs.OwnTurns.{turns_by}
use Rattle.jm_serve.specs.declared.control.Reporter.{Reporter}
use Rattle.jm_serve.specs.declared.listener.Listener.{Listener}
use Rattle.jm_serve.specs.declared.worked.Rounded.{Rounded}
use Rattle.jm_serve.specs.declared.worked.Worked.{Worked}
use Rattle.jm_serve.specs.Acts.{turns_of, StandIn}
use Rattle.jm_serve.specs.Exchange.{Posts}
use Rattle.jm_serve.specs.Rounds.{Round, Rounds, count_of, acts_of, letters_of, givens_of, moments_of, Follow, EndsBy}
use Rattle.jm_serve.specs.Control.{ControlRound}
use Rattle.jm_serve.specs.Data.{DataRound}
use Rattle.midi_host.specs.declared.serve_words.ServeWords.{ServeWords}

-- the session that is asked for
abbrev pub config_for : ServeWords → Config
config_for asked = record { ssrc = asked.ssrc; events = asked.events; name = codes "midi_host" }

-- what one worker works through: its port, and the moments that are coming, where its clock tells them
pub record Side : Type 0 where
  pub wire : Wire
  pub coming : Option (ℕ → ℕ)

pub record Sides : Type 0 where
  pub control : Side
  pub rtp : Side

-- nothing came or went, and no clock was asked
abbrev pub AreUntouched : (old new : Sides) → Type 0
AreUntouched old new = new ≡ old

-- what the workers keep before their first rounds
abbrev pub first_reporter : Reporter
first_reporter = record { last_report = None; call = 0; send_faults = 0 }

abbrev pub first_listener : Listener
first_listener = record { sender = record { last_cut = 0; owed = false; call = 0; send_faults = 0 }; has_begun = false; receivers = [] }

-- The part of one worker in a history: its turns there, those of this number, are just those of its rounds, each with the history
-- before it. What the rounds were given came through its port, and what they sent went there; their moments were its clock's; and
-- it came to its end for this reason, with so many sends that failed.
pub record TakesPart {S : Type 0} (Does : S → Round → S → Type 0) (first : S) (config : Config) (number turns : ℕ) (worked : Worked) (history : List (Made DeskTurn)) (old new : Side) : Type 0 where
  pub rounds : Rounds
  pub came : Rounded
  pub last : S
  pub follow : Follow Does first rounds last came
  pub stops : EndsBy worked.end turns (count_of rounds) came old.wire new.wire
  pub own : turns_by number history ≡ turns_of (acts_of rounds)
  pub stand : StandIn config number history (acts_of rounds)
  pub posts : Posts (givens_of rounds) (letters_of rounds) 0 worked.send_faults old.wire new.wire
  pub moments : Gave (moments_of rounds) old.coming new.coming

-- Two workers were at one desk, and nobody else. Their history is legal, and the tape has the steps that were taken in it.
pub record IsServed (config : Config) (turns : ℕ) (control rtp : Worked) (tape : List Step) (old new : Sides) : Type 0 where
  pub history : List (Made DeskTurn)
  pub legal : IsHistory config history
  pub tape_is : tape ≡ taken history
  pub each : Everyone (λ by. (by ≡ 1) ⊎ (by ≡ 2)) history
  pub controls : TakesPart (ControlRound config) first_reporter config 1 turns control history old.control new.control
  pub plays : TakesPart (DataRound config) first_listener config 2 turns rtp history old.rtp new.rtp
