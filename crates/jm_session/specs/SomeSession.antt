-- A session of which the law on honest participants speaks: a packet with a note is lost.
use Rattle.std.specs.Prelude.{◌≡◌, List, [], ◌∷◌, None, Some}
use Rattle.jm_cmds.specs.declared.commands.Command.TheVariants.{NoteOn}
use Rattle.jm_state.specs.Parts.{no_state, note_of}
use Rattle.jm_receiver.specs.Receiver.{Received}
use Rattle.jm_book.specs.declared.steps.Config.{Config}
use Rattle.jm_book.specs.declared.steps.Step.{Step}
use Rattle.jm_book.specs.declared.steps.Step.TheVariants.{Enter, Play, Cut, Ack, Join}
use Rattle.jm_book.specs.Session.{session_of, checkpoint_of}
use Rattle.jm_session.specs.Honest.{Situation, Event, goes, arrives, AreHonest, JoinsInStep, joined_with, situation_of}

abbrev pub host : Config
host = record { ssrc = 1; events = 16; name = [] }

-- participant 2 joins before any packet, with a receiver that took none
abbrev pub listener : Received
listener = record { ssrc = 1; last = None; state = no_state; unfinished = None }

abbrev pub joined : Situation
joined = joined_with (Enter ∷ Join 2 ∷ []) listener

-- Packet 0 brings note 60 and is lost. Packet 1, without commands, arrives, and its number is reported.
abbrev pub struck : Step
struck = Play 0 (NoteOn 0 60 100) 10

abbrev pub before_last : List Step
before_last = Enter ∷ Join 2 ∷ struck ∷ Cut 10 ∷ []

abbrev pub befallen : List Event
befallen = goes struck ∷ goes (Cut 10) ∷ goes (Cut 20) ∷ arrives before_last 20 ∷ goes (Ack 2 1) ∷ []

abbrev pub in_the_end : Situation
in_the_end = situation_of host joined befallen

-- The premises are met. The receiver took packet 1 alone and has the note, and the checkpoint is past the lost packet.
pub record SomeSessionIsHonest : Type 0 where
  pub joins : JoinsInStep host 2 (Enter ∷ []) (Join 2) listener
  pub honest : AreHonest host 2 joined befallen
  pub taken : in_the_end.taken ≡ 1 ∷ []
  pub sounds : note_of in_the_end.receiver.state 0 60 ≡ Some 100
  pub reported : checkpoint_of (session_of host in_the_end.steps) ≡ 1
