-- A receiver of a session that is in step is in step again behind each packet that it takes.
use Rattle.std.specs.Prelude.{ℕ, ◌≡◌, ◌+◌, ◌≤◌, ◌<◌, ◌^◌, List, [], ◌∷◌, ◌++◌, Some, Ok}
use Rattle.jm_cmds.specs.History.{below}
use Rattle.jm_cmds.specs.Sent.{packet_of}
use Rattle.jm_receiver.specs.declared.receiver.Took.{Took}
use Rattle.jm_receiver.specs.Accept.{accepted}
use Rattle.jm_receiver.specs.Agreement.{Agrees}
use Rattle.jm_receiver.specs.InStep.{first_lacking, CanTell, IsLongBegun}
use Rattle.jm_receiver.specs.Receiver.{Received}
use Rattle.jm_receiver.specs.Whole.{IsReceived}
use Rattle.jm_book.specs.declared.steps.Config.{Config}
use Rattle.jm_book.specs.declared.steps.Step.{Step}
use Rattle.jm_book.specs.declared.steps.Step.TheVariants.{Cut}
use Rattle.jm_book.specs.Session.{session_of, checkpoint_of}
use Rattle.jm_book.specs.Legal.{IsLegal}
use Rattle.jm_book.specs.Commands.{HaveCommands}
use Rattle.jm_book.specs.Packet.{packet_of as octets_of_cut}
use Rattle.jm_session.specs.Packets.{number_of}
use Rattle.jm_session.specs.Premises.{sent_in}

-- A receiver of the session's stream is whole, its state agrees with the commands of all packets up to the last one that it took, and a message
-- that is unfinished there is as long as a session's first segment.
pub record IsInStep (config : Config) (steps : List Step) (r : Received) : Type 0 where
  pub ssrc : r.ssrc ≡ config.ssrc
  pub whole : IsReceived r
  pub unfinished : IsLongBegun r.unfinished
  pub agrees : Agrees r.state (below packet_of (first_lacking r.last) (sent_in (session_of config steps)))

-- It takes the packet that is cut at this tick, under its own number, which it tells, with how many packets it lost since the last one; and it is
-- in step again, with all commands that were sent by then, and stays so whatever steps come.
pub record ComesInStep (config : Config) (steps : List Step) (tick : ℕ) (r : Received) : Type 0 where
  pub after : Received
  pub took : Took
  pub taken : accepted r (octets_of_cut (session_of config steps) tick) ≡ Ok (after, took)
  pub number : after.last ≡ Some (number_of (session_of config steps))
  pub told : took.number ≡ number_of (session_of config steps)
  pub missed : (last : ℕ) → r.last ≡ Some last → last + 1 + took.gap ≡ number_of (session_of config steps)
  pub all_sent : Agrees after.state (sent_in (session_of config (steps ++ Cut tick ∷ [])))
  pub in_step : (more : List Step) → IsInStep config (steps ++ Cut tick ∷ more) after

-- So it is after legal steps, whichever packets the receiver lost before this one, where the session's checkpoint isn't later than the first
-- packet that it lacks, and it can tell the packet's number from its low 16 bits. (Not: a state that lacks a lost command, or has one
-- twice; a packet that is refused; a receiver that is out of step for the packet behind this one.)
abbrev pub ReceiversStayInStep : Type 0
ReceiversStayInStep =
    (config : Config) (steps : List Step) (tick : ℕ) (r : Received) → config.ssrc < 2 ^ 32 → IsLegal config steps → HaveCommands steps
    → checkpoint_of (session_of config steps) ≤ first_lacking r.last → CanTell r.last (number_of (session_of config steps))
    → IsInStep config steps r → ComesInStep config steps tick r
