-- The packets of a session are those of which the clause `in_step` of a receiver's `accept` speaks.
use Rattle.std.specs.Prelude.{ℕ, ◌<◌, ◌^◌, List, ◌∷◌, ◌++◌}
use Rattle.jm_receiver.specs.StaysInStep.{IsPacket, IsSession}
use Rattle.jm_book.specs.declared.steps.Config.{Config}
use Rattle.jm_book.specs.declared.steps.Step.{Step}
use Rattle.jm_book.specs.declared.steps.Step.TheVariants.{Cut}
use Rattle.jm_book.specs.Session.{session_of, checkpoint_of}
use Rattle.jm_book.specs.Legal.{IsLegal}
use Rattle.jm_book.specs.Commands.{HaveCommands}
use Rattle.jm_book.specs.Packet.{packet_of as octets_of_cut}
use Rattle.jm_session.specs.Packets.{number_of}
use Rattle.jm_session.specs.Premises.{sent_in}

-- What a cut at this tick between these steps writes is the packet of its number and checkpoint, of the one session that sent what all
-- these steps send; and the commands of that session are as a receiver asks.
pub record IsSentPacket (config : Config) (before behind : List Step) (tick : ℕ) : Type 0 where
  pub packet : IsPacket config.ssrc (octets_of_cut (session_of config before) tick) (checkpoint_of (session_of config before)) (number_of (session_of config before)) (sent_in (session_of config (before ++ Cut tick ∷ behind)))
  pub session : IsSession (checkpoint_of (session_of config before)) (number_of (session_of config before)) (sent_in (session_of config (before ++ Cut tick ∷ behind)))

-- So it is of each cut of any legal steps, however many come behind it. (Not: a packet whose journal tells what was sent later, or whose
-- commands are those of another; a session that is another one for each of its packets.)
abbrev pub SessionsSendPackets : Type 0
SessionsSendPackets =
    (config : Config) (before behind : List Step) (tick : ℕ) → config.ssrc < 2 ^ 32 → IsLegal config (before ++ Cut tick ∷ behind) → HaveCommands (before ++ Cut tick ∷ behind)
    → IsSentPacket config before behind tick
