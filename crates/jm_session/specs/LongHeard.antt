-- A long System Exclusive message that is played is heard once where each packet with a segment of it is taken.
use Rattle.std.specs.Prelude.{ℕ, ◌≡◌, ◌≤◌, ◌<◌, ◌%◌, ◌^◌, true, List, [], ◌∷◌, ◌++◌, length, take}
use Rattle.jm_cmds.specs.declared.commands.Command.{Command}
use Rattle.jm_cmds.specs.Command.{is_long}
use Rattle.jm_receiver.specs.declared.heard.Heard.{Heard}
use Rattle.jm_receiver.specs.declared.heard.HeardKind.TheVariants.{Sent}
use Rattle.jm_receiver.specs.Receiver.{Received}
use Rattle.jm_receiver.specs.SegmentsHeard.{HaveMessage, TakesAll, HasBefore}
use Rattle.jm_book.specs.declared.steps.Config.{Config}
use Rattle.jm_book.specs.declared.steps.Step.{Step}
use Rattle.jm_book.specs.declared.steps.Step.TheVariants.{Play, Cut}
use Rattle.jm_book.specs.Segments.{segments_in, message_of}
use Rattle.jm_book.specs.Session.{session_of}
use Rattle.jm_book.specs.Plays.{greatest_tick}
use Rattle.jm_book.specs.StreamConduct.{cut_count}
use Rattle.jm_book.specs.Legal.{IsLegal}
use Rattle.jm_book.specs.Commands.{HaveCommands}
use Rattle.jm_book.specs.Packet.{packet_of as octets_of_cut}
use Rattle.jm_session.specs.Packets.{number_of}

-- the octets of the packets that are cut along these steps, behind those before
abbrev pub packets_along : Config → (before steps : List Step) → List (List ℕ)
packets_along config before [] = []
packets_along config before (Cut tick ∷ steps) = octets_of_cut (session_of config before) tick ∷ packets_along config (before ++ Cut tick ∷ []) steps
packets_along config before (step ∷ steps) = packets_along config (before ++ step ∷ []) steps

-- The packets in which a command goes out that comes in segments, and is played behind these steps: the first ones that are cut after its
-- play, as many as it has segments.
abbrev pub packets_with : Config → (before : List Step) (player : ℕ) → Command → (tick : ℕ) (later : List Step) → List (List ℕ)
packets_with config before player command tick later =
    take (length (segments_in command)) (packets_along config (before ++ Play player command tick ∷ []) later)

-- From this number on they have the segments of the command, one in each packet and nothing else. A receiver of the stream that takes each of
-- them, and before the first of them had taken the packet before it, or none where there is none, hears the command once, with the low 32 bits
-- of this tick, and nothing else of these packets.
pub record IsHeardOnce (ssrc number tick : ℕ) (command : Command) (packets : List (List ℕ)) : Type 0 where
  pub segments : HaveMessage ssrc tick number (message_of command) packets
  pub once : (r : Received) (heard : List Heard) → r.ssrc ≡ ssrc → HasBefore r.last number → TakesAll r packets heard
      → heard ≡ record { command = command; tick = tick % 2 ^ 32; kind = Sent } ∷ []

-- So it is of each long command along legal steps, once all its segments were sent, whatever steps come between: the tick is the
-- greatest of its play and all plays and cuts before it. (Not: a command that is heard with its first segment too, or with a tick of one of its
-- cuts; a segment that another packet stands before, so that what came is dropped.)
abbrev pub LongCommandsAreHeardOnce : Type 0
LongCommandsAreHeardOnce =
    (config : Config) (before : List Step) (player : ℕ) (command : Command) (tick : ℕ) (later : List Step) → config.ssrc < 2 ^ 32
    → IsLegal config (before ++ Play player command tick ∷ later) → HaveCommands (before ++ Play player command tick ∷ later)
    → is_long command ≡ true → length (segments_in command) ≤ cut_count later
    → IsHeardOnce config.ssrc (number_of (session_of config before)) (greatest_tick (before ++ Play player command tick ∷ [])) command (packets_with config before player command tick later)
