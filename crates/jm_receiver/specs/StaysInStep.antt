-- In step, over all commands of a session: what `accept` keeps.
use Rattle.std.proofs.Common.{◌≡◌, ℕ, ◌+◌, ◌≤◌, List, Some}
use Rattle.std.specs.Prelude.{Result, Ok, Err}
use Rattle.jm_cmds.specs.declared.history.Sent.{Sent}
use Rattle.jm_cmds.specs.declared.outcome.ReadError.{ReadError}
use Rattle.jm_cmds.specs.declared.outcome.ReadError.TheVariants as errors
use Rattle.jm_cmds.specs.History.{below, since, InOrder}
use Rattle.jm_cmds.specs.Sent.{packet_of}
use Rattle.ch_sysex.specs.ChapterX.{sysex_logs}
use Rattle.jm_reader.specs.Written.{AreCommands}
use Rattle.jm_receiver.specs.declared.opening.AcceptFault.{AcceptFault}
use Rattle.jm_receiver.specs.declared.receiver.Took.{Took}
use Rattle.jm_receiver.specs.Receiver.{Received}
use Rattle.jm_receiver.specs.Accept.{Contents, opened}
use Rattle.jm_receiver.specs.Whole.{IsReceived}
use Rattle.jm_receiver.specs.Agreement.{Agrees}
use Rattle.jm_receiver.specs.InStep.{first_lacking, CanTell, IsLongBegun, IsOfStream}

-- the commands of this packet
abbrev pub commands_of : (packet : ℕ) → List Sent → List Sent
commands_of packet sent = since packet_of packet (below packet_of (packet + 1) sent)

-- The octets are this packet of the session that sent these commands: they are read as its number's low 16 bits, the logs of its journal
-- for this checkpoint, which packet 0 doesn't have, and a section of its commands.
pub record IsPacket (ssrc : ℕ) (octets : List ℕ) (checkpoint packet : ℕ) (sent : List Sent) : Type 0 where
  pub tick : ℕ
  pub read : Contents
  pub opens : opened ssrc octets ≡ Ok read
  pub says : IsOfStream checkpoint packet tick sent (commands_of packet sent) read

-- What is asked of the commands of a session: they are within their bounds and stand in the order of their packets, and the packet's
-- journal has at most 128 logs of System Exclusive messages, as the limits of a session ask.
pub record IsSession (checkpoint packet : ℕ) (sent : List Sent) : Type 0 where
  pub commands : AreCommands sent
  pub ordered : InOrder packet_of sent
  pub few : sysex_logs checkpoint (below packet_of packet sent) ≤ 128

-- A receiver is in step after the last packet that it took, or before packet 0: it is whole, its state is what the packets up to
-- that one leave, the parameters of crowded channels aside, and an unfinished message is as long as a session's.
pub record IsInStep (r : Received) (sent : List Sent) : Type 0 where
  pub received : IsReceived r
  pub unfinished : IsLongBegun r.unfinished
  pub agrees : Agrees r.state (below packet_of (first_lacking r.last) sent)

-- The packet was taken, under its own number, which is told, with how many packets were lost since the last one; and the receiver is in step
-- after it.
pub record IsStep (r : Received) (packet : ℕ) (sent : List Sent) (took : Took) (after : Received) : Type 0 where
  pub ssrc : after.ssrc ≡ r.ssrc
  pub number : after.last ≡ Some packet
  pub told : took.number ≡ packet
  pub missed : (last : ℕ) → r.last ≡ Some last → last + 1 + took.gap ≡ packet
  pub in_step : IsInStep after sent

-- No packet is refused, but for want of memory.
abbrev pub TakesInStep : Received → (packet : ℕ) → List Sent → Result Took (ReadError AcceptFault) → Received → Type 0
TakesInStep r packet sent (Ok took) after = IsStep r packet sent took after
TakesInStep r packet sent (Err errors.Memory) after = Unit {0}
TakesInStep r packet sent (Err (errors.Fault fault)) after = ⊥

-- Whatever session it is of: where the receiver is in step, and the octets are a packet of the session that is 1 to 32,767 ahead of
-- the last one that it took (as the first one, below 65,536) and whose checkpoint isn't later than the first packet that it lacks,
-- the packet is taken, and the receiver is in step after it.
unfoldable pub StaysInStep : Received → List ℕ → Result Took (ReadError AcceptFault) → Received → Type 0
StaysInStep r octets result after =
    (checkpoint packet : ℕ) (sent : List Sent) → IsPacket r.ssrc octets checkpoint packet sent → IsSession checkpoint packet sent → checkpoint ≤ first_lacking r.last → CanTell r.last packet →
    IsInStep r sent → TakesInStep r packet sent result after
