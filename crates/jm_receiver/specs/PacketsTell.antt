-- What a receiver hears of a packet tells a listener selections and parameters, too.
use Rattle.std.proofs.Common.{◌≡◌, ℕ, ◌<◌, ◌≤◌, Bool, false, List, ◌++◌}
use Rattle.std.specs.Prelude.{Ok}
use Rattle.jm_cmds.specs.declared.history.Sent.{Sent}
use Rattle.jm_cmds.specs.History.{below, InOrder}
use Rattle.jm_cmds.specs.Sent.{packet_of}
use Rattle.ch_sysex.specs.ChapterX.{sysex_logs}
use Rattle.jm_state.specs.declared.state.State.{State}
use Rattle.jm_state.specs.Parts.{param_of, selection_of}
use Rattle.jm_reader.specs.Written.{AreCommands}
use Rattle.jm_receiver.specs.declared.receiver.Took.{Took}
use Rattle.jm_receiver.specs.Receiver.{Received}
use Rattle.jm_receiver.specs.Accept.{Contents, opened, accepted}
use Rattle.jm_receiver.specs.Agreement.{is_crowded, Agrees}
use Rattle.jm_receiver.specs.InStep.{first_lacking, CanTell, IsLongBegun, IsOfStream}
use Rattle.jm_receiver.specs.Listened.{listened}
use Rattle.jm_receiver.specs.Whole.{IsReceived}

-- The listener's state has the selections of this one, and the parameters of each channel that these commands don't crowd.
pub record TellsParams (s listener : State) (sent : List Sent) : Type 0 where
  pub selection : (channel : ℕ) → channel < 16 → selection_of listener channel ≡ selection_of s channel
  pub param : (channel : ℕ) (nrpn : Bool) (high low : ℕ) → channel < 16 → is_crowded channel sent ≡ false → param_of listener channel nrpn high low ≡ param_of s channel nrpn high low

-- What is heard of a packet of the stream that is taken, each command played in order into the old state, gives the selections and the
-- parameters of the new one: under the premises of `ReceiversComeInStep`, whatever was lost before the packet.
abbrev pub PacketsTellParams : Type 0
PacketsTellParams =
    (r : Received) (octets : List ℕ) (c : Contents) (checkpoint packet tick : ℕ) (sent own : List Sent) (after : Received) (took : Took) → opened r.ssrc octets ≡ Ok c → IsOfStream checkpoint packet tick sent own c →
    AreCommands sent → InOrder packet_of sent → sysex_logs checkpoint (below packet_of packet sent) ≤ 128 → checkpoint ≤ first_lacking r.last → CanTell r.last packet →
    IsReceived r → IsLongBegun r.unfinished → Agrees r.state (below packet_of (first_lacking r.last) sent) → accepted r octets ≡ Ok (after, took) → TellsParams after.state (listened r.state took.heard) (below packet_of packet sent ++ own)
