-- What a late joiner has: a receiver whose first packet needn't be the session's.
use Rattle.std.proofs.Common.{◌≡◌, ℕ, ◌+◌, ◌*◌, ◌^◌, ◌<◌, ◌≤◌, Bool, true, cond, eqb, List, Option, Some, None}
use Rattle.std.specs.Prelude.{Ok, option_map}
use Rattle.std.specs.List.{list_any}
use Rattle.jm_cmds.specs.declared.commands.Command.{Command}
use Rattle.jm_cmds.specs.declared.commands.Command.TheVariants.{Program}
use Rattle.jm_cmds.specs.declared.history.Sent.{Sent}
use Rattle.jm_cmds.specs.Control.{is_reset}
use Rattle.jm_cmds.specs.History.{below, since, InOrder}
use Rattle.jm_cmds.specs.Sent.{packet_of}
use Rattle.jm_state.specs.declared.state.State.{State}
use Rattle.jm_state.specs.Final.{speaks}
use Rattle.jm_state.specs.Parts.{no_state, program_of, control_of, wheel_of, note_of, pressure_of, poly_of}
use Rattle.jm_state.specs.ReplayLaws.{state_behind}
use Rattle.jm_state.specs.Says.{ended, control_says, wheel_says, note_says, pressure_says, poly_says}
use Rattle.jm_receiver.specs.declared.receiver.Took.{Took}
use Rattle.jm_receiver.specs.Receiver.{Received}
use Rattle.jm_receiver.specs.Accept.{accepted}
use Rattle.jm_receiver.specs.InStep.{IsLongBegun}
use Rattle.jm_receiver.specs.Whole.{IsReceived}
use Rattle.jm_receiver.specs.StaysInStep.{IsPacket}

-- the number of a channel's program
abbrev pub program_number : State → ℕ → Option ℕ
program_number s channel = option_map (λ part. part.program) (program_of s channel)

-- what a command says of it
abbrev pub number_says : ℕ → Command → Option (Option ℕ)
number_says channel (Program at program) = cond (eqb at channel) (Some (Some program)) None
number_says channel command = ended (is_reset command)

-- one of these commands sets the part or drops it
abbrev pub is_told : {V : Type 0} → (Command → Option (Option V)) → List Sent → Bool
is_told says sent = list_any (λ place. speaks (says place.command)) sent

-- Of what these commands leave, the state has this part, if one of those from this packet on set or dropped it.
abbrev pub HasTold : {V : Type 0} → (State → Option V) → (Command → Option (Option V)) → (from : ℕ) → State → List Sent → Type 0
HasTold part says from s sent = is_told says (since packet_of from sent) ≡ true → part s ≡ part (state_behind no_state sent)

-- Of what these commands leave, the state has each value that one of those from this packet on set or dropped: program numbers, controls, wheels,
-- sounding notes with their velocities, and pressures.
pub record HasValues (from : ℕ) (s : State) (sent : List Sent) : Type 0 where
  pub program : (channel : ℕ) → channel < 16 → HasTold (λ t. program_number t channel) (number_says channel) from s sent
  pub control : (channel number : ℕ) → channel < 16 → number < 128 → HasTold (λ t. control_of t channel number) (control_says channel number) from s sent
  pub wheel : (channel : ℕ) → channel < 16 → HasTold (λ t. wheel_of t channel) (wheel_says channel) from s sent
  pub note : (channel note : ℕ) → channel < 16 → note < 128 → HasTold (λ t. note_of t channel note) (note_says channel note) from s sent
  pub pressure : (channel : ℕ) → channel < 16 → HasTold (λ t. pressure_of t channel) (pressure_says channel) from s sent
  pub poly : (channel note : ℕ) → channel < 16 → note < 128 → HasTold (λ t. poly_of t channel note) (poly_says channel note) from s sent

-- A receiver that took a packet of the session as its first one, whose checkpoint was this, and of which this is the last one that it took.
-- It knows of the first packet's number the low 16 bits alone, so it may be a multiple of 65,536 behind in its numbers. Of the session's
-- state it has each value that a command of the packets from that checkpoint on set or dropped.
pub record IsLate (from last : ℕ) (r : Received) (sent : List Sent) : Type 0 where
  pub received : IsReceived r
  pub unfinished : IsLongBegun r.unfinished
  pub number : ℕ
  pub wraps : ℕ
  pub takes : r.last ≡ Some number
  pub place : number + 65536 * wraps ≡ last
  pub values : HasValues from r.state (below packet_of (last + 1) sent)

-- The packet is taken, and the receiver is behind it as above.
pub record IsTakenLate (r : Received) (octets : List ℕ) (from packet : ℕ) (sent : List Sent) : Type 0 where
  pub after : Received
  pub took : Took
  pub taken : accepted r octets ≡ Ok (after, took)
  pub ssrc : after.ssrc ≡ r.ssrc
  pub late : IsLate from packet after sent

-- A late joiner begins at any packet of a session, and then takes packets that are 1 to 32,767 ahead of the last one, each with a checkpoint
-- that isn't later than the first packet that it lacks. Packet 0 has no journal, so as the first one it is one for checkpoint 0.
pub record LateJoinersHaveValues : Type 0 where
  pub begins : (r : Received) (octets : List ℕ) (checkpoint packet : ℕ) (sent : List Sent) → IsPacket r.ssrc octets checkpoint packet sent → InOrder packet_of sent → r.last ≡ None → IsReceived r → IsTakenLate r octets checkpoint packet sent
  pub goes_on : (from last : ℕ) (r : Received) (octets : List ℕ) (checkpoint packet : ℕ) (sent : List Sent) → IsLate from last r sent → IsPacket r.ssrc octets checkpoint packet sent → InOrder packet_of sent →
      checkpoint ≤ last + 1 → last < packet → packet ≤ last + 32767 → packet < 2 ^ 64 → IsTakenLate r octets from packet sent
