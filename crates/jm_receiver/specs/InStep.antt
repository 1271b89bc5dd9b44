-- A receiver that is in step with its stream, and takes a further packet of it, is in step again.
use Rattle.std.proofs.Common.{◌≡◌, ℕ, ◌+◌, ◌%◌, ◌^◌, ◌<◌, ◌≤◌, List, [], ◌∷◌, ◌++◌, Option, Some, None, length, map}
use Rattle.std.specs.Prelude.{Ok, filter, not}
use Rattle.std.specs.List.{AllByRecursion}
use Rattle.jm_cmds.specs.declared.commands.Command.{Command}
use Rattle.jm_cmds.specs.declared.history.Sent.{Sent}
use Rattle.jm_cmds.specs.Command.{is_long}
use Rattle.jm_cmds.specs.History.{below, InOrder}
use Rattle.jm_cmds.specs.Sent.{packet_of}
use Rattle.jm_section.specs.declared.item.Item.{Item}
use Rattle.jm_section.specs.declared.item.PartKind.TheVariants as part
use Rattle.jm_section.specs.declared.item.What.{What}
use Rattle.jm_section.specs.declared.item.What.TheVariants.{Whole, Part, Passed}
use Rattle.ch_sysex.specs.ChapterX.{sysex_logs}
use Rattle.jm_reader.specs.Written.{AreCommands}
use Rattle.jm_reader.specs.WrittenJournal.{journal_logs}
use Rattle.jm_receiver.specs.declared.receiver.Took.{Took}
use Rattle.jm_receiver.specs.Receiver.{Received}
use Rattle.jm_receiver.specs.Accept.{Contents, opened, accepted}
use Rattle.jm_receiver.specs.Whole.{IsReceived}
use Rattle.jm_receiver.specs.Agreement.{Agrees}

-- the first packet that a receiver lacks, where this is the last one that it took
abbrev pub first_lacking : (last : Option ℕ) → ℕ
first_lacking None = 0
first_lacking (Some last) = last + 1

-- a packet that isn't too far ahead of the last one
pub record IsNext (last packet : ℕ) : Type 0 where
  pub later : last < packet
  pub near : packet ≤ last + 32767
  pub small : packet < 2 ^ 64

-- A receiver can tell the packet's number from its low 16 bits: it is 1 to 32,767 ahead of the last one; as the first one its number has no
-- more bits.
abbrev pub CanTell : (last : Option ℕ) → (packet : ℕ) → Type 0
CanTell None packet = packet < 65536
CanTell (Some last) packet = IsNext last packet

-- the whole commands of a section
abbrev pub whole_of : What → List Command
whole_of (Whole command) = command ∷ []
whole_of (Part kind octets) = []
whole_of (Passed octet) = []

abbrev pub commands_in : List Item → List Command
commands_in [] = []
commands_in (item ∷ items) = whole_of item.what ++ commands_in items

-- An unfinished message is as long as the first segment of a session's is, which has 2,046 data octets: with one more it is long, and
-- then sets no part of the state.
abbrev pub IsLongBegun : (unfinished : Option (List ℕ)) → Type 0
IsLongBegun None = Unit {0}
IsLongBegun (Some octets) = 2046 ≤ length octets

-- what is asked of an entry for that: a first segment is as long, and a last one has a data octet
abbrev pub IsSent : What → Type 0
IsSent (Whole command) = Unit {0}
IsSent (Part part.First octets) = 2046 ≤ length octets
IsSent (Part part.Middle octets) = Unit {0}
IsSent (Part part.Last octets) = 1 ≤ length octets
IsSent (Part part.Cancel octets) = Unit {0}
IsSent (Passed octet) = Unit {0}

-- The section of a packet with these commands of its own: those that aren't long stand whole in it, in order. A long one comes in segments,
-- and is a command of the packet of its last segment.
pub record HoldsCommands (own : List Sent) (items : List Item) : Type 0 where
  pub whole : commands_in items ≡ filter (λ command. not (is_long command)) (map (λ one. one.command) own)
  pub segments : AllByRecursion (λ item. IsSent item.what) items

-- What was read of a packet, before which these commands were sent, and which has these of its own: the low 16 bits of its number, the
-- logs of its journal, which packet 0 doesn't have, and its section.
pub record IsOfStream (checkpoint packet tick : ℕ) (sent own : List Sent) (c : Contents) : Type 0 where
  pub number : c.number ≡ packet % 65536
  pub first : packet ≡ 0 → c.logs ≡ []
  pub later : 1 ≤ packet → c.logs ≡ journal_logs checkpoint packet tick sent
  pub commands : HoldsCommands own c.items

-- The packet is taken, under its own number, which is told, with how many packets were lost since the last one; and the state behind it
-- agrees with all commands before the packet and its own.
pub record IsTaken (r : Received) (octets : List ℕ) (packet : ℕ) (before own : List Sent) : Type 0 where
  pub after : Received
  pub took : Took
  pub taken : accepted r octets ≡ Ok (after, took)
  pub ssrc : after.ssrc ≡ r.ssrc
  pub number : after.last ≡ Some packet
  pub told : took.number ≡ packet
  pub missed : (last : ℕ) → r.last ≡ Some last → last + 1 + took.gap ≡ packet
  pub in_step : Agrees after.state (before ++ own)
  pub unfinished : IsLongBegun after.unfinished

-- A whole receiver whose state agrees with the packets before the first one that it lacks takes a later packet of the stream, whatever was
-- lost between, and its state agrees with all packets up to this one: wherever the journal's checkpoint isn't later than the first
-- packet that it lacks, and an unfinished message is as long as a session's. The premises on commands are those of `StatesAreRepaired`.
abbrev pub ReceiversComeInStep : Type 0
ReceiversComeInStep =
    (r : Received) (octets : List ℕ) (c : Contents) (checkpoint packet tick : ℕ) (sent own : List Sent) → opened r.ssrc octets ≡ Ok c → IsOfStream checkpoint packet tick sent own c →
    AreCommands sent → InOrder packet_of sent → sysex_logs checkpoint (below packet_of packet sent) ≤ 128 → checkpoint ≤ first_lacking r.last → CanTell r.last packet →
    IsReceived r → IsLongBegun r.unfinished → Agrees r.state (below packet_of (first_lacking r.last) sent) → IsTaken r octets packet (below packet_of packet sent) own
