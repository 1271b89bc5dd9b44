-- A message that comes in segments is heard once.
use Rattle.std.specs.Prelude.{◌≡◌, ℕ, ◌+◌, ◌%◌, ◌^◌, ◌≤◌, List, [], ◌∷◌, ◌++◌, Option, Some, None, length, Ok}
use Rattle.jm_cmds.specs.declared.commands.Command.TheVariants.{Sysex}
use Rattle.jm_section.specs.declared.item.PartKind.{PartKind}
use Rattle.jm_section.specs.declared.item.PartKind.TheVariants as part
use Rattle.jm_section.specs.declared.item.What.TheVariants.{Part}
use Rattle.jm_receiver.specs.declared.heard.Heard.{Heard}
use Rattle.jm_receiver.specs.declared.heard.HeardKind.TheVariants.{Sent}
use Rattle.jm_receiver.specs.declared.receiver.Took.{Took}
use Rattle.jm_receiver.specs.Accept.{Contents, opened, accepted}
use Rattle.jm_receiver.specs.Receiver.{Received}

-- The octets are this packet of the stream, and its section has just one segment, with these data octets: they are read as the low 16 bits
-- of its number, the low 32 of its tick, and the segment. Packet 0 has no journal.
pub record HasSegment (ssrc tick packet : ℕ) (kind : PartKind) (segment octets : List ℕ) : Type 0 where
  pub read : Contents
  pub opens : opened ssrc octets ≡ Ok read
  pub number : read.number ≡ packet % 65536
  pub time : read.tick ≡ tick % 2 ^ 32
  pub alone : read.items ≡ record { delta = 0; what = Part kind segment } ∷ []
  pub first : packet ≡ 0 → read.logs ≡ []

-- From this packet on, each the next, they have the segments of a message behind its first one, which together have these data octets.
pub data HaveLaterSegments (ssrc tick : ℕ) : (packet : ℕ) → List ℕ → List (List ℕ) → Type 0 where
  ends : (packet : ℕ) (segment octets : List ℕ) → HasSegment ssrc tick packet part.Last segment octets → HaveLaterSegments ssrc tick packet segment (octets ∷ [])
  goes_on : (packet : ℕ) (segment rest octets : List ℕ) (others : List (List ℕ)) → HasSegment ssrc tick packet part.Middle segment octets → HaveLaterSegments ssrc tick (packet + 1) rest others
      → HaveLaterSegments ssrc tick packet (segment ++ rest) (octets ∷ others)

-- They have all segments of a message with these data octets, however they are divided.
pub data HaveMessage (ssrc tick : ℕ) : (packet : ℕ) → List ℕ → List (List ℕ) → Type 0 where
  begins : (packet : ℕ) (segment rest octets : List ℕ) (others : List (List ℕ)) → HasSegment ssrc tick packet part.First segment octets → HaveLaterSegments ssrc tick (packet + 1) rest others
      → HaveMessage ssrc tick packet (segment ++ rest) (octets ∷ others)

-- The receiver takes these packets, one behind another, and this is heard of them in all.
pub data TakesAll : Received → List (List ℕ) → List Heard → Type 0 where
  takes_none : (r : Received) → TakesAll r [] []
  takes_one : (r after : Received) (took : Took) (octets : List ℕ) (others : List (List ℕ)) (heard : List Heard) → accepted r octets ≡ Ok (after, took) → TakesAll after others heard
      → TakesAll r (octets ∷ others) (took.heard ++ heard)

-- The last packet that it took is the one before this one, by the 16 bits that a packet tells of its number; or it took none, and this is the first.
abbrev pub HasBefore : (last : Option ℕ) → (packet : ℕ) → Type 0
HasBefore None packet = packet ≡ 0
HasBefore (Some last) packet = (last + 1) % 65536 ≡ packet % 65536

-- A receiver that had accepted the packet before, if there is one, and accepts each packet with a segment of a message, hears just the message
-- of them, once, at the message's tick. So it is for whichever segments it is divided into, of at most 65,536 data octets together,
-- and whatever was unfinished before.
abbrev pub SegmentsAreHeardOnce : Type 0
SegmentsAreHeardOnce =
    (r : Received) (tick packet : ℕ) (message : List ℕ) (packets : List (List ℕ)) (heard : List Heard) → HaveMessage r.ssrc tick packet message packets → length message ≤ 65536 → HasBefore r.last packet
    → TakesAll r packets heard → heard ≡ record { command = Sysex message; tick = tick % 2 ^ 32; kind = Sent } ∷ []
