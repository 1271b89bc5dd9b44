-- The stream after a list of steps: the packets, and what is pending. It knows no configuration and no participant.
use Rattle.std.specs.Prelude.{ℕ, ◌+◌, ◌-◌, max, List, [], ◌∷◌, ◌++◌, length, drop, fold, Option}
use Rattle.std.proofs.Common.{◌≡◌, refl, arith}
use Rattle.jm_cmds.specs.declared.commands.Command.{Command}
use Rattle.jm_cmds.specs.declared.history.Sent.{Sent}
use Rattle.jm_book.specs.declared.steps.Step.{Step}
use Rattle.jm_book.specs.declared.steps.Step.TheVariants.{Play, Cut}
use Rattle.jm_book.specs.Segments.{Segment, segments_in, next_segment}

-- a command that a player's play brought, with the number of the plays that were accepted before it
pub record Entry : Type 0 where
  pub player : ℕ
  pub serial : ℕ
  pub tick : ℕ
  pub command : Command

-- A packet, which has its number by its place: the commands that are sent with it, and the segment of a long command that it holds,
-- if it holds one. A long command is sent with its last segment.
pub record Packet : Type 0 where
  pub tick : ℕ
  pub entries : List Entry
  pub part : Option Segment

-- The packets that were sent, the commands that are pending, the number of accepted plays, and the latest tick. Of a long
-- command that is pending the segments that weren't sent are waiting.
pub record Stream : Type 0 where
  pub packets : List Packet
  pub pending : List Entry
  pub waiting : List Segment
  pub plays : ℕ
  pub tick : ℕ

abbrev pub no_stream : Stream
no_stream = record { packets = []; pending = []; waiting = []; plays = 0; tick = 0 }

-- the number of the last packet that was sent, or 0 where none was
abbrev pub last_sent : Stream → ℕ
last_sent stream = length stream.packets - 1

-- the tick that a play or a cut gets: no earlier than those before it
abbrev pub tick_after : Stream → ℕ → ℕ
tick_after stream tick = max stream.tick tick

-- ---- the next packet

-- the tick of a packet: of its first command, else of the cut
abbrev pub packet_tick : List Entry → ℕ → ℕ
packet_tick [] tick = tick
packet_tick (first ∷ others) tick = first.tick

-- the commands that are sent with the next packet: all that are pending, unless it holds a segment that isn't the last one
abbrev pub entries_sent : List Segment → List Entry → List Entry
entries_sent [] pending = pending
entries_sent (last ∷ []) pending = pending
entries_sent (segment ∷ next ∷ others) pending = []

-- and those that stay pending
abbrev pub entries_left : List Segment → List Entry → List Entry
entries_left [] pending = []
entries_left (last ∷ []) pending = []
entries_left (segment ∷ next ∷ others) pending = pending

-- a packet, and what is pending and waiting behind it
pub record Next : Type 0 where
  pub packet : Packet
  pub pending : List Entry
  pub waiting : List Segment

-- the packet that a cut at this tick makes: of all that is pending, or of the first segment that waits
abbrev pub next_packet : Stream → ℕ → Next
next_packet stream tick = record {
  packet = record {
    tick = packet_tick stream.pending (tick_after stream tick);
    entries = entries_sent stream.waiting stream.pending;
    part = next_segment stream.waiting;
  };
  pending = entries_left stream.waiting stream.pending;
  waiting = drop 1 stream.waiting;
}

-- ---- steps

-- a command that is played is pending, and where it is long its segments wait
abbrev pub played : (stream : Stream) (player : ℕ) (command : Command) (tick : ℕ) → Stream
played stream player command tick = record stream {
  pending = stream.pending ++ record { player = player; serial = stream.plays; tick = tick_after stream tick; command = command } ∷ [];
  waiting = stream.waiting ++ segments_in command;
  plays = stream.plays + 1;
  tick = tick_after stream tick;
}

abbrev pub cut_off : (stream : Stream) (tick : ℕ) → Stream
cut_off stream tick = record stream {
  packets = stream.packets ++ (next_packet stream tick).packet ∷ [];
  pending = (next_packet stream tick).pending;
  waiting = (next_packet stream tick).waiting;
  tick = tick_after stream tick;
}

-- plays and cuts change the stream, and no other step does
abbrev pub stream_after : Stream → Step → Stream
stream_after stream (Play player command tick) = played stream player command tick
stream_after stream (Cut tick) = cut_off stream tick
stream_after stream _ = stream

-- the stream after a list of steps
abbrev pub stream_of : List Step → Stream
stream_of steps = fold stream_after no_stream steps

-- ---- the plain list of sent commands

-- entries as commands of the packet with this number
abbrev pub as_sent : ℕ → List Entry → List Sent
as_sent packet [] = []
as_sent packet (one ∷ others) = record { packet = packet; tick = one.tick; command = one.command } ∷ as_sent packet others

-- the commands of packets, the first of which has this number
abbrev pub sent_from : ℕ → List Packet → List Sent
sent_from number [] = []
sent_from number (one ∷ others) = as_sent number one.entries ++ sent_from (number + 1) others

abbrev pub sent_of : Stream → List Sent
sent_of stream = sent_from 0 stream.packets

-- The number of the packet with which what is pending is sent: the next one's, or that of the last segment that waits.
abbrev pub number_of_pending : Stream → ℕ
number_of_pending stream = length stream.packets + (length stream.waiting - 1)

-- the pending ones, with that number
abbrev pub pending_of : Stream → List Sent
pending_of stream = as_sent (number_of_pending stream) stream.pending

-- the commands that are sent with the next packet
abbrev pub next_of : (stream : Stream) (tick : ℕ) → List Sent
next_of stream tick = as_sent (length stream.packets) (next_packet stream tick).packet.entries

-- ---- what is still to be sent

-- how many commands are pending, a long one counted by its segments that wait
abbrev pub count_unsent : List Segment → List Entry → ℕ
count_unsent [] pending = length pending
count_unsent (segment ∷ others) pending = length (segment ∷ others) + (length pending - 1)

abbrev pub unsent : Stream → ℕ
unsent stream = count_unsent stream.waiting stream.pending

-- the commands of the MIDI list that is being made: all that are pending, and none while a segment waits
abbrev pub listed : List Segment → List Sent → List Sent
listed [] sent = sent
listed (segment ∷ others) sent = []

pub length_as_sent : (packet : ℕ) (entries : List Entry) → length (as_sent packet entries) ≡ length entries
length_as_sent packet [] = refl
length_as_sent packet (one ∷ others) = omega (arith, length_as_sent packet others)
