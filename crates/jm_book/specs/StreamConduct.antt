-- What the laws say of the stream after a list of steps: its packets, and what is pending.
use Rattle.std.specs.Prelude.{ℕ, ◌+◌, ◌≤◌, ◌≡◌, ◌≢◌, Bool, true, false, List, [], ◌∷◌, ◌++◌, length, drop, Option, Some, None}
use Rattle.std.specs.List.{AllByRecursion, list_any, slice_get}
use Rattle.jm_cmds.specs.declared.commands.Command.{Command}
use Rattle.jm_section.specs.Section.{list_text}
use Rattle.jm_book.specs.declared.answers.Played.TheVariants as played
use Rattle.jm_book.specs.declared.answers.PlayFault.TheVariants as refusal
use Rattle.jm_book.specs.declared.steps.Config.{Config}
use Rattle.jm_book.specs.declared.steps.Step.{Step}
use Rattle.jm_book.specs.declared.steps.Step.TheVariants.{Play, Cut}
use Rattle.jm_book.specs.Segments.{Segment, segments_in, next_segment}
use Rattle.jm_book.specs.Stream.{Stream, Entry, Packet, stream_of, packet_tick, entries_sent, entries_left, as_sent}
use Rattle.jm_book.specs.Waiting.{WaitAlone, HoldInTurn}
use Rattle.jm_book.specs.Pending.{timed_of, have_fields}
use Rattle.jm_book.specs.Legal.{IsLegal}
use Rattle.jm_book.specs.Plays.{is_play, play_count, greatest_tick, plays_of, plays_after}
use Rattle.jm_book.specs.Session.{Session}
use Rattle.jm_book.specs.Answers.{play_in}

abbrev pub is_cut : Step → Bool
is_cut (Cut tick) = true
is_cut _ = false

abbrev pub has_cut : List Step → Bool
has_cut steps = list_any is_cut steps

abbrev pub cut_count : List Step → ℕ
cut_count [] = 0
cut_count (Cut tick ∷ steps) = cut_count steps + 1
cut_count (_ ∷ steps) = cut_count steps

-- ---- what a cut sends

-- The packet of a cut has the number of the packets before it. Where no segment waits before the cut it has just the commands that
-- are pending then, in their order; else it holds the first segment that waits, and with the last one the commands that are
-- pending. Its tick is that of the first command that is pending, else of the cut. Whatever steps come later, it is so. (Not: a
-- packet without the last command, or with commands of the packet before; two segments in one packet.)
abbrev pub SendsPending : Type 0
SendsPending = (before : List Step) (tick : ℕ) (later : List Step)
    → slice_get (stream_of (before ++ Cut tick ∷ later)).packets (length (stream_of before).packets)
    ≡ Some record {
      tick = packet_tick (stream_of before).pending (greatest_tick (before ++ Cut tick ∷ []));
      entries = entries_sent (stream_of before).waiting (stream_of before).pending;
      part = next_segment (stream_of before).waiting;
    }

-- what is left of pending commands and waiting segments
pub record Leaves (old new : Stream) : Type 0 where
  pub pending : new.pending ≡ entries_left old.waiting old.pending
  pub waiting : new.waiting ≡ drop 1 old.waiting

-- After a cut nothing is pending, but where more than one segment waited: then just the first of these was taken off. (Not: a cut
-- that leaves a command or a segment, which the next one would send again.)
abbrev pub LeavesNothing : Type 0
LeavesNothing = (before : List Step) (tick : ℕ) → Leaves (stream_of before) (stream_of (before ++ Cut tick ∷ []))

-- What is pending is the plays since the last cut, in order, behind what that cut left, or all plays where no cut was made. (Not: a
-- play that is lost, or put before others.)
abbrev pub PendsSinceCut : Type 0
PendsSinceCut = (steps : List Step) → has_cut steps ≡ false
    → ((stream_of steps).pending ≡ plays_of steps)
    × ((before : List Step) (tick : ℕ)
    → (stream_of (before ++ Cut tick ∷ steps)).pending ≡ (stream_of (before ++ Cut tick ∷ [])).pending ++ plays_after (before ++ Cut tick ∷ []) steps)

-- ---- what stays

-- packets, behind which others may stand
pub record Begins (old new : List Packet) : Type 0 where
  pub later : List Packet
  pub parts : new ≡ old ++ later

-- Packets that were sent stay as they are, whatever steps come. (Not: a step that takes a packet back or adds to one.)
abbrev pub KeepsPackets : Type 0
KeepsPackets = (steps more : List Step) → Begins (stream_of steps).packets (stream_of (steps ++ more)).packets

-- As many packets were sent as cuts were made. (Not: a cut with nothing pending that sends no packet, or a step of
-- another kind that sends one.)
abbrev pub CountsCuts : Type 0
CountsCuts = (steps : List Step) → length (stream_of steps).packets ≡ cut_count steps

-- A step that is neither a play nor a cut leaves the stream. (Not: a join that empties what is pending.)
abbrev pub KeepsStream : Type 0
KeepsStream = (steps : List Step) (step : Step) → is_play step ≡ false → is_cut step ≡ false → stream_of (steps ++ step ∷ []) ≡ stream_of steps

-- A play puts just its own command behind the pending ones, with its player, the number of plays before it, and the
-- greatest tick among it and all plays and cuts before it; where it is long its segments wait. It changes no packet.
pub record Appends (old new : Stream) (entry : Entry) : Type 0 where
  pub pending : new.pending ≡ old.pending ++ entry ∷ []
  pub waiting : new.waiting ≡ old.waiting ++ segments_in entry.command
  pub packets : new.packets ≡ old.packets

-- (Not: a serial that counts other steps, or a tick before that of an earlier command.)
abbrev pub PlaysAppend : Type 0
PlaysAppend = (steps : List Step) (player : ℕ) (command : Command) (tick : ℕ)
    → Appends (stream_of steps) (stream_of (steps ++ Play player command tick ∷ []))
    record { player = player; serial = play_count steps; tick = greatest_tick (steps ++ Play player command tick ∷ []); command = command }

-- ---- room in the next packet

-- What one packet may have: 256 commands, a MIDI list of 4,095 octets (its length has at most twelve bits; RFC 6295,
-- section 3), and between two commands a delta that four octets hold.
pub record IsOnePacket (entries : List Entry) : Type 0 where
  pub few : length entries ≤ 256
  pub short : length (list_text (timed_of (as_sent 0 entries))) ≤ 4095
  pub fields : have_fields (timed_of (as_sent 0 entries)) ≡ true

-- What a packet with a segment may have: 1 to 2,046 of its command's data octets, and with the last of them the command.
pub record IsOnePart (segment : Segment) (entries : List Entry) : Type 0 where
  pub some : 1 ≤ length segment.octets
  pub few : length segment.octets ≤ 2046
  pub alone : length entries ≤ 1

abbrev pub IsPacket : Option Segment → List Entry → Type 0
IsPacket None entries = IsOnePacket entries
IsPacket (Some segment) entries = IsOnePart segment entries

-- what is pending is one packet, or each segment that waits has one
abbrev pub ArePackets : List Segment → List Entry → Type 0
ArePackets [] pending = IsOnePacket pending
ArePackets (segment ∷ others) pending = AllByRecursion (λ one. IsOnePart one pending) (segment ∷ others)

-- After legal steps each packet, and what is pending, is what packets may have. (Not: a 257th command, or one with which the MIDI
-- list has 4,096 octets; a delta of 2^28 ticks; a segment of 2,047 data octets, or of none.)
abbrev pub PacketsFit : Type 0
PacketsFit = (config : Config) (steps : List Step) → IsLegal config steps
    → AllByRecursion (λ packet. IsPacket packet.part packet.entries) (stream_of steps).packets × ArePackets (stream_of steps).waiting (stream_of steps).pending

-- With nothing pending and no segment waiting a play is never refused for want of a cut: any command, or its first segment, has room
-- in a packet of its own. (Not: a delta that counts from the last packet's tick, or a limit below that of one command; a long
-- message that is counted whole.)
abbrev pub NeedsNoCut : Type 0
NeedsNoCut = (room : Bool) (events : ℕ) (session : Session) (player : ℕ) (command : Command) (tick : ℕ)
    → session.stream.pending ≡ [] → session.stream.waiting ≡ []
    → (pending octets delta : ℕ) → play_in room events session player command tick ≢ played.Refused (refusal.NeedsCut pending octets delta) command

-- ---- long commands

-- After legal steps no command that is pending is long, unless it alone is pending and its last segments wait. (Not: a command that
-- is taken while a segment waits, or a long one behind others.)
abbrev pub WaitsAlone : Type 0
WaitsAlone = (config : Config) (steps : List Step) → IsLegal config steps → WaitAlone (stream_of steps).waiting (stream_of steps).pending

-- Along legal steps the segments of a long command stand in order in successive packets, from the first one after its play on. As
-- far as they weren't sent they wait, and just their command is pending; it is sent with the last of them. (Not: another packet
-- between two segments.)
abbrev pub SendsInTurn : Type 0
SendsInTurn = (config : Config) (before : List Step) (player : ℕ) (command : Command) (tick : ℕ) (later : List Step)
    → IsLegal config (before ++ Play player command tick ∷ later)
    → HoldInTurn
    record { player = player; serial = play_count before; tick = greatest_tick (before ++ Play player command tick ∷ []); command = command }
    (segments_in command)
    (drop (length (stream_of before).packets) (stream_of (before ++ Play player command tick ∷ later)).packets)
    (stream_of (before ++ Play player command tick ∷ later))
