-- What contracts see of a core, and for which sessions it stands.
use Rattle.std.specs.Prelude.{ℕ, ◌+◌, ◌-◌, ◌≡◌, ◌<◌, ◌≤◌, ◌^◌, max, Bool, true, false, ◌==◌, nat_le, if◌then◌else◌, List, [], ◌++◌, length, drop, Option, Some, None}
use Rattle.jm_cmds.specs.declared.history.Sent.{Sent}
use Rattle.jm_journal.specs.Limits.{fit_of}
use Rattle.jm_wire.specs.Octets.{Filled}
use Rattle.jm_book.specs.declared.steps.Step.{Step}
use Rattle.jm_book.specs.declared.answers.PlayFault.{PlayFault}
use Rattle.jm_book.specs.declared.play.CorePlayed.{CorePlayed}
use Rattle.jm_book.specs.declared.play.CorePlayed.TheVariants as core_played
use Rattle.jm_book.specs.Answers.{after_if, members_play, what_of, is_behind_others, cut_refusal, is_kept}
use Rattle.jm_cmds.specs.declared.commands.Command.{Command}
use Rattle.jm_cmds.specs.Command.{is_long}
use Rattle.jm_section.specs.declared.next.Place.{Place}
use Rattle.jm_section.specs.declared.next.Place.TheVariants.{First}
use Rattle.jm_section.specs.Section.{piece, list_text, item_text, place_after}
use Rattle.jm_section.specs.Pieces.{place_behind}
use Rattle.apple_session.specs.Conduct.{takes_part}
use Rattle.apple_session.specs.Peers.{IsOrderly}
use Rattle.jm_book.specs.declared.steps.Config.{Config}
use Rattle.jm_book.specs.Participants.{is_member, most_joined, checkpoint_at}
use Rattle.jm_book.specs.Members.{Members}
use Rattle.jm_book.specs.Segments.{Segment, segments_of, message_of, next_segment, text_of}
use Rattle.jm_book.specs.Stream.{Stream, packet_tick, pending_of, listed}
use Rattle.jm_book.specs.Session.{Session}
use Rattle.jm_book.specs.Pending.{timed_of, last_tick}

-- the configuration and the members; how many packets were sent, plays accepted and commands are pending; the latest
-- tick, and that of the first pending command; the MIDI list of what is pending, and the place behind it; the segments
-- that wait
pub record CoreTold : Type 0 where
  pub config : Config
  pub members : Members
  pub packets : ℕ
  pub plays : ℕ
  pub pending : ℕ
  pub tick : ℕ
  pub first : ℕ
  pub list : List ℕ
  pub place : Place
  pub waiting : List Segment

-- the tick of the next packet, cut at this tick
abbrev pub next_tick : CoreTold → (tick : ℕ) → ℕ
next_tick core tick = if core.pending == 0 then max core.tick tick else core.first

-- the ticks between the last pending command and one at this tick
abbrev pub next_delta : CoreTold → (tick : ℕ) → ℕ
next_delta core tick = if core.pending == 0 then 0 else max core.tick tick - core.tick

-- the length of the MIDI list with one more command, or with a long one's first segment
abbrev pub next_octets : CoreTold → Command → (tick : ℕ) → ℕ
next_octets core command tick = length core.list + length (item_text core.place record { delta = next_delta core tick; what = what_of command })

-- a command, or the first segment of a long one, has room behind what is pending
pub record HasRoom (core : CoreTold) (command : Command) (tick : ℕ) : Type 0 where
  pub few : core.pending < 256
  pub short : next_octets core command tick ≤ 4095
  pub near : next_delta core tick < 2 ^ 28

-- how many commands are pending, a long one counted by its segments that wait
abbrev pub count_held : CoreTold → ℕ
count_held core = if length core.waiting == 0 then core.pending else length core.waiting + (core.pending - 1)

-- the number of the packet with which what is pending is sent
abbrev pub held_number : CoreTold → ℕ
held_number core = core.packets + (length core.waiting - 1)

-- the MIDI list of the next packet: the first segment that waits, or what is pending
abbrev pub list_or : Option Segment → List ℕ → List ℕ
list_or None list = list
list_or (Some segment) list = text_of segment

abbrev pub next_list : CoreTold → List ℕ
next_list core = list_or (next_segment core.waiting) core.list

-- the members after a step, if it was taken
abbrev pub with_members : CoreTold → (taken : Bool) → Step → CoreTold
with_members core taken step = record core { members = after_if taken core.packets core.members step }

-- the MIDI list with a command at this distance: a long one is not in it
abbrev pub list_with_one : CoreTold → Command → (delta : ℕ) → List ℕ
list_with_one core command delta = if is_long command then core.list else core.list ++ piece core.place record { delta = delta; command = command }

abbrev pub place_with_one : CoreTold → Command → Place
place_with_one core command = if is_long command then core.place else place_after core.place command

-- the segments that wait, with those of the command
abbrev pub waiting_with_one : CoreTold → Command → List Segment
waiting_with_one core command = if is_long command then segments_of (message_of command) else core.waiting

-- a command at this distance joins the MIDI list, or waits as segments where it is long
abbrev pub with_octets_at : CoreTold → Command → (delta : ℕ) → CoreTold
with_octets_at core command delta = record core {
  list = list_with_one core command delta;
  place = place_with_one core command;
  waiting = waiting_with_one core command;
}

-- one more command is pending
abbrev pub with_command : CoreTold → Command → (tick : ℕ) → CoreTold
with_command core command tick = record core {
  plays = core.plays + 1;
  pending = core.pending + 1;
  tick = max core.tick tick;
  first = next_tick core tick;
  list = list_with_one core command (next_delta core tick);
  place = place_with_one core command;
  waiting = waiting_with_one core command;
}

-- how many commands are pending after a cut: none, unless it sends a segment that isn't the last one
abbrev pub left_pending : CoreTold → ℕ
left_pending core = if nat_le (length core.waiting) 1 then 0 else core.pending

-- one more packet was sent
abbrev pub with_packet : CoreTold → (tick : ℕ) → CoreTold
with_packet core tick = record core {
  packets = core.packets + 1;
  pending = left_pending core;
  tick = max core.tick tick;
  list = [];
  place = First;
  waiting = drop 1 core.waiting;
}

-- these are the data octets of a long command
pub record IsLongMessage (command : Command) (octets : List ℕ) : Type 0 where
  pub long : is_long command ≡ true
  pub same : octets ≡ message_of command
  pub many : 2046 < length octets
  pub few : length octets ≤ 65536

-- why a play is refused, behind these commands
abbrev pub core_refusal : (room : Bool) → CoreTold → List Sent → (player : ℕ) → Command → (tick : ℕ) → Option PlayFault
core_refusal room core commands player command tick =
    members_play room core.config.events core.members player (fit_of (checkpoint_at core.packets core.members.joined) commands command)
    (cut_refusal core.waiting (is_behind_others command core.pending) core.pending (next_octets core command tick) (next_delta core tick))

abbrev pub core_played_as : (serial : ℕ) → Command → Option PlayFault → CorePlayed
core_played_as serial command (Some why) = core_played.Refused why
core_played_as serial command None = core_played.Accepted serial (is_kept command)

abbrev pub is_core_accepted : CorePlayed → Bool
is_core_accepted (core_played.Accepted serial kept) = true
is_core_accepted _ = false

-- at most 256 commands are pending, and the buffer of the MIDI list has room for 4,095 octets in all
pub record IsInLimits (pending : ℕ) (list : Filled) : Type 0 where
  pub few : pending ≤ 256
  pub whole : list.spare + length list.octets ≡ 4095

-- each joined peer is a joined participant
abbrev pub PeersTakePart : Members → Type 0
PeersTakePart members = (ssrc : ℕ) → takes_part ssrc members.host.peers ≡ true → is_member ssrc members.joined ≡ true

-- what holds of the members at any time
pub record AreSound (members : Members) : Type 0 where
  pub few_players : members.entered ≤ 64
  pub few_joined : length members.joined ≤ most_joined
  pub orderly : IsOrderly members.host.ssrc members.host.peers
  pub take_part : PeersTakePart members

-- the counts, the segments and the MIDI list are those of this stream
pub record StandsForStream (core : CoreTold) (stream : Stream) : Type 0 where
  pub packets : core.packets ≡ length stream.packets
  pub plays : core.plays ≡ stream.plays
  pub pending : core.pending ≡ length stream.pending
  pub tick : core.tick ≡ stream.tick
  pub first : (tick : ℕ) → packet_tick stream.pending tick ≡ (if core.pending == 0 then tick else core.first)
  pub waiting : core.waiting ≡ stream.waiting
  pub list : core.list ≡ list_text (timed_of (listed stream.waiting (pending_of stream)))
  pub place : core.place ≡ place_behind First (timed_of (listed stream.waiting (pending_of stream)))
  pub last : last_tick stream.tick (listed stream.waiting (pending_of stream)) ≡ stream.tick

-- a core stands for a session: its members are the session's, and the rest is that of its stream
pub record StandsFor (core : CoreTold) (session : Session) : Type 0 where
  pub members : core.members ≡ session.members
  pub stream : StandsForStream core session.stream
