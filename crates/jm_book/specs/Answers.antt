-- What each call answers in a session: each refusal exactly where it comes, in the calls' order. `room` says
-- whether a step may still be taken, and `events` how many a tape takes.
use Rattle.std.specs.Prelude.{ℕ, ◌+◌, ◌-◌, Bool, true, false, ◌||◌, ◌&&◌, not, if◌then◌else◌, nat_lt, nat_le, List, [], ◌∷◌, ◌++◌, length, Option, Some, None}
use Rattle.std.specs.List.{filter_map}
use Rattle.jm_cmds.specs.declared.commands.Command.{Command}
use Rattle.jm_cmds.specs.declared.commands.Command.TheVariants.{Sysex}
use Rattle.jm_cmds.specs.Command.{is_long}
use Rattle.jm_cmds.specs.Data.{is_kept_message}
use Rattle.jm_edge.specs.declared.Addr.{Addr}
use Rattle.apple_msg.specs.declared.message.Message.{Message}
use Rattle.apple_session.specs.declared.peer.Peer.{Peer}
use Rattle.apple_session.specs.declared.answer.PortKind.{PortKind}
use Rattle.apple_session.specs.declared.answer.Act.{Act}
use Rattle.apple_session.specs.declared.answer.Act.TheVariants as act
use Rattle.apple_session.specs.declared.answer.Why.TheVariants as why
use Rattle.apple_session.specs.Machine.{Outcome}
use Rattle.apple_session.specs.Peers.{is_joined as is_joined_peer}
use Rattle.jm_book.specs.declared.steps.Step.{Step}
use Rattle.jm_book.specs.declared.participants.Participant.{Participant}
use Rattle.jm_book.specs.declared.marks.Report.{Report}
use Rattle.jm_book.specs.declared.marks.Report.TheVariants as report
use Rattle.jm_book.specs.declared.lists.FeedbackEntry.{FeedbackEntry}
use Rattle.jm_book.specs.declared.answers.Entered.{Entered}
use Rattle.jm_book.specs.declared.answers.Entered.TheVariants as entered
use Rattle.jm_book.specs.declared.answers.Played.{Played}
use Rattle.jm_book.specs.declared.answers.Played.TheVariants as played
use Rattle.jm_book.specs.declared.answers.PlayFault.{PlayFault}
use Rattle.jm_book.specs.declared.answers.PlayFault.TheVariants as refusal
use Rattle.jm_book.specs.declared.answers.Cutted.{Cutted}
use Rattle.jm_book.specs.declared.answers.Cutted.TheVariants as cutted
use Rattle.jm_book.specs.declared.answers.Acked.{Acked}
use Rattle.jm_book.specs.declared.answers.Acked.TheVariants as acked
use Rattle.jm_book.specs.declared.answers.Joined.{Joined}
use Rattle.jm_book.specs.declared.answers.Joined.TheVariants as joined
use Rattle.jm_book.specs.declared.answers.Gone.{Gone}
use Rattle.jm_book.specs.declared.answers.Gone.TheVariants as gone
use Rattle.jm_book.specs.declared.answers.Heard.{Heard}
use Rattle.jm_book.specs.declared.answers.Heard.TheVariants as heard
use Rattle.jm_book.specs.declared.answers.Given.{Given}
use Rattle.jm_book.specs.declared.answers.Given.TheVariants as given
use Rattle.jm_book.specs.declared.answers.Acted.{Acted}
use Rattle.jm_book.specs.declared.answers.Acted.TheVariants as acted
use Rattle.jm_book.specs.declared.answers.Said.{Said}
use Rattle.jm_book.specs.declared.answers.Said.TheVariants as said
use Rattle.jm_book.specs.Participants.{find_joined, is_member, has_slot, free_slot, most_joined, report_of, slowest, checkpoint_at}
use Rattle.jm_book.specs.Members.{Members, members_after, outcome_of}
use Rattle.jm_book.specs.Segments.{Segment, first_segment, message_of, part_of, text_of}
use Rattle.jm_book.specs.Stream.{Stream, tick_after, sent_of, pending_of}
use Rattle.jm_book.specs.Session.{Session, checkpoint_of}
use Rattle.jm_book.specs.Pending.{timed_of, last_tick}
use Rattle.jm_section.specs.declared.item.Item.{Item}
use Rattle.jm_section.specs.declared.item.What.{What}
use Rattle.jm_section.specs.declared.item.What.TheVariants.{Whole}
use Rattle.jm_section.specs.declared.next.Place.TheVariants.{First}
use Rattle.jm_section.specs.Section.{items_of, items_text}
use Rattle.jm_journal.specs.declared.fits.Fit.{Fit}
use Rattle.jm_journal.specs.declared.fits.Fit.TheVariants as fit
use Rattle.jm_journal.specs.Limits.{fit_of}

-- ---- the calls that ask the members alone, where so many packets were sent

abbrev pub members_enter : (room : Bool) (events : ℕ) → Members → Entered
members_enter room events members =
    if not room then entered.RecordFull events
    else if nat_le 64 members.entered then entered.PlayersFull 64
    else entered.Player members.entered

-- the journal's checkpoint is named by 16 bits, so no packet goes out 32,767 past it
abbrev pub is_behind : (packets : ℕ) → List Participant → Bool
is_behind packets joined = nat_le 32767 (packets - checkpoint_at packets joined)

abbrev pub behind_or_sent : (packets : ℕ) → List Participant → Option Participant → Cutted
behind_or_sent packets joined None = cutted.Packet packets
behind_or_sent packets joined (Some one) =
    if is_behind packets joined then cutted.Behind one.ssrc one.mark else cutted.Packet packets

abbrev pub members_cut : (room : Bool) (events packets : ℕ) → Members → Cutted
members_cut room events packets members =
    if not room then cutted.RecordFull events
    else behind_or_sent packets members.joined (slowest members.joined)

abbrev pub acked_as : Report → Acked
acked_as (report.Moved mark) = acked.Moved mark
acked_as (report.Old mark) = acked.Old mark
acked_as (report.NotSent last) = acked.NotSent last

abbrev pub ack_of : (room : Bool) (events packets seq : ℕ) → Option Participant → Acked
ack_of room events packets seq None = acked.UnknownSsrc
ack_of room events packets seq (Some one) =
    if not room then acked.RecordFull events
    else acked_as (report_of packets one seq)

abbrev pub members_ack : (room : Bool) (events packets : ℕ) → Members → (ssrc seq : ℕ) → Acked
members_ack room events packets members ssrc seq = ack_of room events packets seq (find_joined ssrc members.joined)

abbrev pub members_join : (room : Bool) (events packets : ℕ) → Members → (ssrc : ℕ) → Joined
members_join room events packets members ssrc =
    if is_member ssrc members.joined then joined.Already
    else if not room then joined.RecordFull events
    else if nat_le most_joined (length members.joined) then joined.SessionFull most_joined
    else joined.At (packets - 1) (64 + free_slot members.joined)

abbrev pub members_leave : (room : Bool) (events : ℕ) → Members → (ssrc : ℕ) → Gone
members_leave room events members ssrc =
    if not (is_member ssrc members.joined) then gone.UnknownSsrc
    else if not room then gone.RecordFull events
    else gone.Left

abbrev pub members_hear : (room : Bool) (events : ℕ) → Members → (ssrc : ℕ) → Heard
members_hear room events members ssrc =
    if not (is_member ssrc members.joined) then heard.UnknownSsrc
    else if not room then heard.RecordFull events
    else heard.Noted

abbrev pub answer_feedback : (room : Bool) (events : ℕ) → Given
answer_feedback room events = if not room then given.RecordFull events else given.Given

-- ---- what is told of the peers

abbrev pub number_heard : Option Participant → Option ℕ
number_heard None = None
number_heard (Some one) = one.heard

-- where a joined peer's feedback goes, and the number of the last packet that came from it
abbrev pub entry_of : (joined : Bool) → Addr → Option ℕ → Option FeedbackEntry
entry_of true to (Some seq) = Some record { to = to; seq = seq }
entry_of _ to _ = None

-- in the order of the peers, each joined one whose participant was heard
abbrev pub feedback_of : List Participant → List Peer → List FeedbackEntry
feedback_of joined peers =
    filter_map (λ (peer : Peer). entry_of (is_joined_peer peer) peer.control (number_heard (find_joined peer.ssrc joined))) peers

-- in the order of the peers, the data address of each joined one
abbrev pub addresses_of : List Peer → List Addr
addresses_of peers = filter_map (λ (peer : Peer). peer.data) peers

-- ---- a message

abbrev pub acted_as : Report → Acted
acted_as (report.Moved mark) = acted.Moved mark
acted_as (report.Old mark) = acted.Old mark
acted_as (report.NotSent last) = acted.NotSent last

-- a joined peer is a joined participant, so a report of none doesn't come
abbrev pub reported : (packets seq : ℕ) → Option Participant → Acted
reported packets seq None = acted.Ignored why.NotJoined
reported packets seq (Some one) = acted_as (report_of packets one seq)

-- what becomes of an act of the machine of invitations
abbrev pub acted_of : (packets : ℕ) → List Participant → Act → Acted
acted_of packets members act.Plain = acted.Plain
acted_of packets members (act.Join ssrc) =
    if is_member ssrc members then acted.Plain else acted.Joined (packets - 1) (64 + free_slot members)
acted_of packets members (act.Leave ssrc) = if is_member ssrc members then acted.Left else acted.Plain
acted_of packets members (act.Ack ssrc seq) = reported packets seq (find_joined ssrc members)
acted_of packets members (act.Clocked offset) = acted.Clocked offset
acted_of packets members (act.Ignored reason) = acted.Ignored reason

abbrev pub said_of : (packets : ℕ) → List Participant → Outcome → Said
said_of packets members outcome = said.Done outcome.answer.reply (acted_of packets members outcome.answer.act)

abbrev pub members_say : (room : Bool) (events packets : ℕ) → Members → PortKind → Addr → Message → (now : ℕ) → Said
members_say room events packets members port from message now =
    if not room then said.RecordFull events
    else said_of packets members.joined (outcome_of members port from message now)

-- ---- play

-- local players have the numbers from 0 on, a participant 64 and its slot
abbrev pub is_known : Members → (player : ℕ) → Bool
is_known members player =
    if nat_lt player 64 then nat_lt player members.entered
    else has_slot members.joined (player - 64)

-- the ticks between the last pending command and one at this tick
abbrev pub delta_with : Stream → (tick : ℕ) → ℕ
delta_with stream tick = tick_after stream tick - last_tick (tick_after stream tick) (pending_of stream)

-- what a list has of a command: the first segment of a long one, else the whole
abbrev pub what_of : Command → What
what_of command = if is_long command then part_of (first_segment (message_of command)) else Whole command

-- the MIDI list of the pending commands with one more
abbrev pub items_with : Stream → Command → (tick : ℕ) → List Item
items_with stream command tick = items_of (timed_of (pending_of stream)) ++ record { delta = delta_with stream tick; what = what_of command } ∷ []

-- its length
abbrev pub list_with : Stream → Command → (tick : ℕ) → ℕ
list_with stream command tick = length (items_text First (items_with stream command tick))

-- a long command stands behind no other: its segments have packets of their own
abbrev pub is_behind_others : Command → (pending : ℕ) → Bool
is_behind_others command pending = is_long command && nat_lt 0 pending

-- the limits of what may be pending: 256 commands, a MIDI list of 4,095 octets, a delta of four octets
abbrev pub needs_cut : (behind : Bool) (pending octets delta : ℕ) → Bool
needs_cut behind pending octets delta = behind || nat_le 256 pending || nat_lt 4095 octets || nat_lt 0x0FFFFFFF delta

-- While a segment waits each play needs a cut: the numbers are then how many wait, and the length of the next one.
abbrev pub cut_refusal : (waiting : List Segment) (behind : Bool) (pending octets delta : ℕ) → Option PlayFault
cut_refusal [] behind pending octets delta =
    if needs_cut behind pending octets delta then Some (refusal.NeedsCut pending octets delta)
    else None
cut_refusal (segment ∷ others) behind pending octets delta =
    Some (refusal.NeedsCut (length (segment ∷ others)) (length (text_of segment)) 0)

-- a command that doesn't fit behind the sent and pending ones, were they all sent
abbrev pub fit_refusal : Fit → Option PlayFault
fit_refusal fit.Yes = None
fit_refusal (fit.ParamsFull channel kept) = Some (refusal.ParamsFull channel kept)
fit_refusal (fit.PolyFull channel kept) = Some (refusal.PolyFull channel kept)
fit_refusal (fit.SysexFull logs octets) = Some (refusal.SysexFull logs octets)

abbrev pub fit_after : Session → Command → Fit
fit_after session command = fit_of (checkpoint_of session) (sent_of session.stream ++ pending_of session.stream) command

-- the first of two refusals that comes
abbrev pub or_else : Option PlayFault → Option PlayFault → Option PlayFault
or_else (Some why) other = Some why
or_else None other = other

-- why a play is refused: the player isn't known, no step may be taken, the command doesn't fit, or a cut has to come first
abbrev pub members_play : (room : Bool) (events : ℕ) → Members → (player : ℕ) → Fit → (cut : Option PlayFault) → Option PlayFault
members_play room events members player answer cut =
    if not (is_known members player) then Some refusal.UnknownPlayer
    else if not room then Some (refusal.RecordFull events)
    else or_else (fit_refusal answer) cut

abbrev pub refusal_in : (room : Bool) (events : ℕ) → Session → (player : ℕ) → Command → (tick : ℕ) → Option PlayFault
refusal_in room events session player command tick =
    members_play room events session.members player (fit_after session command)
    (cut_refusal session.stream.waiting (is_behind_others command (length session.stream.pending)) (length session.stream.pending) (list_with session.stream command tick) (delta_with session.stream tick))

-- a SysEx of over 254 data octets is sent and not kept for repair
abbrev pub is_kept : Command → Bool
is_kept (Sysex octets) = is_kept_message octets
is_kept _ = true

abbrev pub played_as : (serial : ℕ) → Command → Option PlayFault → Played
played_as serial command (Some why) = played.Refused why command
played_as serial command None = played.Accepted serial (is_kept command)

-- ---- in a session

abbrev pub enter_in : (room : Bool) (events : ℕ) → Session → Entered
enter_in room events session = members_enter room events session.members

abbrev pub play_in : (room : Bool) (events : ℕ) → Session → (player : ℕ) → Command → (tick : ℕ) → Played
play_in room events session player command tick =
    played_as session.stream.plays command (refusal_in room events session player command tick)

abbrev pub cut_in : (room : Bool) (events : ℕ) → Session → Cutted
cut_in room events session = members_cut room events (length session.stream.packets) session.members

abbrev pub ack_in : (room : Bool) (events : ℕ) → Session → (ssrc seq : ℕ) → Acked
ack_in room events session ssrc seq = members_ack room events (length session.stream.packets) session.members ssrc seq

abbrev pub join_in : (room : Bool) (events : ℕ) → Session → (ssrc : ℕ) → Joined
join_in room events session ssrc = members_join room events (length session.stream.packets) session.members ssrc

abbrev pub leave_in : (room : Bool) (events : ℕ) → Session → (ssrc : ℕ) → Gone
leave_in room events session ssrc = members_leave room events session.members ssrc

abbrev pub hear_in : (room : Bool) (events : ℕ) → Session → (ssrc : ℕ) → Heard
hear_in room events session ssrc = members_hear room events session.members ssrc

abbrev pub feedback_in : (room : Bool) (events : ℕ) → Session → Given
feedback_in room events session = answer_feedback room events

abbrev pub say_in : (room : Bool) (events : ℕ) → Session → PortKind → Addr → Message → (now : ℕ) → Said
say_in room events session port from message now =
    members_say room events (length session.stream.packets) session.members port from message now

-- the members after a step, if it was taken
abbrev pub after_if : (taken : Bool) (packets : ℕ) → Members → Step → Members
after_if taken packets members step = if taken then members_after packets members step else members

-- ---- which answers take a step

abbrev pub is_entered : Entered → Bool
is_entered (entered.Player player) = true
is_entered _ = false

abbrev pub is_accepted : Played → Bool
is_accepted (played.Accepted serial kept) = true
is_accepted _ = false

abbrev pub is_packet : Cutted → Bool
is_packet (cutted.Packet number) = true
is_packet _ = false

abbrev pub is_moved : Acked → Bool
is_moved (acked.Moved mark) = true
is_moved _ = false

abbrev pub is_joined : Joined → Bool
is_joined (joined.At mark player) = true
is_joined _ = false

abbrev pub is_left : Gone → Bool
is_left gone.Left = true
is_left _ = false

abbrev pub is_noted : Heard → Bool
is_noted heard.Noted = true
is_noted _ = false

abbrev pub is_given : Given → Bool
is_given given.Given = true
is_given _ = false

-- a message that was ignored, and a report that is old or of a packet not sent, take none
abbrev pub is_acted : Acted → Bool
is_acted (acted.Ignored reason) = false
is_acted (acted.Old mark) = false
is_acted (acted.NotSent last) = false
is_acted _ = true

abbrev pub is_said : Said → Bool
is_said (said.Done reply act) = is_acted act
is_said _ = false
