-- The packets of a session are read again.
use Rattle.std.proofs.Common.{◌≡◌, ℕ, ◌+◌, ◌%◌, ◌^◌, ◌<◌, ◌≤◌, Bool, true, false, List, [], ◌∷◌, ◌++◌, length, drop, Option, Some, None, Result, Ok, Err, All, refl, inl, inr, sym, ap, subst, ◌∙◌, arith, append_assoc, append-nil, length-append}
use Rattle.std.specs.Prelude.{IsTrue, nat_lt, if◌then◌else◌}
use Rattle.std.specs.List.{AllByRecursion}
use Rattle.std.proofs.Math.Seq.{drop-append_seam}
use Rattle.std.proofs.lemmas.Bool.{cases_Bool, ltb-true, lt-ltb, eq-eqb, and_parts}
use Rattle.std.proofs.lemmas.List.Elements.{All-from_recursion}
use Rattle.jm_cmds.specs.declared.history.Sent.{Sent}
use Rattle.jm_cmds.specs.declared.commands.Command.{Command}
use Rattle.jm_cmds.specs.Command.{IsCommand, is_long}
use Rattle.jm_cmds.specs.History.{below}
use Rattle.jm_cmds.specs.Sent.{packet_of as sent_packet}
use Rattle.jm_section.specs.declared.item.Item.{Item}
use Rattle.jm_section.specs.declared.reading.SectionFault.{SectionFault}
use Rattle.jm_section.specs.Section.{Timed, list_text, header as section_header, segment_last, items_of, item_of, item_text, what_text, items_text, section, is_written, IsWritable}
use Rattle.jm_section.specs.Pieces.{items_text-commands}
use Rattle.jm_section.specs.declared.item.What.TheVariants.{Whole}
use Rattle.jm_section.specs.declared.next.Place.TheVariants.{First}
use Rattle.jm_section.specs.Grammar.{Read}
use Rattle.jm_section.specs.Reading.{section_read}
use Rattle.jm_section.specs.Laws.{IsWhat, SectionsReadBack}
use Rattle.jm_packet.specs.declared.header.Header.{Header}
use Rattle.jm_packet.specs.declared.reading.PacketFault.{PacketFault}
use Rattle.jm_packet.specs.Header.{header}
use Rattle.jm_packet.specs.Reading.{PacketRead, packet_read, packet_of as packet_behind, front_read, behind_front, source_of, source_read}
use Rattle.jm_packet.specs.Laws.{IsHeader, front_of, HeadersReadBack}
use Rattle.jm_journal.specs.Limits.{KeepsLimits}
use Rattle.jm_journal.specs.Journal.{journal}
use Rattle.jm_reader.specs.declared.logs.Log.{Log}
use Rattle.jm_reader.specs.Journal.{journal_read}
use Rattle.jm_reader.specs.WrittenJournal.{journal_again}
use Rattle.jm_receiver.specs.Accept.{of_journal, logs_read, opened}
use Rattle.jm_book.specs.declared.steps.Config.{Config}
use Rattle.jm_book.specs.declared.steps.Step.{Step}
use Rattle.jm_book.specs.Stream.{Stream, Entry, stream_of, as_sent, sent_of, pending_of, number_of_pending, next_packet, next_of, entries_sent}
use Rattle.jm_book.specs.Segments.{Segment, segments_in, next_segment, part_of, text_of}
use Rattle.jm_book.specs.SegmentLaws.{IsSectionPart, command_parts}
use Rattle.jm_book.specs.Waiting.{WaitOfOne, WaitAlone}
use Rattle.jm_book.specs.InTurnLaws.{waits_alone}
use Rattle.jm_book.specs.Session.{Session, session_of, checkpoint_of, session_stream}
use Rattle.jm_book.specs.Pending.{timed_after, timed_of, have_fields}
use Rattle.jm_book.specs.Packet.{header_of, has_journal, journal_of, list_of, packet_text, packet_of, journal_of_some, journal_of_none}
use Rattle.jm_book.specs.Legal.{IsLegal}
use Rattle.jm_book.specs.LimitLaws.{legal_limits, sent_below}
use Rattle.jm_book.specs.PeerLaws.{peers_come}
use Rattle.jm_book.specs.SlowestLaws.{stays_near}
use Rattle.jm_book.specs.StreamConduct.{IsOnePacket, ArePackets}
use Rattle.jm_book.specs.Commands.{HaveCommands, AreCommands}
use Rattle.jm_book.specs.CommandLaws.{commands_any, keeps_commands, first_commands, later_commands}
use Rattle.jm_book.proofs.Fitting.{timed_any, packets_fit}
use Rattle.jm_session.specs.Packets.{number_of, tick_of_cut, items_by, items_of_cut, section_of_cut, journal_begins, logs_of_cut, read_of_cut, IsRead, PacketsAreRead, CheckpointsAreTold}

-- ---- the section

-- what holds of each command holds of its item
items_all : (Q : Timed → Type 0) (P : Item → Type 0) → ((one : Timed) → Q one → P (item_of one)) → (ts : List Timed) → AllByRecursion Q ts → AllByRecursion P (items_of ts)
items_all Q P each [] h = tt
items_all Q P each (one ∷ ts) h = (each one h.0, items_all Q P each ts h.1)

fields_small : (ts : List Timed) → have_fields ts ≡ true → AllByRecursion (λ (one : Timed). one.delta < 2 ^ 28) ts
fields_small [] h = tt
fields_small (one ∷ ts) h =
    let parts = and_parts (nat_lt one.delta (2 ^ 28)) (have_fields ts) h in
    (ltb-true one.delta (2 ^ 28) parts.0, fields_small ts parts.1)

timed_commands : (before : ℕ) (sent : List Sent) → AreCommands sent → AllByRecursion (λ (one : Timed). IsCommand one.command) (timed_after before sent)
timed_commands before [] h = tt
timed_commands before (one ∷ sent) h = (h.0, timed_commands one.tick sent h.1)

all_timed : (sent : List Sent) → AreCommands sent → AllByRecursion (λ (one : Timed). IsCommand one.command) (timed_of sent)
all_timed [] h = tt
all_timed (one ∷ sent) h = timed_commands one.tick (one ∷ sent) h

first_delta : List Item → ℕ
first_delta [] = 0
first_delta (item ∷ items) = item.delta

-- the first command has delta 0
begins_at_zero : (sent : List Sent) → first_delta (items_of (timed_of sent)) ≡ 0
unfolding first_delta
begins_at_zero [] = refl
begins_at_zero (one ∷ sent) = omega arith

first_is : (item : Item) (items others : List Item) → items ≡ item ∷ others → first_delta items ≡ item.delta
unfolding first_delta
first_is item items others e = ap first_delta e

-- what holds of pending commands holds where they are sent
timed_all : (P : Command → Type 0) (before number : ℕ) (pending : List Entry) → AllByRecursion (λ (one : Entry). P one.command) pending → AllByRecursion (λ (one : Timed). P one.command) (timed_after before (as_sent number pending))
timed_all P before number [] h = tt
timed_all P before number (one ∷ others) h = (h.0, timed_all P one.tick number others h.1)

all_pending : (P : Command → Type 0) (number : ℕ) (pending : List Entry) → AllByRecursion (λ (one : Entry). P one.command) pending → AllByRecursion (λ (one : Timed). P one.command) (timed_of (as_sent number pending))
all_pending P number [] h = tt
all_pending P number (one ∷ others) h = timed_all P one.tick number (one ∷ others) h

is_written_whole : (command : Command) → is_long command ≡ false → IsTrue (is_written (Whole command))
is_written_whole command short = rw short refl

-- items that have a section, each within its bounds
pub record AreSent (items : List Item) : Type 0 where
  pub writable : IsWritable items
  pub within : All (λ item. IsWhat item.what) items

-- commands that aren't long
commands_sent : (number : ℕ) (pending : List Entry) → IsOnePacket pending → AllByRecursion (λ (one : Entry). is_long one.command ≡ false) pending → AreCommands (as_sent number pending) → AreSent (items_of (timed_of (as_sent number pending)))
commands_sent number pending fits short are =
    let sent = as_sent number pending in
    let items = items_of (timed_of sent) in
    let any = timed_any number 0 pending in
    let fields : have_fields (timed_of sent) ≡ true = rw any fits.fields in
    let few : length (list_text (timed_of sent)) ≤ 4095 = rw any fits.short in
    record {
      writable = record {
        written = All-from_recursion (λ item. IsTrue (is_written item.what)) items (items_all (λ one. is_long one.command ≡ false) (λ item. IsTrue (is_written item.what)) (λ one h. is_written_whole one.command h) (timed_of sent) (all_pending (λ command. is_long command ≡ false) number pending short));
        first = λ item others e. sym (first_is item items others e) ∙ begins_at_zero sent;
        deltas = All-from_recursion (λ item. item.delta < 2 ^ 28) items (items_all (λ one. one.delta < 2 ^ 28) (λ item. item.delta < 2 ^ 28) (λ one l. l) (timed_of sent) (fields_small (timed_of sent) fields));
        short = rw (items_text-commands First (timed_of sent)) few;
      };
      within = All-from_recursion (λ item. IsWhat item.what) items (items_all (λ one. IsCommand one.command) (λ item. IsWhat item.what) (λ one h. h) (timed_of sent) (all_timed sent are));
    }

-- a segment
part_sent : (segment : Segment) → IsSectionPart segment → length segment.octets ≤ 2046 → AreSent (record { delta = 0; what = part_of segment } ∷ [])
unfolding item_text what_text first_delta
part_sent segment is few =
    let item : Item = record { delta = 0; what = part_of segment } in
    let items : List Item = item ∷ [] in
    let written : IsTrue (is_written (part_of segment)) = is.written in
    let text : length (text_of segment) ≡ length segment.octets + 2 = omega (arith, length-append segment.octets (segment_last segment.kind ∷ [])) in
    let list : length (items_text First items) ≡ length (text_of segment) = ap length (append-nil (text_of segment)) in
    record {
      writable = record {
        written = All-from_recursion (λ one. IsTrue (is_written one.what)) items (written, tt);
        first = λ one others e. sym (first_is one items others e);
        deltas = All-from_recursion (λ one. one.delta < 2 ^ 28) items (omega arith, tt);
        short = omega (arith, list, text, few);
      };
      within = All-from_recursion (λ one. IsWhat one.what) items (is.message, tt);
    }

-- the first one that waits
later_parts : (sent waiting : List Segment) → AllByRecursion IsSectionPart (sent ++ waiting) → AllByRecursion IsSectionPart waiting
later_parts [] waiting h = h
later_parts (one ∷ sent) waiting h = later_parts sent waiting h.1

pub some_segments : (command : Command) (sent : List Segment) (segment : Segment) (others : List Segment) → segments_in command ≡ sent ++ segment ∷ others → is_long command ≡ true
some_segments command sent segment others parts = elim (cases_Bool (is_long command)) [
  | inl long ↦ long
  | inr short ↦
      let none : [] ≡ sent ++ segment ∷ others = rw short at parts in
      let count = length-append sent (segment ∷ others) in
      let zero : 0 ≡ length (sent ++ segment ∷ others) = ap length none in
      absurd (omega (arith, count, zero))
]

pub first_part : (number : ℕ) (segment : Segment) (others : List Segment) (pending : List Entry) → WaitOfOne (segment ∷ others) pending → AreCommands (as_sent number pending) → IsSectionPart segment
first_part number segment others pending waits are =
    let command = waits.entry.command in
    let alone : AreCommands (as_sent number (waits.entry ∷ [])) = subst (λ (entries : List Entry). AreCommands (as_sent number entries)) waits.alone are in
    let long : is_long command ≡ true = some_segments command waits.sent segment others waits.parts in
    let all : AllByRecursion IsSectionPart (waits.sent ++ segment ∷ others) = subst (λ (segments : List Segment). AllByRecursion IsSectionPart segments) waits.parts (command_parts command long alone.0) in
    (later_parts waits.sent (segment ∷ others) all).0

-- what the next packet holds
pub next_sent : (number : ℕ) (waiting : List Segment) (pending : List Entry) → ArePackets waiting pending → WaitAlone waiting pending → AreCommands (as_sent number pending)
    → AreSent (items_by (next_segment waiting) (timed_of (as_sent number (entries_sent waiting pending))))
next_sent number [] pending fits alone are = commands_sent number pending fits alone are
next_sent number (segment ∷ others) pending fits alone are = part_sent segment (first_part number segment others pending alone are) fits.0.few

-- its MIDI list is that of its items
list_is_items : (part : Option Segment) (sent : List Sent) → list_of part sent ≡ items_text First (items_by part (timed_of sent))
unfolding item_text what_text
list_is_items None sent = sym (items_text-commands First (timed_of sent))
list_is_items (Some segment) sent = sym (append-nil (text_of segment))

section_again : SectionsReadBack → (items : List Item) (journal : Bool) (rest : List ℕ) → AreSent items →
    section_read (section items journal ++ rest) ≡ Ok (record { items = items; journal = journal; used = length (section items journal) })
section_again back items journal rest are = (back items journal rest are.writable are.within).again

-- ---- what a receiver opens

-- the header's SSRC is the packet's
ssrc_read : Result PacketRead PacketFault → Result ℕ PacketFault
ssrc_read (Ok packet) = Ok packet.ssrc
ssrc_read (Err fault) = Err fault

source_behind : (front : _) (read : Result Read SectionFault) (packet : PacketRead) → packet_behind front read ≡ Ok packet → source_of (Ok front) ≡ Ok packet.ssrc
unfolding ssrc_read
source_behind front (Ok read) packet e = ap ssrc_read e
source_behind front (Err fault) packet e = absurd cc

source_from : (octets : List ℕ) (front : Result _ PacketFault) (packet : PacketRead) → behind_front octets front ≡ Ok packet → source_of front ≡ Ok packet.ssrc
source_from octets (Ok front) packet e = source_behind front (section_read (drop front.size octets)) packet e
source_from octets (Err fault) packet e = absurd cc

source_again : (octets : List ℕ) (packet : PacketRead) → packet_read octets ≡ Ok packet → source_read octets ≡ Ok packet.ssrc
unfolding packet_read
source_again octets packet e = source_from octets (front_read octets) packet e

opened_as : (octets : List ℕ) (packet : PacketRead) (logs : List Log) → packet_read octets ≡ Ok packet → logs_read octets packet.journal ≡ Ok logs →
    opened packet.ssrc octets ≡ Ok (record { number = packet.number; tick = packet.tick; items = packet.section.items; logs = logs })
unfolding opened
opened_as octets packet logs read told =
    rw (source_again octets packet read, eq-eqb packet.ssrc packet.ssrc refl, read, told) refl

-- the logs of a journal that is there
logs_told : (octets : List ℕ) (place checkpoint : ℕ) (flag : Bool) (logs : List Log) → flag ≡ true → journal_read (drop place octets) ≡ Ok (record { checkpoint = checkpoint; logs = logs }) →
    logs_read octets (if flag then Some place else None) ≡ Ok logs
logs_told octets place checkpoint true logs some read = ap of_journal read
logs_told octets place checkpoint false logs some read = absurd cc

logs_none : (octets : List ℕ) (place : ℕ) (flag : Bool) → flag ≡ false → logs_read octets (if flag then Some place else None) ≡ Ok []
logs_none octets place true none = absurd cc
logs_none octets place false none = refl

-- ---- the packet

-- what a session has that its packets can be read
pub record IsSendable (ssrc : ℕ) (session : Session) : Type 0 where
  pub ssrc_is : session.members.host.ssrc ≡ ssrc
  pub small : ssrc < 2 ^ 32
  pub fits : ArePackets session.stream.waiting session.stream.pending
  pub alone : WaitAlone session.stream.waiting session.stream.pending
  pub sent : AreCommands (sent_of session.stream)
  pub pending : AreCommands (pending_of session.stream)
  pub limits : KeepsLimits (checkpoint_of session) (sent_of session.stream)

module _ (header_back : HeadersReadBack) (section_back : SectionsReadBack) (ssrc : ℕ) (session : Session) (tick : ℕ) (is : IsSendable ssrc session) where
  abbrev number : ℕ
  number = number_of session

  abbrev next : List Sent
  next = next_of session.stream tick

  abbrev items : List Item
  items = items_of_cut session tick

  abbrev text : List ℕ
  text = section items (has_journal number)

  abbrev head : Header
  head = header_of session.members.host.ssrc number (tick_of_cut session tick) (items_text First items)

  abbrev told : List ℕ
  told = journal_of (checkpoint_of session) number (tick_of_cut session tick) (sent_of session.stream)

  parts : packet_of session tick ≡ (header head ++ text) ++ told
  unfolding packet_text
  parts = ap (λ (list : List ℕ). (header (header_of session.members.host.ssrc number (tick_of_cut session tick) list) ++ (section_header (length list) (has_journal number) ++ list)) ++ told) (list_is_items (next_packet session.stream tick).packet.part next)

  apart : packet_of session tick ≡ header head ++ (text ++ told)
  apart = parts ∙ append_assoc (header head) text told

  are_sent : AreSent items
  are_sent = next_sent number session.stream.waiting session.stream.pending is.fits is.alone (commands_any (number_of_pending session.stream) number [] session.stream.pending is.pending)

  is_header : IsHeader head
  is_header = let small = is.small in let same = is.ssrc_is in record { number = omega arith; tick = omega arith; ssrc = omega arith }

  section_told : section_read (text ++ told) ≡ Ok (section_of_cut session tick)
  section_told = section_again section_back items (has_journal number) told are_sent

  packet_told : packet_read (packet_of session tick) ≡ Ok (read_of_cut ssrc session tick)
  packet_told =
      ap packet_read apart ∙ header_back head (text ++ told) is_header
      ∙ ap (packet_behind (front_of head)) section_told
      ∙ rw is.ssrc_is refl

  size : length (header head ++ text) ≡ journal_begins session tick
  size = length-append (header head) text

  behind : drop (journal_begins session tick) (packet_of session tick) ≡ told
  behind =
      ap (drop (journal_begins session tick)) parts
      ∙ rw (← size) (drop-append_seam (header head ++ text) told)

  nothing_behind : number ≡ 0 → drop (journal_begins session tick) (packet_of session tick) ≡ []
  nothing_behind none =
      let no : has_journal number ≡ false = rw none refl in
      behind ∙ journal_of_none (checkpoint_of session) number (tick_of_cut session tick) (sent_of session.stream) no

  some_journal : 1 ≤ number → has_journal number ≡ true
  some_journal l = lt-ltb 0 number (omega arith)

  journal_told : 1 ≤ number → journal_read (drop (journal_begins session tick) (packet_of session tick)) ≡ Ok (record { checkpoint = checkpoint_of session % 65536; logs = logs_of_cut session tick })
  journal_told l =
      let sent = sent_of session.stream in
      let text = journal (checkpoint_of session) number (tick_of_cut session tick) sent in
      let limits : KeepsLimits (checkpoint_of session) (below sent_packet number sent) = rw (sent_below session.stream) is.limits in
      ap journal_read (behind ∙ journal_of_some (checkpoint_of session) number (tick_of_cut session tick) sent (some_journal l) ∙ sym (append-nil text))
      ∙ journal_again (checkpoint_of session) number (tick_of_cut session tick) sent is.sent limits []

  pub packet_again : IsRead ssrc session tick
  packet_again = record {
    packet = packet_told;
    journal = journal_told;
    nothing = nothing_behind;
    first = λ none.
        let no : has_journal number ≡ false = rw none refl in
        let zero : number % 65536 ≡ 0 = omega (arith, none) in
        opened_as (packet_of session tick) (read_of_cut ssrc session tick) [] packet_told (logs_none (packet_of session tick) (journal_begins session tick) (has_journal number) no)
        ∙ ap (λ (n : ℕ). Ok (record { number = n; tick = tick_of_cut session tick % 2 ^ 32; items = items_of_cut session tick; logs = [] })) zero;
    later = λ l.
        opened_as (packet_of session tick) (read_of_cut ssrc session tick) (logs_of_cut session tick) packet_told
        (logs_told (packet_of session tick) (journal_begins session tick) (checkpoint_of session % 65536) (has_journal number) (logs_of_cut session tick) (some_journal l) (journal_told l));
  }

-- ---- legal steps

pub sendable : (config : Config) (steps : List Step) → config.ssrc < 2 ^ 32 → IsLegal config steps → HaveCommands steps → IsSendable config.ssrc (session_of config steps)
sendable config steps small legal brings =
    let same = session_stream config steps in
    let all = keeps_commands steps brings in
    let stream = stream_of steps in
    record {
      ssrc_is = (peers_come config steps).ssrc;
      small = small;
      fits = subst (λ (s : Stream). ArePackets s.waiting s.pending) (sym same) (packets_fit config steps legal).1;
      alone = subst (λ (s : Stream). WaitAlone s.waiting s.pending) (sym same) (waits_alone config steps legal);
      sent = subst (λ (s : Stream). AreCommands (sent_of s)) (sym same) (first_commands (sent_of stream) (pending_of stream) all);
      pending = subst (λ (s : Stream). AreCommands (pending_of s)) (sym same) (later_commands (sent_of stream) (pending_of stream) all);
      limits = (legal_limits config steps legal).sent;
    }

pub packets_are_read : HeadersReadBack → SectionsReadBack → PacketsAreRead
packets_are_read header_back section_back config steps tick small legal brings =
    packet_again header_back section_back config.ssrc (session_of config steps) tick (sendable config steps small legal brings)

-- ---- the checkpoint

pub checkpoints_told : CheckpointsAreTold
checkpoints_told config steps number other cut l same =
    let near = (stays_near config steps number cut).1 in
    omega (arith, near, same, l)
