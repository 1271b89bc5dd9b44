-- The octets of the packet that a cut makes.
use Rattle.std.proofs.Common.{refl}
use Rattle.std.specs.Prelude.{◌≡◌, ℕ, ◌%◌, ◌^◌, Bool, true, false, List, [], ◌++◌, length, nat_lt, Option, Some, None, if◌then◌else◌}
use Rattle.jm_cmds.specs.declared.history.Sent.{Sent}
use Rattle.jm_packet.specs.declared.header.Header.{Header}
use Rattle.jm_packet.specs.Header.{header}
use Rattle.jm_section.specs.Section.{list_text, header as section_header}
use Rattle.jm_journal.specs.Journal.{journal, HasShortParts}
use Rattle.jm_book.specs.Segments.{Segment, text_of}
use Rattle.jm_book.specs.Stream.{next_packet, next_of, sent_of}
use Rattle.jm_book.specs.Session.{Session, checkpoint_of}
use Rattle.jm_book.specs.Pending.{timed_of}

-- the header: the marker says that there is a MIDI list
abbrev pub header_of : (ssrc number tick : ℕ) (list : List ℕ) → Header
header_of ssrc number tick list = record {
  number = number % 65536;
  tick = tick % 2 ^ 32;
  ssrc = ssrc;
  marker = nat_lt 0 (length list);
}

-- each packet but the first has a journal
abbrev pub has_journal : (number : ℕ) → Bool
has_journal number = nat_lt 0 number

-- the journal of the packet with this number and tick: what the packets from the checkpoint on left
unfoldable pub journal_of : (checkpoint number tick : ℕ) (sent : List Sent) → List ℕ
journal_of checkpoint number tick sent = if has_journal number then journal checkpoint number tick sent else []

-- the packet with this number, tick and MIDI list, behind these sent commands
unfoldable pub packet_text : (ssrc checkpoint number tick : ℕ) (list : List ℕ) (sent : List Sent) → List ℕ
packet_text ssrc checkpoint number tick list sent =
    header (header_of ssrc number tick list)
    ++ (section_header (length list) (has_journal number) ++ list)
    ++ journal_of checkpoint number tick sent

-- the MIDI list of a packet: its segment, where it holds one, else its commands
abbrev pub list_of : Option Segment → List Sent → List ℕ
list_of None sent = list_text (timed_of sent)
list_of (Some segment) sent = text_of segment

-- the packet that a cut at this tick makes
abbrev pub packet_of : Session → (tick : ℕ) → List ℕ
packet_of session tick =
    packet_text session.members.host.ssrc (checkpoint_of session) (length session.stream.packets)
    (next_packet session.stream tick).packet.tick (list_of (next_packet session.stream tick).packet.part (next_of session.stream tick)) (sent_of session.stream)

pub journal_of_some : (checkpoint number tick : ℕ) (sent : List Sent) → has_journal number ≡ true → journal_of checkpoint number tick sent ≡ journal checkpoint number tick sent
unfolding journal_of
journal_of_some checkpoint number tick sent some = rw some refl

pub journal_of_none : (checkpoint number tick : ℕ) (sent : List Sent) → has_journal number ≡ false → journal_of checkpoint number tick sent ≡ []
unfolding journal_of
journal_of_none checkpoint number tick sent none = rw none refl

-- the journal of a packet, if it has one, has short parts: the system journal, and each channel's
abbrev pub HasShortJournal : (checkpoint number tick : ℕ) (sent : List Sent) → Type 0
HasShortJournal checkpoint number tick sent = has_journal number ≡ true → HasShortParts checkpoint number tick sent

-- the journal of the packet that a cut at this tick makes
abbrev pub HasShortNext : Session → (tick : ℕ) → Type 0
HasShortNext session tick =
    HasShortJournal (checkpoint_of session) (length session.stream.packets) (next_packet session.stream tick).packet.tick (sent_of session.stream)
