-- What the packets of a session are read as: a cut's octets, at a receiver.
use Rattle.std.specs.Prelude.{ℕ, ◌+◌, ◌%◌, ◌^◌, ◌≡◌, ◌<◌, ◌≤◌, List, [], ◌∷◌, length, drop, Option, Some, None, Ok}
use Rattle.jm_section.specs.declared.item.Item.{Item}
use Rattle.jm_section.specs.Section.{Timed, items_of, section}
use Rattle.jm_section.specs.Grammar.{Read}
use Rattle.jm_packet.specs.Reading.{PacketRead, packet_read, journal_place}
use Rattle.jm_reader.specs.declared.logs.Log.{Log}
use Rattle.jm_reader.specs.Journal.{journal_read}
use Rattle.jm_reader.specs.WrittenJournal.{journal_logs}
use Rattle.jm_receiver.specs.Accept.{opened}
use Rattle.jm_book.specs.declared.answers.Cutted.TheVariants as cutted
use Rattle.jm_book.specs.declared.steps.Config.{Config}
use Rattle.jm_book.specs.declared.steps.Step.{Step}
use Rattle.jm_book.specs.Segments.{Segment, part_of}
use Rattle.jm_book.specs.Stream.{next_packet, next_of, sent_of}
use Rattle.jm_book.specs.Session.{Session, session_of, checkpoint_of}
use Rattle.jm_book.specs.Pending.{timed_of}
use Rattle.jm_book.specs.Packet.{has_journal, packet_of}
use Rattle.jm_book.specs.BookAnswers.{cut_answer}
use Rattle.jm_book.specs.Legal.{IsLegal}
use Rattle.jm_book.specs.Commands.{HaveCommands}

-- ---- the packet that a cut at this tick makes

-- its number, and its tick
abbrev pub number_of : Session → ℕ
number_of session = length session.stream.packets

abbrev pub tick_of_cut : Session → (tick : ℕ) → ℕ
tick_of_cut session tick = (next_packet session.stream tick).packet.tick

-- its commands, each with the ticks since the one before it, the first with 0
abbrev pub timed_of_cut : Session → (tick : ℕ) → List Timed
timed_of_cut session tick = timed_of (next_of session.stream tick)

-- what a receiver is to read in a section: the segment of a long command, where the packet holds one, else the commands
abbrev pub items_by : Option Segment → List Timed → List Item
items_by None timed = items_of timed
items_by (Some segment) timed = record { delta = 0; what = part_of segment } ∷ []

abbrev pub items_of_cut : Session → (tick : ℕ) → List Item
items_of_cut session tick = items_by (next_packet session.stream tick).packet.part (timed_of_cut session tick)

-- its section: just these, and that a journal follows, which it does in each packet but packet 0
abbrev pub section_of_cut : Session → (tick : ℕ) → Read
section_of_cut session tick = record {
  items = items_of_cut session tick;
  journal = has_journal (number_of session);
  used = length (section (items_of_cut session tick) (has_journal (number_of session)));
}

-- the place of its journal, behind a header of twelve octets and the section
abbrev pub journal_begins : Session → (tick : ℕ) → ℕ
journal_begins session tick = 12 + (section_of_cut session tick).used

-- the logs of its journal: those of the coded places of all sent commands from the session's checkpoint on
abbrev pub logs_of_cut : Session → (tick : ℕ) → List Log
logs_of_cut session tick =
    journal_logs (checkpoint_of session) (number_of session) (tick_of_cut session tick) (sent_of session.stream)

-- ---- what is read of it

-- the low 16 bits of its number, the low 32 of its tick, the stream's SSRC, its section, and the journal's place
abbrev pub read_of_cut : (ssrc : ℕ) → Session → (tick : ℕ) → PacketRead
read_of_cut ssrc session tick = record {
  number = number_of session % 65536;
  tick = tick_of_cut session tick % 2 ^ 32;
  ssrc = ssrc;
  section = section_of_cut session tick;
  journal = journal_place 12 (section_of_cut session tick).used (has_journal (number_of session));
}

-- Its octets are read as this packet. From packet 1 on the journal is all that is behind the section, and is read as the low
-- 16 bits of the checkpoint, and these logs; behind the section of packet 0 nothing stands.
pub record IsRead (ssrc : ℕ) (session : Session) (tick : ℕ) : Type 0 where
  pub packet : packet_read (packet_of session tick) ≡ Ok (read_of_cut ssrc session tick)
  pub journal : 1 ≤ number_of session → journal_read (drop (journal_begins session tick) (packet_of session tick)) ≡ Ok (record { checkpoint = checkpoint_of session % 65536; logs = logs_of_cut session tick })
  pub nothing : number_of session ≡ 0 → drop (journal_begins session tick) (packet_of session tick) ≡ []
  -- so a receiver of the stream finds in it
  pub first : number_of session ≡ 0 → opened ssrc (packet_of session tick) ≡ Ok (record { number = 0; tick = tick_of_cut session tick % 2 ^ 32; items = items_of_cut session tick; logs = [] })
  pub later : 1 ≤ number_of session → opened ssrc (packet_of session tick) ≡ Ok (record { number = number_of session % 65536; tick = tick_of_cut session tick % 2 ^ 32; items = items_of_cut session tick; logs = logs_of_cut session tick })

-- After legal steps, each play of which brings a command within its bounds, the packet of a cut is read so. Its SSRC is the
-- configuration's, of 32 bits. (Not: a journal of another packet's number or tick; logs of a command that isn't sent yet,
-- or from another checkpoint; a section with a pending command less.)
abbrev pub PacketsAreRead : Type 0
PacketsAreRead = (config : Config) (steps : List Step) (tick : ℕ) → config.ssrc < 2 ^ 32 → IsLegal config steps → HaveCommands steps → IsRead config.ssrc (session_of config steps) tick

-- Where a cut is taken, its checkpoint is the greatest number up to the packet's with the low 16 bits that are read. (Not: a
-- packet 65,536 past its checkpoint.)
abbrev pub CheckpointsAreTold : Type 0
CheckpointsAreTold = (config : Config) (steps : List Step) (number other : ℕ) → cut_answer config steps ≡ cutted.Packet number
    → other ≤ number → other % 65536 ≡ checkpoint_of (session_of config steps) % 65536 → other ≤ checkpoint_of (session_of config steps)
