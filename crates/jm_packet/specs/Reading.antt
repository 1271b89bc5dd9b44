-- Reading a packet from its first octet on (RFC 3550, section 5.1; RFC 6295, section 2.1).
use Rattle.std.specs.Prelude.{ℕ, ◌+◌, ◌*◌, ◌/◌, ◌%◌, Bool, ◌==◌, List, [], ◌∷◌, length, drop, nat_lt, Option, Some, None, Result, Ok, Err, if◌then◌else◌}
use Rattle.std.specs.Int.{w16, w32, from_be_bytes}
use Rattle.jm_section.specs.Grammar.{Read}
use Rattle.jm_section.specs.Reading.{section_read, section_view}
use Rattle.jm_section.specs.declared.reading.SectionFault.{SectionFault}
use Rattle.jm_packet.specs.declared.reading.Packet.{Packet}
use Rattle.jm_packet.specs.declared.reading.Front.{Front}
use Rattle.jm_packet.specs.declared.reading.PacketFault.{PacketFault}
use Rattle.jm_packet.specs.declared.reading.PacketFault.TheVariants.{Short, Version, Padding, Extension, PayloadType, Section}

-- a packet as it is read: journal is the place where its journal begins
pub record PacketRead : Type 0 where
  pub number : ℕ
  pub tick : ℕ
  pub ssrc : ℕ
  pub section : Read
  pub journal : Option ℕ

-- what the first two octets show that isn't read: another version than 2, padding, an extension, a payload type below 96
abbrev pub head_fault : (first second : ℕ) → Option PacketFault
head_fault first second =
    if first / 64 == 2 then
    (if first / 32 % 2 == 1 then Some Padding
    else (if first / 16 % 2 == 1 then Some Extension
    else (if nat_lt (second % 128) 96 then Some PayloadType else None)))
    else Some Version

abbrev pub unless : Option PacketFault → Result Front PacketFault → Result Front PacketFault
unless None read = read
unless (Some fault) read = Err fault

-- behind the twelve octets stand as many contributing sources as CC tells, of four octets each
abbrev pub front_read : List ℕ → Result Front PacketFault
front_read (first ∷ second ∷ n1 ∷ n2 ∷ t1 ∷ t2 ∷ t3 ∷ t4 ∷ s1 ∷ s2 ∷ s3 ∷ s4 ∷ sources) =
    unless (head_fault first second) (if nat_lt (length sources) (4 * (first % 16)) then Err Short else Ok (record {
      number = from_be_bytes w16 (n1 ∷ n2 ∷ []);
      tick = from_be_bytes w32 (t1 ∷ t2 ∷ t3 ∷ t4 ∷ []);
      ssrc = from_be_bytes w32 (s1 ∷ s2 ∷ s3 ∷ s4 ∷ []);
      size = 12 + 4 * (first % 16);
    }))
front_read _ = Err Short

abbrev pub source_of : Result Front PacketFault → Result ℕ PacketFault
source_of (Ok front) = Ok front.ssrc
source_of (Err fault) = Err fault

-- the synchronization source that the header tells
abbrev pub source_read : List ℕ → Result ℕ PacketFault
source_read octets = source_of (front_read octets)

abbrev pub journal_place : (size used : ℕ) → Bool → Option ℕ
journal_place size used journal = if journal then Some (size + used) else None

abbrev pub packet_of : Front → Result Read SectionFault → Result PacketRead PacketFault
packet_of front (Ok section) = Ok (record {
  number = front.number;
  tick = front.tick;
  ssrc = front.ssrc;
  section = section;
  journal = journal_place front.size section.used section.journal;
})
packet_of front (Err fault) = Err (Section fault)

abbrev pub behind_front : List ℕ → Result Front PacketFault → Result PacketRead PacketFault
behind_front octets (Ok front) = packet_of front (section_read (drop front.size octets))
behind_front octets (Err fault) = Err fault

-- the packet that these octets are, its journal apart
unfoldable pub packet_read : List ℕ → Result PacketRead PacketFault
packet_read octets = behind_front octets (front_read octets)

abbrev pub packet_view : Packet → PacketRead
packet_view p = record { number = p.number; tick = p.tick; ssrc = p.ssrc; section = section_view p.section; journal = p.journal }
