-- What the laws of this crate say.
use Rattle.std.specs.Prelude.{ℕ, ◌≡◌, ◌<◌, ◌^◌, List, ◌++◌}
use Rattle.jm_section.specs.Reading.{section_read}
use Rattle.jm_packet.specs.declared.header.Header.{Header}
use Rattle.jm_packet.specs.declared.reading.Front.{Front}
use Rattle.jm_packet.specs.Header.{header}
use Rattle.jm_packet.specs.Reading.{packet_read, packet_of}
use Rattle.jm_packet.specs.Says.{Says}

-- the numbers of a header are within their bits, as they are in each of a program
pub record IsHeader (h : Header) : Type 0 where
  pub number : h.number < 2 ^ 16
  pub tick : h.tick < 2 ^ 32
  pub ssrc : h.ssrc < 2 ^ 32

abbrev pub front_of : Header → Front
front_of h = record { number = h.number; tick = h.tick; ssrc = h.ssrc; size = 12 }

abbrev pub HeadersReadBack : Type 0
HeadersReadBack = (h : Header) (rest : List ℕ) → IsHeader h → packet_read (header h ++ rest) ≡ packet_of (front_of h) (section_read rest)

-- A packet that is read says of its octets what a good one says, and a fault names what isn't so of them.
abbrev pub PacketsSay : Type 0
PacketsSay = (octets : List ℕ) → Says octets (packet_read octets)
