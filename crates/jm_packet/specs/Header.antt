-- The fixed header of an RTP packet: RFC 3550, section 5.1. Version 2 stands in the two high bits of the first octet;
-- padding, extension and the count of contributing sources are 0. The marker is the high bit of the second octet, the
-- payload type its other seven.
use Rattle.std.specs.Prelude.{ℕ, ◌+◌, ◌*◌, Bool, List, [], ◌∷◌, ◌++◌, if◌then◌else◌}
use Rattle.jm_wire.specs.Numbers.{be16, be32}
use Rattle.jm_packet.specs.declared.header.Header.{Header}

-- the payload type of every packet that is written
abbrev pub payload_type : ℕ
payload_type = 97

-- the payload type behind its marker bit
abbrev pub payload_octet_of : Bool → ℕ
payload_octet_of marker = (if marker then 128 else 0) + payload_type

abbrev pub header : Header → List ℕ
header h =
    (2 * 64) ∷ payload_octet_of h.marker ∷ []
    ++ be16 h.number ++ be32 h.tick ++ be32 h.ssrc
