use Rattle.std.proofs.Common.{◌≡◌, List, ℕ, Bool, true, false, ◌∷◌, [], ◌++◌, ◌≤◌, Ok, length, refl, arith, ap, ◌∙◌}
use Rattle.std.proofs.lemmas.Bool.{le-ltb}
use Rattle.std.proofs.lemmas.Nat.{from_be_bytes-to_be_bytes_2, from_be_bytes-to_be_bytes_4}
use Rattle.std.specs.Int.{w16, w32, from_be_bytes}
use Rattle.jm_section.specs.Reading.{section_read}
use Rattle.jm_packet.specs.declared.header.Header.{Header}
use Rattle.jm_packet.specs.Header.{header, payload_octet_of}
use Rattle.jm_packet.specs.Reading.{front_read, packet_read, packet_of, behind_front}
use Rattle.jm_packet.specs.Laws.{IsHeader, front_of}
use Rattle.jm_packet.proofs.laws.headers_read_back.Goals as goal

zero_le : (n : ℕ) → 0 ≤ n
zero_le n = omega arith

front_with : (marker : Bool) (n1 n2 t1 t2 t3 t4 s1 s2 s3 s4 : ℕ) (rest : List ℕ) →
    front_read (128 ∷ payload_octet_of marker ∷ n1 ∷ n2 ∷ t1 ∷ t2 ∷ t3 ∷ t4 ∷ s1 ∷ s2 ∷ s3 ∷ s4 ∷ rest)
    ≡ Ok (record { number = from_be_bytes w16 (n1 ∷ n2 ∷ []); tick = from_be_bytes w32 (t1 ∷ t2 ∷ t3 ∷ t4 ∷ []); ssrc = from_be_bytes w32 (s1 ∷ s2 ∷ s3 ∷ s4 ∷ []); size = 12 })
front_with true n1 n2 t1 t2 t3 t4 s1 s2 s3 s4 rest = let none = le-ltb (length rest) 0 (zero_le (length rest)) in rw none refl
front_with false n1 n2 t1 t2 t3 t4 s1 s2 s3 s4 rest = let none = le-ltb (length rest) 0 (zero_le (length rest)) in rw none refl

again : (h : Header) (rest : List ℕ) → IsHeader h → packet_read (header h ++ rest) ≡ packet_of (front_of h) (section_read rest)
unfolding packet_read
again h rest is =
    let number = from_be_bytes-to_be_bytes_2 h.number is.number in
    let tick = from_be_bytes-to_be_bytes_4 h.tick is.tick in
    let ssrc = from_be_bytes-to_be_bytes_4 h.ssrc is.ssrc in
    let front : front_read (header h ++ rest) ≡ Ok (front_of h) = front_with h.marker _ _ _ _ _ _ _ _ _ _ rest ∙ rw (number, tick, ssrc) refl in
    ap (behind_front (header h ++ rest)) front

pub returns : goal.returns
returns c = again
