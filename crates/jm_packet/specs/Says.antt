-- What a packet that is read says of its octets, and what each fault says.
use Rattle.std.proofs.Common.{◌≡◌, ℕ, ◌+◌, ◌*◌, ◌/◌, ◌%◌, ◌≤◌, ◌<◌, false, ltb, eqb, List, [], ◌∷◌, length, take, drop, Result, Ok, Err, refl, arith, inl, inr}
use Rattle.std.specs.Int.{w16, w32, from_be_bytes}
use Rattle.std.proofs.lemmas.Bool.{cases_Bool, ltb-true, ltb-false, eqb-true, eqb-false}
use Rattle.jm_wire.specs.Heads.{octet}
use Rattle.jm_section.specs.Grammar.{Read}
use Rattle.jm_section.specs.Reading.{section_read}
use Rattle.jm_section.specs.declared.reading.SectionFault.{SectionFault}
use Rattle.jm_packet.specs.declared.reading.Front.{Front}
use Rattle.jm_packet.specs.declared.reading.PacketFault.{PacketFault}
use Rattle.jm_packet.specs.declared.reading.PacketFault.TheVariants.{Short, Version, Padding, Extension, PayloadType, Section}
use Rattle.jm_packet.specs.Reading.{PacketRead, front_read, packet_read, packet_of, behind_front, journal_place}

-- ## The first two octets (RFC 3550, section 5.1)

abbrev pub version : (first : ℕ) → ℕ
version first = first / 64

abbrev pub padding : (first : ℕ) → ℕ
padding first = first / 32 % 2

abbrev pub extension : (first : ℕ) → ℕ
extension first = first / 16 % 2

abbrev pub source_count : (first : ℕ) → ℕ
source_count first = first % 16

-- the payload type, whatever the marker before it is
abbrev pub payload_type : (second : ℕ) → ℕ
payload_type second = second % 128

-- the number of octets before the section, where so many contributing sources stand
abbrev pub front_size : List ℕ → ℕ
front_size octets = 12 + 4 * source_count (octet octets 0)

-- ## Good packets

-- The octets begin with this header, contributing sources and all, whose content isn't looked at.
pub record IsFront (octets : List ℕ) (front : Front) : Type 0 where
  pub version_is : version (octet octets 0) ≡ 2
  pub no_padding : padding (octet octets 0) ≡ 0
  pub no_extension : extension (octet octets 0) ≡ 0
  pub payload_type_is : 96 ≤ payload_type (octet octets 1)
  pub number_is : front.number ≡ from_be_bytes w16 (take 2 (drop 2 octets))
  pub tick_is : front.tick ≡ from_be_bytes w32 (take 4 (drop 4 octets))
  pub ssrc_is : front.ssrc ≡ from_be_bytes w32 (take 4 (drop 8 octets))
  pub size_is : front.size ≡ front_size octets
  pub long : front_size octets ≤ length octets

-- behind the header stands a section, and behind it the journal, if the section says that there is one
pub record IsRead (octets : List ℕ) (packet : PacketRead) : Type 0 where
  pub front : Front
  pub front_is : IsFront octets front
  pub number_is : packet.number ≡ front.number
  pub tick_is : packet.tick ≡ front.tick
  pub ssrc_is : packet.ssrc ≡ front.ssrc
  pub section_is : section_read (drop front.size octets) ≡ Ok packet.section
  pub journal_is : packet.journal ≡ journal_place front.size packet.section.used packet.section.journal

-- ## Faults

-- a header without its end: fewer than twelve octets, or a good head and fewer octets than its contributing sources ask
pub record IsShort (octets : List ℕ) : Type 0 where
  pub short : length octets < front_size octets
  pub version_is : 12 ≤ length octets → version (octet octets 0) ≡ 2
  pub no_padding : 12 ≤ length octets → padding (octet octets 0) ≡ 0
  pub no_extension : 12 ≤ length octets → extension (octet octets 0) ≡ 0
  pub payload_type_is : 12 ≤ length octets → 96 ≤ payload_type (octet octets 1)

pub record IsOtherVersion (octets : List ℕ) : Type 0 where
  pub long : 12 ≤ length octets
  pub version_is : version (octet octets 0) ≡ 2 → ⊥

pub record IsPadded (octets : List ℕ) : Type 0 where
  pub long : 12 ≤ length octets
  pub version_is : version (octet octets 0) ≡ 2
  pub padding_is : padding (octet octets 0) ≡ 1

pub record IsExtended (octets : List ℕ) : Type 0 where
  pub long : 12 ≤ length octets
  pub version_is : version (octet octets 0) ≡ 2
  pub no_padding : padding (octet octets 0) ≡ 0
  pub extension_is : extension (octet octets 0) ≡ 1

pub record IsOfOtherPayload (octets : List ℕ) : Type 0 where
  pub long : 12 ≤ length octets
  pub version_is : version (octet octets 0) ≡ 2
  pub no_padding : padding (octet octets 0) ≡ 0
  pub no_extension : extension (octet octets 0) ≡ 0
  pub payload_type_is : payload_type (octet octets 1) < 96

-- behind a good header stands no section
pub record HasNoSection (octets : List ℕ) (fault : SectionFault) : Type 0 where
  pub front : Front
  pub front_is : IsFront octets front
  pub section_is : section_read (drop front.size octets) ≡ Err fault

abbrev pub Shows : List ℕ → PacketFault → Type 0
Shows octets Short = IsShort octets
Shows octets Version = IsOtherVersion octets
Shows octets Padding = IsPadded octets
Shows octets Extension = IsExtended octets
Shows octets PayloadType = IsOfOtherPayload octets
Shows octets (Section fault) = HasNoSection octets fault

abbrev pub Says : List ℕ → Result PacketRead PacketFault → Type 0
Says octets (Ok packet) = IsRead octets packet
Says octets (Err fault) = Shows octets fault

-- ## Reading

FrontSays : List ℕ → Result Front PacketFault → Type 0
FrontSays octets (Ok front) = IsFront octets front
FrontSays octets (Err fault) = Shows octets fault

too_few : (octets : List ℕ) → length octets < 12 → IsShort octets
too_few octets l = record {
  short = omega (arith, l);
  version_is = λ m. absurd (omega (arith, l, m));
  no_padding = λ m. absurd (omega (arith, l, m));
  no_extension = λ m. absurd (omega (arith, l, m));
  payload_type_is = λ m. absurd (omega (arith, l, m));
}

not_one : (n : ℕ) → eqb (n % 2) 1 ≡ false → n % 2 ≡ 0
not_one n f = let apart : n % 2 ≡ 1 → ⊥ = eqb-false (n % 2) 1 f in omega arith

front_main : (first second n1 n2 t1 t2 t3 t4 s1 s2 s3 s4 : ℕ) (sources : List ℕ) → FrontSays (first ∷ second ∷ n1 ∷ n2 ∷ t1 ∷ t2 ∷ t3 ∷ t4 ∷ s1 ∷ s2 ∷ s3 ∷ s4 ∷ sources) (front_read (first ∷ second ∷ n1 ∷ n2 ∷ t1 ∷ t2 ∷ t3 ∷ t4 ∷ s1 ∷ s2 ∷ s3 ∷ s4 ∷ sources))
unfolding FrontSays
front_main first second n1 n2 t1 t2 t3 t4 s1 s2 s3 s4 sources =
    elim (cases_Bool (eqb (first / 64) 2)) [
      | inr v ↦ rw v (record { long = omega arith; version_is = eqb-false (first / 64) 2 v })
      | inl v ↦ elim (cases_Bool (eqb (first / 32 % 2) 1)) [
        | inl p ↦ rw (v, p) (record { long = omega arith; version_is = eqb-true (first / 64) 2 v; padding_is = eqb-true (first / 32 % 2) 1 p })
        | inr p ↦ elim (cases_Bool (eqb (first / 16 % 2) 1)) [
          | inl x ↦ rw (v, p, x) (record { long = omega arith; version_is = eqb-true (first / 64) 2 v; no_padding = not_one (first / 32) p; extension_is = eqb-true (first / 16 % 2) 1 x })
          | inr x ↦ elim (cases_Bool (ltb (second % 128) 96)) [
            | inl t ↦ rw (v, p, x, t) (record { long = omega arith; version_is = eqb-true (first / 64) 2 v; no_padding = not_one (first / 32) p; no_extension = not_one (first / 16) x; payload_type_is = ltb-true (second % 128) 96 t })
            | inr t ↦
                let is_two = eqb-true (first / 64) 2 v in
                let least = ltb-false (second % 128) 96 t in
                elim (cases_Bool (ltb (length sources) (4 * (first % 16)))) [
                  | inl l ↦ rw (v, p, x, t, l) (record {
                    short = (let few = ltb-true (length sources) (4 * (first % 16)) l in omega (arith, few));
                    version_is = λ m. is_two;
                    no_padding = λ m. not_one (first / 32) p;
                    no_extension = λ m. not_one (first / 16) x;
                    payload_type_is = λ m. least;
                  })
                  | inr l ↦ rw (v, p, x, t, l) (record {
                    version_is = is_two;
                    no_padding = not_one (first / 32) p;
                    no_extension = not_one (first / 16) x;
                    payload_type_is = least;
                    number_is = refl;
                    tick_is = refl;
                    ssrc_is = refl;
                    size_is = refl;
                    long = (let all = ltb-false (length sources) (4 * (first % 16)) l in omega (arith, all));
                  })
                ]
          ]
        ]
      ]
    ]

front_says : (octets : List ℕ) → FrontSays octets (front_read octets)
unfolding FrontSays
front_says ([]) = too_few ([]) (omega arith)
front_says (first ∷ []) = too_few (first ∷ []) (omega arith)
front_says (first ∷ second ∷ []) = too_few (first ∷ second ∷ []) (omega arith)
front_says (first ∷ second ∷ n1 ∷ []) = too_few (first ∷ second ∷ n1 ∷ []) (omega arith)
front_says (first ∷ second ∷ n1 ∷ n2 ∷ []) = too_few (first ∷ second ∷ n1 ∷ n2 ∷ []) (omega arith)
front_says (first ∷ second ∷ n1 ∷ n2 ∷ t1 ∷ []) = too_few (first ∷ second ∷ n1 ∷ n2 ∷ t1 ∷ []) (omega arith)
front_says (first ∷ second ∷ n1 ∷ n2 ∷ t1 ∷ t2 ∷ []) = too_few (first ∷ second ∷ n1 ∷ n2 ∷ t1 ∷ t2 ∷ []) (omega arith)
front_says (first ∷ second ∷ n1 ∷ n2 ∷ t1 ∷ t2 ∷ t3 ∷ []) = too_few (first ∷ second ∷ n1 ∷ n2 ∷ t1 ∷ t2 ∷ t3 ∷ []) (omega arith)
front_says (first ∷ second ∷ n1 ∷ n2 ∷ t1 ∷ t2 ∷ t3 ∷ t4 ∷ []) = too_few (first ∷ second ∷ n1 ∷ n2 ∷ t1 ∷ t2 ∷ t3 ∷ t4 ∷ []) (omega arith)
front_says (first ∷ second ∷ n1 ∷ n2 ∷ t1 ∷ t2 ∷ t3 ∷ t4 ∷ s1 ∷ []) = too_few (first ∷ second ∷ n1 ∷ n2 ∷ t1 ∷ t2 ∷ t3 ∷ t4 ∷ s1 ∷ []) (omega arith)
front_says (first ∷ second ∷ n1 ∷ n2 ∷ t1 ∷ t2 ∷ t3 ∷ t4 ∷ s1 ∷ s2 ∷ []) = too_few (first ∷ second ∷ n1 ∷ n2 ∷ t1 ∷ t2 ∷ t3 ∷ t4 ∷ s1 ∷ s2 ∷ []) (omega arith)
front_says (first ∷ second ∷ n1 ∷ n2 ∷ t1 ∷ t2 ∷ t3 ∷ t4 ∷ s1 ∷ s2 ∷ s3 ∷ []) = too_few (first ∷ second ∷ n1 ∷ n2 ∷ t1 ∷ t2 ∷ t3 ∷ t4 ∷ s1 ∷ s2 ∷ s3 ∷ []) (omega arith)
front_says (first ∷ second ∷ n1 ∷ n2 ∷ t1 ∷ t2 ∷ t3 ∷ t4 ∷ s1 ∷ s2 ∷ s3 ∷ s4 ∷ sources) = front_main first second n1 n2 t1 t2 t3 t4 s1 s2 s3 s4 sources

section_says : (octets : List ℕ) (front : Front) (read : Result Read SectionFault) → IsFront octets front → section_read (drop front.size octets) ≡ read → Says octets (packet_of front read)
section_says octets front (Ok section) w e = record { front = front; front_is = w; number_is = refl; tick_is = refl; ssrc_is = refl; section_is = e; journal_is = refl }
section_says octets front (Err fault) w e = record { front = front; front_is = w; section_is = e }

says_behind : (octets : List ℕ) (read : Result Front PacketFault) → FrontSays octets read → Says octets (behind_front octets read)
unfolding FrontSays
says_behind octets (Ok front) w = section_says octets front (section_read (drop front.size octets)) w refl
says_behind octets (Err fault) w = w

pub packet_says : (octets : List ℕ) → Says octets (packet_read octets)
unfolding packet_read
packet_says octets = says_behind octets (front_read octets) (front_says octets)
