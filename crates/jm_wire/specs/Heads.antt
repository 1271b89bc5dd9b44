-- The bit headers of a recovery journal, as octets and back (RFC 6295, section 5 and Appendices A.4, A.6, B.3 and
-- B.4). Fields stand high bit first.
use Rattle.std.specs.Prelude.{◌≡◌, ℕ, ◌+◌, ◌*◌, ◌/◌, ◌%◌, ◌<◌, Bool, List, [], ◌∷◌, ◌==◌, if◌then◌else◌, slice_index_or}
use Rattle.jm_wire.specs.declared.heads.JournalHead.{JournalHead}
use Rattle.jm_wire.specs.declared.heads.SystemHead.{SystemHead}
use Rattle.jm_wire.specs.declared.heads.ChannelHead.{ChannelHead}
use Rattle.jm_wire.specs.declared.heads.ParamHead.{ParamHead}
use Rattle.jm_wire.specs.declared.heads.NoteHead.{NoteHead}
use Rattle.jm_wire.specs.declared.heads.SeqHead.{SeqHead}
use Rattle.jm_wire.specs.declared.heads.TimeHead.{TimeHead}

abbrev pub bit : Bool → ℕ
bit flag = if flag then 1 else 0

-- the bit of this weight in an octet
abbrev pub is_set : (weight octet : ℕ) → Bool
is_set weight octet = octet / weight % 2 == 1

-- an octet of some octets
abbrev pub octet : List ℕ → (place : ℕ) → ℕ
octet octets k = slice_index_or octets k 0

-- ## Each field is within its width

abbrev pub FitsJournal : JournalHead → Type 0
FitsJournal head = head.totchan < 16

abbrev pub FitsSystem : SystemHead → Type 0
FitsSystem head = head.length < 1024

abbrev pub FitsChannel : ChannelHead → Type 0
FitsChannel head = (head.chan < 16) × (head.length < 1024)

abbrev pub FitsParam : ParamHead → Type 0
FitsParam head = head.length < 1024

abbrev pub FitsNote : NoteHead → Type 0
FitsNote head = (head.len < 128) × (head.low < 16) × (head.high < 16)

abbrev pub FitsSeq : SeqHead → Type 0
FitsSeq head = head.top < 8

abbrev pub FitsTime : TimeHead → Type 0
FitsTime head = head.point < 8

-- ## The octets

-- S Y A H TOTCHAN(4), checkpoint(16)
abbrev pub journal_octets : JournalHead → List ℕ
journal_octets head =
    (128 * bit head.s + 64 * bit head.y + 32 * bit head.a + 16 * bit head.h + head.totchan)
    ∷ (head.checkpoint / 256) ∷ (head.checkpoint % 256) ∷ []

-- S D V Q F X LENGTH(10)
abbrev pub system_octets : SystemHead → List ℕ
system_octets head =
    (128 * bit head.s + 64 * bit head.d + 32 * bit head.v + 16 * bit head.q + 8 * bit head.f + 4 * bit head.x + head.length / 256)
    ∷ (head.length % 256) ∷ []

-- S CHAN(4) H LENGTH(10) P C M W N E T A
abbrev pub channel_octets : ChannelHead → List ℕ
channel_octets head =
    (128 * bit head.s + 8 * head.chan + 4 * bit head.h + head.length / 256)
    ∷ (head.length % 256)
    ∷ (128 * bit head.p + 64 * bit head.c + 32 * bit head.m + 16 * bit head.w + 8 * bit head.n + 4 * bit head.e + 2 * bit head.t + bit head.a) ∷ []

-- S P E U W Z LENGTH(10)
abbrev pub param_octets : ParamHead → List ℕ
param_octets head =
    (128 * bit head.s + 64 * bit head.p + 32 * bit head.e + 16 * bit head.u + 8 * bit head.w + 4 * bit head.z + head.length / 256)
    ∷ (head.length % 256) ∷ []

-- B LEN(7) LOW(4) HIGH(4)
abbrev pub note_octets : NoteHead → List ℕ
note_octets head = (128 * bit head.b + head.len) ∷ (16 * head.low + head.high) ∷ []

-- S N D C T TOP(3)
abbrev pub seq_octets : SeqHead → List ℕ
seq_octets head = (128 * bit head.s + 64 * bit head.n + 32 * bit head.d + 16 * bit head.c + 8 * bit head.t + head.top) ∷ []

-- S C P Q D POINT(3)
abbrev pub time_octets : TimeHead → List ℕ
time_octets head = (128 * bit head.s + 64 * bit head.c + 32 * bit head.p + 16 * bit head.q + 8 * bit head.d + head.point) ∷ []

-- ## The fields

abbrev pub journal_fields : List ℕ → JournalHead
journal_fields b = record {
  s = is_set 128 (octet b 0);
  y = is_set 64 (octet b 0);
  a = is_set 32 (octet b 0);
  h = is_set 16 (octet b 0);
  totchan = octet b 0 % 16;
  checkpoint = octet b 1 * 256 + octet b 2;
}

abbrev pub system_fields : List ℕ → SystemHead
system_fields b = record {
  s = is_set 128 (octet b 0);
  d = is_set 64 (octet b 0);
  v = is_set 32 (octet b 0);
  q = is_set 16 (octet b 0);
  f = is_set 8 (octet b 0);
  x = is_set 4 (octet b 0);
  length = octet b 0 % 4 * 256 + octet b 1;
}

abbrev pub channel_fields : List ℕ → ChannelHead
channel_fields b = record {
  s = is_set 128 (octet b 0);
  chan = octet b 0 / 8 % 16;
  h = is_set 4 (octet b 0);
  length = octet b 0 % 4 * 256 + octet b 1;
  p = is_set 128 (octet b 2);
  c = is_set 64 (octet b 2);
  m = is_set 32 (octet b 2);
  w = is_set 16 (octet b 2);
  n = is_set 8 (octet b 2);
  e = is_set 4 (octet b 2);
  t = is_set 2 (octet b 2);
  a = is_set 1 (octet b 2);
}

abbrev pub param_fields : List ℕ → ParamHead
param_fields b = record {
  s = is_set 128 (octet b 0);
  p = is_set 64 (octet b 0);
  e = is_set 32 (octet b 0);
  u = is_set 16 (octet b 0);
  w = is_set 8 (octet b 0);
  z = is_set 4 (octet b 0);
  length = octet b 0 % 4 * 256 + octet b 1;
}

abbrev pub note_fields : List ℕ → NoteHead
note_fields b = record {
  b = is_set 128 (octet b 0);
  len = octet b 0 % 128;
  low = octet b 1 / 16;
  high = octet b 1 % 16;
}

abbrev pub seq_fields : List ℕ → SeqHead
seq_fields b = record {
  s = is_set 128 (octet b 0);
  n = is_set 64 (octet b 0);
  d = is_set 32 (octet b 0);
  c = is_set 16 (octet b 0);
  t = is_set 8 (octet b 0);
  top = octet b 0 % 8;
}

abbrev pub time_fields : List ℕ → TimeHead
time_fields b = record {
  s = is_set 128 (octet b 0);
  c = is_set 64 (octet b 0);
  p = is_set 32 (octet b 0);
  q = is_set 16 (octet b 0);
  d = is_set 8 (octet b 0);
  point = octet b 0 % 8;
}

-- ## What is packed is read back

pub record HeadsReadBack : Type 0 where
  pub journal : (head : JournalHead) → FitsJournal head → journal_fields (journal_octets head) ≡ head
  pub system : (head : SystemHead) → FitsSystem head → system_fields (system_octets head) ≡ head
  pub channel : (head : ChannelHead) → FitsChannel head → channel_fields (channel_octets head) ≡ head
  pub param : (head : ParamHead) → FitsParam head → param_fields (param_octets head) ≡ head
  pub note : (head : NoteHead) → FitsNote head → note_fields (note_octets head) ≡ head
  pub seq : (head : SeqHead) → FitsSeq head → seq_fields (seq_octets head) ≡ head
  pub time : (head : TimeHead) → FitsTime head → time_fields (time_octets head) ≡ head
