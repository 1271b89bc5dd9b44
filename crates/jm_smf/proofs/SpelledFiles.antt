-- A file that is spelled is read.
use Rattle.std.proofs.Common.{◌≡◌, ◌≢◌, ℕ, zero, suc, ◌+◌, ◌≤◌, true, false, eqb, List, [], ◌∷◌, ◌++◌, drop, take, length, Option, Some, None, Result, Ok, refl, ap, ◌∙◌, length-append, arith, inl, inr}
use Rattle.std.specs.Prelude.{nat_lt, nat_le}
use Rattle.std.proofs.lemmas.Bool.{le-ltb, lt-leb, eqb-true, ne_eqb, cases_Bool}
use Rattle.std.proofs.Math.Seq.{take-append_seam, drop-append_seam, drop-append-add}
use Rattle.jm_wire.specs.Delta.{value, IsField}
use Rattle.jm_wire.specs.DeltaReading.{field_is_read}
use Rattle.jm_cmds.specs.declared.commands.Command.{Command}
use Rattle.jm_smf.specs.declared.before.Before.{Before}
use Rattle.jm_smf.specs.declared.event.Heard.{Heard}
use Rattle.jm_smf.specs.declared.timed.Timed.{Timed}
use Rattle.jm_smf.specs.declared.fault.FileFault.{FileFault}
use Rattle.jm_smf.specs.Reading.{what_read, event_read, track_read, nothing_before, number2, number4, chunk_read, is_track, chunks_read, agrees, header_name, fields_read, header_read, file_read}
use Rattle.jm_smf.specs.Grammar.{SpellsEvent, SpellsTrack, track_ends, one_more, IsSize, four, IsChunk, track_name, SpellsChunks, first_track, passed_over, IsHeader, header, IsFile}
use Rattle.jm_smf.proofs.Told.{less_eight}
use Rattle.jm_smf.proofs.SpelledEvents.{event_is_read}

-- ---- events with their deltas

pub some_octet : (field : List ℕ) → IsField field → 1 ≤ length field
some_octet [] f = let never : false ≡ true = f.ended in absurd cc
some_octet (o ∷ os) f = omega arith

pub ends_there : (place : ℕ) (before : Before) (field rest : List ℕ) → IsField field → event_read place before (field ++ 0xff ∷ 0x2f ∷ rest) ≡ Ok None
unfolding event_read what_read
ends_there place before field rest f =
    let read = field_is_read (field ++ 0xff ∷ 0x2f ∷ rest) field (0xff ∷ 0x2f ∷ rest) refl f in
    rw (read, drop-append_seam field (0xff ∷ 0x2f ∷ rest)) refl

abbrev with_delta : (delta : ℕ) → List Command → (used : ℕ) → Before → Result (Option (ℕ × Heard)) FileFault
with_delta delta commands used after = Ok (Some (delta, record { commands = commands; used = used; after = after }))

pub event_stands : (place : ℕ) (before : Before) (field text rest : List ℕ) (commands : List Command) (after : Before) → IsField field → SpellsEvent before text commands after
    → event_read place before (field ++ (text ++ rest)) ≡ with_delta (value field) commands (length field + length text) after
unfolding event_read
event_stands place before field text rest commands after f s =
    let read = field_is_read (field ++ (text ++ rest)) field (text ++ rest) refl f in
    rw (read, drop-append_seam field (text ++ rest), event_is_read place before text commands after rest s) refl

-- ---- the track

pub track_is_read : (n place tick : ℕ) (before : Before) (octets : List ℕ) (list : List Timed) → SpellsTrack before tick octets list → length octets ≤ n → track_read n place tick before octets ≡ Ok list
unfolding track_read
track_is_read zero place tick before octets list (track_ends old from field rest f) few =
    let some = some_octet field f in let len = length-append field (0xff ∷ 0x2f ∷ rest) in absurd (omega (arith, few, some, len))
track_is_read zero place tick before octets list (one_more old after from field text rest commands others f s t) few =
    let some = some_octet field f in let len = length-append field (text ++ rest) in absurd (omega (arith, few, some, len))
track_is_read (suc n) place tick before octets list (track_ends old from field rest f) few = rw (ends_there place old field rest f) refl
track_is_read (suc n) place tick before octets list (one_more old after from field text rest commands others f s t) few =
    let some = some_octet field f in
    let len = length-append field (text ++ rest) in
    let len' = length-append text rest in
    let left : drop (length field + length text) (field ++ (text ++ rest)) ≡ rest = drop-append-add field (text ++ rest) (length text) ∙ drop-append_seam text rest in
    let later = track_is_read n (place + (length field + length text)) (from + value field) after rest others t (omega (arith, few, some, len, len')) in
    rw (event_stands place old field text rest commands after f s, left, later) refl

-- ---- chunks

-- a chunk at the front, octet by octet
pub record Spread (text name octets rest : List ℕ) : Type 0 where
  pub a : ℕ
  pub b : ℕ
  pub c : ℕ
  pub d : ℕ
  pub s : ℕ
  pub t : ℕ
  pub u : ℕ
  pub v : ℕ
  pub name_is : name ≡ a ∷ b ∷ c ∷ d ∷ []
  pub size_is : number4 s t u v ≡ length octets
  pub text_is : text ++ rest ≡ a ∷ b ∷ c ∷ d ∷ s ∷ t ∷ u ∷ v ∷ (octets ++ rest)

spread_by : (text name size octets rest : List ℕ) (n : ℕ) → length name ≡ 4 → IsSize size n → n ≡ length octets → text ≡ name ++ (size ++ octets) → Spread text name octets rest
spread_by text (a ∷ b ∷ c ∷ d ∷ []) size octets rest n l (four s t u v) e is =
    record { a = a; b = b; c = c; d = d; s = s; t = t; u = u; v = v; name_is = refl; size_is = e; text_is = ap (λ (x : List ℕ). x ++ rest) is }
spread_by text [] size octets rest n l z e is = absurd (omega (arith, l))
spread_by text (a ∷ []) size octets rest n l z e is = absurd (omega (arith, l))
spread_by text (a ∷ b ∷ []) size octets rest n l z e is = absurd (omega (arith, l))
spread_by text (a ∷ b ∷ c ∷ []) size octets rest n l z e is = absurd (omega (arith, l))
spread_by text (a ∷ b ∷ c ∷ d ∷ x ∷ xs) size octets rest n l z e is = absurd (omega (arith, l))

pub spread : (text name octets rest : List ℕ) → IsChunk text name octets → Spread text name octets rest
spread text name octets rest c = spread_by text name c.size octets rest (length octets) c.four c.size_is refl c.text_is

chunk_at : (place a b c d s t u v : ℕ) (octets rest : List ℕ) → number4 s t u v ≡ length octets → chunk_read place (a ∷ b ∷ c ∷ d ∷ s ∷ t ∷ u ∷ v ∷ (octets ++ rest)) ≡ Ok (8 + length octets)
unfolding chunk_read
chunk_at place a b c d s t u v octets rest e =
    let all = a ∷ b ∷ c ∷ d ∷ s ∷ t ∷ u ∷ v ∷ (octets ++ rest) in
    let len = length-append octets rest in
    let eight : nat_lt (length all) 8 ≡ false = le-ltb (length all) 8 (omega arith) in
    let whole : nat_lt (length all) (8 + length octets) ≡ false = le-ltb (length all) (8 + length octets) (omega (arith, len)) in
    rw (eight, e, whole) refl

pub chunk_is_read : (place : ℕ) (text name octets rest : List ℕ) → IsChunk text name octets → chunk_read place (text ++ rest) ≡ Ok (8 + length octets)
chunk_is_read place text name octets rest c =
    let p = spread text name octets rest c in
    ap (chunk_read place) p.text_is ∙ chunk_at place p.a p.b p.c p.d p.s p.t p.u p.v octets rest p.size_is

pub behind_head : (text name octets rest : List ℕ) → IsChunk text name octets → drop 8 (text ++ rest) ≡ octets ++ rest
behind_head text name octets rest c = let p = spread text name octets rest c in ap (λ (t : List ℕ). drop 8 t) p.text_is

pub behind_chunk : (text name octets rest : List ℕ) → IsChunk text name octets → drop (8 + length octets) (text ++ rest) ≡ rest
behind_chunk text name octets rest c =
    let p = spread text name octets rest c in
    ap (λ (t : List ℕ). drop (8 + length octets) t) p.text_is
    ∙ drop-append-add (p.a ∷ p.b ∷ p.c ∷ p.d ∷ p.s ∷ p.t ∷ p.u ∷ p.v ∷ []) (octets ++ rest) (length octets)
    ∙ drop-append_seam octets rest

pub track_named : (text octets rest : List ℕ) → IsChunk text track_name octets → is_track (text ++ rest) ≡ true
unfolding is_track
track_named text octets rest c = let p = spread_track in ap (λ (t : List ℕ). is_track t) p
  where
    spread_track : text ++ rest ≡ 0x4d ∷ 0x54 ∷ 0x72 ∷ 0x6b ∷ (c.size ++ octets) ++ rest
    spread_track = ap (λ (t : List ℕ). t ++ rest) c.text_is

other_name : (a b c d : ℕ) (rest : List ℕ) → ((a ∷ b ∷ c ∷ d ∷ []) ≢ track_name) → is_track (a ∷ b ∷ c ∷ d ∷ rest) ≡ false
unfolding is_track
other_name a b c d rest other =
    elim (cases_Bool (eqb a 0x4d)) [
      | inl ta ↦ elim (cases_Bool (eqb b 0x54)) [
        | inl tb ↦ elim (cases_Bool (eqb c 0x72)) [
          | inl tc ↦ elim (cases_Bool (eqb d 0x6b)) [
            | inl td ↦ absurd (other (rw (eqb-true a 0x4d ta, eqb-true b 0x54 tb, eqb-true c 0x72 tc, eqb-true d 0x6b td) refl))
            | inr f ↦ rw (ta, tb, tc, f) refl
          ]
          | inr f ↦ rw (ta, tb, f) refl
        ]
        | inr f ↦ rw (ta, f) refl
      ]
      | inr f ↦ rw f refl
    ]

pub other_named : (text name octets rest : List ℕ) → name ≢ track_name → IsChunk text name octets → is_track (text ++ rest) ≡ false
other_named text name octets rest other c =
    let p = spread text name octets rest c in
    ap (λ (t : List ℕ). is_track t) p.text_is
    ∙ other_name p.a p.b p.c p.d (p.s ∷ p.t ∷ p.u ∷ p.v ∷ (octets ++ rest)) (λ e. other (p.name_is ∙ e))

pub chunk_len : (text name octets : List ℕ) → IsChunk text name octets → length text ≡ 8 + length octets
chunk_len text name octets c =
    let p = spread text name octets [] c in
    let len = length-append text [] in
    let len' = length-append octets [] in
    let all : length (text ++ []) ≡ length (p.a ∷ p.b ∷ p.c ∷ p.d ∷ p.s ∷ p.t ∷ p.u ∷ p.v ∷ (octets ++ [])) = ap (λ (t : List ℕ). length t) p.text_is in
    omega (arith, len, len', all)

pub chunks_are_read : (n place : ℕ) (octets : List ℕ) (list : List Timed) → SpellsChunks octets list → length octets ≤ n → chunks_read n place octets ≡ Ok list
unfolding chunks_read
chunks_are_read zero place octets list (first_track text inside rest spelled c t) few =
    let len = length-append text rest in let len' = chunk_len text track_name inside c in absurd (omega (arith, few, len, len'))
chunks_are_read zero place octets list (passed_over text name inside rest spelled other c others) few =
    let len = length-append text rest in let len' = chunk_len text name inside c in absurd (omega (arith, few, len, len'))
chunks_are_read (suc n) place octets list (first_track text inside rest spelled c t) few =
    let part : take (length inside) (drop 8 (text ++ rest)) ≡ inside = ap (λ (x : List ℕ). take (length inside) x) (behind_head text track_name inside rest c) ∙ take-append_seam inside rest in
    rw (chunk_is_read place text track_name inside rest c, track_named text inside rest c, less_eight (length inside), part)
    (track_is_read (length inside) (place + 8) 0 nothing_before inside spelled t (omega arith))
chunks_are_read (suc n) place octets list (passed_over text name inside rest spelled other c others) few =
    let len = length-append text rest in
    let len' = chunk_len text name inside c in
    rw (chunk_is_read place text name inside rest c, other_named text name inside rest other c, behind_chunk text name inside rest c)
    (chunks_are_read n (place + (8 + length inside)) rest spelled others (omega (arith, few, len, len')))

-- ---- the header

header_fields : (p q r s t u v w : ℕ) (head rest : List ℕ) → IsHeader head → fields_read (p ∷ q ∷ r ∷ s ∷ t ∷ u ∷ v ∷ w ∷ (head ++ rest)) (8 + length head) ≡ Ok (8 + length head)
header_fields p q r s t u v w head rest (header e f a b c d more format some few) =
    let long : nat_lt (8 + length (e ∷ f ∷ a ∷ b ∷ c ∷ d ∷ more)) 14 ≡ false = le-ltb (8 + length (e ∷ f ∷ a ∷ b ∷ c ∷ d ∷ more)) 14 (omega arith) in
    let zero_is : nat_lt 0 (number2 e f) ≡ false = le-ltb 0 (number2 e f) (omega (arith, format)) in
    let there : eqb (number2 c d) 0 ≡ false = ne_eqb (number2 c d) 0 (λ z. omega (arith, some, z)) in
    let ticks : nat_le 0x8000 (number2 c d) ≡ false = lt-leb 0x8000 (number2 c d) few in
    rw (long, zero_is, there, ticks) refl

pub header_is_read : (text head rest : List ℕ) → IsChunk text header_name head → IsHeader head → header_read (text ++ rest) ≡ Ok (8 + length head)
unfolding header_read
header_is_read text head rest c h =
    let p = spread text header_name head rest c in
    let named : text ++ rest ≡ 0x4d ∷ 0x54 ∷ 0x68 ∷ 0x64 ∷ ((c.size ++ head) ++ rest) = ap (λ (t : List ℕ). t ++ rest) c.text_is in
    let agree : agrees (text ++ rest) header_name ≡ true = ap (λ (t : List ℕ). agrees t header_name) named in
    rw (agree, chunk_is_read 0 text header_name head rest c)
    (ap (λ (t : List ℕ). fields_read t (8 + length head)) p.text_is ∙ header_fields p.a p.b p.c p.d p.s p.t p.u p.v head rest h)

-- What is spelled is read.
pub file_is_read : (octets : List ℕ) (list : List Timed) → IsFile octets list → file_read octets ≡ Ok list
unfolding file_read
file_is_read octets list f =
    let len = length-append f.text f.rest in
    rw (f.split, header_is_read f.text f.head f.rest f.headed f.header, behind_chunk f.text header_name f.head f.rest f.headed)
    (chunks_are_read (length (f.text ++ f.rest)) (8 + length f.head) f.rest list f.spelled (omega (arith, len)))
