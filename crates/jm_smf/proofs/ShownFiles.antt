-- The fault of a file is what its octets show, and what octets show is told.
use Rattle.std.proofs.Common.{◌≡◌, ◌≢◌, ℕ, zero, suc, ◌+◌, ◌-◌, ◌≤◌, ◌<◌, true, false, ◌||◌, eqb, ltb, leb, List, [], ◌∷◌, ◌++◌, drop, take, get_or, length, Result, Ok, Err, refl, sym, ap, subst, ◌∙◌, append_assoc, length-append, length-drop, arith, inl, inr, IfOk, IfErr}
use Rattle.std.specs.Prelude.{replicate}
use Rattle.std.proofs.lemmas.Bool.{cases_Bool, lt-ltb, le-ltb, le-leb, ltb-true, ltb-false, leb-true, leb-false, eqb-true, eqb-false, eq-eqb, ne_eqb, and_parts}
use Rattle.std.proofs.lemmas.List.{append-nil, length-replicate}
use Rattle.std.proofs.lemmas.Result.{IfErr-weaker}
use Rattle.std.proofs.Math.Seq.{take-append_seam}
use Rattle.jm_wire.specs.Readers.{◌>>=◌}
use Rattle.jm_smf.specs.declared.fault.FileFault.{FileFault}
use Rattle.jm_smf.specs.declared.fault.FileFault.TheVariants.{NotSmf, Short, HeadLength, Format, Division}
use Rattle.jm_smf.specs.Reading.{nothing_before, number2, number4, size_at, chunk_read, is_track, chunk_heard, chunks_read, agrees, header_name, format_at, division_at, fields_read, header_read, file_read, track_read}
use Rattle.jm_smf.specs.Grammar.{IsChunk, track_name, IsHeader, header}
use Rattle.jm_smf.specs.Faults.{IsCutOff, StandsChunk, some_chunk, ChunkShows, chunk_cut_off, track_shows, WholeChunks, no_chunk, chunk_then, ChunksShow, StandsHeader, some_header, HeaderShows, too_small, other_format, no_ticks, in_frames, FileShows, other_name, header_cut_off, header_shows, chunks_show, TrackShows}
use Rattle.jm_smf.proofs.Told.{IsTold, never_told, same_value, no_length, less_eight}
use Rattle.jm_smf.proofs.SpelledFiles.{spread, chunk_is_read, behind_head, behind_chunk, chunk_len, track_named, other_named, header_is_read}
use Rattle.jm_smf.proofs.ReadEvents.{none_running}
use Rattle.jm_smf.proofs.ReadFiles.{Eight, eight, ChunkStands, chunk_here, chunk_stands, track_begins, name_begins}
use Rattle.jm_smf.proofs.ReadFiles as read
use Rattle.jm_smf.proofs.ShownTracks as tracks

-- ---- chunks

-- with these octets behind, a chunk stands at the front
record ChunkCompleted (octets : List ℕ) : Type 0 where
  more : List ℕ
  size : ℕ
  stands : ChunkStands (octets ++ more) size

-- eight octets or more, and as many octets of 0 as they tell
completed_eight : (octets : List ℕ) → Eight octets → ChunkCompleted octets
completed_eight octets e =
    let size = number4 e.s e.t e.u e.v in
    let zeros = replicate size 0 in
    let len = length-append e.more zeros in
    let many = length-replicate {A = ℕ} size 0 in
    record {
      more = zeros;
      size = 8 + size;
      stands =
          subst (λ (x : List ℕ). ChunkStands (x ++ zeros) (8 + size)) (sym e.octets_are)
          (chunk_here e.a e.b e.c e.d e.s e.t e.u e.v (e.more ++ zeros) (omega (arith, len, many)));
    }

chunk_completed : (octets : List ℕ) → ChunkCompleted octets
chunk_completed octets =
    let zeros = replicate 8 0 in
    let len = length-append octets zeros in
    let many = length-replicate {A = ℕ} 8 0 in
    let c = completed_eight (octets ++ zeros) (eight (octets ++ zeros) (omega (arith, len, many))) in
    record { more = zeros ++ c.more; size = c.size; stands = subst (λ (x : List ℕ). ChunkStands x c.size) (append_assoc octets zeros c.more) c.stands }

stands_chunk : (octets : List ℕ) (size : ℕ) → ChunkStands octets size → StandsChunk octets
stands_chunk octets size s = subst StandsChunk (sym s.split) (some_chunk s.text (s.a ∷ s.b ∷ s.c ∷ s.d ∷ []) s.inside s.rest s.is_chunk)

chunk_told : (place : ℕ) (octets : List ℕ) → StandsChunk octets → IsTold (chunk_read place octets)
chunk_told place octets (some_chunk text name inside rest c) = record { value = 8 + length inside; told = chunk_is_read place text name inside rest c }

-- a chunk is refused only for its end
chunk_refused : (place : ℕ) (octets : List ℕ) → IfErr (chunk_read place octets) (λ f. f ≡ Short place)
unfolding chunk_read
chunk_refused place octets =
    elim (cases_Bool (ltb (length octets) 8)) [
      | inl t ↦ rw t refl
      | inr f ↦ elim (cases_Bool (ltb (length octets) (8 + size_at octets))) [
        | inl t ↦ rw (f, t) refl
        | inr g ↦ rw (f, g) tt
      ]
    ]

cut_off : (place : ℕ) (octets : List ℕ) (f : FileFault) → chunk_read place octets ≡ Err f → IsCutOff StandsChunk octets
cut_off place octets f e =
    let c = chunk_completed octets in
    record {
      none_yet = λ s. never_told (chunk_read place octets) f (chunk_told place octets s) e;
      more = c.more;
      whole = stands_chunk (octets ++ c.more) c.size c.stands;
    }

-- a chunk that is cut off is refused
cut_off_is_read : (place : ℕ) (octets : List ℕ) → IsCutOff StandsChunk octets → chunk_read place octets ≡ Err (Short place)
cut_off_is_read place octets c = by_read (chunk_read place octets) refl
  where
    by_read : (r : Result ℕ FileFault) → chunk_read place octets ≡ r → r ≡ Err (Short place)
    by_read (Ok size) e = absurd (c.none_yet (stands_chunk octets size (rw e at (chunk_stands place octets))))
    by_read (Err f) e = ap (λ (fault : FileFault). Err fault) (rw e at (chunk_refused place octets))

shows_here : (place : ℕ) (octets : List ℕ) (f : FileFault) → ChunkShows place octets f → ChunksShow place octets f
shows_here place octets f s = record { front = []; rest = octets; split = refl; whole = no_chunk; shown = subst (λ (p : ℕ). ChunkShows p octets f) (no_length place) s }

no_chunk_there : (place : ℕ) → chunk_read place [] ≡ Err (Short place)
unfolding chunk_read
no_chunk_there place = refl

cut_off_shows : (place : ℕ) (octets : List ℕ) (f : FileFault) → chunk_read place octets ≡ Err f → ChunksShow place octets f
cut_off_shows place octets f e =
    let is : f ≡ Short place = rw e at (chunk_refused place octets) in
    shows_here place octets f (subst (λ (g : FileFault). ChunkShows place octets g) (sym is) (chunk_cut_off octets (cut_off place octets f e)))

behind_other : (place : ℕ) (octets : List ℕ) (size : ℕ) (s : ChunkStands octets size) → ((s.a ∷ s.b ∷ s.c ∷ s.d ∷ []) ≢ track_name) → (f : FileFault) → ChunksShow (place + size) (drop size octets) f → ChunksShow place octets f
behind_other place octets size s other f t =
    let name = s.a ∷ s.b ∷ s.c ∷ s.d ∷ [] in
    let len = chunk_len s.text name s.inside s.is_chunk in
    let all = length-append s.text t.front in
    let size_is = s.size_is in
    let there : place + size + length t.front ≡ place + length (s.text ++ t.front) = omega (arith, len, all, size_is) in
    record {
      front = s.text ++ t.front;
      rest = t.rest;
      split = s.split ∙ ap (λ (x : List ℕ). s.text ++ x) (sym s.rest_is ∙ t.split) ∙ sym (append_assoc s.text t.front t.rest);
      whole = chunk_then s.text name s.inside t.front other s.is_chunk t.whole;
      shown = subst (λ (p : ℕ). ChunkShows p t.rest f) there t.shown;
    }

in_track : (place : ℕ) (octets : List ℕ) (size : ℕ) (s : ChunkStands octets size) → (s.a ∷ s.b ∷ s.c ∷ s.d ∷ []) ≡ track_name → (f : FileFault) → TrackShows (place + 8) nothing_before s.inside f → ChunksShow place octets f
in_track place octets size s name f t =
    shows_here place octets f
    (subst (λ (x : List ℕ). ChunkShows place x f) (sym s.split) (track_shows s.text s.inside s.rest f (subst (λ (x : List ℕ). IsChunk s.text x s.inside) name s.is_chunk) t))

-- The fault of the chunks behind the header is what they show.
chunks_refused : (n place : ℕ) (octets : List ℕ) → length octets ≤ n → IfErr (chunks_read n place octets) (ChunksShow place octets)
unfolding chunks_read
chunks_refused zero place [] few = cut_off_shows place [] (Short place) (no_chunk_there place)
chunks_refused zero place (o ∷ octets) few = absurd (omega (arith, few))
chunks_refused (suc n) place octets few =
    by_read (chunk_read place octets) refl (chunk_stands place octets) (λ size some. chunks_refused n (place + size) (drop size octets) (omega (arith, few, some, length-drop size octets)))
  where
    by_name : (size : ℕ) (s : ChunkStands octets size) → IfErr (chunks_read n (place + size) (drop size octets)) (ChunksShow (place + size) (drop size octets))
        → IfErr (chunk_heard place size octets (chunks_read n (place + size) (drop size octets))) (ChunksShow place octets)
    by_name size s later =
        elim (cases_Bool (is_track octets)) [
          | inl t ↦
              let name = track_begins s.a s.b s.c s.d s.behind (subst (λ (x : List ℕ). is_track x ≡ true) s.begins t) in
              let size_is = s.size_is in
              let part = take (size - 8) (drop 8 octets) in
              let few : length part ≤ size - 8 = rw s.inside_is (omega (arith, size_is)) in
              rw t
              (IfErr-weaker (track_read (size - 8) (place + 8) 0 nothing_before part) (TrackShows (place + 8) nothing_before part) (ChunksShow place octets)
              (λ f shown. in_track place octets size s name f (subst (λ (x : List ℕ). TrackShows (place + 8) nothing_before x f) s.inside_is shown))
              (tracks.track_shows (size - 8) (place + 8) 0 nothing_before part few (none_running false)))
          | inr f ↦
              let name = read.other_name s.a s.b s.c s.d s.behind (subst (λ (x : List ℕ). is_track x ≡ false) s.begins f) in
              rw f (IfErr-weaker (chunks_read n (place + size) (drop size octets)) (ChunksShow (place + size) (drop size octets)) (ChunksShow place octets) (behind_other place octets size s name) later)
        ]

    by_read : (r : Result ℕ FileFault) → chunk_read place octets ≡ r → IfOk r (ChunkStands octets) → ((size : ℕ) → 1 ≤ size → IfErr (chunks_read n (place + size) (drop size octets)) (ChunksShow (place + size) (drop size octets)))
        → IfErr (r >>= λ size. chunk_heard place size octets (chunks_read n (place + size) (drop size octets))) (ChunksShow place octets)
    by_read (Err f) e s later = cut_off_shows place octets f e
    by_read (Ok size) e s later = let size_is = s.size_is in by_name size s (later size (omega (arith, size_is)))

-- What a chunk shows is told.
shown_there : (n place : ℕ) (octets : List ℕ) (f : FileFault) → length octets ≤ n → ChunkShows place octets f → chunks_read n place octets ≡ Err f
unfolding chunks_read
shown_there zero place octets f few (chunk_cut_off others c) = refl
shown_there (suc n) place octets f few (chunk_cut_off others c) = rw (cut_off_is_read place others c) refl
shown_there zero place octets f few (track_shows text inside rest fault c t) =
    let len = length-append text rest in let len' = chunk_len text track_name inside c in absurd (omega (arith, few, len, len'))
shown_there (suc n) place octets f few (track_shows text inside rest fault c t) =
    let part : take (length inside) (drop 8 (text ++ rest)) ≡ inside = ap (λ (x : List ℕ). take (length inside) x) (behind_head text track_name inside rest c) ∙ take-append_seam inside rest in
    rw (chunk_is_read place text track_name inside rest c, track_named text inside rest c, less_eight (length inside), part)
    (tracks.track_told (length inside) (place + 8) 0 nothing_before inside fault (omega arith) (none_running false) t)

shown_behind : (n place : ℕ) (front rest : List ℕ) (f : FileFault) → WholeChunks front → length (front ++ rest) ≤ n → ChunkShows (place + length front) rest f → chunks_read n place (front ++ rest) ≡ Err f
unfolding chunks_read
shown_behind n place front rest f no_chunk few s = shown_there n place rest f few (subst (λ (p : ℕ). ChunkShows p rest f) (sym (no_length place)) s)
shown_behind zero place front rest f (chunk_then text name inside others other c whole) few s =
    let all = length-append (text ++ others) rest in
    let len = length-append text others in
    let len' = chunk_len text name inside c in
    absurd (omega (arith, few, all, len, len'))
shown_behind (suc n) place front rest f (chunk_then text name inside others other c whole) few s =
    let all = length-append (text ++ others) rest in
    let len = length-append text others in
    let len' = chunk_len text name inside c in
    let behind = length-append others rest in
    let there : place + length (text ++ others) ≡ place + (8 + length inside) + length others = omega (arith, len, len') in
    rw (append_assoc text others rest, chunk_is_read place text name inside (others ++ rest) c, other_named text name inside (others ++ rest) other c, behind_chunk text name inside (others ++ rest) c)
    (shown_behind n (place + (8 + length inside)) others rest f whole (omega (arith, few, all, len, len', behind)) (subst (λ (p : ℕ). ChunkShows p rest f) there s))

chunks_told : (n place : ℕ) (octets : List ℕ) (f : FileFault) → length octets ≤ n → ChunksShow place octets f → chunks_read n place octets ≡ Err f
chunks_told n place octets f few t =
    ap (chunks_read n place) t.split ∙ shown_behind n place t.front t.rest f t.whole (subst (λ (x : List ℕ). length x ≤ n) t.split few) t.shown

-- ---- the header's name

prefix_agrees : (octets more name rest : List ℕ) → octets ++ more ≡ name ++ rest → agrees octets name ≡ true
prefix_agrees octets more [] rest e = refl
prefix_agrees [] more (n ∷ name) rest e = refl
prefix_agrees (o ∷ octets) more (n ∷ name) rest e =
    let first : o ≡ n = ap (λ (t : List ℕ). get_or t 0 0) e in
    let others : octets ++ more ≡ name ++ rest = ap (λ (t : List ℕ). drop 1 t) e in
    rw (eq-eqb o n first) (prefix_agrees octets more name rest others)

-- octets that agree with the header's name go on so
record NameGoesOn (octets : List ℕ) : Type 0 where
  more : List ℕ
  rest : List ℕ
  joined : octets ++ more ≡ header_name ++ rest

goes_on_by : (octets more front rest : List ℕ) → octets ≡ front → front ++ more ≡ header_name ++ rest → NameGoesOn octets
goes_on_by octets more front rest e j = record { more = more; rest = rest; joined = ap (λ (t : List ℕ). t ++ more) e ∙ j }

one_agrees : (o n : ℕ) (octets name : List ℕ) → agrees (o ∷ octets) (n ∷ name) ≡ true → (o ≡ n) × (agrees octets name ≡ true)
one_agrees o n octets name h = let both = and_parts (eqb o n) (agrees octets name) h in (eqb-true o n both.0, both.1)

name_goes_on : (octets : List ℕ) → agrees octets header_name ≡ true → NameGoesOn octets
name_goes_on [] h = goes_on_by [] header_name [] [] refl refl
name_goes_on (a ∷ []) h =
    let one = one_agrees a 0x4d [] (0x54 ∷ 0x68 ∷ 0x64 ∷ []) h in
    goes_on_by (a ∷ []) (0x54 ∷ 0x68 ∷ 0x64 ∷ []) (0x4d ∷ []) [] (rw one.0 refl) refl
name_goes_on (a ∷ b ∷ []) h =
    let one = one_agrees a 0x4d (b ∷ []) (0x54 ∷ 0x68 ∷ 0x64 ∷ []) h in
    let two = one_agrees b 0x54 [] (0x68 ∷ 0x64 ∷ []) one.1 in
    goes_on_by (a ∷ b ∷ []) (0x68 ∷ 0x64 ∷ []) (0x4d ∷ 0x54 ∷ []) [] (rw (one.0, two.0) refl) refl
name_goes_on (a ∷ b ∷ c ∷ []) h =
    let one = one_agrees a 0x4d (b ∷ c ∷ []) (0x54 ∷ 0x68 ∷ 0x64 ∷ []) h in
    let two = one_agrees b 0x54 (c ∷ []) (0x68 ∷ 0x64 ∷ []) one.1 in
    let three = one_agrees c 0x68 [] (0x64 ∷ []) two.1 in
    goes_on_by (a ∷ b ∷ c ∷ []) (0x64 ∷ []) (0x4d ∷ 0x54 ∷ 0x68 ∷ []) [] (rw (one.0, two.0, three.0) refl) refl
name_goes_on (a ∷ b ∷ c ∷ d ∷ octets) h =
    let one = one_agrees a 0x4d (b ∷ c ∷ d ∷ octets) (0x54 ∷ 0x68 ∷ 0x64 ∷ []) h in
    let two = one_agrees b 0x54 (c ∷ d ∷ octets) (0x68 ∷ 0x64 ∷ []) one.1 in
    let three = one_agrees c 0x68 (d ∷ octets) (0x64 ∷ []) two.1 in
    let four = one_agrees d 0x64 octets [] three.1 in
    goes_on_by (a ∷ b ∷ c ∷ d ∷ octets) [] (0x4d ∷ 0x54 ∷ 0x68 ∷ 0x64 ∷ octets) octets (rw (one.0, two.0, three.0, four.0) refl) (append-nil (header_name ++ octets))

-- a chunk at the front of octets that begin with the header's name is a header chunk
named_header : (octets : List ℕ) (size : ℕ) → ChunkStands octets size → agrees octets header_name ≡ true → StandsHeader octets
named_header octets size s h =
    let name = name_begins s.a s.b s.c s.d s.behind (subst (λ (x : List ℕ). agrees x header_name ≡ true) s.begins h) in
    subst StandsHeader (sym s.split) (some_header s.text s.inside s.rest (subst (λ (x : List ℕ). IsChunk s.text x s.inside) name s.is_chunk))

header_agrees : (text octets rest : List ℕ) → IsChunk text header_name octets → agrees (text ++ rest) header_name ≡ true
header_agrees text octets rest c =
    ap (λ (t : List ℕ). agrees (t ++ rest) header_name) c.text_is

stands_agrees : (octets more : List ℕ) → StandsHeader (octets ++ more) → agrees octets header_name ≡ true
stands_agrees octets more s = by_stands (octets ++ more) refl s
  where
    by_stands : (all : List ℕ) → octets ++ more ≡ all → StandsHeader all → agrees octets header_name ≡ true
    by_stands all e (some_header text inside rest c) =
        prefix_agrees octets more header_name ((c.size ++ inside) ++ rest) (e ∙ ap (λ (t : List ℕ). t ++ rest) c.text_is)

header_chunk : (octets : List ℕ) → StandsHeader octets → StandsChunk octets
header_chunk octets (some_header text inside rest c) = some_chunk text header_name inside rest c

header_completed : (octets : List ℕ) → agrees octets header_name ≡ true → (f : FileFault) → chunk_read 0 octets ≡ Err f → IsCutOff StandsHeader octets
header_completed octets h f e =
    let n = name_goes_on octets h in
    let c = chunk_completed (octets ++ n.more) in
    let named : agrees ((octets ++ n.more) ++ c.more) header_name ≡ true = ap (λ (t : List ℕ). agrees (t ++ c.more) header_name) n.joined in
    record {
      none_yet = λ s. never_told (chunk_read 0 octets) f (chunk_told 0 octets (header_chunk octets s)) e;
      more = n.more ++ c.more;
      whole = subst StandsHeader (append_assoc octets n.more c.more) (named_header ((octets ++ n.more) ++ c.more) c.size c.stands named);
    }

-- ---- the header's fields

-- what its fields say of a header: nothing that is refused, or what they show
abbrev FieldsShow : List ℕ → Result ℕ FileFault → Type 0
FieldsShow inside (Ok size) = IsHeader inside
FieldsShow inside (Err f) = HeaderShows inside f

fields_show : (p q r s t u v w : ℕ) (inside rest : List ℕ) → FieldsShow inside (fields_read (p ∷ q ∷ r ∷ s ∷ t ∷ u ∷ v ∷ w ∷ (inside ++ rest)) (8 + length inside))
fields_show p q r s t u v w [] rest = too_small [] (omega arith)
fields_show p q r s t u v w (e ∷ []) rest = too_small (e ∷ []) (omega arith)
fields_show p q r s t u v w (e ∷ f ∷ []) rest = too_small (e ∷ f ∷ []) (omega arith)
fields_show p q r s t u v w (e ∷ f ∷ a ∷ []) rest = too_small (e ∷ f ∷ a ∷ []) (omega arith)
fields_show p q r s t u v w (e ∷ f ∷ a ∷ b ∷ []) rest = too_small (e ∷ f ∷ a ∷ b ∷ []) (omega arith)
fields_show p q r s t u v w (e ∷ f ∷ a ∷ b ∷ c ∷ []) rest = too_small (e ∷ f ∷ a ∷ b ∷ c ∷ []) (omega arith)
fields_show p q r s t u v w (e ∷ f ∷ a ∷ b ∷ c ∷ d ∷ more) rest =
    let long : ltb (8 + length (e ∷ f ∷ a ∷ b ∷ c ∷ d ∷ more)) 14 ≡ false = le-ltb (8 + length (e ∷ f ∷ a ∷ b ∷ c ∷ d ∷ more)) 14 (omega arith) in
    elim (cases_Bool (ltb 0 (number2 e f))) [
      | inl x ↦ let some = ltb-true 0 (number2 e f) x in rw (long, x) (other_format e f a b c d more (λ z. omega (arith, some, z)))
      | inr format ↦
          let none = ltb-false 0 (number2 e f) format in
          let zero_is : number2 e f ≡ 0 = least (number2 e f) none in
          elim (cases_Bool (eqb (number2 c d) 0)) [
            | inl x ↦
                let is = eqb-true (number2 c d) 0 x in
                rw (long, format, x) (subst (λ (n : ℕ). HeaderShows (e ∷ f ∷ a ∷ b ∷ c ∷ d ∷ more) (Division n)) (sym is) (no_ticks e f a b c d more zero_is is))
            | inr some ↦ elim (cases_Bool (leb 0x8000 (number2 c d))) [
              | inl x ↦ rw (long, format, some, x) (in_frames e f a b c d more zero_is (leb-true 0x8000 (number2 c d) x))
              | inr few ↦
                  let other = eqb-false (number2 c d) 0 some in
                  let below = leb-false 0x8000 (number2 c d) few in
                  rw (long, format, some, few) (header e f a b c d more zero_is (more_than (number2 c d) other) below)
            ]
          ]
    ]
  where
    least : (n : ℕ) → n ≤ 0 → n ≡ 0
    least n h = omega (arith, h)

    more_than : (n : ℕ) → n ≢ 0 → 1 ≤ n
    more_than n h = grind arith

no_length_below : (xs : List ℕ) → length xs < 6 → ltb (8 + length xs) 14 ≡ true
no_length_below xs h = lt-ltb (8 + length xs) 14 (omega (arith, h))

-- What its fields show is told.
fields_told : (p q r s t u v w : ℕ) (inside rest : List ℕ) (fault : FileFault) → HeaderShows inside fault → fields_read (p ∷ q ∷ r ∷ s ∷ t ∷ u ∷ v ∷ w ∷ (inside ++ rest)) (8 + length inside) ≡ Err fault
fields_told p q r s t u v w inside rest fault (too_small octets few) = rw (no_length_below octets few) refl
fields_told p q r s t u v w inside rest fault (other_format e f a b c d more other) =
    let long : ltb (8 + length (e ∷ f ∷ a ∷ b ∷ c ∷ d ∷ more)) 14 ≡ false = le-ltb (8 + length (e ∷ f ∷ a ∷ b ∷ c ∷ d ∷ more)) 14 (omega arith) in
    let some : ltb 0 (number2 e f) ≡ true = lt-ltb 0 (number2 e f) (above (number2 e f) other) in
    rw (long, some) refl
  where
    above : (n : ℕ) → n ≢ 0 → 0 < n
    above n h = grind arith
fields_told p q r s t u v w inside rest fault (no_ticks e f a b c d more format none) =
    let long : ltb (8 + length (e ∷ f ∷ a ∷ b ∷ c ∷ d ∷ more)) 14 ≡ false = le-ltb (8 + length (e ∷ f ∷ a ∷ b ∷ c ∷ d ∷ more)) 14 (omega arith) in
    let zero_is : ltb 0 (number2 e f) ≡ false = le-ltb 0 (number2 e f) (omega (arith, format)) in
    rw (long, zero_is, none) refl
fields_told p q r s t u v w inside rest fault (in_frames e f a b c d more format frames) =
    let long : ltb (8 + length (e ∷ f ∷ a ∷ b ∷ c ∷ d ∷ more)) 14 ≡ false = le-ltb (8 + length (e ∷ f ∷ a ∷ b ∷ c ∷ d ∷ more)) 14 (omega arith) in
    let zero_is : ltb 0 (number2 e f) ≡ false = le-ltb 0 (number2 e f) (omega (arith, format)) in
    let some : eqb (number2 c d) 0 ≡ false = ne_eqb (number2 c d) 0 (λ z. omega (arith, frames, z)) in
    rw (long, zero_is, some, le-leb 0x8000 (number2 c d) frames) refl

-- ---- the file

-- what was read of a header chunk at the front
fields_here : (octets : List ℕ) (size : ℕ) (s : ChunkStands octets size) → FieldsShow s.inside (fields_read octets size)
fields_here octets size s =
    let p = spread s.text (s.a ∷ s.b ∷ s.c ∷ s.d ∷ []) s.inside s.rest s.is_chunk in
    let spelled = s.split ∙ p.text_is in
    subst (λ (n : ℕ). FieldsShow s.inside (fields_read octets n)) (sym s.size_is)
    (subst (λ (x : List ℕ). FieldsShow s.inside (fields_read x (8 + length s.inside))) (sym spelled) (fields_show p.a p.b p.c p.d p.s p.t p.u p.v s.inside s.rest))

record HeaderAhead (octets : List ℕ) (size : ℕ) : Type 0 where
  text : List ℕ
  inside : List ℕ
  rest : List ℕ
  headed : IsChunk text header_name inside
  is_header : IsHeader inside
  split : octets ≡ text ++ rest
  size_is : size ≡ length text
  rest_is : drop size octets ≡ rest

-- what reading a header tells: a header that stands at the front, or what the octets show
abbrev HeaderTells : List ℕ → Result ℕ FileFault → Type 0
HeaderTells octets (Ok size) = HeaderAhead octets size
HeaderTells octets (Err f) = FileShows octets f

by_fields : (octets : List ℕ) (size : ℕ) (s : ChunkStands octets size) → agrees octets header_name ≡ true → (r : Result ℕ FileFault) → fields_read octets size ≡ r → FieldsShow s.inside r → HeaderTells octets r
by_fields octets size s named (Err f) e h =
    let name = name_begins s.a s.b s.c s.d s.behind (subst (λ (x : List ℕ). agrees x header_name ≡ true) s.begins named) in
    subst (λ (x : List ℕ). FileShows x f) (sym s.split) (header_shows s.text s.inside s.rest f (subst (λ (x : List ℕ). IsChunk s.text x s.inside) name s.is_chunk) h)
by_fields octets size s named (Ok n) e h =
    let name = name_begins s.a s.b s.c s.d s.behind (subst (λ (x : List ℕ). agrees x header_name ≡ true) s.begins named) in
    let len = chunk_len s.text (s.a ∷ s.b ∷ s.c ∷ s.d ∷ []) s.inside s.is_chunk in
    let same : n ≡ size = fields_size octets size n e in
    record {
      text = s.text;
      inside = s.inside;
      rest = s.rest;
      headed = subst (λ (x : List ℕ). IsChunk s.text x s.inside) name s.is_chunk;
      is_header = h;
      split = s.split;
      size_is = same ∙ s.size_is ∙ sym len;
      rest_is = ap (λ (m : ℕ). drop m octets) same ∙ s.rest_is;
    }
  where
    differ : (f : FileFault) (n : ℕ) → ◌≡◌ {A = Result ℕ FileFault} (Err f) (Ok n) → ⊥
    differ f n e = never_told (Ok n) f (record { value = n; told = refl }) (sym e)

    fields_size : (octets : List ℕ) (size n : ℕ) → fields_read octets size ≡ Ok n → n ≡ size
    fields_size octets size n e =
        elim (cases_Bool (ltb size 14)) [
          | inl t ↦ absurd (differ (HeadLength 4) n (rw t at e))
          | inr long ↦ elim (cases_Bool (ltb 0 (format_at octets))) [
            | inl t ↦ absurd (differ (Format (format_at octets)) n (rw (long, t) at e))
            | inr format ↦ elim (cases_Bool (eqb (division_at octets) 0 || leb 0x8000 (division_at octets))) [
              | inl t ↦ absurd (differ (Division (division_at octets)) n (rw (long, format, t) at e))
              | inr f ↦ sym (same_value size n (rw (long, format, f) at e))
            ]
          ]
        ]

header_tells : (octets : List ℕ) → HeaderTells octets (header_read octets)
unfolding header_read
header_tells octets =
    elim (cases_Bool (agrees octets header_name)) [
      | inl t ↦ rw t (by_chunk (chunk_read 0 octets) refl (chunk_stands 0 octets) t)
      | inr f ↦ rw f (other_name octets (λ more rest e. differs f (prefix_agrees octets more header_name rest e)))
    ]
  where
    differs : agrees octets header_name ≡ false → agrees octets header_name ≡ true → ⊥
    differs f t = let never : true ≡ false = sym t ∙ f in cc

    by_chunk : (r : Result ℕ FileFault) → chunk_read 0 octets ≡ r → IfOk r (ChunkStands octets) → agrees octets header_name ≡ true → HeaderTells octets (r >>= fields_read octets)
    by_chunk (Err f) e s named =
        let is : f ≡ Short 0 = rw e at (chunk_refused 0 octets) in
        subst (λ (g : FileFault). FileShows octets g) (sym is) (header_cut_off octets (header_completed octets named f e))
    by_chunk (Ok size) e s named = by_fields octets size s named (fields_read octets size) refl (fields_here octets size s)

-- The fault of a file is what its octets show.
pub file_refused : (octets : List ℕ) → IfErr (file_read octets) (FileShows octets)
unfolding file_read
file_refused octets = by_header (header_read octets) (header_tells octets)
  where
    by_header : (r : Result ℕ FileFault) → HeaderTells octets r → IfErr (r >>= λ size. chunks_read (length octets) size (drop size octets)) (FileShows octets)
    by_header (Err f) h = h
    by_header (Ok size) h =
        let left = length-drop size octets in
        IfErr-weaker (chunks_read (length octets) size (drop size octets)) (ChunksShow size (drop size octets)) (FileShows octets)
        (λ f shown.
        subst (λ (x : List ℕ). FileShows x f) (sym h.split)
        (chunks_show h.text h.inside h.rest f h.headed h.is_header (subst (λ (n : ℕ). ChunksShow n h.rest f) h.size_is (subst (λ (x : List ℕ). ChunksShow size x f) h.rest_is shown))))
        (chunks_refused (length octets) size (drop size octets) (omega (arith, left)))

refused_by_fields : (text octets rest : List ℕ) (f : FileFault) → IsChunk text header_name octets → HeaderShows octets f → header_read (text ++ rest) ≡ Err f
unfolding header_read
refused_by_fields text octets rest f c h =
    let p = spread text header_name octets rest c in
    rw (header_agrees text octets rest c, chunk_is_read 0 text header_name octets rest c)
    (ap (λ (x : List ℕ). fields_read x (8 + length octets)) p.text_is ∙ fields_told p.a p.b p.c p.d p.s p.t p.u p.v octets rest f h)

refused_by_name : (octets : List ℕ) → ((more rest : List ℕ) → octets ++ more ≡ header_name ++ rest → ⊥) → header_read octets ≡ Err NotSmf
unfolding header_read
refused_by_name octets h =
    elim (cases_Bool (agrees octets header_name)) [
      | inl t ↦ let n = name_goes_on octets t in absurd (h n.more n.rest n.joined)
      | inr f ↦ rw f refl
    ]

refused_by_end : (octets : List ℕ) → IsCutOff StandsHeader octets → header_read octets ≡ Err (Short 0)
unfolding header_read
refused_by_end octets c =
    let named = stands_agrees octets c.more c.whole in
    let cut : chunk_read 0 octets ≡ Err (Short 0) = by_read (chunk_read 0 octets) refl named in
    rw (named, cut) refl
  where
    by_read : (r : Result ℕ FileFault) → chunk_read 0 octets ≡ r → agrees octets header_name ≡ true → r ≡ Err (Short 0)
    by_read (Ok size) e named = absurd (c.none_yet (named_header octets size (rw e at (chunk_stands 0 octets)) named))
    by_read (Err f) e named = ap (λ (fault : FileFault). Err fault) (rw e at (chunk_refused 0 octets))

-- What octets show is told.
pub file_told : (octets : List ℕ) (f : FileFault) → FileShows octets f → file_read octets ≡ Err f
unfolding file_read
file_told octets f (other_name all never) = rw (refused_by_name all never) refl
file_told octets f (header_cut_off all c) = rw (refused_by_end all c) refl
file_told octets f (header_shows text inside rest fault c h) = rw (refused_by_fields text inside rest fault c h) refl
file_told octets f (chunks_show text inside rest fault c h s) =
    let len = chunk_len text header_name inside c in
    let all = length-append text rest in
    rw (header_is_read text inside rest c h, behind_chunk text header_name inside rest c)
    (chunks_told (length (text ++ rest)) (8 + length inside) rest fault (omega (arith, all)) (subst (λ (n : ℕ). ChunksShow n rest fault) len s))
