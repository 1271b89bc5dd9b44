-- A file that is read is spelled.
use Rattle.std.proofs.Common.{◌≡◌, ◌≢◌, ℕ, zero, suc, ◌+◌, ◌-◌, ◌≤◌, true, false, ◌&&◌, eqb, ltb, leb, List, [], ◌∷◌, ◌++◌, drop, take, length, Option, Some, None, Result, Ok, Err, refl, sym, ap, subst, ◌∙◌, arith, inl, inr, IfOk}
use Rattle.std.proofs.lemmas.Bool.{ltb-false, leb-false, eqb-true, eqb-false, cases_Bool, and_parts, le-ltb}
use Rattle.std.proofs.lemmas.List.{take-append-drop, length-take-le}
use Rattle.std.proofs.Math.Seq.{drop-append-add, drop-append_seam}
use Rattle.std.proofs.lemmas.Result.{IfOk-weaker}
use Rattle.jm_wire.specs.Readers.{◌>>=◌}
use Rattle.jm_wire.specs.declared.delta.DeltaFault.{DeltaFault}
use Rattle.jm_wire.specs.declared.delta.DeltaFault.TheVariants as fields
use Rattle.jm_wire.specs.Delta.{value, delta_at, IsField, IsReadAs}
use Rattle.jm_wire.specs.DeltaReading.{read_as}
use Rattle.jm_smf.specs.declared.before.Before.{Before}
use Rattle.jm_smf.specs.declared.event.Heard.{Heard}
use Rattle.jm_smf.specs.declared.timed.Timed.{Timed}
use Rattle.jm_smf.specs.Reading.{field_read, what_read, behind_field, event_read, timed_at, before_events, track_read, nothing_before, number2, number4, size_at, chunk_read, is_track, chunk_heard, chunks_read, agrees, header_name, fields_read, header_read, file_read}
use Rattle.jm_smf.specs.Grammar.{SpellsEvent, SpellsTrack, track_ends, one_more, IsSize, four, IsChunk, track_name, SpellsChunks, first_track, passed_over, IsHeader, header, IsFile}
use Rattle.jm_smf.proofs.Told.{less_eight}
use Rattle.jm_smf.proofs.SpelledFiles.{spread}
use Rattle.jm_smf.proofs.ReadEvents.{if_then, HasRunning, none_running, Stands, what_stands}

-- ---- events with their deltas

-- an event with its delta stands at the front
pub record NextStands (before : Before) (octets : List ℕ) (delta : ℕ) (heard : Heard) : Type 0 where
  pub field : List ℕ
  pub text : List ℕ
  pub rest : List ℕ
  pub field_is : IsField field
  pub delta_is : delta ≡ value field
  pub split : octets ≡ field ++ (text ++ rest)
  pub used_is : heard.used ≡ length field + length text
  pub spelled : SpellsEvent before text heard.commands heard.after
  pub running : HasRunning heard.after

-- the end of the track stands there
pub record LastStands (octets : List ℕ) : Type 0 where
  pub field : List ℕ
  pub rest : List ℕ
  pub field_is : IsField field
  pub split : octets ≡ field ++ 0xff ∷ 0x2f ∷ rest

abbrev pub AfterDelta : Before → List ℕ → Option (ℕ × Heard) → Type 0
AfterDelta before octets None = LastStands octets
AfterDelta before octets (Some x) = NextStands before octets x.0 x.1

what_behind : (before : Before) (octets : List ℕ) (v n : ℕ) → IsReadAs octets v n → (next : Option Heard) → Stands before (drop n octets) next → AfterDelta before octets (behind_field (v, n) next)
what_behind before octets v n r None s = record {
  field = take n octets;
  rest = s.rest;
  field_is = r.field;
  split = sym (take-append-drop n octets) ∙ ap (λ (t : List ℕ). take n octets ++ t) s.split;
}
what_behind before octets v n r (Some heard) s = record {
  field = take n octets;
  text = s.text;
  rest = s.rest;
  field_is = r.field;
  delta_is = sym r.value_is;
  split = sym (take-append-drop n octets) ∙ ap (λ (t : List ℕ). take n octets ++ t) s.split;
  used_is = ap (λ (m : ℕ). m + heard.used) (sym (length-take-le n octets r.inside)) ∙ ap (λ (m : ℕ). length (take n octets) + m) s.used_is;
  spelled = s.spelled;
  running = s.running;
}

pub event_stands : (place : ℕ) (before : Before) (octets : List ℕ) → HasRunning before → IfOk (event_read place before octets) (AfterDelta before octets)
unfolding event_read
event_stands place before octets h = by_field (delta_at octets) (read_as octets (delta_at octets) refl)
  where
    by_field : (read : Result (ℕ × ℕ) DeltaFault) → IfOk read (λ x. IsReadAs octets x.0 x.1)
        → IfOk (field_read place read >>= λ field. (what_read place before (drop field.1 octets) >>= λ what. Ok (behind_field field what))) (AfterDelta before octets)
    by_field (Ok (v, n)) r =
        if_then (what_read place before (drop n octets)) (λ what. Ok (behind_field (v, n) what)) (Stands before (drop n octets)) (AfterDelta before octets) (what_stands place before (drop n octets) h) (λ next s. what_behind before octets v n r next s)
    by_field (Err fields.Short) r = tt
    by_field (Err fields.TooLong) r = tt

-- ---- the track

one_before : (before : Before) (tick : ℕ) (octets : List ℕ) (delta : ℕ) (heard : Heard) (list : List Timed) → NextStands before octets delta heard → SpellsTrack heard.after (tick + delta) (drop heard.used octets) list
    → SpellsTrack before tick octets (timed_at (tick + delta) heard.commands ++ list)
one_before before tick octets delta heard list s t =
    let left : drop heard.used octets ≡ s.rest =
    ap (λ (n : ℕ). drop n octets) s.used_is ∙ ap (λ (x : List ℕ). drop (length s.field + length s.text) x) s.split
    ∙ drop-append-add s.field (s.text ++ s.rest) (length s.text) ∙ drop-append_seam s.text s.rest in
    let later : SpellsTrack heard.after (tick + value s.field) s.rest list =
    subst (λ (d : ℕ). SpellsTrack heard.after (tick + d) s.rest list) s.delta_is (subst (λ (x : List ℕ). SpellsTrack heard.after (tick + delta) x list) left t) in
    let all = one_more before heard.after tick s.field s.text s.rest heard.commands list s.field_is s.spelled later in
    subst (λ (x : List ℕ). SpellsTrack before tick x (timed_at (tick + delta) heard.commands ++ list)) (sym s.split)
    (subst (λ (d : ℕ). SpellsTrack before tick (s.field ++ (s.text ++ s.rest)) (timed_at (tick + d) heard.commands ++ list)) (sym s.delta_is) all)

pub track_stands : (n place tick : ℕ) (before : Before) (octets : List ℕ) → HasRunning before → IfOk (track_read n place tick before octets) (SpellsTrack before tick octets)
unfolding track_read
track_stands zero place tick before octets h = tt
track_stands (suc n) place tick before octets h =
    if_then (event_read place before octets) (λ next. before_events tick next (λ x. track_read n (place + x.1.used) (tick + x.0) x.1.after (drop x.1.used octets))) (AfterDelta before octets) (SpellsTrack before tick octets) (event_stands place before octets h)
    (by_next (λ x running. track_stands n (place + x.1.used) (tick + x.0) x.1.after (drop x.1.used octets) running))
  where
    by_next : ((x : ℕ × Heard) → HasRunning x.1.after → IfOk (track_read n (place + x.1.used) (tick + x.0) x.1.after (drop x.1.used octets)) (SpellsTrack x.1.after (tick + x.0) (drop x.1.used octets)))
        → (next : Option (ℕ × Heard)) → AfterDelta before octets next
        → IfOk (before_events tick next (λ x. track_read n (place + x.1.used) (tick + x.0) x.1.after (drop x.1.used octets))) (SpellsTrack before tick octets)
    by_next later None s = subst (λ (x : List ℕ). SpellsTrack before tick x []) (sym s.split) (track_ends before tick s.field s.rest s.field_is)
    by_next later (Some (delta, heard)) s =
        if_then (track_read n (place + heard.used) (tick + delta) heard.after (drop heard.used octets)) (λ list. Ok (timed_at (tick + delta) heard.commands ++ list)) (SpellsTrack heard.after (tick + delta) (drop heard.used octets)) (SpellsTrack before tick octets)
        (later (delta, heard) s.running) (λ list t. one_before before tick octets delta heard list s t)

-- ---- chunks

-- eight octets and what is behind them
pub record Eight (octets : List ℕ) : Type 0 where
  pub a : ℕ
  pub b : ℕ
  pub c : ℕ
  pub d : ℕ
  pub s : ℕ
  pub t : ℕ
  pub u : ℕ
  pub v : ℕ
  pub more : List ℕ
  pub octets_are : octets ≡ a ∷ b ∷ c ∷ d ∷ s ∷ t ∷ u ∷ v ∷ more

pub eight : (octets : List ℕ) → 8 ≤ length octets → Eight octets
eight (a ∷ b ∷ c ∷ d ∷ s ∷ t ∷ u ∷ v ∷ more) l = record { a = a; b = b; c = c; d = d; s = s; t = t; u = u; v = v; more = more; octets_are = refl }
eight [] l = absurd (omega (arith, l))
eight (a ∷ []) l = absurd (omega (arith, l))
eight (a ∷ b ∷ []) l = absurd (omega (arith, l))
eight (a ∷ b ∷ c ∷ []) l = absurd (omega (arith, l))
eight (a ∷ b ∷ c ∷ d ∷ []) l = absurd (omega (arith, l))
eight (a ∷ b ∷ c ∷ d ∷ e ∷ []) l = absurd (omega (arith, l))
eight (a ∷ b ∷ c ∷ d ∷ e ∷ f ∷ []) l = absurd (omega (arith, l))
eight (a ∷ b ∷ c ∷ d ∷ e ∷ f ∷ g ∷ []) l = absurd (omega (arith, l))

-- a chunk stands at the front
pub record ChunkStands (octets : List ℕ) (size : ℕ) : Type 0 where
  pub text : List ℕ
  pub a : ℕ
  pub b : ℕ
  pub c : ℕ
  pub d : ℕ
  pub inside : List ℕ
  pub rest : List ℕ
  pub is_chunk : IsChunk text (a ∷ b ∷ c ∷ d ∷ []) inside
  pub behind : List ℕ
  pub begins : octets ≡ a ∷ b ∷ c ∷ d ∷ behind
  pub split : octets ≡ text ++ rest
  pub size_is : size ≡ 8 + length inside
  pub inside_is : take (size - 8) (drop 8 octets) ≡ inside
  pub rest_is : drop size octets ≡ rest

pub chunk_here : (a b c d s t u v : ℕ) (more : List ℕ) → 8 + number4 s t u v ≤ length (a ∷ b ∷ c ∷ d ∷ s ∷ t ∷ u ∷ v ∷ more)
    → ChunkStands (a ∷ b ∷ c ∷ d ∷ s ∷ t ∷ u ∷ v ∷ more) (8 + number4 s t u v)
chunk_here a b c d s t u v more within =
    let n = number4 s t u v in
    let inside = take n more in
    let len : length inside ≡ n = length-take-le n more (omega (arith, within)) in
    record {
      text = a ∷ b ∷ c ∷ d ∷ s ∷ t ∷ u ∷ v ∷ inside;
      a = a;
      b = b;
      c = c;
      d = d;
      inside = inside;
      rest = drop n more;
      is_chunk = record { size = s ∷ t ∷ u ∷ v ∷ []; four = refl; size_is = subst (λ (m : ℕ). IsSize (s ∷ t ∷ u ∷ v ∷ []) m) (sym len) (four s t u v); text_is = refl };
      behind = s ∷ t ∷ u ∷ v ∷ more;
      begins = refl;
      split = ap (λ (x : List ℕ). a ∷ b ∷ c ∷ d ∷ s ∷ t ∷ u ∷ v ∷ x) (sym (take-append-drop n more));
      size_is = ap (λ (m : ℕ). 8 + m) (sym len);
      inside_is = ap (λ (m : ℕ). take m more) (less_eight n);
      rest_is = drop-append-add (a ∷ b ∷ c ∷ d ∷ s ∷ t ∷ u ∷ v ∷ []) more n;
    }

pub chunk_stands : (place : ℕ) (octets : List ℕ) → IfOk (chunk_read place octets) (ChunkStands octets)
unfolding chunk_read
chunk_stands place octets =
    elim (cases_Bool (ltb (length octets) 8)) [
      | inl t ↦ rw t tt
      | inr f ↦ elim (cases_Bool (ltb (length octets) (8 + size_at octets))) [
        | inl t ↦ rw (f, t) tt
        | inr g ↦
            let e = eight octets (ltb-false (length octets) 8 f) in
            rw (f, g) (here octets e (ltb-false (length octets) (8 + size_at octets) g))
      ]
    ]
  where
    here : (octets : List ℕ) (e : Eight octets) → 8 + size_at octets ≤ length octets → ChunkStands octets (8 + size_at octets)
    here octets e within =
        let all = e.a ∷ e.b ∷ e.c ∷ e.d ∷ e.s ∷ e.t ∷ e.u ∷ e.v ∷ e.more in
        subst (λ (x : List ℕ). ChunkStands x (8 + size_at x)) (sym e.octets_are)
        (chunk_here e.a e.b e.c e.d e.s e.t e.u e.v e.more (subst (λ (x : List ℕ). 8 + size_at x ≤ length x) e.octets_are within))

-- octets that begin as a track do have its name
pub track_begins : (a b c d : ℕ) (more : List ℕ) → is_track (a ∷ b ∷ c ∷ d ∷ more) ≡ true → (a ∷ b ∷ c ∷ d ∷ []) ≡ track_name
unfolding is_track
track_begins a b c d more h =
    let one = and_parts (eqb a 0x4d && eqb b 0x54 && eqb c 0x72) (eqb d 0x6b) h in
    let two = and_parts (eqb a 0x4d && eqb b 0x54) (eqb c 0x72) one.0 in
    let three = and_parts (eqb a 0x4d) (eqb b 0x54) two.0 in
    rw (eqb-true a 0x4d three.0, eqb-true b 0x54 three.1, eqb-true c 0x72 two.1, eqb-true d 0x6b one.1) refl

track_named : (more : List ℕ) → is_track (0x4d ∷ 0x54 ∷ 0x72 ∷ 0x6b ∷ more) ≡ true
unfolding is_track
track_named more = refl

pub other_name : (a b c d : ℕ) (more : List ℕ) → is_track (a ∷ b ∷ c ∷ d ∷ more) ≡ false → (a ∷ b ∷ c ∷ d ∷ []) ≢ track_name
other_name a b c d more f e =
    let same : is_track (a ∷ b ∷ c ∷ d ∷ more) ≡ true = ap (λ (t : List ℕ). is_track (t ++ more)) e ∙ track_named more in
    let never : true ≡ false = sym same ∙ f in
    cc

pub chunks_stand : (n place : ℕ) (octets : List ℕ) → IfOk (chunks_read n place octets) (SpellsChunks octets)
unfolding chunks_read
chunks_stand zero place octets = tt
chunks_stand (suc n) place octets =
    if_then (chunk_read place octets) (λ size. chunk_heard place size octets (chunks_read n (place + size) (drop size octets))) (ChunkStands octets) (SpellsChunks octets) (chunk_stands place octets)
    (λ size s. by_name size s (chunks_stand n (place + size) (drop size octets)))
  where
    by_name : (size : ℕ) (s : ChunkStands octets size) → IfOk (chunks_read n (place + size) (drop size octets)) (SpellsChunks (drop size octets))
        → IfOk (chunk_heard place size octets (chunks_read n (place + size) (drop size octets))) (SpellsChunks octets)
    by_name size s later =
        elim (cases_Bool (is_track octets)) [
          | inl t ↦
              let name = track_begins s.a s.b s.c s.d s.behind (subst (λ (x : List ℕ). is_track x ≡ true) s.begins t) in
              rw t
              (IfOk-weaker (track_read (size - 8) (place + 8) 0 nothing_before (take (size - 8) (drop 8 octets))) (SpellsTrack nothing_before 0 (take (size - 8) (drop 8 octets))) (SpellsChunks octets)
              (λ list spelled.
              subst (λ (x : List ℕ). SpellsChunks x list) (sym s.split)
              (first_track s.text s.inside s.rest list (subst (λ (x : List ℕ). IsChunk s.text x s.inside) name s.is_chunk)
              (subst (λ (x : List ℕ). SpellsTrack nothing_before 0 x list) s.inside_is spelled)))
              (track_stands (size - 8) (place + 8) 0 nothing_before (take (size - 8) (drop 8 octets)) (none_running false)))
          | inr f ↦
              let name = other_name s.a s.b s.c s.d s.behind (subst (λ (x : List ℕ). is_track x ≡ false) s.begins f) in
              rw f
              (IfOk-weaker (chunks_read n (place + size) (drop size octets)) (SpellsChunks (drop size octets)) (SpellsChunks octets)
              (λ list spelled.
              subst (λ (x : List ℕ). SpellsChunks x list) (sym s.split)
              (passed_over s.text (s.a ∷ s.b ∷ s.c ∷ s.d ∷ []) s.inside s.rest list name s.is_chunk (subst (λ (x : List ℕ). SpellsChunks x list) s.rest_is spelled)))
              later)
        ]

-- ---- the header

-- a header stands at the front
pub record HeaderStands (octets : List ℕ) (size : ℕ) : Type 0 where
  pub text : List ℕ
  pub head : List ℕ
  pub rest : List ℕ
  pub headed : IsChunk text header_name head
  pub is_header : IsHeader head
  pub split : octets ≡ text ++ rest
  pub rest_is : drop size octets ≡ rest

-- octets that agree with the name, and are as many, begin with it
pub name_begins : (a b c d : ℕ) (more : List ℕ) → agrees (a ∷ b ∷ c ∷ d ∷ more) header_name ≡ true → (a ∷ b ∷ c ∷ d ∷ []) ≡ header_name
name_begins a b c d more h =
    let one = and_parts (eqb a 0x4d) (agrees (b ∷ c ∷ d ∷ more) (0x54 ∷ 0x68 ∷ 0x64 ∷ [])) h in
    let two = and_parts (eqb b 0x54) (agrees (c ∷ d ∷ more) (0x68 ∷ 0x64 ∷ [])) one.1 in
    let three = and_parts (eqb c 0x68) (agrees (d ∷ more) (0x64 ∷ [])) two.1 in
    let last = and_parts (eqb d 0x64) (agrees more []) three.1 in
    rw (eqb-true a 0x4d one.0, eqb-true b 0x54 two.0, eqb-true c 0x68 three.0, eqb-true d 0x64 last.0) refl

abbrev HasFields : (inside : List ℕ) → ℕ → Type 0
HasFields inside size = (size ≡ 8 + length inside) × IsHeader inside

-- the fields of a header, which stand behind its name and its length
fields_stand : (p q r s t u v w : ℕ) (inside rest : List ℕ) → IfOk (fields_read (p ∷ q ∷ r ∷ s ∷ t ∷ u ∷ v ∷ w ∷ (inside ++ rest)) (8 + length inside)) (HasFields inside)
fields_stand p q r s t u v w [] rest = tt
fields_stand p q r s t u v w (e ∷ []) rest = tt
fields_stand p q r s t u v w (e ∷ f ∷ []) rest = tt
fields_stand p q r s t u v w (e ∷ f ∷ a ∷ []) rest = tt
fields_stand p q r s t u v w (e ∷ f ∷ a ∷ b ∷ []) rest = tt
fields_stand p q r s t u v w (e ∷ f ∷ a ∷ b ∷ c ∷ []) rest = tt
fields_stand p q r s t u v w (e ∷ f ∷ a ∷ b ∷ c ∷ d ∷ more) rest =
    let long : ltb (8 + length (e ∷ f ∷ a ∷ b ∷ c ∷ d ∷ more)) 14 ≡ false = le-ltb (8 + length (e ∷ f ∷ a ∷ b ∷ c ∷ d ∷ more)) 14 (omega arith) in
    elim (cases_Bool (ltb 0 (number2 e f))) [
      | inl x ↦ rw (long, x) tt
      | inr format ↦ elim (cases_Bool (eqb (number2 c d) 0)) [
        | inl x ↦ rw (long, format, x) tt
        | inr some ↦ elim (cases_Bool (leb 0x8000 (number2 c d))) [
          | inl x ↦ rw (long, format, some, x) tt
          | inr few ↦
              let zero_is = ltb-false 0 (number2 e f) format in
              let other = eqb-false (number2 c d) 0 some in
              let below = leb-false 0x8000 (number2 c d) few in
              rw (long, format, some, few) (refl, header e f a b c d more (none (number2 e f) zero_is) (more_than (number2 c d) other) below)
        ]
      ]
    ]
  where
    none : (n : ℕ) → n ≤ 0 → n ≡ 0
    none n h = omega (arith, h)

    more_than : (n : ℕ) → n ≢ 0 → 1 ≤ n
    more_than n h = grind arith

header_stands : (octets : List ℕ) → IfOk (header_read octets) (HeaderStands octets)
unfolding header_read
header_stands octets =
    elim (cases_Bool (agrees octets header_name)) [
      | inl t ↦ rw t (if_then (chunk_read 0 octets) (fields_read octets) (ChunkStands octets) (HeaderStands octets) (chunk_stands 0 octets) (λ size c. by_fields size c t))
      | inr f ↦ rw f tt
    ]
  where
    by_fields : (size : ℕ) (c : ChunkStands octets size) → agrees octets header_name ≡ true → IfOk (fields_read octets size) (HeaderStands octets)
    by_fields size c named =
        let p = spread c.text (c.a ∷ c.b ∷ c.c ∷ c.d ∷ []) c.inside c.rest c.is_chunk in
        let name = name_begins c.a c.b c.c c.d c.behind (subst (λ (x : List ℕ). agrees x header_name ≡ true) c.begins named) in
        let spelled = c.split ∙ p.text_is in
        let fields = fields_stand p.a p.b p.c p.d p.s p.t p.u p.v c.inside c.rest in
        let there : IfOk (fields_read octets size) (HasFields c.inside) =
        subst (λ (n : ℕ). IfOk (fields_read octets n) (HasFields c.inside)) (sym c.size_is) (subst (λ (x : List ℕ). IfOk (fields_read x (8 + length c.inside)) (HasFields c.inside)) (sym spelled) fields) in
        IfOk-weaker (fields_read octets size) (HasFields c.inside) (HeaderStands octets)
        (λ n h. record {
          text = c.text;
          head = c.inside;
          rest = c.rest;
          headed = subst (λ (x : List ℕ). IsChunk c.text x c.inside) name c.is_chunk;
          is_header = h.1;
          split = c.split;
          rest_is = ap (λ (m : ℕ). drop m octets) (h.0 ∙ sym c.size_is) ∙ c.rest_is;
        })
        there

-- What is read is spelled.
pub read_is_spelled : (octets : List ℕ) → IfOk (file_read octets) (IsFile octets)
unfolding file_read
read_is_spelled octets =
    if_then (header_read octets) (λ size. chunks_read (length octets) size (drop size octets)) (HeaderStands octets) (IsFile octets) (header_stands octets)
    (λ size h.
    IfOk-weaker (chunks_read (length octets) size (drop size octets)) (SpellsChunks (drop size octets)) (IsFile octets)
    (λ list spelled. record {
      text = h.text;
      head = h.head;
      rest = h.rest;
      split = h.split;
      headed = h.headed;
      header = h.is_header;
      spelled = subst (λ (x : List ℕ). SpellsChunks x list) h.rest_is spelled;
    })
    (chunks_stand (length octets) size (drop size octets)))
