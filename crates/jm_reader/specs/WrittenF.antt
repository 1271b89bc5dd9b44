-- What is written of time code is read: Chapter F (RFC 6295, B.4, Figures B.4.1 and B.4.2).
use Rattle.std.proofs.Common.{◌≡◌, ℕ, suc, ◌+◌, ◌/◌, ◌%◌, ◌<◌, Bool, true, false, not, cond, ◌&&◌, eqb, List, [], ◌∷◌, ◌++◌, Option, Some, None, length, fold, refl, sym, ap, ◌∙◌, arith, inl, inr, append_assoc, length-append}
use Rattle.std.proofs.Math.Seq.{drop-append_seam}
use Rattle.std.specs.List.{flat_map, AllByRecursion}
use Rattle.std.specs.Option.{is_some}
use Rattle.std.proofs.lemmas.Bool.{cases_Bool, lt-ltb}
use Rattle.std.proofs.lemmas.List.{append-nil}
use Rattle.std.proofs.lemmas.Nat.{from_be_bytes-to_be_bytes_4}
use Rattle.jm_wire.specs.declared.heads.TimeHead.{TimeHead}
use Rattle.jm_wire.specs.Heads.{time_octets, FitsTime}
use Rattle.jm_wire.specs.HeadLaws.{time_back}
use Rattle.jm_cmds.specs.declared.history.Sent.{Sent}
use Rattle.jm_cmds.specs.declared.frames.TimePart.{TimePart}
use Rattle.jm_cmds.specs.declared.frames.FrameEvent.{FrameEvent}
use Rattle.jm_cmds.specs.declared.frames.FrameEvent.TheVariants.{Framed, Cleared, Other}
use Rattle.jm_cmds.specs.Command.{IsCommand}
use Rattle.jm_cmds.specs.Frames.{frame_event, set_nibble, time_code_from, restarted, advanced, is_next, framed_on, time_code_step, time_code_along, time_code_after}
use Rattle.jm_cmds.specs.History.{below}
use Rattle.jm_cmds.specs.Sent.{packet_of, is_fresh}
use Rattle.ch_system.specs.declared.items.SystemItem.TheVariants.{Frames}
use Rattle.ch_system.specs.Items.{item_coded}
use Rattle.ch_system.specs.ItemLaws.{none, one, one-coded}
use Rattle.ch_system.specs.FrameLaws.{IsTimeCode-after, time_code_there}
use Rattle.ch_system.specs.StateLaws.{value_of}
use Rattle.ch_system.specs.ChapterF.{chapter_f, code_head, code_octets, word_octets}
use Rattle.jm_journal.specs.Channel.{is_there}
use Rattle.jm_reader.specs.declared.logs.Log.{Log}
use Rattle.jm_reader.specs.declared.logs.LogKind.TheVariants as logs
use Rattle.jm_reader.specs.ChapterF.{word_read, time_logs, partial_read, complete_read, f_at, f_read}

-- ## What is coded

abbrev pub code_log : Bool → TimePart → Log
code_log fresh code = record { fresh = fresh; what = logs.TimeCode code.complete code.partial code.backward code.point }

abbrev pub code_said : Bool → Option TimePart → List Log
code_said fresh None = []
code_said fresh (Some code) = code_log fresh code ∷ []

-- What quarter frames have spelled, where the latest of them is coded.
unfoldable pub f_said : (checkpoint packet : ℕ) → List Sent → List Log
f_said checkpoint packet sent =
    flat_map (λ place. code_said (is_fresh packet place) (time_code_after (below packet_of packet sent))) (item_coded Frames checkpoint packet sent)

-- ## The words have 32 bits

abbrev FitsWord : Option ℕ → Type 0
FitsWord None = Unit {0}
FitsWord (Some word) = word < 4294967296

abbrev FitsCode : TimePart → Type 0
FitsCode code = FitsWord code.complete × FitsWord code.partial

abbrev FitsState : Option TimePart → Type 0
FitsState None = Unit {0}
FitsState (Some code) = FitsCode code

set_small : (word kind nibble : ℕ) → word < 4294967296 → nibble < 16 → set_nibble word kind nibble < 4294967296
unfolding set_nibble
set_small word kind nibble w n =
    elim (cases_Bool (eqb kind 0)) [
      | inl a ↦ rw a (omega (arith, w, n))
      | inr na ↦ elim (cases_Bool (eqb kind 1)) [
        | inl b ↦ rw (na, b) (omega (arith, w, n))
        | inr nb ↦ elim (cases_Bool (eqb kind 2)) [
          | inl c ↦ rw (na, nb, c) (omega (arith, w, n))
          | inr nc ↦ elim (cases_Bool (eqb kind 3)) [
            | inl d ↦ rw (na, nb, nc, d) (omega (arith, w, n))
            | inr nd ↦ elim (cases_Bool (eqb kind 4)) [
              | inl e ↦ rw (na, nb, nc, nd, e) (omega (arith, w, n))
              | inr ne ↦ elim (cases_Bool (eqb kind 5)) [
                | inl f ↦ rw (na, nb, nc, nd, ne, f) (omega (arith, w, n))
                | inr nf ↦ elim (cases_Bool (eqb kind 6)) [
                  | inl g ↦ rw (na, nb, nc, nd, ne, nf, g) (omega (arith, w, n))
                  | inr ng ↦ rw (na, nb, nc, nd, ne, nf, ng) (omega (arith, w, n))
                ]
              ]
            ]
          ]
        ]
      ]
    ]

fits-from : (state : Option TimePart) → FitsState state → FitsCode (time_code_from state)
fits-from None f = (tt, tt)
fits-from (Some code) f = f

fits-restarted : (kind nibble : ℕ) (code : TimePart) → nibble < 16 → FitsCode code → FitsCode (restarted kind nibble code)
fits-restarted kind nibble code n f =
    elim (cases_Bool (eqb kind 0)) [
      | inl t ↦ rw t (f.0, set_small 0 0 nibble (omega arith) n)
      | inr o ↦ elim (cases_Bool (eqb kind 7)) [ inl s ↦ rw (o, s) (f.0, set_small 0 7 nibble (omega arith) n) | inr r ↦ rw (o, r) (f.0, tt) ]
    ]

fits-advanced : (kind nibble word : ℕ) (code : TimePart) → nibble < 16 → word < 4294967296 → FitsCode code → FitsCode (advanced kind nibble word code)
fits-advanced kind nibble word code n w f =
    let small = set_small word kind nibble w n in
    elim (cases_Bool (eqb kind (cond code.backward 0 7))) [ inl t ↦ rw t (small, tt) | inr o ↦ rw o (f.0, small) ]

fits-framed : (kind nibble : ℕ) (code : TimePart) (partial : Option ℕ) → nibble < 16 → FitsWord partial → FitsCode code → FitsCode (framed_on kind nibble code partial)
fits-framed kind nibble code None n w f = fits-restarted kind nibble code n f
fits-framed kind nibble code (Some word) n w f =
    elim (cases_Bool (is_next kind code)) [
      | inl t ↦ rw t (fits-advanced kind nibble word code n w f)
      | inr o ↦ rw o (fits-restarted kind nibble code n f)
    ]

fits-step : (state : Option TimePart) (event : FrameEvent) → FitsState state → FitsState (time_code_step state event)
fits-step state (Framed value) f =
    let code = time_code_from state in
    let fits = fits-from state f in
    fits-framed (value / 16) (value % 16) code code.partial (omega arith) fits.1 fits
fits-step state Cleared f = tt
fits-step state Other f = f

fits-fold : (state : Option TimePart) (sent : List Sent) → FitsState state → FitsState (fold time_code_along state sent)
fits-fold state [] f = f
fits-fold state (x ∷ xs) f = fits-fold (time_code_along state x) xs (fits-step state (frame_event x.command) f)

fits-after : (sent : List Sent) → FitsState (time_code_after sent)
unfolding time_code_after
fits-after sent = fits-fold None sent tt

-- ## One log

word_again : (word : Option ℕ) (rest : List ℕ) → FitsWord word → word_read (is_some word) (word_octets word ++ rest) ≡ Some (word, length (word_octets word))
word_again None rest f = refl
word_again (Some word) rest f = ap (λ (n : ℕ). Some (Some n, 4)) (from_be_bytes-to_be_bytes_4 word f)

turned : (fresh : Bool) → cond (not fresh) false true ≡ fresh
turned true = refl
turned false = refl

-- COMPLETE is of quarter frames
own_word : (b : Bool) → (b && cond b false true) ≡ false
own_word true = refl
own_word false = refl

logs_again : (fresh : Bool) (code : TimePart) → time_logs (code_head fresh code) code.complete code.partial ≡ code_log fresh code ∷ []
logs_again fresh code = rw (own_word (is_some code.complete), turned fresh) refl

-- what stands behind a header
head_again : (head : TimeHead) (rest : List ℕ) → FitsTime head → f_read (time_octets head ++ rest) ≡ f_at head rest
head_again head rest f = ap (λ (h : TimeHead). f_at h rest) (time_back head f)

words_again : (fresh : Bool) (code : TimePart) (rest : List ℕ) → FitsCode code →
    f_at (code_head fresh code) (word_octets code.complete ++ (word_octets code.partial ++ rest))
    ≡ Some (code_log fresh code ∷ [], 1 + length (word_octets code.complete) + length (word_octets code.partial))
words_again fresh code rest f =
    let head = code_head fresh code in
    let behind = word_octets code.complete ++ (word_octets code.partial ++ rest) in
    let used = length (word_octets code.complete) in
    ap (complete_read head behind) (word_again code.complete (word_octets code.partial ++ rest) f.0)
    ∙ ap (λ (octets : List ℕ). partial_read head code.complete used (word_read (is_some code.partial) octets)) (drop-append_seam (word_octets code.complete) (word_octets code.partial ++ rest))
    ∙ ap (partial_read head code.complete used) (word_again code.partial rest f.1)
    ∙ ap (λ (l : List Log). Some (l, 1 + used + length (word_octets code.partial))) (logs_again fresh code)

code_again : (fresh : Bool) (code : TimePart) (rest : List ℕ) → code.point < 8 → FitsCode code →
    f_read (code_octets fresh code ++ rest) ≡ Some (code_log fresh code ∷ [], length (code_octets fresh code))
code_again fresh code rest p f =
    let complete = word_octets code.complete in
    let partial = word_octets code.partial in
    let size : 1 + length complete + length partial ≡ suc (length (complete ++ partial)) = omega (arith, length-append complete partial) in
    head_again (code_head fresh code) ((complete ++ partial) ++ rest) p
    ∙ ap (f_at (code_head fresh code)) (append_assoc complete partial rest)
    ∙ words_again fresh code rest f
    ∙ ap (λ (n : ℕ). Some (code_log fresh code ∷ [], n)) size

-- the log of a place by itself
alone_again : (fresh : Bool) (code : TimePart) (rest : List ℕ) → code.point < 8 → FitsCode code →
    f_read ((code_octets fresh code ++ []) ++ rest) ≡ Some (code_log fresh code ∷ [], length (code_octets fresh code ++ []))
alone_again fresh code rest p f =
    let e = append-nil (code_octets fresh code) in
    ap (λ (octets : List ℕ). f_read (octets ++ rest)) e
    ∙ code_again fresh code rest p f
    ∙ ap (λ (octets : List ℕ). Some (code_log fresh code ∷ [], length octets)) (sym e)

-- ## The chapter

-- What is written of time code is read as what is coded of it, whatever follows.
pub f_again : (checkpoint packet : ℕ) (sent : List Sent) → AllByRecursion (λ place. IsCommand place.command) sent → is_there (chapter_f checkpoint packet sent) ≡ true → (rest : List ℕ) →
    f_read (chapter_f checkpoint packet sent ++ rest) ≡ Some (f_said checkpoint packet sent, length (chapter_f checkpoint packet sent))
unfolding chapter_f f_said
f_again checkpoint packet sent h there rest =
    elim (one-coded Frames checkpoint packet sent) [
      | none e ↦ absurd (let empty : is_there (chapter_f checkpoint packet sent) ≡ false = rw e refl in cc)
      | one x e ↦
          let state = value_of (time_code_after (below packet_of packet sent)) (time_code_there checkpoint packet sent x [] e) in
          let bound = IsTimeCode-after packet sent h in
          let fits = fits-after (below packet_of packet sent) in
          rw (e, state.is) (alone_again (is_fresh packet x) state.value rest (rw state.is at bound) (rw state.is at fits))
    ]

-- Where the chapter isn't there, nothing of it is coded.
pub f_none : (checkpoint packet : ℕ) (sent : List Sent) → is_there (chapter_f checkpoint packet sent) ≡ false → f_said checkpoint packet sent ≡ []
unfolding chapter_f f_said
f_none checkpoint packet sent n =
    elim (one-coded Frames checkpoint packet sent) [
      | none e ↦ rw e refl
      | one x e ↦
          let state = value_of (time_code_after (below packet_of packet sent)) (time_code_there checkpoint packet sent x [] e) in
          let words = (word_octets state.value.complete ++ word_octets state.value.partial) ++ [] in
          absurd (let some : is_there (chapter_f checkpoint packet sent) ≡ true = rw (e, state.is) (lt-ltb 0 (suc (length words)) (omega arith)) in cc)
    ]

pub record TimeCodeIsRead : Type 0 where
  pub there : (checkpoint packet : ℕ) (sent : List Sent) → AllByRecursion (λ place. IsCommand place.command) sent → is_there (chapter_f checkpoint packet sent) ≡ true → (rest : List ℕ) →
      f_read (chapter_f checkpoint packet sent ++ rest) ≡ Some (f_said checkpoint packet sent, length (chapter_f checkpoint packet sent))
  pub none : (checkpoint packet : ℕ) (sent : List Sent) → is_there (chapter_f checkpoint packet sent) ≡ false → f_said checkpoint packet sent ≡ []

pub time_code_is_read : TimeCodeIsRead
time_code_is_read = record { there = f_again; none = f_none }
