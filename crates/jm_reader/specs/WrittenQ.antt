-- What is written of the song position is read: Chapter Q (RFC 6295, B.3, Figure B.3.1).
use Rattle.std.proofs.Common.{◌≡◌, ℕ, ◌+◌, ◌*◌, ◌/◌, ◌%◌, ◌<◌, Bool, true, false, not, cond, eqb, List, [], ◌∷◌, ◌++◌, Option, Some, None, length, refl, sym, ap, ◌∙◌, arith, inl, inr}
use Rattle.std.specs.List.{flat_map, AllByRecursion}
use Rattle.std.proofs.lemmas.Bool.{cases_Bool, eqb-true}
use Rattle.std.proofs.lemmas.List.{append-nil}
use Rattle.jm_wire.specs.Numbers.{be16}
use Rattle.jm_wire.specs.declared.heads.SeqHead.{SeqHead}
use Rattle.jm_wire.specs.Heads.{seq_octets, FitsSeq}
use Rattle.jm_wire.specs.HeadLaws.{seq_back}
use Rattle.jm_cmds.specs.declared.history.Sent.{Sent}
use Rattle.jm_cmds.specs.declared.sequencing.SequencerPart.{SequencerPart}
use Rattle.jm_cmds.specs.Command.{IsCommand}
use Rattle.jm_cmds.specs.History.{below}
use Rattle.jm_cmds.specs.Sent.{packet_of, is_fresh}
use Rattle.jm_cmds.specs.Sequencing.{sequencer_after}
use Rattle.ch_system.specs.declared.items.SystemItem.TheVariants.{Sequence}
use Rattle.ch_system.specs.Items.{item_coded}
use Rattle.ch_system.specs.ItemLaws.{none, one, one-coded}
use Rattle.ch_system.specs.SequencingLaws.{IsSequencer-after, position_there}
use Rattle.ch_system.specs.StateLaws.{value_of}
use Rattle.ch_system.specs.ChapterQ.{chapter_q, sequencer_head, sequencer_octets}
use Rattle.jm_journal.specs.Channel.{is_there}
use Rattle.jm_reader.specs.declared.logs.Log.{Log}
use Rattle.jm_reader.specs.declared.logs.LogKind.TheVariants as logs
use Rattle.jm_reader.specs.ChapterQ.{q_at, q_read, q_ends}

-- ## What is coded

abbrev pub position_log : Bool → SequencerPart → Log
position_log fresh state = record { fresh = fresh; what = logs.Sequencer state.running state.downbeat state.position }

abbrev pub position_said : Bool → Option SequencerPart → List Log
position_said fresh None = []
position_said fresh (Some state) = position_log fresh state ∷ []

-- The song position, where the latest of its commands is coded.
unfoldable pub q_said : (checkpoint packet : ℕ) → List Sent → List Log
q_said checkpoint packet sent =
    flat_map (λ place. position_said (is_fresh packet place) (sequencer_after (below packet_of packet sent))) (item_coded Sequence checkpoint packet sent)

-- ## One log

turned : (fresh : Bool) → cond (not fresh) false true ≡ fresh
turned true = refl
turned false = refl

-- what stands behind a header
head_again : (head : SeqHead) (rest : List ℕ) → FitsSeq head → q_read (seq_octets head ++ rest) ≡ q_at head rest
head_again head rest f = ap (λ (h : SeqHead). q_at h rest) (seq_back head f)

head_goes_on : (head : SeqHead) (rest : List ℕ) → FitsSeq head → head.t ≡ false → q_ends (seq_octets head ++ rest) ≡ false
head_goes_on head rest f t = ap (λ (h : SeqHead). h.t) (seq_back head f) ∙ t

position_again : (fresh : Bool) (s : SequencerPart) (rest : List ℕ) → s.position < 524288 →
    q_read (sequencer_octets fresh s ++ rest) ≡ Some (position_log fresh s ∷ [], length (sequencer_octets fresh s))
position_again fresh s rest l =
    let n = s.position % 65536 in
    elim (cases_Bool (eqb s.position 0)) [
      | inl z ↦
          let zero : 0 ≡ s.position = sym (eqb-true s.position 0 z) in
          rw z (head_again (sequencer_head fresh false s) rest (omega arith)
          ∙ ap (λ (b : Bool). Some (let log : Log = record { fresh = b; what = logs.Sequencer s.running s.downbeat 0 } in log ∷ [], 1)) (turned fresh)
          ∙ ap (λ (p : ℕ). Some (let log : Log = record { fresh = fresh; what = logs.Sequencer s.running s.downbeat p } in log ∷ [], 1)) zero)
      | inr m ↦
          let whole : 65536 * (s.position / 65536) + (256 * (n / 256 % 256) + n % 256) ≡ s.position = omega (arith, l) in
          rw m (head_again (sequencer_head fresh true s) (be16 n ++ rest) (omega (arith, l))
          ∙ ap (λ (b : Bool). Some (let log : Log = record { fresh = b; what = logs.Sequencer s.running s.downbeat (65536 * (s.position / 65536) + (256 * (n / 256 % 256) + n % 256)) } in log ∷ [], 3)) (turned fresh)
          ∙ ap (λ (p : ℕ). Some (let log : Log = record { fresh = fresh; what = logs.Sequencer s.running s.downbeat p } in log ∷ [], 3)) whole)
    ]

position_goes_on : (fresh : Bool) (s : SequencerPart) (rest : List ℕ) → s.position < 524288 → q_ends (sequencer_octets fresh s ++ rest) ≡ false
position_goes_on fresh s rest l =
    elim (cases_Bool (eqb s.position 0)) [
      | inl z ↦ rw z (head_goes_on (sequencer_head fresh false s) rest (omega (arith, l)) refl)
      | inr m ↦ rw m (head_goes_on (sequencer_head fresh true s) (be16 (s.position % 65536) ++ rest) (omega (arith, l)) refl)
    ]

-- ## The chapter

-- What is written of the song position is read as what is coded of it, whatever follows.
pub q_again : (checkpoint packet : ℕ) (sent : List Sent) → AllByRecursion (λ place. IsCommand place.command) sent → is_there (chapter_q checkpoint packet sent) ≡ true → (rest : List ℕ) →
    q_read (chapter_q checkpoint packet sent ++ rest) ≡ Some (q_said checkpoint packet sent, length (chapter_q checkpoint packet sent))
unfolding chapter_q q_said
q_again checkpoint packet sent h there rest =
    elim (one-coded Sequence checkpoint packet sent) [
      | none e ↦ absurd (let empty : is_there (chapter_q checkpoint packet sent) ≡ false = rw e refl in cc)
      | one x e ↦
          let state = value_of (sequencer_after (below packet_of packet sent)) (position_there checkpoint packet sent x [] e) in
          let bound = IsSequencer-after packet sent h in
          rw (e, state.is, append-nil (sequencer_octets (is_fresh packet x) state.value)) (position_again (is_fresh packet x) state.value rest (rw state.is at bound))
    ]

-- Nothing behind it is passed over.
pub q_goes_on : (checkpoint packet : ℕ) (sent : List Sent) → AllByRecursion (λ place. IsCommand place.command) sent → is_there (chapter_q checkpoint packet sent) ≡ true → (rest : List ℕ) →
    q_ends (chapter_q checkpoint packet sent ++ rest) ≡ false
unfolding chapter_q
q_goes_on checkpoint packet sent h there rest =
    elim (one-coded Sequence checkpoint packet sent) [
      | none e ↦ absurd (let empty : is_there (chapter_q checkpoint packet sent) ≡ false = rw e refl in cc)
      | one x e ↦
          let state = value_of (sequencer_after (below packet_of packet sent)) (position_there checkpoint packet sent x [] e) in
          let bound = IsSequencer-after packet sent h in
          rw (e, state.is, append-nil (sequencer_octets (is_fresh packet x) state.value)) (position_goes_on (is_fresh packet x) state.value rest (rw state.is at bound))
    ]

position_has : (fresh : Bool) (s : SequencerPart) → is_there (sequencer_octets fresh s ++ []) ≡ true
position_has fresh s = elim (cases_Bool (eqb s.position 0)) [ inl z ↦ rw z refl | inr m ↦ rw m refl ]

-- Where the chapter isn't there, nothing of it is coded.
pub q_none : (checkpoint packet : ℕ) (sent : List Sent) → is_there (chapter_q checkpoint packet sent) ≡ false → q_said checkpoint packet sent ≡ []
unfolding chapter_q q_said
q_none checkpoint packet sent n =
    elim (one-coded Sequence checkpoint packet sent) [
      | none e ↦ rw e refl
      | one x e ↦
          let state = value_of (sequencer_after (below packet_of packet sent)) (position_there checkpoint packet sent x [] e) in
          absurd (let some : is_there (chapter_q checkpoint packet sent) ≡ true = rw (e, state.is) (position_has (is_fresh packet x) state.value) in cc)
    ]

pub record SequencerIsRead : Type 0 where
  pub there : (checkpoint packet : ℕ) (sent : List Sent) → AllByRecursion (λ place. IsCommand place.command) sent → is_there (chapter_q checkpoint packet sent) ≡ true → (rest : List ℕ) →
      q_read (chapter_q checkpoint packet sent ++ rest) ≡ Some (q_said checkpoint packet sent, length (chapter_q checkpoint packet sent))
  pub goes_on : (checkpoint packet : ℕ) (sent : List Sent) → AllByRecursion (λ place. IsCommand place.command) sent → is_there (chapter_q checkpoint packet sent) ≡ true → (rest : List ℕ) →
      q_ends (chapter_q checkpoint packet sent ++ rest) ≡ false
  pub none : (checkpoint packet : ℕ) (sent : List Sent) → is_there (chapter_q checkpoint packet sent) ≡ false → q_said checkpoint packet sent ≡ []

pub sequencer_is_read : SequencerIsRead
sequencer_is_read = record { there = q_again; goes_on = q_goes_on; none = q_none }
