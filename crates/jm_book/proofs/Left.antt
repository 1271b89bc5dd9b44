-- The segments that are left of a long command, after so many data octets were sent.
use Rattle.std.proofs.Common.{ℕ, zero, suc, ◌+◌, ◌-◌, ◌<◌, ◌≤◌, ◌≡◌, ◌∙◌, refl, sym, ap, true, false, List, [], ◌∷◌, length, take, drop, Some, None, arith, inl, inr, length-drop}
use Rattle.std.specs.Prelude.{◌/◌, ◌%◌, min, ◌==◌, nat_le}
use Rattle.std.proofs.lemmas.Bool.{cases_Bool, eqb-true}
use Rattle.std.proofs.lemmas.Bool.Decides.{nat_tests}
use Rattle.std.proofs.lemmas.List.{drop-drop}
use Rattle.jm_section.specs.declared.item.PartKind.{PartKind}
use Rattle.jm_section.specs.declared.item.PartKind.TheVariants.{First, Middle, Last}
use Rattle.jm_book.specs.Segments.{Segment, middle_segment, last_segment, later_segments, segments_of, next_segment}
use Rattle.jm_book.specs.SegmentLaws.{later_any, length_later}
use Rattle.jm_book.specs.Unsent.{segments_left}

abbrev segment_with : PartKind → List ℕ → Segment
segment_with kind octets = record { kind = kind; octets = octets }

-- ---- by cases

pub left_none : (sent : ℕ) (octets : List ℕ) → length octets ≡ 0 → segments_left sent octets ≡ []
unfolding segments_left
left_none sent octets none = rw none refl

pub left_first : (octets : List ℕ) → 0 < length octets → segments_left 0 octets ≡ segments_of octets
unfolding segments_left
left_first octets some =
    let not_none : (length octets == 0) ≡ false = grind (arith, nat_tests, some) in
    rw not_none refl

pub left_later : (sent : ℕ) (octets : List ℕ) → 0 < sent → 0 < length octets → segments_left sent octets ≡ later_segments (length octets) octets
unfolding segments_left
left_later sent octets begun some =
    let not_none : (length octets == 0) ≡ false = grind (arith, nat_tests, some) in
    let not_first : (sent == 0) ≡ false = grind (arith, nat_tests, begun) in
    rw (not_none, not_first) refl

later_last : (most : ℕ) (octets : List ℕ) → 1 ≤ most → length octets ≤ 2046 → later_segments most octets ≡ last_segment octets ∷ []
later_last zero octets room few = absurd (omega arith)
later_last (suc most) octets room few =
    let last : nat_le (length octets) 2046 ≡ true = grind (arith, nat_tests, few) in
    rw last refl

later_middle : (most : ℕ) (octets : List ℕ) → 1 ≤ most → 2046 < length octets → later_segments most octets ≡ middle_segment octets ∷ later_segments (most - 1) (drop 2046 octets)
later_middle zero octets room many = absurd (omega arith)
later_middle (suc most) octets room many =
    let more : nat_le (length octets) 2046 ≡ false = grind (arith, nat_tests, many) in
    let less : suc most - 1 ≡ most = omega arith in
    rw (more, less) refl

pub left_last : (sent : ℕ) (octets : List ℕ) → 0 < sent → 0 < length octets → length octets ≤ 2046 → segments_left sent octets ≡ last_segment octets ∷ []
left_last sent octets begun some few = left_later sent octets begun some ∙ later_last (length octets) octets (omega arith) few

pub left_middle : (sent : ℕ) (octets : List ℕ) → 0 < sent → 2046 < length octets → segments_left sent octets ≡ middle_segment octets ∷ later_segments (length octets - 1) (drop 2046 octets)
left_middle sent octets begun many = left_later sent octets begun (omega arith) ∙ later_middle (length octets) octets (omega arith) many

-- ---- how many

pub left_count : (sent : ℕ) (octets : List ℕ) → (sent ≡ 0 → 0 < length octets → 2046 < length octets) → length (segments_left sent octets) ≡ length octets / 2046 + min 1 (length octets % 2046)
left_count sent octets long = elim (cases_Bool (length octets == 0)) [
  | inl none ↦
      let is : length octets ≡ 0 = eqb-true (length octets) 0 none in
      rw (left_none sent octets is) (omega arith)
  | inr some ↦
      let many : 0 < length octets = grind (arith, nat_tests, some) in
      elim (cases_Bool (sent == 0)) [
        | inl first ↦
            let is : sent ≡ 0 = eqb-true sent 0 first in
            let more : 2046 < length octets = long is many in
            let rest = length-drop 2046 octets in
            let later = length_later (length octets) (drop 2046 octets) (omega arith) (omega arith) in
            let all : segments_left sent octets ≡ segments_of octets = rw is (left_first octets many) in
            rw all (omega arith)
        | inr begun ↦
            let after : 0 < sent = grind (arith, nat_tests, begun) in
            let later = length_later (length octets) octets (omega arith) (omega arith) in
            rw (left_later sent octets after many) (omega arith)
      ]
]

-- ---- the first one is taken off

-- others are left
pub left_drop : (sent : ℕ) (octets : List ℕ) → sent + 2046 < length octets → segments_left (sent + 2046) (drop (sent + 2046) octets) ≡ drop 1 (segments_left sent (drop sent octets))
left_drop sent octets more =
    let here = length-drop sent octets in
    let there = length-drop (sent + 2046) octets in
    let same : drop 2046 (drop sent octets) ≡ drop (sent + 2046) octets = drop-drop 2046 sent octets in
    let now : segments_left (sent + 2046) (drop (sent + 2046) octets) ≡ later_segments (length (drop (sent + 2046) octets)) (drop (sent + 2046) octets) =
    left_later (sent + 2046) (drop (sent + 2046) octets) (omega arith) (omega arith) in
    elim (cases_Bool (sent == 0)) [
      | inl first ↦
          let is : sent ≡ 0 = eqb-true sent 0 first in
          let before : segments_left sent (drop sent octets) ≡ segments_of (drop sent octets) =
          ap (λ (k : ℕ). segments_left k (drop sent octets)) is ∙ left_first (drop sent octets) (omega arith) in
          let taken : drop 1 (segments_left sent (drop sent octets)) ≡ later_segments (length (drop sent octets)) (drop (sent + 2046) octets) =
          ap (λ (segments : List Segment). drop 1 segments) before ∙ ap (λ (rest : List ℕ). later_segments (length (drop sent octets)) rest) same in
          now ∙ later_any (length (drop (sent + 2046) octets)) (length (drop sent octets)) (drop (sent + 2046) octets) (omega arith) (omega arith) (omega arith) ∙ sym taken
      | inr begun ↦
          let after : 0 < sent = grind (arith, nat_tests, begun) in
          let before = left_middle sent (drop sent octets) after (omega arith) in
          let taken : drop 1 (segments_left sent (drop sent octets)) ≡ later_segments (length (drop sent octets) - 1) (drop (sent + 2046) octets) =
          ap (λ (segments : List Segment). drop 1 segments) before ∙ ap (λ (rest : List ℕ). later_segments (length (drop sent octets) - 1) rest) same in
          now ∙ later_any (length (drop (sent + 2046) octets)) (length (drop sent octets) - 1) (drop (sent + 2046) octets) (omega arith) (omega arith) (omega arith) ∙ sym taken
    ]

-- none is left
pub left_all : (sent : ℕ) (octets : List ℕ) → (sent ≡ 0 → 0 < length octets → 2046 < length octets) → length octets ≤ sent + 2046 → [] ≡ drop 1 (segments_left sent (drop sent octets))
left_all sent octets long few =
    let here = length-drop sent octets in
    elim (cases_Bool (length (drop sent octets) == 0)) [
      | inl none ↦
          let is : length (drop sent octets) ≡ 0 = eqb-true (length (drop sent octets)) 0 none in
          rw (left_none sent (drop sent octets) is) refl
      | inr some ↦
          let many : 0 < length (drop sent octets) = grind (arith, nat_tests, some) in
          elim (cases_Bool (sent == 0)) [
            | inl first ↦
                let is : sent ≡ 0 = eqb-true sent 0 first in
                let more : 2046 < length octets = long is (omega arith) in
                absurd (omega arith)
            | inr begun ↦
                let after : 0 < sent = grind (arith, nat_tests, begun) in
                rw (left_last sent (drop sent octets) after many (omega arith)) refl
          ]
    ]

-- ---- the first one

-- what isn't sent of a message that isn't begun is the whole of it
pub first_many : (sent : ℕ) (octets rest : List ℕ) → sent ≡ 0 → rest ≡ drop sent octets → (sent ≡ 0 → 0 < length octets → 2046 < length octets) → 0 < length rest → 2046 < length rest
first_many sent octets rest is same long some =
    let size : length rest ≡ length octets - sent = ap length same ∙ length-drop sent octets in
    let many : 2046 < length octets = long is (omega arith) in
    omega arith

pub next_nothing : (sent : ℕ) (octets rest : List ℕ) → rest ≡ drop sent octets → length rest ≡ 0 → next_segment (segments_left sent (drop sent octets)) ≡ None
next_nothing sent octets rest same none =
    let empty : length (drop sent octets) ≡ 0 = ap length (sym same) ∙ none in
    ap next_segment (left_none sent (drop sent octets) empty)

pub next_first : (sent : ℕ) (octets rest front : List ℕ) → sent ≡ 0 → rest ≡ drop sent octets → front ≡ take 2046 rest → 0 < length rest
    → next_segment (segments_left sent (drop sent octets)) ≡ Some record { kind = First; octets = front }
next_first sent octets rest front is same cut some =
    let size : length rest ≡ length (drop sent octets) = ap length same in
    let all : segments_left sent (drop sent octets) ≡ segments_of (drop sent octets) =
    ap (λ (k : ℕ). segments_left k (drop sent octets)) is ∙ left_first (drop sent octets) (omega arith) in
    let part : take 2046 (drop sent octets) ≡ front = ap (take 2046) (sym same) ∙ sym cut in
    ap next_segment all ∙ ap (λ (o : List ℕ). Some (segment_with First o)) part

pub next_last : (sent : ℕ) (octets rest : List ℕ) → 0 < sent → rest ≡ drop sent octets → 0 < length rest → length rest ≤ 2046
    → next_segment (segments_left sent (drop sent octets)) ≡ Some record { kind = Last; octets = rest }
next_last sent octets rest begun same some few =
    let size : length rest ≡ length (drop sent octets) = ap length same in
    ap next_segment (left_last sent (drop sent octets) begun (omega arith) (omega arith)) ∙ ap (λ (o : List ℕ). Some (segment_with Last o)) (sym same)

pub next_middle : (sent : ℕ) (octets rest front : List ℕ) → 0 < sent → rest ≡ drop sent octets → front ≡ take 2046 rest → 2046 < length rest
    → next_segment (segments_left sent (drop sent octets)) ≡ Some record { kind = Middle; octets = front }
next_middle sent octets rest front begun same cut many =
    let size : length rest ≡ length (drop sent octets) = ap length same in
    let part : take 2046 (drop sent octets) ≡ front = ap (take 2046) (sym same) ∙ sym cut in
    ap next_segment (left_middle sent (drop sent octets) begun (omega arith)) ∙ ap (λ (o : List ℕ). Some (segment_with Middle o)) part
