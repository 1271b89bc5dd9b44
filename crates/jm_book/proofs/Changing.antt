-- The participant at a place, changed or taken out, where it is the first of its SSRC.
use Rattle.std.proofs.Common.{◌≡◌, ◌∙◌, sym, ap, refl, ℕ, suc, ◌+◌, ◌<◌, ◌≤◌, Bool, true, false, not, cond, ◌++◌, List, [], ◌∷◌, Some, None, length, take, drop, get_or, set, eqb, arith, inl, inr}
use Rattle.std.specs.Prelude.{remove}
use Rattle.std.specs.List.{position, position_or_len}
use Rattle.std.proofs.lemmas.Bool.{cases_lt, lt-ltb, le-ltb}
use Rattle.std.proofs.lemmas.List.{set_split}
use Rattle.std.proofs.Math.Seq.{drop-cons}
use Rattle.jm_book.specs.declared.participants.Participant.{Participant}
use Rattle.jm_book.specs.Participants.{is_of, changed, others_than}

pub changed-drop : (change : Participant → Participant) (ssrc i : ℕ) (xs : List Participant) (d : Participant) → i < length xs → eqb (get_or xs i d).ssrc ssrc ≡ true
    → take i xs ++ changed change ssrc (drop i xs) ≡ set xs i (change (get_or xs i d))
changed-drop change ssrc i xs d within hit =
    rw (set_split xs i (change (get_or xs i d)) within, drop-cons xs i d within, hit) refl

others-removed : (ssrc : ℕ) (joined : List Participant) → position_or_len (is_of ssrc) joined < length joined → remove joined (position_or_len (is_of ssrc) joined) ≡ others_than ssrc joined
others-removed ssrc [] h = absurd (omega arith)
others-removed ssrc (one ∷ others) h =
    elim (eqb one.ssrc ssrc) as (λ (b : Bool). cond (not b) (1 + position_or_len (is_of ssrc) others) 0 < length (one ∷ others) → remove (one ∷ others) (cond (not b) (1 + position_or_len (is_of ssrc) others) 0) ≡ cond b others (one ∷ others_than ssrc others)) [
      | true ↦ λ lt. refl
      | false ↦ λ lt.
          let next : 1 + position_or_len (is_of ssrc) others ≡ suc (position_or_len (is_of ssrc) others) = omega arith in
          rw next (ap (λ (x : List Participant). one ∷ x) (others-removed ssrc others (omega arith)))
    ] h

others-absent : (ssrc : ℕ) (joined : List Participant) → length joined ≤ position_or_len (is_of ssrc) joined → others_than ssrc joined ≡ joined
others-absent ssrc [] h = refl
others-absent ssrc (one ∷ others) h =
    elim (eqb one.ssrc ssrc) as (λ (b : Bool). length (one ∷ others) ≤ cond (not b) (1 + position_or_len (is_of ssrc) others) 0 → cond b others (one ∷ others_than ssrc others) ≡ one ∷ others) [
      | true ↦ λ le. absurd (omega arith)
      | false ↦ λ le. ap (λ (x : List Participant). one ∷ x) (others-absent ssrc others (omega arith))
    ] h

pub others-at : (ssrc : ℕ) (joined : List Participant) (k : ℕ) → position (is_of ssrc) joined ≡ Some k → remove joined k ≡ others_than ssrc joined
others-at ssrc joined k e =
    elim (cases_lt (position_or_len (is_of ssrc) joined) (length joined)) [
      | inl lt ↦
          let some : Some (position_or_len (is_of ssrc) joined) ≡ Some k = sym (rw (lt-ltb _ _ lt) refl) ∙ e in
          let same : position_or_len (is_of ssrc) joined ≡ k = cc in
          ap (λ (i : ℕ). remove joined i) (sym same) ∙ others-removed ssrc joined lt
      | inr le ↦
          let none : None ≡ Some k = sym (rw (le-ltb _ _ le) refl) ∙ e in
          absurd cc
    ]

pub others-nowhere : (ssrc : ℕ) (joined : List Participant) → position (is_of ssrc) joined ≡ None → others_than ssrc joined ≡ joined
others-nowhere ssrc joined e =
    elim (cases_lt (position_or_len (is_of ssrc) joined) (length joined)) [
      | inl lt ↦
          let some : Some (position_or_len (is_of ssrc) joined) ≡ None = sym (rw (lt-ltb _ _ lt) refl) ∙ e in
          absurd cc
      | inr le ↦ others-absent ssrc joined le
    ]
