-- Taking one out of a list of SSRCs.
use Rattle.std.proofs.Common.{◌≡◌, ℕ, suc, ◌+◌, ◌<◌, ◌≤◌, ◌∙◌, Bool, true, false, not, eqb, cond, List, [], ◌∷◌, length, remove, Some, None, refl, sym, ap, inl, inr, arith}
use Rattle.std.specs.List.{position, position_or_len}
use Rattle.std.proofs.lemmas.Bool.{cases_lt, lt-ltb, le-ltb}
use Rattle.midi_host.specs.SsrcList.{is_it, without_first}

rest_removed : (ssrc : ℕ) (xs : List ℕ) → position_or_len (is_it ssrc) xs < length xs → remove xs (position_or_len (is_it ssrc) xs) ≡ without_first ssrc xs
rest_removed ssrc [] h = absurd (omega arith)
rest_removed ssrc (one ∷ others) h =
    elim (eqb one ssrc) as (λ (b : Bool). cond (not b) (1 + position_or_len (is_it ssrc) others) 0 < length (one ∷ others) → remove (one ∷ others) (cond (not b) (1 + position_or_len (is_it ssrc) others) 0) ≡ cond b others (one ∷ without_first ssrc others)) [
      | true ↦ λ lt. refl
      | false ↦ λ lt.
          let next : 1 + position_or_len (is_it ssrc) others ≡ suc (position_or_len (is_it ssrc) others) = omega arith in
          rw next (ap (λ (x : List ℕ). one ∷ x) (rest_removed ssrc others (omega arith)))
    ] h

rest_absent : (ssrc : ℕ) (xs : List ℕ) → length xs ≤ position_or_len (is_it ssrc) xs → without_first ssrc xs ≡ xs
rest_absent ssrc [] h = refl
rest_absent ssrc (one ∷ others) h =
    elim (eqb one ssrc) as (λ (b : Bool). length (one ∷ others) ≤ cond (not b) (1 + position_or_len (is_it ssrc) others) 0 → cond b others (one ∷ without_first ssrc others) ≡ one ∷ others) [
      | true ↦ λ le. absurd (omega arith)
      | false ↦ λ le. ap (λ (x : List ℕ). one ∷ x) (rest_absent ssrc others (omega arith))
    ] h

pub removed_at : (ssrc : ℕ) (xs : List ℕ) (k : ℕ) → position (is_it ssrc) xs ≡ Some k → remove xs k ≡ without_first ssrc xs
removed_at ssrc xs k e =
    elim (cases_lt (position_or_len (is_it ssrc) xs) (length xs)) [
      | inl lt ↦
          let some : Some (position_or_len (is_it ssrc) xs) ≡ Some k = sym (rw (lt-ltb _ _ lt) refl) ∙ e in
          let same : position_or_len (is_it ssrc) xs ≡ k = cc in
          ap (λ (i : ℕ). remove xs i) (sym same) ∙ rest_removed ssrc xs lt
      | inr le ↦
          let none : None ≡ Some k = sym (rw (le-ltb _ _ le) refl) ∙ e in
          absurd cc
    ]

pub removed_nowhere : (ssrc : ℕ) (xs : List ℕ) → position (is_it ssrc) xs ≡ None → without_first ssrc xs ≡ xs
removed_nowhere ssrc xs e =
    elim (cases_lt (position_or_len (is_it ssrc) xs) (length xs)) [
      | inl lt ↦
          let some : Some (position_or_len (is_it ssrc) xs) ≡ None = sym (rw (lt-ltb _ _ lt) refl) ∙ e in
          absurd cc
      | inr le ↦ rest_absent ssrc xs le
    ]
