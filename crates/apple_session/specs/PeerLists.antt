-- Lists of peers with distinct SSRCs.
use Rattle.std.proofs.Common.{◌≡◌, ◌≢◌, ℕ, suc, ◌+◌, ◌<◌, ◌≤◌, Bool, true, false, not, cond, eqb, List, [], ◌∷◌, ◌++◌, length, drop, Some, None, refl, sym, ap, subst, ◌∙◌, arith, inl, inr, length-append}
use Rattle.std.specs.Prelude.{find, remove, slice_set}
use Rattle.std.specs.List.{position, position_or_len, refill}
use Rattle.std.proofs.lemmas.List.{take_at}
use Rattle.std.proofs.lemmas.Bool.{eq-eqb, eqb-true, eqb-false, ne_eqb, cases_lt, lt-ltb, le-ltb}
use Rattle.apple_session.specs.declared.peer.Peer.{Peer}
use Rattle.apple_session.specs.Peers.{is_from, peer_of, without, replaced, Absent, AreDistinct, IsOrderly}

-- ---- an SSRC that no peer has

pub without-Absent : (ssrc : ℕ) (peers : List Peer) → Absent ssrc peers → without ssrc peers ≡ peers
without-Absent ssrc [] h = refl
without-Absent ssrc (peer ∷ peers) h = rw (ne_eqb peer.ssrc ssrc h.0) (ap (λ (x : List Peer). peer ∷ x) (without-Absent ssrc peers h.1))

pub replaced-Absent : (q : Peer) (peers : List Peer) → Absent q.ssrc peers → replaced q peers ≡ peers
replaced-Absent q [] h = refl
replaced-Absent q (peer ∷ peers) h = rw (ne_eqb peer.ssrc q.ssrc h.0) (ap (λ (x : List Peer). peer ∷ x) (replaced-Absent q peers h.1))

-- no place is found
pub Absent-past : (ssrc : ℕ) (peers : List Peer) → length peers ≤ position_or_len (is_from ssrc) peers → Absent ssrc peers
Absent-past ssrc [] h = tt
Absent-past ssrc (peer ∷ peers) h =
    elim (eqb peer.ssrc ssrc) as (λ (b : Bool). eqb peer.ssrc ssrc ≡ b → length (peer ∷ peers) ≤ cond (not b) (1 + position_or_len (is_from ssrc) peers) 0 → Absent ssrc (peer ∷ peers)) [
      | true ↦ λ e le. absurd (omega arith)
      | false ↦ λ e le. (eqb-false peer.ssrc ssrc e, Absent-past ssrc peers (omega arith))
    ] refl h

-- ---- the place of an SSRC

pub removed : (ssrc : ℕ) (peers : List Peer) → AreDistinct peers → position_or_len (is_from ssrc) peers < length peers → remove peers (position_or_len (is_from ssrc) peers) ≡ without ssrc peers
removed ssrc [] d h = absurd (omega arith)
removed ssrc (peer ∷ peers) d h =
    elim (eqb peer.ssrc ssrc) as (λ (b : Bool). eqb peer.ssrc ssrc ≡ b → cond (not b) (1 + position_or_len (is_from ssrc) peers) 0 < length (peer ∷ peers) → remove (peer ∷ peers) (cond (not b) (1 + position_or_len (is_from ssrc) peers) 0) ≡ cond (not b) (peer ∷ without ssrc peers) (without ssrc peers)) [
      | true ↦ λ e lt. let same : peer.ssrc ≡ ssrc = eqb-true peer.ssrc ssrc e in sym (without-Absent ssrc peers (rw (← same) d.0))
      | false ↦ λ e lt.
          let next : 1 + position_or_len (is_from ssrc) peers ≡ suc (position_or_len (is_from ssrc) peers) = omega arith in
          rw next (ap (λ (x : List Peer). peer ∷ x) (removed ssrc peers d.1 (omega arith)))
    ] refl h

pub set_at : (q : Peer) (peers : List Peer) → AreDistinct peers → position_or_len (is_from q.ssrc) peers < length peers → slice_set peers (position_or_len (is_from q.ssrc) peers) q ≡ replaced q peers
set_at q [] d h = absurd (omega arith)
set_at q (peer ∷ peers) d h =
    elim (eqb peer.ssrc q.ssrc) as (λ (b : Bool). eqb peer.ssrc q.ssrc ≡ b → cond (not b) (1 + position_or_len (is_from q.ssrc) peers) 0 < length (peer ∷ peers) → slice_set (peer ∷ peers) (cond (not b) (1 + position_or_len (is_from q.ssrc) peers) 0) q ≡ cond b q peer ∷ replaced q peers) [
      | true ↦ λ e lt. let same : peer.ssrc ≡ q.ssrc = eqb-true peer.ssrc q.ssrc e in ap (λ (x : List Peer). q ∷ x) (sym (replaced-Absent q peers (rw (← same) d.0)))
      | false ↦ λ e lt.
          let next : 1 + position_or_len (is_from q.ssrc) peers ≡ suc (position_or_len (is_from q.ssrc) peers) = omega arith in
          rw next (ap (λ (x : List Peer). peer ∷ x) (set_at q peers d.1 (omega arith)))
    ] refl h

-- what the place that `position` gives says
record IsPlace (ssrc : ℕ) (peers : List Peer) (k : ℕ) : Type 0 where
  inside : k < length peers
  first : position_or_len (is_from ssrc) peers ≡ k

place_is : (ssrc : ℕ) (peers : List Peer) (k : ℕ) → position (is_from ssrc) peers ≡ Some k → IsPlace ssrc peers k
place_is ssrc peers k e =
    elim (cases_lt (position_or_len (is_from ssrc) peers) (length peers)) [
      | inl lt ↦
          let some : Some (position_or_len (is_from ssrc) peers) ≡ Some k = sym (rw (lt-ltb _ _ lt) refl) ∙ e in
          let same : position_or_len (is_from ssrc) peers ≡ k = cc in
          record { inside = omega arith; first = same }
      | inr le ↦
          let none : None ≡ Some k = sym (rw (le-ltb _ _ le) refl) ∙ e in
          absurd cc
    ]

pub removed_at : (ssrc : ℕ) (peers : List Peer) (k : ℕ) → AreDistinct peers → position (is_from ssrc) peers ≡ Some k → remove peers k ≡ without ssrc peers
removed_at ssrc peers k d e =
    let p = place_is ssrc peers k e in
    ap (λ (i : ℕ). remove peers i) (sym p.first) ∙ removed ssrc peers d (rw p.first p.inside)

pub replaced_at : (q : Peer) (peers : List Peer) (k : ℕ) → AreDistinct peers → position (is_from q.ssrc) peers ≡ Some k → slice_set peers k q ≡ replaced q peers
replaced_at q peers k d e =
    let p = place_is q.ssrc peers k e in
    ap (λ (i : ℕ). slice_set peers i q) (sym p.first) ∙ set_at q peers d (rw p.first p.inside)

pub Absent-no_place : (ssrc : ℕ) (peers : List Peer) → position (is_from ssrc) peers ≡ None → Absent ssrc peers
Absent-no_place ssrc peers e =
    elim (cases_lt (position_or_len (is_from ssrc) peers) (length peers)) [
      | inl lt ↦
          let some : Some (position_or_len (is_from ssrc) peers) ≡ None = sym (rw (lt-ltb _ _ lt) refl) ∙ e in
          absurd cc
      | inr le ↦ Absent-past ssrc peers le
    ]

pub Absent-no_peer : (ssrc : ℕ) (peers : List Peer) → peer_of ssrc peers ≡ None → Absent ssrc peers
Absent-no_peer ssrc [] e = tt
Absent-no_peer ssrc (peer ∷ peers) e =
    elim (eqb peer.ssrc ssrc) as (λ (b : Bool). eqb peer.ssrc ssrc ≡ b → cond b (Some peer) (peer_of ssrc peers) ≡ None → Absent ssrc (peer ∷ peers)) [
      | true ↦ λ t none. absurd cc
      | false ↦ λ t none. (eqb-false peer.ssrc ssrc t, Absent-no_peer ssrc peers none)
    ] refl e

-- a write through a slice that keeps the length
pub refill_same : (xs ys : List Peer) → length ys ≡ length xs → refill (length xs) xs ys ≡ ys
refill_same xs ys e = take_at ys (drop (length ys) xs) (length xs) e

-- ---- the list stays orderly

pub Absent-without : (other ssrc : ℕ) (peers : List Peer) → Absent other peers → Absent other (without ssrc peers)
Absent-without other ssrc [] h = tt
Absent-without other ssrc (peer ∷ peers) h =
    elim (eqb peer.ssrc ssrc) as (λ (b : Bool). Absent other (cond (not b) (peer ∷ without ssrc peers) (without ssrc peers))) [
      | true ↦ Absent-without other ssrc peers h.1
      | false ↦ (h.0, Absent-without other ssrc peers h.1)
    ]

pub AreDistinct-without : (ssrc : ℕ) (peers : List Peer) → AreDistinct peers → AreDistinct (without ssrc peers)
AreDistinct-without ssrc [] d = tt
AreDistinct-without ssrc (peer ∷ peers) d =
    elim (eqb peer.ssrc ssrc) as (λ (b : Bool). AreDistinct (cond (not b) (peer ∷ without ssrc peers) (without ssrc peers))) [
      | true ↦ AreDistinct-without ssrc peers d.1
      | false ↦ (Absent-without peer.ssrc ssrc peers d.0, AreDistinct-without ssrc peers d.1)
    ]

pub Absent-replaced : (other : ℕ) (q : Peer) (peers : List Peer) → Absent other peers → Absent other (replaced q peers)
Absent-replaced other q [] h = tt
Absent-replaced other q (peer ∷ peers) h =
    elim (eqb peer.ssrc q.ssrc) as (λ (b : Bool). eqb peer.ssrc q.ssrc ≡ b → Absent other (cond b q peer ∷ replaced q peers)) [
      | true ↦ λ e. (rw (← eqb-true peer.ssrc q.ssrc e) h.0, Absent-replaced other q peers h.1)
      | false ↦ λ e. (h.0, Absent-replaced other q peers h.1)
    ] refl

pub AreDistinct-replaced : (q : Peer) (peers : List Peer) → AreDistinct peers → AreDistinct (replaced q peers)
AreDistinct-replaced q [] d = tt
AreDistinct-replaced q (peer ∷ peers) d =
    elim (eqb peer.ssrc q.ssrc) as (λ (b : Bool). eqb peer.ssrc q.ssrc ≡ b → AreDistinct (cond b q peer ∷ replaced q peers)) [
      | true ↦ λ e. (subst (λ (s : ℕ). Absent s (replaced q peers)) (eqb-true peer.ssrc q.ssrc e) (Absent-replaced peer.ssrc q peers d.0), AreDistinct-replaced q peers d.1)
      | false ↦ λ e. (Absent-replaced peer.ssrc q peers d.0, AreDistinct-replaced q peers d.1)
    ] refl

pub Absent-push : (other : ℕ) (q : Peer) (peers : List Peer) → Absent other peers → q.ssrc ≢ other → Absent other (peers ++ q ∷ [])
Absent-push other q [] h ne = (ne, tt)
Absent-push other q (peer ∷ peers) h ne = (h.0, Absent-push other q peers h.1 ne)

pub AreDistinct-push : (q : Peer) (peers : List Peer) → AreDistinct peers → Absent q.ssrc peers → AreDistinct (peers ++ q ∷ [])
AreDistinct-push q [] d h = (tt, tt)
AreDistinct-push q (peer ∷ peers) d h =
    (Absent-push peer.ssrc q peers d.0 (λ e. h.0 (sym e)), AreDistinct-push q peers d.1 h.1)

pub length-without : (ssrc : ℕ) (peers : List Peer) → length (without ssrc peers) ≤ length peers
length-without ssrc [] = omega arith
length-without ssrc (peer ∷ peers) =
    elim (eqb peer.ssrc ssrc) as (λ (b : Bool). length (cond (not b) (peer ∷ without ssrc peers) (without ssrc peers)) ≤ length (peer ∷ peers)) [
      | true ↦ omega (arith, length-without ssrc peers)
      | false ↦ omega (arith, length-without ssrc peers)
    ]

pub length-without-found : (p : Peer → Bool) (peers : List Peer) (found : Peer) → find p peers ≡ Some found → length (without found.ssrc peers) < length peers
length-without-found p [] found e = absurd cc
length-without-found p (peer ∷ peers) found e =
    elim (p peer) as (λ (b : Bool). cond b (Some peer) (find p peers) ≡ Some found → length (without found.ssrc (peer ∷ peers)) < length (peer ∷ peers)) [
      | true ↦ λ e.
          let same : peer ≡ found = cc in
          subst (λ (x : Peer). length (without x.ssrc (peer ∷ peers)) < length (peer ∷ peers)) same (rw (eq-eqb peer.ssrc peer.ssrc refl) (omega (arith, length-without peer.ssrc peers)))
      | false ↦ λ e.
          elim (eqb peer.ssrc found.ssrc) as (λ (b : Bool). length (cond (not b) (peer ∷ without found.ssrc peers) (without found.ssrc peers)) < length (peer ∷ peers)) [
            | true ↦ omega (arith, length-without found.ssrc peers)
            | false ↦ omega (arith, length-without-found p peers found e)
          ]
    ] e

pub length-replaced : (q : Peer) (peers : List Peer) → length (replaced q peers) ≡ length peers
length-replaced q [] = refl
length-replaced q (peer ∷ peers) = ap suc (length-replaced q peers)

pub IsOrderly-without : (host ssrc : ℕ) (peers : List Peer) → IsOrderly host peers → IsOrderly host (without ssrc peers)
IsOrderly-without host ssrc peers o = record {
  few = omega (arith, length-without ssrc peers, o.few);
  distinct = AreDistinct-without ssrc peers o.distinct;
  strangers = Absent-without host ssrc peers o.strangers;
}

pub IsOrderly-replaced : (host : ℕ) (q : Peer) (peers : List Peer) → IsOrderly host peers → IsOrderly host (replaced q peers)
IsOrderly-replaced host q peers o = record {
  few = omega (arith, length-replaced q peers, o.few);
  distinct = AreDistinct-replaced q peers o.distinct;
  strangers = Absent-replaced host q peers o.strangers;
}

pub IsOrderly-push : (host : ℕ) (q : Peer) (peers : List Peer) → IsOrderly host peers → length peers < 32 → Absent q.ssrc peers → q.ssrc ≢ host → IsOrderly host (peers ++ q ∷ [])
IsOrderly-push host q peers o room new other = record {
  few = omega (arith, length-append peers (q ∷ []));
  distinct = AreDistinct-push q peers o.distinct new;
  strangers = Absent-push host q peers o.strangers other;
}
