-- The acts tell who takes part.
use Rattle.std.proofs.Common.{◌≡◌, ◌≢◌, ℕ, Bool, true, false, not, cond, eqb, List, [], ◌∷◌, ◌++◌, Some, None, refl, sym, ap, subst, ◌∙◌, inl, inr}
use Rattle.std.specs.Prelude.{find}
use Rattle.std.proofs.lemmas.Bool.{eqb-true, eqb-false}
use Rattle.jm_edge.specs.declared.Addr.{Addr}
use Rattle.apple_session.specs.declared.peer.Peer.{Peer}
use Rattle.apple_session.specs.declared.answer.Act.{Act}
use Rattle.apple_session.specs.declared.answer.Act.TheVariants.{Plain, Join, Leave}
use Rattle.apple_session.specs.Host.{Host}
use Rattle.apple_session.specs.Peers.{is_joined, is_waiting, peer_of, without, replaced, IsOrderly}
use Rattle.apple_session.specs.Machine.{ends, with_room}
use Rattle.apple_session.specs.Conduct.{is_joined_one, takes_part, Tells, ActsTell}
use Rattle.apple_session.specs.Steps.{guest_of, joined_at, IsQuiet, step_by}
use Rattle.apple_session.specs.Others.{found_passes, found_ssrc, found_own, peer_of-push, peer_of-replaced, peer_of-without, peer_of-without_own, peer_of-replaced_own, peer_of-push_own, peer_of-none_without, room_cases}

-- ---- the kinds of step

quiet_act : (ssrc : ℕ) (act : Act) (peers : List Peer) → IsQuiet act → Tells ssrc act peers peers
quiet_act ssrc act peers quiet = record {
  joins = λ e. absurd (subst IsQuiet e quiet);
  leaves = λ e. absurd (subst IsQuiet e quiet);
  neither = λ _ _. refl;
}

-- nobody's part changes
plain : (ssrc : ℕ) (old new : List Peer) → takes_part ssrc new ≡ takes_part ssrc old → Tells ssrc Plain old new
plain ssrc old new same = record { joins = λ e. absurd cc; leaves = λ e. absurd cc; neither = λ _ _. same }

-- the end of a peer, with a list in which it doesn't take part and the others are as they were
ended : (ssrc : ℕ) (peer : Peer) (old new : List Peer) → peer_of peer.ssrc old ≡ Some peer → takes_part peer.ssrc new ≡ false → (peer.ssrc ≢ ssrc → takes_part ssrc new ≡ takes_part ssrc old) → Tells ssrc (ends peer) old new
ended ssrc peer old new found gone others =
    let was : takes_part peer.ssrc old ≡ is_joined peer = ap is_joined_one found in
    elim (is_joined peer) as (λ (b : Bool). is_joined peer ≡ b → Tells ssrc (cond b (Leave peer.ssrc) Plain) old new) [
      | true ↦ λ j. record {
        joins = λ e. absurd cc;
        leaves = λ e.
            let same : peer.ssrc ≡ ssrc = cc in
            (subst (λ (s : ℕ). takes_part s old ≡ true) same (was ∙ j), subst (λ (s : ℕ). takes_part s new ≡ false) same gone);
        neither = λ _ no. others (λ same. no (ap (λ (s : ℕ). Leave s) same));
      }
      | false ↦ λ j. plain ssrc old new (elim (eqb peer.ssrc ssrc) as (λ (b : Bool). eqb peer.ssrc ssrc ≡ b → takes_part ssrc new ≡ takes_part ssrc old) [
        | true ↦ λ t. let same : peer.ssrc ≡ ssrc = eqb-true peer.ssrc ssrc t in subst (λ (s : ℕ). takes_part s new ≡ takes_part s old) same (gone ∙ sym (was ∙ j))
        | false ↦ λ t. others (eqb-false peer.ssrc ssrc t)
      ] refl)
    ] refl

not_joined : (peer : Peer) → is_waiting peer ≡ true → is_joined peer ≡ false
not_joined peer h =
    elim (is_joined peer) as (λ (b : Bool). not b ≡ true → b ≡ false) [
      | true ↦ λ e. sym e
      | false ↦ λ e. refl
    ] h

way_given : (ssrc : ℕ) (host : Host) (waiting : Peer) → IsOrderly host.ssrc host.peers → find is_waiting host.peers ≡ Some waiting → takes_part ssrc (without waiting.ssrc host.peers) ≡ takes_part ssrc host.peers
way_given ssrc host waiting o first =
    elim (eqb waiting.ssrc ssrc) as (λ (b : Bool). eqb waiting.ssrc ssrc ≡ b → takes_part ssrc (without waiting.ssrc host.peers) ≡ takes_part ssrc host.peers) [
      | true ↦ λ t.
          let same : waiting.ssrc ≡ ssrc = eqb-true waiting.ssrc ssrc t in
          let own : takes_part waiting.ssrc host.peers ≡ is_joined waiting = ap is_joined_one (found_own is_waiting host.peers waiting o.distinct first) in
          let waits : is_joined waiting ≡ false = not_joined waiting (found_passes is_waiting host.peers waiting first) in
          subst (λ (s : ℕ). takes_part s (without waiting.ssrc host.peers) ≡ takes_part s host.peers) same (ap is_joined_one (peer_of-without_own waiting.ssrc host.peers) ∙ sym (own ∙ waits))
      | false ↦ λ t. ap is_joined_one (peer_of-without ssrc waiting.ssrc host.peers (eqb-false waiting.ssrc ssrc t))
    ] refl

-- one more that is only invited, and the first such may give way
one_more : (ssrc : ℕ) (host : Host) (q : Peer) (others : List Peer) → IsOrderly host.ssrc host.peers → is_joined q ≡ false → peer_of q.ssrc host.peers ≡ None → with_room host.peers ≡ Some others
    → takes_part ssrc (others ++ q ∷ []) ≡ takes_part ssrc host.peers
one_more ssrc host q others o waits none made =
    elim (eqb q.ssrc ssrc) as (λ (b : Bool). eqb q.ssrc ssrc ≡ b → takes_part ssrc (others ++ q ∷ []) ≡ takes_part ssrc host.peers) [
      | true ↦ λ t.
          let same : q.ssrc ≡ ssrc = eqb-true q.ssrc ssrc t in
          let still : peer_of q.ssrc others ≡ None = elim (room_cases host.peers others made) [
            | inl r ↦ ap (peer_of q.ssrc) r.others_are ∙ none
            | inr r ↦ ap (peer_of q.ssrc) r.others_are ∙ peer_of-none_without q.ssrc r.waiting.ssrc host.peers none
          ] in
          subst (λ (s : ℕ). takes_part s (others ++ q ∷ []) ≡ takes_part s host.peers) same (ap is_joined_one (peer_of-push_own q others still) ∙ waits ∙ sym (ap is_joined_one none))
      | false ↦ λ t.
          let pushed : takes_part ssrc (others ++ q ∷ []) ≡ takes_part ssrc others = ap is_joined_one (peer_of-push ssrc q others (eqb-false q.ssrc ssrc t)) in
          elim (room_cases host.peers others made) [
            | inl r ↦ pushed ∙ ap (takes_part ssrc) r.others_are
            | inr r ↦ pushed ∙ ap (takes_part ssrc) r.others_are ∙ way_given ssrc host r.waiting o r.first
          ]
    ] refl

joins_now : (ssrc : ℕ) (from : Addr) (peer : Peer) (peers : List Peer) → peer_of peer.ssrc peers ≡ Some peer → is_joined peer ≡ false → Tells ssrc (Join peer.ssrc) peers (replaced (joined_at from peer) peers)
joins_now ssrc from peer peers found waits =
    let now : peer_of peer.ssrc (replaced (joined_at from peer) peers) ≡ Some (joined_at from peer) = peer_of-replaced_own (joined_at from peer) peers peer found in
    record {
      joins = λ e.
          let same : peer.ssrc ≡ ssrc = cc in
          (subst (λ (s : ℕ). takes_part s peers ≡ false) same (ap is_joined_one found ∙ waits), subst (λ (s : ℕ). takes_part s (replaced (joined_at from peer) peers) ≡ true) same (ap is_joined_one now));
      leaves = λ e. absurd cc;
      neither = λ no _. ap is_joined_one (peer_of-replaced ssrc (joined_at from peer) peers (λ same. no (ap (λ (s : ℕ). Join s) same)));
    }

pub acts_tell : ActsTell
acts_tell host room port from message now ssrc o =
    step_by (λ (act : Act) (peers : List Peer). Tells ssrc act host.peers peers) host room port from message now (record {
      same = λ act quiet. quiet_act ssrc act host.peers quiet;
      guest = λ token guest name others p m own none made. plain ssrc host.peers (others ++ guest_of from token guest ∷ []) (one_more ssrc host (guest_of from token guest) others o refl none made);
      again = λ token guest name old p m some.
          let own : old.ssrc ≡ guest = found_ssrc guest host.peers old some in
          ended ssrc old host.peers (replaced (guest_of from token guest) host.peers) (subst (λ (s : ℕ). peer_of s host.peers ≡ Some old) (sym own) some)
          (subst (λ (s : ℕ). takes_part s (replaced (guest_of from token guest) host.peers) ≡ false) (sym own) (ap is_joined_one (peer_of-replaced_own (guest_of from token guest) host.peers old some)))
          (λ ne. ap is_joined_one (peer_of-replaced ssrc (guest_of from token guest) host.peers (λ same. ne (own ∙ same))));
      join = λ token guest name peer p r m some t waits.
          joins_now ssrc from peer host.peers (subst (λ (s : ℕ). peer_of s host.peers ≡ Some peer) (sym (found_ssrc guest host.peers peer some)) some) waits;
      bye = λ token guest peer m some.
          ended ssrc peer host.peers (without peer.ssrc host.peers) (subst (λ (s : ℕ). peer_of s host.peers ≡ Some peer) (sym (found_ssrc guest host.peers peer some)) some)
          (ap is_joined_one (peer_of-without_own peer.ssrc host.peers))
          (λ ne. ap is_joined_one (peer_of-without ssrc peer.ssrc host.peers ne));
    })
