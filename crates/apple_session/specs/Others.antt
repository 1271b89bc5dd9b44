-- The list stays orderly and in its order, and other peers stay.
use Rattle.std.proofs.Common.{◌≡◌, ◌≢◌, ℕ, ◌<◌, ◌≤◌, Bool, true, false, not, cond, eqb, List, [], ◌∷◌, ◌++◌, length, filter, Option, Some, None, refl, sym, ap, subst, ◌∙◌, arith, inl, inr, ◌⊎◌}
use Rattle.std.specs.Prelude.{find, option_map}
use Rattle.std.proofs.lemmas.Bool.{eq-eqb, eqb-true, eqb-false, ne_eqb, cases_lt, lt-ltb, le-ltb}
use Rattle.std.proofs.lemmas.List.{append-nil}
use Rattle.jm_edge.specs.declared.Addr.{Addr}
use Rattle.apple_msg.specs.declared.message.Message.{Message}
use Rattle.apple_msg.specs.declared.message.Message.TheVariants.{Invite, Bye}
use Rattle.apple_session.specs.declared.peer.Peer.{Peer}
use Rattle.apple_session.specs.declared.answer.PortKind.{PortKind}
use Rattle.apple_session.specs.declared.answer.PortKind.TheVariants.{Ctl}
use Rattle.apple_session.specs.Host.{Host}
use Rattle.apple_session.specs.Peers.{is_from, is_joined, is_waiting, peer_of, without, replaced, Absent, AreDistinct, IsOrderly}
use Rattle.apple_session.specs.Machine.{with_room, step}
use Rattle.apple_session.specs.Conduct.{GaveWay, ssrc_of, OthersStay, JoinedStay, KeepsOrder, ssrcs, OrderStays}
use Rattle.apple_session.specs.PeerLists.{Absent-no_peer, Absent-without, IsOrderly-without, IsOrderly-replaced, IsOrderly-push, length-without-found}
use Rattle.apple_session.specs.Steps.{guest_of, joined_at, left_by}

-- ---- what a search finds

pub found_passes : (p : Peer → Bool) (peers : List Peer) (found : Peer) → find p peers ≡ Some found → p found ≡ true
found_passes p [] found e = absurd cc
found_passes p (peer ∷ peers) found e =
    elim (p peer) as (λ (b : Bool). p peer ≡ b → cond b (Some peer) (find p peers) ≡ Some found → p found ≡ true) [
      | true ↦ λ t e. let same : peer ≡ found = cc in subst (λ (x : Peer). p x ≡ true) same t
      | false ↦ λ t e. found_passes p peers found e
    ] refl e

pub found_ssrc : (ssrc : ℕ) (peers : List Peer) (found : Peer) → peer_of ssrc peers ≡ Some found → found.ssrc ≡ ssrc
found_ssrc ssrc peers found e = eqb-true found.ssrc ssrc (found_passes (is_from ssrc) peers found e)

Absent-found : (ssrc : ℕ) (p : Peer → Bool) (peers : List Peer) (found : Peer) → Absent ssrc peers → find p peers ≡ Some found → found.ssrc ≢ ssrc
Absent-found ssrc p [] found h e = absurd cc
Absent-found ssrc p (peer ∷ peers) found h e =
    elim (p peer) as (λ (b : Bool). cond b (Some peer) (find p peers) ≡ Some found → found.ssrc ≢ ssrc) [
      | true ↦ λ e. let same : peer ≡ found = cc in subst (λ (x : Peer). x.ssrc ≢ ssrc) same h.0
      | false ↦ λ e. Absent-found ssrc p peers found h.1 e
    ] e

-- what is found is the one peer of its SSRC
pub found_own : (p : Peer → Bool) (peers : List Peer) (found : Peer) → AreDistinct peers → find p peers ≡ Some found → peer_of found.ssrc peers ≡ Some found
found_own p [] found d e = absurd cc
found_own p (peer ∷ peers) found d e =
    elim (p peer) as (λ (b : Bool). cond b (Some peer) (find p peers) ≡ Some found → peer_of found.ssrc (peer ∷ peers) ≡ Some found) [
      | true ↦ λ e. let same : peer ≡ found = cc in subst (λ (x : Peer). peer_of x.ssrc (peer ∷ peers) ≡ Some x) same (rw (eq-eqb peer.ssrc peer.ssrc refl) refl)
      | false ↦ λ e. rw (ne_eqb peer.ssrc found.ssrc (λ s. Absent-found peer.ssrc p peers found d.0 e (sym s))) (found_own p peers found d.1 e)
    ] e

-- ---- a peer of another SSRC

pub peer_of-push : (other : ℕ) (q : Peer) (peers : List Peer) → q.ssrc ≢ other → peer_of other (peers ++ q ∷ []) ≡ peer_of other peers
peer_of-push other q [] ne = rw (ne_eqb q.ssrc other ne) refl
peer_of-push other q (peer ∷ peers) ne =
    ap (λ (o : Option Peer). cond (eqb peer.ssrc other) (Some peer) o) (peer_of-push other q peers ne)

pub peer_of-replaced : (other : ℕ) (q : Peer) (peers : List Peer) → q.ssrc ≢ other → peer_of other (replaced q peers) ≡ peer_of other peers
peer_of-replaced other q [] ne = refl
peer_of-replaced other q (peer ∷ peers) ne =
    elim (eqb peer.ssrc q.ssrc) as (λ (b : Bool). eqb peer.ssrc q.ssrc ≡ b → peer_of other (cond b q peer ∷ replaced q peers) ≡ peer_of other (peer ∷ peers)) [
      | true ↦ λ e.
          let same : peer.ssrc ≡ q.ssrc = eqb-true peer.ssrc q.ssrc e in
          let old : eqb peer.ssrc other ≡ false = ne_eqb peer.ssrc other (λ s. ne (sym same ∙ s)) in
          rw (ne_eqb q.ssrc other ne, old) (peer_of-replaced other q peers ne)
      | false ↦ λ e. ap (λ (o : Option Peer). cond (eqb peer.ssrc other) (Some peer) o) (peer_of-replaced other q peers ne)
    ] refl

pub peer_of-without : (other ssrc : ℕ) (peers : List Peer) → ssrc ≢ other → peer_of other (without ssrc peers) ≡ peer_of other peers
peer_of-without other ssrc [] ne = refl
peer_of-without other ssrc (peer ∷ peers) ne =
    elim (eqb peer.ssrc ssrc) as (λ (b : Bool). eqb peer.ssrc ssrc ≡ b → peer_of other (cond (not b) (peer ∷ without ssrc peers) (without ssrc peers)) ≡ peer_of other (peer ∷ peers)) [
      | true ↦ λ e.
          let old : eqb peer.ssrc other ≡ false = ne_eqb peer.ssrc other (λ s. ne (sym (eqb-true peer.ssrc ssrc e) ∙ s)) in
          rw old (peer_of-without other ssrc peers ne)
      | false ↦ λ e. ap (λ (o : Option Peer). cond (eqb peer.ssrc other) (Some peer) o) (peer_of-without other ssrc peers ne)
    ] refl

pub peer_of-without_own : (ssrc : ℕ) (peers : List Peer) → peer_of ssrc (without ssrc peers) ≡ None
peer_of-without_own ssrc [] = refl
peer_of-without_own ssrc (peer ∷ peers) =
    elim (eqb peer.ssrc ssrc) as (λ (b : Bool). eqb peer.ssrc ssrc ≡ b → peer_of ssrc (cond (not b) (peer ∷ without ssrc peers) (without ssrc peers)) ≡ None) [
      | true ↦ λ e. peer_of-without_own ssrc peers
      | false ↦ λ e. rw e (peer_of-without_own ssrc peers)
    ] refl

-- ---- the peer of the SSRC itself

pub peer_of-replaced_own : (q : Peer) (peers : List Peer) (old : Peer) → peer_of q.ssrc peers ≡ Some old → peer_of q.ssrc (replaced q peers) ≡ Some q
peer_of-replaced_own q [] old e = absurd cc
peer_of-replaced_own q (peer ∷ peers) old e =
    elim (eqb peer.ssrc q.ssrc) as (λ (b : Bool). eqb peer.ssrc q.ssrc ≡ b → cond b (Some peer) (peer_of q.ssrc peers) ≡ Some old → peer_of q.ssrc (cond b q peer ∷ replaced q peers) ≡ Some q) [
      | true ↦ λ t e. rw (eq-eqb q.ssrc q.ssrc refl) refl
      | false ↦ λ t e. rw t (peer_of-replaced_own q peers old e)
    ] refl e

pub peer_of-push_own : (q : Peer) (peers : List Peer) → peer_of q.ssrc peers ≡ None → peer_of q.ssrc (peers ++ q ∷ []) ≡ Some q
peer_of-push_own q [] e = rw (eq-eqb q.ssrc q.ssrc refl) refl
peer_of-push_own q (peer ∷ peers) e =
    elim (eqb peer.ssrc q.ssrc) as (λ (b : Bool). cond b (Some peer) (peer_of q.ssrc peers) ≡ None → cond b (Some peer) (peer_of q.ssrc (peers ++ q ∷ [])) ≡ Some q) [
      | true ↦ λ e. absurd cc
      | false ↦ λ e. peer_of-push_own q peers e
    ] e

pub peer_of-none_without : (ssrc gone : ℕ) (peers : List Peer) → peer_of ssrc peers ≡ None → peer_of ssrc (without gone peers) ≡ None
peer_of-none_without ssrc gone peers e =
    elim (eqb gone ssrc) as (λ (b : Bool). eqb gone ssrc ≡ b → peer_of ssrc (without gone peers) ≡ None) [
      | true ↦ λ t. subst (λ (s : ℕ). peer_of ssrc (without s peers) ≡ None) (sym (eqb-true gone ssrc t)) (peer_of-without_own ssrc peers)
      | false ↦ λ t. peer_of-without ssrc gone peers (eqb-false gone ssrc t) ∙ e
    ] refl

-- ---- room for one more

pub record HadRoom (peers others : List Peer) : Type 0 where
  pub few : length peers < 32
  pub others_are : others ≡ peers

pub record MadeRoom (peers others : List Peer) : Type 0 where
  pub full : 32 ≤ length peers
  pub waiting : Peer
  pub first : find is_waiting peers ≡ Some waiting
  pub others_are : others ≡ without waiting.ssrc peers

pub room_cases : (peers others : List Peer) → with_room peers ≡ Some others → HadRoom peers others ⊎ MadeRoom peers others
room_cases peers others e =
    elim (cases_lt (length peers) 32) [
      | inl lt ↦
          let some : Some peers ≡ Some others = sym (rw (lt-ltb _ _ lt) refl) ∙ e in
          let same : peers ≡ others = cc in
          inl (record { few = lt; others_are = sym same })
      | inr le ↦
          let found : option_map (λ (waiting : Peer). without waiting.ssrc peers) (find is_waiting peers) ≡ Some others = sym (rw (le-ltb _ _ le) refl) ∙ e in
          elim (find is_waiting peers) as (λ (o : Option Peer). find is_waiting peers ≡ o → option_map (λ (waiting : Peer). without waiting.ssrc peers) o ≡ Some others → HadRoom peers others ⊎ MadeRoom peers others) [
            | None ↦ λ none e. absurd cc
            | Some waiting ↦ λ some e. let same : without waiting.ssrc peers ≡ others = cc in inr (record { full = le; waiting = waiting; first = some; others_are = sym same })
          ] refl found
    ]

-- ---- the list stays orderly

room_orderly : (host : ℕ) (q : Peer) (peers others : List Peer) → IsOrderly host peers → with_room peers ≡ Some others → Absent q.ssrc peers → q.ssrc ≢ host → IsOrderly host (others ++ q ∷ [])
room_orderly host q peers others o e new ne =
    elim (room_cases peers others e) [
      | inl r ↦ rw r.others_are (IsOrderly-push host q peers o r.few new ne)
      | inr r ↦ rw r.others_are (IsOrderly-push host q (without r.waiting.ssrc peers) (IsOrderly-without host r.waiting.ssrc peers o)
          (omega (arith, length-without-found is_waiting peers r.waiting r.first, o.few)) (Absent-without q.ssrc r.waiting.ssrc peers new) ne)
    ]

pub step_orderly : (host : Host) (room : Bool) (port : PortKind) (from : Addr) (message : Message) (now : ℕ) → IsOrderly host.ssrc host.peers → IsOrderly host.ssrc (step host room port from message now).peers
step_orderly host room port from message now o =
    left_by (IsOrderly host.ssrc) host room port from message now (record {
      same = o;
      guest = λ token ssrc name others p m ne none made. room_orderly host.ssrc (guest_of from token ssrc) host.peers others o made (Absent-no_peer ssrc host.peers none) ne;
      again = λ token ssrc name old p m some. IsOrderly-replaced host.ssrc (guest_of from token ssrc) host.peers o;
      join = λ token ssrc name peer p r m some t. IsOrderly-replaced host.ssrc (joined_at from peer) host.peers o;
      bye = λ token ssrc peer m some. IsOrderly-without host.ssrc peer.ssrc host.peers o;
    })

-- ---- other peers stay

names_other : (message named : Message) (ssrc other : ℕ) → message ≡ named → ssrc_of named ≡ Some ssrc → ssrc_of message ≢ Some other → ssrc ≢ other
names_other message named ssrc other m names ne e = ne (ap ssrc_of m ∙ names ∙ ap (λ (s : ℕ). Some s) e)

guest_stays : (host : Host) (from : Addr) (message : Message) (other token ssrc : ℕ) (name : List ℕ) (others : List Peer) → ssrc ≢ other → message ≡ Invite token ssrc name → peer_of ssrc host.peers ≡ None → with_room host.peers ≡ Some others
    → (peer_of other (others ++ guest_of from token ssrc ∷ []) ≡ peer_of other host.peers) ⊎ GaveWay host Ctl message other (others ++ guest_of from token ssrc ∷ [])
guest_stays host from message other token ssrc name others ne m none made =
    let pushed = peer_of-push other (guest_of from token ssrc) others ne in
    elim (room_cases host.peers others made) [
      | inl r ↦ inl (pushed ∙ ap (peer_of other) r.others_are)
      | inr r ↦ elim (eqb r.waiting.ssrc other) as (λ (b : Bool). eqb r.waiting.ssrc other ≡ b → (peer_of other (others ++ guest_of from token ssrc ∷ []) ≡ peer_of other host.peers) ⊎ GaveWay host Ctl message other (others ++ guest_of from token ssrc ∷ [])) [
        | true ↦ λ e.
            let own : r.waiting.ssrc ≡ other = eqb-true r.waiting.ssrc other e in
            inr (record {
              waiting = r.waiting;
              first = r.first;
              its_ssrc = own;
              full = r.full;
              on_control = refl;
              token = token;
              guest = ssrc;
              name = name;
              invited = m;
              unknown = none;
              gone = pushed ∙ ap (peer_of other) (r.others_are ∙ ap (λ (s : ℕ). without s host.peers) own) ∙ peer_of-without_own other host.peers;
            })
        | false ↦ λ e. inl (pushed ∙ ap (peer_of other) r.others_are ∙ peer_of-without other r.waiting.ssrc host.peers (eqb-false r.waiting.ssrc other e))
      ] refl
    ]

pub others_stay : OthersStay
others_stay host room port from message now other ne =
    left_by (λ (peers : List Peer). (peer_of other peers ≡ peer_of other host.peers) ⊎ GaveWay host port message other peers) host room port from message now (record {
      same = inl refl;
      guest = λ token ssrc name others p m own none made.
          subst (λ (k : PortKind). (peer_of other (others ++ guest_of from token ssrc ∷ []) ≡ peer_of other host.peers) ⊎ GaveWay host k message other (others ++ guest_of from token ssrc ∷ [])) (sym p)
          (guest_stays host from message other token ssrc name others (names_other message (Invite token ssrc name) ssrc other m refl ne) m none made);
      again = λ token ssrc name old p m some. inl (peer_of-replaced other (guest_of from token ssrc) host.peers (names_other message (Invite token ssrc name) ssrc other m refl ne));
      join = λ token ssrc name peer p r m some t.
          inl (peer_of-replaced other (joined_at from peer) host.peers (λ e. names_other message (Invite token ssrc name) ssrc other m refl ne (sym (found_ssrc ssrc host.peers peer some) ∙ e)));
      bye = λ token ssrc peer m some.
          inl (peer_of-without other peer.ssrc host.peers (λ e. names_other message (Bye token ssrc) ssrc other m refl ne (sym (found_ssrc ssrc host.peers peer some) ∙ e)));
    })

pub joined_stay : JoinedStay
joined_stay host room port from message now peer o ne own joined =
    elim (others_stay host room port from message now peer.ssrc ne) [
      | inl same ↦ same ∙ own
      | inr g ↦
          let first : peer_of g.waiting.ssrc host.peers ≡ Some g.waiting = found_own is_waiting host.peers g.waiting o.distinct g.first in
          let also : peer_of peer.ssrc host.peers ≡ Some g.waiting = subst (λ (s : ℕ). peer_of s host.peers ≡ Some g.waiting) g.its_ssrc first in
          let some : Some peer ≡ Some g.waiting = sym own ∙ also in
          let same : peer ≡ g.waiting = cc in
          let waits : not (is_joined g.waiting) ≡ true = found_passes is_waiting host.peers g.waiting g.first in
          let both : not (is_joined peer) ≡ true = subst (λ (x : Peer). not (is_joined x) ≡ true) (sym same) waits in
          let no : not true ≡ true = subst (λ (b : Bool). not b ≡ true) joined both in
          absurd cc
    ]

-- ---- the order stays

pub ssrcs-replaced : (q : Peer) (peers : List Peer) → ssrcs (replaced q peers) ≡ ssrcs peers
ssrcs-replaced q [] = refl
ssrcs-replaced q (peer ∷ peers) =
    elim (eqb peer.ssrc q.ssrc) as (λ (b : Bool). eqb peer.ssrc q.ssrc ≡ b → ssrcs (cond b q peer ∷ replaced q peers) ≡ ssrcs (peer ∷ peers)) [
      | true ↦ λ e. rw (ssrcs-replaced q peers) (ap (λ (s : ℕ). s ∷ ssrcs peers) (sym (eqb-true peer.ssrc q.ssrc e)))
      | false ↦ λ e. ap (λ (xs : List ℕ). peer.ssrc ∷ xs) (ssrcs-replaced q peers)
    ] refl

-- another SSRC than this one
abbrev pub is_other : (ssrc other : ℕ) → Bool
is_other ssrc s = not (eqb s ssrc)

pub ssrcs-without : (ssrc : ℕ) (peers : List Peer) → ssrcs (without ssrc peers) ≡ filter (is_other ssrc) (ssrcs peers)
ssrcs-without ssrc [] = refl
ssrcs-without ssrc (peer ∷ peers) =
    elim (eqb peer.ssrc ssrc) as (λ (b : Bool). ssrcs (cond (not b) (peer ∷ without ssrc peers) (without ssrc peers)) ≡ cond (not b) (peer.ssrc ∷ filter (is_other ssrc) (ssrcs peers)) (filter (is_other ssrc) (ssrcs peers))) [
      | true ↦ ssrcs-without ssrc peers
      | false ↦ ap (λ (xs : List ℕ). peer.ssrc ∷ xs) (ssrcs-without ssrc peers)
    ]

pub ssrcs-push : (q : Peer) (peers : List Peer) → ssrcs (peers ++ q ∷ []) ≡ ssrcs peers ++ q.ssrc ∷ []
ssrcs-push q [] = refl
ssrcs-push q (peer ∷ peers) = ap (λ (xs : List ℕ). peer.ssrc ∷ xs) (ssrcs-push q peers)

abbrev pub all : ℕ → Bool
all s = true

pub filter-all : (xs : List ℕ) → filter all xs ≡ xs
filter-all [] = refl
filter-all (x ∷ xs) = ap (λ (ys : List ℕ). x ∷ ys) (filter-all xs)

all_kept : (old new : List ℕ) → new ≡ old → KeepsOrder old new
all_kept old new e = record { keep = all; added = []; at_most_one = omega arith; parts = e ∙ sym (filter-all old) ∙ sym (append-nil (filter all old)) }

pub order_stays : OrderStays
order_stays host room port from message now =
    left_by (λ (peers : List Peer). KeepsOrder (ssrcs host.peers) (ssrcs peers)) host room port from message now (record {
      same = all_kept (ssrcs host.peers) (ssrcs host.peers) refl;
      guest = λ token ssrc name others p m own none made.
          elim (room_cases host.peers others made) [
            | inl r ↦ record { keep = all; added = ssrc ∷ []; at_most_one = omega arith; parts = ssrcs-push (guest_of from token ssrc) others ∙ ap (λ (xs : List ℕ). xs ++ ssrc ∷ []) (ap ssrcs r.others_are ∙ sym (filter-all (ssrcs host.peers))) }
            | inr r ↦ record { keep = is_other r.waiting.ssrc; added = ssrc ∷ []; at_most_one = omega arith; parts = ssrcs-push (guest_of from token ssrc) others ∙ ap (λ (xs : List ℕ). xs ++ ssrc ∷ []) (ap ssrcs r.others_are ∙ ssrcs-without r.waiting.ssrc host.peers) }
          ];
      again = λ token ssrc name old p m some. all_kept (ssrcs host.peers) (ssrcs (replaced (guest_of from token ssrc) host.peers)) (ssrcs-replaced (guest_of from token ssrc) host.peers);
      join = λ token ssrc name peer p r m some t. all_kept (ssrcs host.peers) (ssrcs (replaced (joined_at from peer) host.peers)) (ssrcs-replaced (joined_at from peer) host.peers);
      bye = λ token ssrc peer m some. record { keep = is_other peer.ssrc; added = []; at_most_one = omega arith; parts = ssrcs-without peer.ssrc host.peers ∙ sym (append-nil (filter (is_other peer.ssrc) (ssrcs host.peers))) };
    })
