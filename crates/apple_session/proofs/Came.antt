-- Where the peers come from, over whole runs; and which replies come.
use Rattle.std.proofs.Common.{◌≡◌, ℕ, Bool, true, false, not, cond, eqb, ltb, List, [], ◌∷◌, ◌++◌, length, Option, Some, None, refl, sym, ap, subst, ◌∙◌, append_assoc, arith}
use Rattle.std.specs.Prelude.{find, option_map, fold}
use Rattle.std.specs.List.{AllByRecursion}
use Rattle.std.proofs.lemmas.List.{append-nil}
use Rattle.std.proofs.lemmas.List.Elements.{All-from_recursion}
use Rattle.jm_edge.specs.declared.Addr.{Addr}
use Rattle.apple_msg.specs.declared.message.Message.{Message}
use Rattle.apple_msg.specs.declared.message.Message.TheVariants.{Invite}
use Rattle.apple_session.specs.declared.peer.Peer.{Peer}
use Rattle.apple_session.specs.declared.answer.PortKind.{PortKind}
use Rattle.apple_session.specs.declared.answer.PortKind.TheVariants.{Ctl, Rtp}
use Rattle.apple_session.specs.Host.{Host}
use Rattle.apple_session.specs.Peers.{is_from, is_waiting, without, replaced, IsOrderly}
use Rattle.apple_session.specs.Machine.{with_room, step}
use Rattle.apple_session.specs.Conduct.{Call, heard, dropped, after_call, peers_after, PeersStayOrderly, WasInvited, WasJoined, CameByInvitation, PeersCameByInvitation}
use Rattle.apple_session.specs.PeerLists.{IsOrderly-without}
use Rattle.apple_session.specs.Steps.{guest_of, joined_at, left_by}
use Rattle.apple_session.specs.Others.{found_ssrc, step_orderly}

-- ---- a property of each peer

each-without : (P : Peer → Type 0) (ssrc : ℕ) (peers : List Peer) → AllByRecursion P peers → AllByRecursion P (without ssrc peers)
each-without P ssrc [] h = tt
each-without P ssrc (peer ∷ peers) h =
    elim (eqb peer.ssrc ssrc) as (λ (b : Bool). AllByRecursion P (cond (not b) (peer ∷ without ssrc peers) (without ssrc peers))) [
      | true ↦ each-without P ssrc peers h.1
      | false ↦ (h.0, each-without P ssrc peers h.1)
    ]

each-replaced : (P : Peer → Type 0) (q : Peer) (peers : List Peer) → AllByRecursion P peers → P q → AllByRecursion P (replaced q peers)
each-replaced P q [] h own = tt
each-replaced P q (peer ∷ peers) h own =
    elim (eqb peer.ssrc q.ssrc) as (λ (b : Bool). AllByRecursion P (cond b q peer ∷ replaced q peers)) [
      | true ↦ (own, each-replaced P q peers h.1 own)
      | false ↦ (h.0, each-replaced P q peers h.1 own)
    ]

each-push : (P : Peer → Type 0) (q : Peer) (peers : List Peer) → AllByRecursion P peers → P q → AllByRecursion P (peers ++ q ∷ [])
each-push P q [] h own = (own, tt)
each-push P q (peer ∷ peers) h own = (h.0, each-push P q peers h.1 own)

each-found : (P : Peer → Type 0) (p : Peer → Bool) (peers : List Peer) (found : Peer) → AllByRecursion P peers → find p peers ≡ Some found → P found
each-found P p [] found h e = absurd cc
each-found P p (peer ∷ peers) found h e =
    elim (p peer) as (λ (b : Bool). cond b (Some peer) (find p peers) ≡ Some found → P found) [
      | true ↦ λ e. let same : peer ≡ found = cc in subst P same h.0
      | false ↦ λ e. each-found P p peers found h.1 e
    ] e

each-weaker : (P Q : Peer → Type 0) → ((peer : Peer) → P peer → Q peer) → (peers : List Peer) → AllByRecursion P peers → AllByRecursion Q peers
each-weaker P Q weaker [] h = tt
each-weaker P Q weaker (peer ∷ peers) h = (weaker peer h.0, each-weaker P Q weaker peers h.1)

each-with_room : (P : Peer → Type 0) (peers others : List Peer) → AllByRecursion P peers → with_room peers ≡ Some others → AllByRecursion P others
each-with_room P peers others h e =
    elim (ltb (length peers) 32) as (λ (b : Bool). cond b (Some peers) (option_map (λ (waiting : Peer). without waiting.ssrc peers) (find is_waiting peers)) ≡ Some others → AllByRecursion P others) [
      | true ↦ λ e. let same : peers ≡ others = cc in subst (λ (x : List Peer). AllByRecursion P x) same h
      | false ↦ λ e. elim (find is_waiting peers) as (λ (o : Option Peer). option_map (λ (waiting : Peer). without waiting.ssrc peers) o ≡ Some others → AllByRecursion P others) [
        | None ↦ λ e. absurd cc
        | Some waiting ↦ λ e. let same : without waiting.ssrc peers ≡ others = cc in subst (λ (x : List Peer). AllByRecursion P x) same (each-without P waiting.ssrc peers h)
      ] e
    ] e

-- ---- one more call

more : (calls : List Call) (call : Call) (peer : Peer) → WasInvited calls peer → WasInvited (calls ++ call ∷ []) peer
more calls call peer w = record {
  earlier = w.earlier;
  later = w.later ++ call ∷ [];
  room = w.room;
  name = w.name;
  now = w.now;
  parts = ap (λ (x : List Call). x ++ call ∷ []) w.parts ∙ append_assoc w.earlier (heard w.room Ctl peer.control (Invite peer.token peer.ssrc w.name) w.now ∷ w.later) (call ∷ []);
}

more_joined : (calls : List Call) (call : Call) (peer : Peer) (from : Addr) → WasJoined calls peer from → WasJoined (calls ++ call ∷ []) peer from
more_joined calls call peer from w = record {
  earlier = w.earlier;
  later = w.later ++ call ∷ [];
  name = w.name;
  now = w.now;
  parts = ap (λ (x : List Call). x ++ call ∷ []) w.parts ∙ append_assoc w.earlier (heard true Rtp from (Invite peer.token peer.ssrc w.name) w.now ∷ w.later) (call ∷ []);
  invited = w.invited;
}

still : (calls : List Call) (call : Call) (peer : Peer) → CameByInvitation calls peer → CameByInvitation (calls ++ call ∷ []) peer
still calls call peer came = record {
  invited = more calls call peer came.invited;
  joined = λ from e. more_joined calls call peer from (came.joined from e);
}

-- the one that an invitation on the control port makes
made : (calls : List Call) (room : Bool) (from : Addr) (token ssrc : ℕ) (name : List ℕ) (now : ℕ) → CameByInvitation (calls ++ heard room Ctl from (Invite token ssrc name) now ∷ []) (guest_of from token ssrc)
made calls room from token ssrc name now = record {
  invited = record { earlier = calls; later = []; room = room; name = name; now = now; parts = refl };
  joined = λ at e. absurd cc;
}

-- the one that an invitation on the data port joins
joins : (calls : List Call) (from : Addr) (token ssrc : ℕ) (name : List ℕ) (now : ℕ) (peer : Peer) → peer.token ≡ token → peer.ssrc ≡ ssrc → CameByInvitation calls peer
    → CameByInvitation (calls ++ heard true Rtp from (Invite token ssrc name) now ∷ []) (joined_at from peer)
joins calls from token ssrc name now peer t s came =
    let w = came.invited in
    let again : WasInvited calls (joined_at from peer) = record { earlier = w.earlier; later = w.later; room = w.room; name = w.name; now = w.now; parts = w.parts } in
    record {
      invited = more calls (heard true Rtp from (Invite token ssrc name) now) (joined_at from peer) again;
      joined = λ at e.
          let some : Some from ≡ Some at = e in
          let same : from ≡ at = cc in
          record {
            earlier = calls;
            later = [];
            name = name;
            now = now;
            parts = ap (λ (m : Message). calls ++ heard true Rtp from m now ∷ []) (sym (ap (λ (k : ℕ). Invite k peer.ssrc name) t ∙ ap (λ (k : ℕ). Invite token k name) s)) ∙ ap (λ (a : Addr). calls ++ heard true Rtp a (Invite peer.token peer.ssrc name) now ∷ []) same;
            invited = again;
          };
    }

heard_came : (ssrc : ℕ) (name : List ℕ) (peers : List Peer) (calls : List Call) (room : Bool) (port : PortKind) (from : Addr) (message : Message) (now : ℕ) → AllByRecursion (CameByInvitation calls) peers
    → AllByRecursion (CameByInvitation (calls ++ heard room port from message now ∷ [])) (step (record { ssrc = ssrc; name = name; peers = peers }) room port from message now).peers
heard_came own own_name peers calls room port from message now h =
    let host : Host = record { ssrc = own; name = own_name; peers = peers } in
    let call : Call = heard room port from message now in
    let P : Peer → Type 0 = CameByInvitation (calls ++ call ∷ []) in
    let kept : AllByRecursion P peers = each-weaker (CameByInvitation calls) P (still calls call) peers h in
    left_by (AllByRecursion P) host room port from message now (record {
      same = kept;
      guest = λ token ssrc name others p m ne none room_made.
          each-push P (guest_of from token ssrc) others (each-with_room P peers others kept room_made)
          (rw (p, m) (made calls room from token ssrc name now));
      again = λ token ssrc name old p m some. each-replaced P (guest_of from token ssrc) peers kept (rw (p, m) (made calls room from token ssrc name now));
      join = λ token ssrc name peer p r m some t.
          each-replaced P (joined_at from peer) peers kept
          (rw (p, r, m) (joins calls from token ssrc name now peer t (found_ssrc ssrc peers peer some) (each-found (CameByInvitation calls) (is_from ssrc) peers peer h some)));
      bye = λ token ssrc peer m some. each-without P peer.ssrc peers kept;
    })

call_came : (ssrc : ℕ) (name : List ℕ) (peers : List Peer) (calls : List Call) (call : Call) → AllByRecursion (CameByInvitation calls) peers → AllByRecursion (CameByInvitation (calls ++ call ∷ [])) (after_call ssrc name peers call)
call_came ssrc name peers calls (heard room port from message now) h = heard_came ssrc name peers calls room port from message now h
call_came ssrc name peers calls (dropped other) h =
    each-without (CameByInvitation (calls ++ dropped other ∷ [])) other peers (each-weaker (CameByInvitation calls) (CameByInvitation (calls ++ dropped other ∷ [])) (still calls (dropped other)) peers h)

run_came : (ssrc : ℕ) (name : List ℕ) (calls before : List Call) (peers : List Peer) → AllByRecursion (CameByInvitation before) peers → AllByRecursion (CameByInvitation (before ++ calls)) (fold (after_call ssrc name) peers calls)
run_came ssrc name [] before peers h = subst (λ (x : List Call). AllByRecursion (CameByInvitation x) peers) (sym (append-nil before)) h
run_came ssrc name (call ∷ calls) before peers h =
    subst (λ (x : List Call). AllByRecursion (CameByInvitation x) (fold (after_call ssrc name) (after_call ssrc name peers call) calls)) (append_assoc before (call ∷ []) calls)
    (run_came ssrc name calls (before ++ call ∷ []) (after_call ssrc name peers call) (call_came ssrc name peers before call h))

pub peers_came_by_invitation : PeersCameByInvitation
peers_came_by_invitation ssrc name calls =
    All-from_recursion (CameByInvitation calls) (peers_after ssrc name calls) (run_came ssrc name calls [] [] tt)

-- ---- the list stays orderly

run_orderly : (ssrc : ℕ) (name : List ℕ) (calls : List Call) (peers : List Peer) → IsOrderly ssrc peers → IsOrderly ssrc (fold (after_call ssrc name) peers calls)
run_orderly ssrc name [] peers o = o
run_orderly ssrc name (heard room port from message now ∷ calls) peers o =
    run_orderly ssrc name calls (step (record { ssrc = ssrc; name = name; peers = peers }) room port from message now).peers (step_orderly (record { ssrc = ssrc; name = name; peers = peers }) room port from message now o)
run_orderly ssrc name (dropped other ∷ calls) peers o = run_orderly ssrc name calls (without other peers) (IsOrderly-without ssrc other peers o)

pub peers_stay_orderly : PeersStayOrderly
peers_stay_orderly ssrc name calls = run_orderly ssrc name calls [] (record { few = omega arith; distinct = tt; strangers = tt })
