-- What an answer says, and the places in the list, from the cases of a step.
use Rattle.std.proofs.Common.{◌≡◌, ℕ, Bool, true, false, cond, eqb, List, [], ◌∷◌, ◌++◌, Option, Some, None, refl, sym, ap, subst, ◌∙◌, inl, inr, ◌⊎◌}
use Rattle.std.specs.Prelude.{⊤, slice_index, IfSome}
use Rattle.std.proofs.lemmas.Bool.{eqb-true}
use Rattle.jm_edge.specs.declared.Addr.{Addr}
use Rattle.apple_msg.specs.declared.message.Message.{Message}
use Rattle.apple_msg.specs.declared.message.Message.TheVariants.{Invite, Accept, Reject, Bye, Clock, Feedback, RateLimit}
use Rattle.apple_session.specs.declared.peer.Peer.{Peer}
use Rattle.apple_session.specs.declared.answer.Act.{Act}
use Rattle.apple_session.specs.declared.answer.Act.TheVariants.{Plain, Join, Leave, Ack, Clocked, Ignored}
use Rattle.apple_session.specs.declared.answer.Why.TheVariants.{NotJoined, NotUsed}
use Rattle.apple_session.specs.declared.answer.PortKind.{PortKind}
use Rattle.apple_session.specs.declared.answer.PortKind.TheVariants.{Ctl, Rtp}
use Rattle.apple_session.specs.Host.{Host}
use Rattle.apple_session.specs.Peers.{is_joined, peer_of, without, replaced}
use Rattle.apple_session.specs.Machine.{Outcome, silent, replied, accepted, rejected, ends, with_room, newly_invited, invited, on_control, joining, called, on_data, gone, of_joined, offset, counted, step}
use Rattle.apple_session.specs.Conduct.{ssrcs, is_joined_one, takes_part}
use Rattle.apple_session.specs.Answered.{KeepsPlaces, AddsGuest, OrderIsOfFirstInvitations, InvitedKeepTheirPlaces, IsTaken, OkIsOfListed, IsRefused, NoChangesNothing, ByesEnd, IsFeedback, AcksAreOfJoined, IsThirdClock, ClockedAreOfJoined}
use Rattle.apple_session.specs.Steps.{guest_of, joined_at, left_by}
use Rattle.apple_session.specs.Others.{found_ssrc, peer_of-without_own, peer_of-replaced_own, peer_of-push_own, peer_of-none_without, room_cases, ssrcs-replaced, ssrcs-without, is_other, all, filter-all}

-- ---- the order of first invitations

all_stay : (old new : List Peer) → ssrcs new ≡ ssrcs old → KeepsPlaces old new
all_stay old new e = record { keep = all; places = e ∙ sym (filter-all (ssrcs old)) }

one_goes : (ssrc : ℕ) (peers : List Peer) → KeepsPlaces peers (without ssrc peers)
one_goes ssrc peers = record { keep = is_other ssrc; places = ssrcs-without ssrc peers }

room_keeps : (peers others : List Peer) → with_room peers ≡ Some others → KeepsPlaces peers others
room_keeps peers others made =
    elim (room_cases peers others made) [
      | inl r ↦ all_stay peers others (ap ssrcs r.others_are)
      | inr r ↦ subst (λ (x : List Peer). KeepsPlaces peers x) (sym r.others_are) (one_goes r.waiting.ssrc peers)
    ]

pub order_of_first_invitations : OrderIsOfFirstInvitations
order_of_first_invitations host room port from message now =
    left_by (λ (peers : List Peer). KeepsPlaces host.peers peers ⊎ AddsGuest port from message host.peers peers) host room port from message now (record {
      same = inl (all_stay host.peers host.peers refl);
      guest = λ token ssrc name others p m own none made. inr (record {
        guest = guest_of from token ssrc;
        others = others;
        parts = refl;
        others_keep = room_keeps host.peers others made;
        on_control = p;
        name = name;
        invited = m;
        its_address = refl;
        unknown = none;
        only_invited = refl;
      });
      again = λ token ssrc name old p m some. inl (all_stay host.peers (replaced (guest_of from token ssrc) host.peers) (ssrcs-replaced (guest_of from token ssrc) host.peers));
      join = λ token ssrc name peer p r m some t. inl (all_stay host.peers (replaced (joined_at from peer) host.peers) (ssrcs-replaced (joined_at from peer) host.peers));
      bye = λ token ssrc peer m some. inl (one_goes peer.ssrc host.peers);
    })

pub invited_keep_their_places : InvitedKeepTheirPlaces
invited_keep_their_places host room port from token ssrc name now peer some =
    left_by (λ (peers : List Peer). ssrcs peers ≡ ssrcs host.peers) host room port from (Invite token ssrc name) now (record {
      same = refl;
      guest = λ token' ssrc' name' others p m own none made.
          let named : ssrc ≡ ssrc' = cc in
          let both : Some peer ≡ None = sym some ∙ ap (λ (s : ℕ). peer_of s host.peers) named ∙ none in
          absurd cc;
      again = λ token' ssrc' name' old p m found. ssrcs-replaced (guest_of from token' ssrc') host.peers;
      join = λ token' ssrc' name' found p r m its t. ssrcs-replaced (joined_at from found) host.peers;
      bye = λ token' ssrc' found m its. absurd cc;
    })

-- ---- OK and NO

-- what OK and NO say
abbrev Says : Host → PortKind → Message → Outcome → (reply : Message) → Type 0
Says host port message outcome (Accept token ssrc name) = IsTaken host port message token ssrc name outcome.peers
Says host port message outcome (Reject token ssrc name) = IsRefused host message token ssrc name outcome
Says host port message outcome (Invite token ssrc name) = ⊤
Says host port message outcome (Bye token ssrc) = ⊤
Says host port message outcome (Clock ssrc count times) = ⊤
Says host port message outcome (Feedback ssrc seq) = ⊤
Says host port message outcome RateLimit = ⊤

abbrev SaysWell : Host → PortKind → Message → Outcome → Type 0
SaysWell host port message outcome = IfSome outcome.answer.reply (Says host port message outcome)

-- the sender is listed so, and is joined where this is the data port
taken : (host : Host) (port : PortKind) (token ssrc : ℕ) (name : List ℕ) (act : Act) (peers : List Peer) (peer : Peer) → peer_of ssrc peers ≡ Some peer → peer.token ≡ token → (port ≡ Rtp → is_joined peer ≡ true)
    → SaysWell host port (Invite token ssrc name) (accepted host token act peers)
taken host port token ssrc name act peers peer some t joined =
    record { guest = ssrc; guest_name = name; invited = refl; peer = peer; listed = some; its_token = t; joined = joined; own_ssrc = refl; own_name = refl }

refused : (host : Host) (port : PortKind) (token ssrc : ℕ) (name : List ℕ) → SaysWell host port (Invite token ssrc name) (rejected host token)
refused host port token ssrc name =
    record { guest = ssrc; guest_name = name; invited = refl; plain = refl; same = refl; own_ssrc = refl; own_name = refl }

not_data : (port : PortKind) (fact : Type 0) → port ≡ Ctl → port ≡ Rtp → fact
not_data port fact p q = absurd cc

said_control : (host : Host) (from : Addr) (token ssrc : ℕ) (name : List ℕ) → SaysWell host Ctl (Invite token ssrc name) (on_control host from token ssrc)
said_control host from token ssrc name =
    let guest : Peer = guest_of from token ssrc in
    elim (eqb ssrc host.ssrc) as (λ (b : Bool). SaysWell host Ctl (Invite token ssrc name) (cond b (rejected host token) (invited host guest (peer_of ssrc host.peers)))) [
      | true ↦ refused host Ctl token ssrc name
      | false ↦ elim (peer_of ssrc host.peers) as (λ (o : Option Peer). peer_of ssrc host.peers ≡ o → SaysWell host Ctl (Invite token ssrc name) (invited host guest o)) [
        | None ↦ λ none. elim (with_room host.peers) as (λ (r : Option (List Peer)). with_room host.peers ≡ r → SaysWell host Ctl (Invite token ssrc name) (newly_invited host guest r)) [
          | None ↦ λ full. refused host Ctl token ssrc name
          | Some others ↦ λ made.
              let still : peer_of ssrc others ≡ None = elim (room_cases host.peers others made) [
                | inl r ↦ ap (peer_of ssrc) r.others_are ∙ none
                | inr r ↦ ap (peer_of ssrc) r.others_are ∙ peer_of-none_without ssrc r.waiting.ssrc host.peers none
              ] in
              taken host Ctl token ssrc name Plain (others ++ guest ∷ []) guest (peer_of-push_own guest others still) refl (not_data Ctl (is_joined guest ≡ true) refl)
        ] refl
        | Some old ↦ λ some. elim (eqb old.token token) as (λ (b : Bool). eqb old.token token ≡ b → SaysWell host Ctl (Invite token ssrc name) (cond b (accepted host token Plain host.peers) (accepted host token (ends old) (replaced guest host.peers)))) [
          | true ↦ λ t. taken host Ctl token ssrc name Plain host.peers old some (eqb-true old.token token t) (not_data Ctl (is_joined old ≡ true) refl)
          | false ↦ λ t. taken host Ctl token ssrc name (ends old) (replaced guest host.peers) guest (peer_of-replaced_own guest host.peers old some) refl (not_data Ctl (is_joined guest ≡ true) refl)
        ] refl
      ] refl
    ]

-- the peer of the data port's invitation has its token
said_joining : (host : Host) (room : Bool) (from : Addr) (ssrc : ℕ) (name : List ℕ) (peer : Peer) → peer_of ssrc host.peers ≡ Some peer → SaysWell host Rtp (Invite peer.token ssrc name) (joining host room from peer)
said_joining host room from ssrc name peer some =
    let joined : Peer = joined_at from peer in
    let own : peer.ssrc ≡ ssrc = found_ssrc ssrc host.peers peer some in
    let under : peer_of peer.ssrc host.peers ≡ Some peer = subst (λ (s : ℕ). peer_of s host.peers ≡ Some peer) (sym own) some in
    let now : peer_of ssrc (replaced joined host.peers) ≡ Some joined = subst (λ (s : ℕ). peer_of s (replaced joined host.peers) ≡ Some joined) own (peer_of-replaced_own joined host.peers peer under) in
    elim (is_joined peer) as (λ (b : Bool). is_joined peer ≡ b → SaysWell host Rtp (Invite peer.token ssrc name) (cond b (accepted host peer.token Plain host.peers) (cond room (accepted host peer.token (Join peer.ssrc) (replaced joined host.peers)) (rejected host peer.token)))) [
      | true ↦ λ already. taken host Rtp peer.token ssrc name Plain host.peers peer some refl (λ _. already)
      | false ↦ λ waits. elim room as (λ (b : Bool). SaysWell host Rtp (Invite peer.token ssrc name) (cond b (accepted host peer.token (Join peer.ssrc) (replaced joined host.peers)) (rejected host peer.token))) [
        | true ↦ taken host Rtp peer.token ssrc name (Join peer.ssrc) (replaced joined host.peers) joined now refl (λ _. refl)
        | false ↦ refused host Rtp peer.token ssrc name
      ]
    ] refl

said_data : (host : Host) (room : Bool) (from : Addr) (token ssrc : ℕ) (name : List ℕ) → SaysWell host Rtp (Invite token ssrc name) (on_data host room from token ssrc)
said_data host room from token ssrc name =
    elim (peer_of ssrc host.peers) as (λ (o : Option Peer). peer_of ssrc host.peers ≡ o → SaysWell host Rtp (Invite token ssrc name) (called host room from token o)) [
      | None ↦ λ none. refused host Rtp token ssrc name
      | Some peer ↦ λ some. elim (eqb peer.token token) as (λ (b : Bool). eqb peer.token token ≡ b → SaysWell host Rtp (Invite token ssrc name) (cond b (joining host room from peer) (rejected host token))) [
        | true ↦ λ t. subst (λ (k : ℕ). SaysWell host Rtp (Invite k ssrc name) (joining host room from peer)) (eqb-true peer.token token t) (said_joining host room from ssrc name peer some)
        | false ↦ λ t. refused host Rtp token ssrc name
      ] refl
    ] refl

said_gone : (host : Host) (port : PortKind) (message : Message) (o : Option Peer) → SaysWell host port message (gone host o)
said_gone host port message None = tt
said_gone host port message (Some peer) = tt

said_joined : (host : Host) (port : PortKind) (message : Message) (o : Option Peer) (outcome : Outcome) → SaysWell host port message outcome → SaysWell host port message (of_joined host o outcome)
said_joined host port message None outcome h = tt
said_joined host port message (Some peer) outcome h =
    elim (is_joined peer) as (λ (b : Bool). SaysWell host port message (cond b outcome (silent (Ignored NotJoined) host.peers))) [
      | true ↦ h
      | false ↦ tt
    ]

said_counted : (host : Host) (port : PortKind) (message : Message) (count : ℕ) (times : List ℕ) (now : ℕ) → SaysWell host port message (counted host count times now)
said_counted host port message count times now =
    elim (eqb count 0) as (λ (b : Bool). SaysWell host port message (cond b (replied (Clock host.ssrc 1 (slice_index times 0 ∷ now ∷ 0 ∷ [])) Plain host.peers) (cond (eqb count 2) (silent (Clocked (offset times)) host.peers) (silent (Ignored NotUsed) host.peers)))) [
      | true ↦ tt
      | false ↦ elim (eqb count 2) as (λ (b : Bool). SaysWell host port message (cond b (silent (Clocked (offset times)) host.peers) (silent (Ignored NotUsed) host.peers))) [
        | true ↦ tt
        | false ↦ tt
      ]
    ]

said_step : (host : Host) (room : Bool) (port : PortKind) (from : Addr) (message : Message) (now : ℕ) → SaysWell host port message (step host room port from message now)
unfolding step
said_step host room Ctl from (Invite token ssrc name) now = said_control host from token ssrc name
said_step host room Rtp from (Invite token ssrc name) now = said_data host room from token ssrc name
said_step host room port from (Accept token ssrc name) now = tt
said_step host room port from (Reject token ssrc name) now = tt
said_step host room port from (Bye token ssrc) now = said_gone host port (Bye token ssrc) (peer_of ssrc host.peers)
said_step host room Ctl from (Clock ssrc count times) now = tt
said_step host room Rtp from (Clock ssrc count times) now = said_joined host Rtp (Clock ssrc count times) (peer_of ssrc host.peers) (counted host count times now) (said_counted host Rtp (Clock ssrc count times) count times now)
said_step host room port from (Feedback ssrc seq) now = said_joined host port (Feedback ssrc seq) (peer_of ssrc host.peers) (silent (Ack ssrc seq) host.peers) tt
said_step host room port from RateLimit now = tt

pub ok_is_of_listed : OkIsOfListed
ok_is_of_listed host room port from message now token ssrc name e =
    let outcome : Outcome = step host room port from message now in
    subst (λ (reply : Option Message). IfSome reply (Says host port message outcome)) e (said_step host room port from message now)

pub no_changes_nothing : NoChangesNothing
no_changes_nothing host room port from message now token ssrc name e =
    let outcome : Outcome = step host room port from message now in
    subst (λ (reply : Option Message). IfSome reply (Says host port message outcome)) e (said_step host room port from message now)

-- ---- the end of a peer

gone_own : (host : Host) (ssrc : ℕ) (o : Option Peer) → peer_of ssrc host.peers ≡ o → peer_of ssrc (gone host o).peers ≡ None
gone_own host ssrc None e = e
gone_own host ssrc (Some peer) e =
    subst (λ (s : ℕ). peer_of s (without peer.ssrc host.peers) ≡ None) (found_ssrc ssrc host.peers peer e) (peer_of-without_own peer.ssrc host.peers)

pub byes_end : ByesEnd
unfolding step
byes_end host room port from token ssrc now = gone_own host ssrc (peer_of ssrc host.peers) refl

-- ---- feedback and clocks

-- what the acts of joined senders say
abbrev Means : Host → PortKind → Message → Act → Type 0
Means host port message (Ack ssrc seq) = IsFeedback host message ssrc seq
Means host port message (Clocked difference) = IsThirdClock host port message difference
Means host port message Plain = ⊤
Means host port message (Join ssrc) = ⊤
Means host port message (Leave ssrc) = ⊤
Means host port message (Ignored why) = ⊤

meant_end : (host : Host) (port : PortKind) (message : Message) (peer : Peer) → Means host port message (ends peer)
meant_end host port message peer =
    elim (is_joined peer) as (λ (b : Bool). Means host port message (cond b (Leave peer.ssrc) Plain)) [
      | true ↦ tt
      | false ↦ tt
    ]

meant_control : (host : Host) (from : Addr) (message : Message) (token ssrc : ℕ) → Means host Ctl message (on_control host from token ssrc).answer.act
meant_control host from message token ssrc =
    let guest : Peer = guest_of from token ssrc in
    elim (eqb ssrc host.ssrc) as (λ (b : Bool). Means host Ctl message (cond b (rejected host token) (invited host guest (peer_of ssrc host.peers))).answer.act) [
      | true ↦ tt
      | false ↦ elim (peer_of ssrc host.peers) as (λ (o : Option Peer). Means host Ctl message (invited host guest o).answer.act) [
        | None ↦ elim (with_room host.peers) as (λ (r : Option (List Peer)). Means host Ctl message (newly_invited host guest r).answer.act) [
          | None ↦ tt
          | Some others ↦ tt
        ]
        | Some old ↦ elim (eqb old.token token) as (λ (b : Bool). Means host Ctl message (cond b (accepted host token Plain host.peers) (accepted host token (ends old) (replaced guest host.peers))).answer.act) [
          | true ↦ tt
          | false ↦ meant_end host Ctl message old
        ]
      ]
    ]

meant_data : (host : Host) (room : Bool) (from : Addr) (message : Message) (token ssrc : ℕ) → Means host Rtp message (on_data host room from token ssrc).answer.act
meant_data host room from message token ssrc =
    elim (peer_of ssrc host.peers) as (λ (o : Option Peer). Means host Rtp message (called host room from token o).answer.act) [
      | None ↦ tt
      | Some peer ↦ elim (eqb peer.token token) as (λ (b : Bool). Means host Rtp message (cond b (joining host room from peer) (rejected host token)).answer.act) [
        | false ↦ tt
        | true ↦ elim (is_joined peer) as (λ (b : Bool). Means host Rtp message (cond b (accepted host peer.token Plain host.peers) (cond room (accepted host peer.token (Join peer.ssrc) (replaced (joined_at from peer) host.peers)) (rejected host peer.token))).answer.act) [
          | true ↦ tt
          | false ↦ elim room as (λ (b : Bool). Means host Rtp message (cond b (accepted host peer.token (Join peer.ssrc) (replaced (joined_at from peer) host.peers)) (rejected host peer.token)).answer.act) [
            | true ↦ tt
            | false ↦ tt
          ]
        ]
      ]
    ]

meant_gone : (host : Host) (port : PortKind) (message : Message) (o : Option Peer) → Means host port message (gone host o).answer.act
meant_gone host port message None = tt
meant_gone host port message (Some peer) = meant_end host port message peer

-- of a joined peer, what it says while it takes part
meant_joined : (host : Host) (port : PortKind) (message : Message) (ssrc : ℕ) (outcome : Outcome) → (takes_part ssrc host.peers ≡ true → Means host port message outcome.answer.act)
    → Means host port message (of_joined host (peer_of ssrc host.peers) outcome).answer.act
meant_joined host port message ssrc outcome h =
    elim (peer_of ssrc host.peers) as (λ (o : Option Peer). peer_of ssrc host.peers ≡ o → Means host port message (of_joined host o outcome).answer.act) [
      | None ↦ λ none. tt
      | Some peer ↦ λ some. elim (is_joined peer) as (λ (b : Bool). is_joined peer ≡ b → Means host port message (cond b outcome (silent (Ignored NotJoined) host.peers)).answer.act) [
        | true ↦ λ j. h (ap is_joined_one some ∙ j)
        | false ↦ λ j. tt
      ] refl
    ] refl

meant_counted : (host : Host) (ssrc count : ℕ) (times : List ℕ) (now : ℕ) → takes_part ssrc host.peers ≡ true → Means host Rtp (Clock ssrc count times) (counted host count times now).answer.act
meant_counted host ssrc count times now joined =
    elim (eqb count 0) as (λ (b : Bool). Means host Rtp (Clock ssrc count times) (cond b (replied (Clock host.ssrc 1 (slice_index times 0 ∷ now ∷ 0 ∷ [])) Plain host.peers) (cond (eqb count 2) (silent (Clocked (offset times)) host.peers) (silent (Ignored NotUsed) host.peers))).answer.act) [
      | true ↦ tt
      | false ↦ elim (eqb count 2) as (λ (b : Bool). eqb count 2 ≡ b → Means host Rtp (Clock ssrc count times) (cond b (silent (Clocked (offset times)) host.peers) (silent (Ignored NotUsed) host.peers)).answer.act) [
        | true ↦ λ t. record { ssrc = ssrc; times = times; on_data = refl; third = ap (λ (k : ℕ). Clock ssrc k times) (eqb-true count 2 t); joined = joined; difference_is = refl }
        | false ↦ λ t. tt
      ] refl
    ]

meant_step : (host : Host) (room : Bool) (port : PortKind) (from : Addr) (message : Message) (now : ℕ) → Means host port message (step host room port from message now).answer.act
unfolding step
meant_step host room Ctl from (Invite token ssrc name) now = meant_control host from (Invite token ssrc name) token ssrc
meant_step host room Rtp from (Invite token ssrc name) now = meant_data host room from (Invite token ssrc name) token ssrc
meant_step host room port from (Accept token ssrc name) now = tt
meant_step host room port from (Reject token ssrc name) now = tt
meant_step host room port from (Bye token ssrc) now = meant_gone host port (Bye token ssrc) (peer_of ssrc host.peers)
meant_step host room Ctl from (Clock ssrc count times) now = tt
meant_step host room Rtp from (Clock ssrc count times) now = meant_joined host Rtp (Clock ssrc count times) ssrc (counted host count times now) (meant_counted host ssrc count times now)
meant_step host room port from (Feedback ssrc seq) now = meant_joined host port (Feedback ssrc seq) ssrc (silent (Ack ssrc seq) host.peers) (λ joined. record { its_number = refl; joined = joined })
meant_step host room port from RateLimit now = tt

pub acks_are_of_joined : AcksAreOfJoined
acks_are_of_joined host room port from message now ssrc seq e = subst (Means host port message) e (meant_step host room port from message now)

pub clocked_are_of_joined : ClockedAreOfJoined
clocked_are_of_joined host room port from message now difference e = subst (Means host port message) e (meant_step host room port from message now)
