-- What each act of the machine of invitations says of the room, the message and the peers.
use Rattle.std.proofs.Common.{◌≡◌, ℕ, Bool, true, List, Some, refl, sym, ap, subst, ◌∙◌, inl, inr}
use Rattle.std.proofs.lemmas.Bool.{cases_Bool}
use Rattle.jm_edge.specs.declared.Addr.{Addr}
use Rattle.apple_msg.specs.declared.message.Message.{Message}
use Rattle.apple_session.specs.declared.peer.Peer.{Peer}
use Rattle.apple_session.specs.declared.answer.PortKind.{PortKind}
use Rattle.apple_session.specs.declared.answer.Act.{Act}
use Rattle.apple_session.specs.declared.answer.Act.TheVariants.{Plain, Join, Leave, Ack, Ignored}
use Rattle.apple_session.specs.Host.{Host}
use Rattle.apple_session.specs.AnswerLaws.{acks_are_of_joined}
use Rattle.apple_session.specs.Peers.{is_joined}
use Rattle.apple_session.specs.Machine.{ends, step}
use Rattle.apple_session.specs.Conduct.{ssrc_of, takes_part}
use Rattle.apple_session.specs.Others.{found_ssrc}
use Rattle.apple_session.specs.Steps.{IsQuiet, step_by}

-- an act that isn't quiet
quiet_join : (act : Act) (ssrc : ℕ) → act ≡ Join ssrc → IsQuiet act → ⊥
quiet_join act ssrc e quiet = subst IsQuiet e quiet

ends_join : (peer : Peer) (ssrc : ℕ) → ends peer ≡ Join ssrc → ⊥
ends_join peer ssrc e = elim (cases_Bool (is_joined peer)) [
  | inl t ↦ let leaves : Leave peer.ssrc ≡ Join ssrc = rw t at e in cc
  | inr f ↦ let stays : Plain ≡ Join ssrc = rw f at e in cc
]

-- one joins only where there is room, and the message is of that one
pub joins_with_room : (host : Host) (room : Bool) (port : PortKind) (from : Addr) (message : Message) (now ssrc : ℕ) → (step host room port from message now).answer.act ≡ Join ssrc → (room ≡ true) × (ssrc_of message ≡ Some ssrc)
joins_with_room host room port from message now =
    step_by (λ (act : Act) (peers : List Peer). (ssrc : ℕ) → act ≡ Join ssrc → (room ≡ true) × (ssrc_of message ≡ Some ssrc)) host room port from message now (record {
      same = λ act quiet ssrc e. absurd (quiet_join act ssrc e quiet);
      guest = λ token other name others p m ne none made ssrc e. absurd cc;
      again = λ token other name old p m some ssrc e. absurd (ends_join old ssrc e);
      join = λ token other name peer p r m some t waits ssrc e.
          let own : peer.ssrc ≡ other = found_ssrc other host.peers peer some in
          let same : peer.ssrc ≡ ssrc = cc in
          (r, ap ssrc_of m ∙ ap (λ (s : ℕ). Some s) (sym own ∙ same));
      bye = λ token other peer m some ssrc e. absurd (ends_join peer ssrc e);
    })

-- an act that leaves the peers
abbrev pub Stays : Act → Type 0
Stays (Ack ssrc seq) = Unit {0}
Stays (Ignored why) = Unit {0}
Stays _ = ⊥

ends_stays : (peer : Peer) → Stays (ends peer) → ⊥
ends_stays peer h = elim (cases_Bool (is_joined peer)) [
  | inl t ↦ rw t at h
  | inr f ↦ rw f at h
]

pub stays_same : (host : Host) (room : Bool) (port : PortKind) (from : Addr) (message : Message) (now : ℕ) → Stays (step host room port from message now).answer.act → (step host room port from message now).peers ≡ host.peers
stays_same host room port from message now =
    step_by (λ (act : Act) (peers : List Peer). Stays act → peers ≡ host.peers) host room port from message now (record {
      same = λ act quiet h. refl;
      guest = λ token other name others p m ne none made h. absurd h;
      again = λ token other name old p m some h. absurd (ends_stays old h);
      join = λ token other name peer p r m some t waits h. absurd h;
      bye = λ token other peer m some h. absurd (ends_stays peer h);
    })

-- a report is passed on only of one that takes part
pub acks_from_joined : (host : Host) (room : Bool) (port : PortKind) (from : Addr) (message : Message) (now ssrc seq : ℕ) → (step host room port from message now).answer.act ≡ Ack ssrc seq → takes_part ssrc host.peers ≡ true
acks_from_joined host room port from message now ssrc seq is = (acks_are_of_joined host room port from message now ssrc seq is).joined
