-- The peers of a session are the machine's, and one that is taken out is gone.
use Rattle.std.proofs.Common.{ℕ, ◌≡◌, refl, sym, ap, subst, ◌∙◌, inl, inr, Bool, true, false, List, [], ◌∷◌, Option, Some, None, length, fold}
use Rattle.std.specs.Prelude.{◌==◌, ◌&&◌, nat_eq, All}
use Rattle.std.specs.List.{AllByRecursion, IsDistinct}
use Rattle.std.specs.Cmp.{nat_eq_equiv}
use Rattle.std.proofs.lemmas.Bool.{cases_Bool, eqb-true}
use Rattle.std.proofs.lemmas.List.Sums.{fold-append}
use Rattle.jm_edge.specs.declared.Addr.{Addr}
use Rattle.apple_msg.specs.declared.message.Message.{Message}
use Rattle.apple_session.specs.declared.peer.Peer.{Peer}
use Rattle.apple_session.specs.declared.answer.PortKind.{PortKind}
use Rattle.apple_session.specs.declared.answer.Act.{Act}
use Rattle.apple_session.specs.declared.answer.Act.TheVariants as act
use Rattle.apple_session.specs.Conduct.{Call, after_call, ssrc_of, is_joined_one, CameByInvitation}
use Rattle.apple_session.specs.Host.{Host}
use Rattle.apple_session.specs.Others.{peer_of-without, peer_of-without_own}
use Rattle.apple_session.specs.Peers.{IsOrderly}
use Rattle.apple_session.specs.Acts.{acts_tell}
use Rattle.apple_session.proofs.Came.{peers_came_by_invitation}
use Rattle.jm_book.specs.declared.participants.Participant.{Participant}
use Rattle.jm_book.specs.declared.marks.Report.{Report}
use Rattle.jm_book.specs.declared.marks.Report.TheVariants as report
use Rattle.jm_book.specs.declared.answers.Acted.{Acted}
use Rattle.jm_book.specs.declared.answers.Acted.TheVariants as acted
use Rattle.jm_book.specs.declared.answers.Said.TheVariants as said
use Rattle.jm_book.specs.declared.steps.Step.{Step}
use Rattle.jm_book.specs.declared.steps.Step.TheVariants.{Enter, Play, Cut, Ack, Join, Leave, Hear, Feedback, Say}
use Rattle.jm_book.specs.Participants.{find_joined, is_member, others_than, report_of, ssrcs_of}
use Rattle.jm_book.specs.Members.{has_room_for, outcome_of}
use Rattle.jm_book.specs.Session.{Session, session_of, after, nothing}
use Rattle.jm_book.specs.Answers.{acted_of, acted_as, reported, say_in}
use Rattle.jm_book.specs.AloneLaws.{leaves_named}
use Rattle.jm_book.specs.InvitedLaws.{legal_sound, part_along}
use Rattle.jm_book.specs.LegalJoined.{legal_participate}
use Rattle.jm_book.specs.LegalLaws.{taken_apart}
use Rattle.jm_book.specs.StepLaws.{session_push}
use Rattle.jm_book.specs.MembersConduct.{names, is_left_answer, takes_out}
use Rattle.jm_book.specs.PeersConduct.{call_of, calls_from, calls_of, PeersCome, PartsStay, IsOut, LeaversGo, DropsPeer, LeaveDropsPeer}

-- ---- the peers are the machine's

-- the host after these calls
abbrev host_after : Host → List Call → Host
host_after host calls = record host { peers = fold (after_call host.ssrc host.name) host.peers calls }

host_push : (s : Session) (step : Step) → (after s step).members.host ≡ host_after s.members.host (call_of s step)
host_push s Enter = refl
host_push s (Play player command tick) = refl
host_push s (Cut tick) = refl
host_push s (Ack ssrc seq) = refl
host_push s (Join ssrc) = refl
host_push s (Leave ssrc) = refl
host_push s (Hear ssrc seq) = refl
host_push s Feedback = refl
host_push s (Say port from message now) = refl

host_along : (s : Session) (steps : List Step) → (fold after s steps).members.host ≡ host_after s.members.host (calls_from s steps)
host_along s [] = refl
host_along s (step ∷ steps) =
    host_along (after s step) steps
    ∙ ap (λ (host : Host). host_after host (calls_from (after s step) steps)) (host_push s step)
    ∙ ap (λ (peers : List Peer). record s.members.host { peers = peers }) (sym (fold-append (after_call s.members.host.ssrc s.members.host.name) s.members.host.peers (call_of s step) (calls_from (after s step) steps)))

pub peers_come : PeersCome
peers_come config steps =
    let host = host_along (nothing config) steps in
    let peers = ap (λ (h : Host). h.peers) host in
    record {
      ssrc = ap (λ (h : Host). h.ssrc) host;
      name = ap (λ (h : Host). h.name) host;
      peers = peers;
      came = subst (λ (ps : List Peer). All (CameByInvitation (calls_of config steps)) ps) (sym peers) (peers_came_by_invitation config.ssrc config.name (calls_of config steps));
    }

-- ---- one that takes part, and one that is taken out

pub parts_stay : PartsStay
parts_stay config before later ssrc legal part never =
    let apart = taken_apart config [] before later legal in
    part_along config ssrc before later apart.1 (legal_sound config before apart.0) never part

pub leave_drops_peer : LeaveDropsPeer
leave_drops_peer config steps ssrc =
    let s = session_of config steps in
    subst (λ (t : Session). DropsPeer ssrc s t) (sym (session_push config steps (Leave ssrc))) record {
      gone = peer_of-without_own ssrc s.members.host.peers;
      others = λ other apart. peer_of-without other ssrc s.members.host.peers (λ e. apart (sym e));
    }

-- no other participant has the SSRC of the one that left
absent_behind : (key ssrc : ℕ) (joined : List Participant) → key ≡ ssrc → AllByRecursion (λ other. nat_eq key other ≡ false) (ssrcs_of joined) → is_member ssrc joined ≡ false
absent_behind key ssrc [] same h = refl
absent_behind key ssrc (one ∷ others) same h =
    let differs : (one.ssrc == ssrc) ≡ false = nat_eq_equiv.symm one.ssrc ssrc ∙ subst (λ (k : ℕ). nat_eq k one.ssrc ≡ false) same h.0 in
    rw differs (absent_behind key ssrc others same h.1)

member_gone : (ssrc : ℕ) (joined : List Participant) → IsDistinct nat_eq (ssrcs_of joined) → is_member ssrc (others_than ssrc joined) ≡ false
unfolding IsDistinct
member_gone ssrc [] d = refl
member_gone ssrc (one ∷ others) d = elim (cases_Bool (one.ssrc == ssrc)) [
  | inl t ↦ rw t (absent_behind one.ssrc ssrc others (eqb-true one.ssrc ssrc t) d.0)
  | inr f ↦ rw (f, f) (member_gone ssrc others d.1)
]

-- the act by which someone left
record IsLeave (done : Act) : Type 0 where
  ssrc : ℕ
  is : done ≡ act.Leave ssrc

report_no_leave : (answer : Report) → acted_as answer ≡ acted.Left → ⊥
report_no_leave (report.Moved to) h = cc
report_no_leave (report.Old old) h = cc
report_no_leave (report.NotSent last) h = cc

reported_no_leave : (packets seq : ℕ) (found : Option Participant) → reported packets seq found ≡ acted.Left → ⊥
reported_no_leave packets seq None h = cc
reported_no_leave packets seq (Some one) h = report_no_leave (report_of packets one seq) h

acted_left : (packets : ℕ) (joined : List Participant) (done : Act) → acted_of packets joined done ≡ acted.Left → IsLeave done
acted_left packets joined act.Plain h = absurd cc
acted_left packets joined (act.Join ssrc) h = elim (cases_Bool (is_member ssrc joined)) [
  | inl t ↦ let plain : acted.Plain ≡ acted.Left = rw t at h in absurd cc
  | inr f ↦ let other = rw f at h in absurd cc
]
acted_left packets joined (act.Leave ssrc) h = record { ssrc = ssrc; is = refl }
acted_left packets joined (act.Ack ssrc seq) h = absurd (reported_no_leave packets seq (find_joined ssrc joined) h)
acted_left packets joined (act.Clocked offset) h = absurd cc
acted_left packets joined (act.Ignored reason) h = absurd cc

left_answer : (reply : Option Message) (done : Acted) → is_left_answer (said.Done reply done) ≡ true → done ≡ acted.Left
left_answer reply acted.Left h = refl
left_answer reply acted.Plain h = absurd cc
left_answer reply (acted.Joined mark player) h = absurd cc
left_answer reply (acted.Moved mark) h = absurd cc
left_answer reply (acted.Clocked offset) h = absurd cc
left_answer reply (acted.Ignored reason) h = absurd cc
left_answer reply (acted.Old mark) h = absurd cc
left_answer reply (acted.NotSent last) h = absurd cc

both : (a b : Bool) → (a && b) ≡ true → (a ≡ true) × (b ≡ true)
both true b h = (refl, h)
both false b h = absurd cc

named_is : (ssrc : ℕ) (named : Option ℕ) → names ssrc named ≡ true → named ≡ Some ssrc
named_is ssrc None h = absurd cc
named_is ssrc (Some other) h = ap (λ (s : ℕ). Some s) (eqb-true other ssrc h)

said_out : (s : Session) (port : PortKind) (from : Addr) (message : Message) (now events ssrc : ℕ) → IsOrderly s.members.host.ssrc s.members.host.peers → IsDistinct nat_eq (ssrcs_of s.members.joined) → takes_out events ssrc s (Say port from message now) ≡ true → IsOut ssrc (after s (Say port from message now))
said_out s port from message now events ssrc orderly distinct out =
    let outcome = outcome_of s.members port from message now in
    let room = has_room_for message s.members.joined in
    let apart = both (names ssrc (ssrc_of message)) (is_left_answer (say_in true events s port from message now)) out in
    let left = acted_left (length s.stream.packets) s.members.joined outcome.answer.act (left_answer outcome.answer.reply (acted_of (length s.stream.packets) s.members.joined outcome.answer.act) apart.1) in
    let some : Some left.ssrc ≡ Some ssrc = sym (leaves_named s.members.host room port from message now left.ssrc left.is) ∙ named_is ssrc (ssrc_of message) apart.0 in
    let same : left.ssrc ≡ ssrc = cc in
    let is : outcome.answer.act ≡ act.Leave ssrc = left.is ∙ ap act.Leave same in
    record {
      peer = ((acts_tell s.members.host room port from message now ssrc orderly).leaves is).1;
      participant = rw is (member_gone ssrc s.members.joined distinct);
    }

out_after : (events ssrc : ℕ) (s : Session) (step : Step) → IsOrderly s.members.host.ssrc s.members.host.peers → IsDistinct nat_eq (ssrcs_of s.members.joined) → takes_out events ssrc s step ≡ true → IsOut ssrc (after s step)
out_after events ssrc s Enter orderly distinct out = absurd cc
out_after events ssrc s (Play player command tick) orderly distinct out = absurd cc
out_after events ssrc s (Cut tick) orderly distinct out = absurd cc
out_after events ssrc s (Ack other seq) orderly distinct out = absurd cc
out_after events ssrc s (Join other) orderly distinct out = absurd cc
out_after events ssrc s (Leave other) orderly distinct out =
    let same : other ≡ ssrc = eqb-true other ssrc out in
    subst (λ (o : ℕ). IsOut ssrc (after s (Leave o))) (sym same) record {
      peer = ap is_joined_one (peer_of-without_own ssrc s.members.host.peers);
      participant = member_gone ssrc s.members.joined distinct;
    }
out_after events ssrc s (Hear other seq) orderly distinct out = absurd cc
out_after events ssrc s Feedback orderly distinct out = absurd cc
out_after events ssrc s (Say port from message now) orderly distinct out = said_out s port from message now events ssrc orderly distinct out

pub leavers_go : LeaversGo
leavers_go config steps step ssrc legal taken out =
    subst (λ (t : Session). IsOut ssrc t) (sym (session_push config steps step))
    (out_after config.events ssrc (session_of config steps) step (legal_sound config steps legal).orderly (legal_participate config steps legal).ssrcs out)
