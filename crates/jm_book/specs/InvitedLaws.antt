-- After legal steps each joined peer is a joined participant, and one that was invited takes part until it leaves.
use Rattle.std.proofs.Common.{ℕ, ◌≡◌, ◌≢◌, refl, sym, ap, subst, ◌∙◌, inl, inr, Bool, true, false, List, [], ◌∷◌, ◌++◌, Option, Some, None, length, append_assoc, append-nil, arith}
use Rattle.std.specs.Prelude.{◌==◌, nat_le, if◌then◌else◌}
use Rattle.std.specs.Cmp.{nat_eq_equiv}
use Rattle.std.proofs.lemmas.Bool.{cases_Bool, eqb-true, eqb-false}
use Rattle.std.proofs.lemmas.Bool.Decides.{nat_tests}
use Rattle.jm_edge.specs.declared.Addr.{Addr}
use Rattle.apple_msg.specs.declared.message.Message.{Message}
use Rattle.apple_session.specs.declared.peer.Peer.{Peer}
use Rattle.apple_session.specs.declared.answer.PortKind.{PortKind}
use Rattle.apple_session.specs.declared.answer.Act.{Act}
use Rattle.apple_session.specs.declared.answer.Act.TheVariants as act
use Rattle.apple_session.specs.Conduct.{ssrc_of, takes_part, is_joined_one, Tells}
use Rattle.apple_session.specs.Others.{peer_of-without}
use Rattle.apple_session.specs.PeerLists.{IsOrderly-without}
use Rattle.apple_session.specs.Acts.{acts_tell}
use Rattle.jm_book.specs.declared.participants.Participant.{Participant}
use Rattle.jm_book.specs.declared.marks.Report.{Report}
use Rattle.jm_book.specs.declared.marks.Report.TheVariants as report
use Rattle.jm_book.specs.declared.answers.Acted.TheVariants as acted
use Rattle.jm_book.specs.declared.answers.Entered.TheVariants as entered
use Rattle.jm_book.specs.declared.steps.Config.{Config}
use Rattle.jm_book.specs.declared.steps.Step.{Step}
use Rattle.jm_book.specs.declared.steps.Step.TheVariants.{Enter, Play, Cut, Ack, Join, Leave, Hear, Feedback, Say}
use Rattle.jm_book.specs.Participants.{find_joined, is_member, report_of, with_report_of}
use Rattle.jm_book.specs.Members.{Members, no_members, has_room_for, outcome_of}
use Rattle.jm_book.specs.Core.{AreSound}
use Rattle.jm_book.specs.Session.{Session, session_of, members_of, after}
use Rattle.jm_book.specs.Answers.{acted_of, acted_as, reported, say_in, is_entered}
use Rattle.jm_book.specs.BookAnswers.{has_room}
use Rattle.jm_book.specs.Legal.{IsTakenIn, IsTaken, AreTaken, IsLegal}
use Rattle.jm_book.specs.AloneLaws.{leaves_named, said_done}
use Rattle.jm_book.specs.LegalLaws.{legal_keeps, taken_apart}
use Rattle.jm_book.specs.SayLaws.{joins_with_room}
use Rattle.jm_book.specs.SoundLaws.{sound_enter, sound_join, sound_marked, sound_hear, sound_leave, sound_say, said_reports}
use Rattle.jm_book.specs.StepLaws.{session_push}
use Rattle.jm_book.specs.TakenLaws.{taken_in, join_taken}
use Rattle.jm_book.specs.MembersConduct.{PeersAreJoined, names, is_left_answer, takes_out, NeverLeaves, TakesPart, InvitedStay}

-- ---- what holds of the members after legal steps

enter_came : (many : Bool) (most player : ℕ) → is_entered (if many then entered.PlayersFull most else entered.Player player) ≡ true → many ≡ false
enter_came true most player h = absurd cc
enter_came false most player h = refl

sound_reported : (packets ssrc seq : ℕ) (members : Members) (found : Option Participant) → AreSound members → AreSound (record members { joined = with_report_of packets ssrc seq members.joined found })
sound_reported packets ssrc seq members None h = h
sound_reported packets ssrc seq members (Some one) h = sound_marked (report_of packets one seq) ssrc members h

-- a step that is taken keeps what holds of the members at any time
pub sound_after : (events : ℕ) (s : Session) (step : Step) → IsTakenIn events s step → AreSound s.members → AreSound (after s step).members
sound_after events s Enter taken h =
    let few = enter_came (nat_le 64 s.members.entered) 64 s.members.entered taken in
    sound_enter s.members (grind (arith, nat_tests, few)) h
sound_after events s (Play player command tick) taken h = h
sound_after events s (Cut tick) taken h = h
sound_after events s (Ack ssrc seq) taken h = sound_reported (length s.stream.packets) ssrc seq s.members (find_joined ssrc s.members.joined) h
sound_after events s (Join ssrc) taken h = sound_join (length s.stream.packets) ssrc s.members (join_taken events s ssrc taken).few h
sound_after events s (Leave ssrc) taken h = sound_leave ssrc s.members (IsOrderly-without s.members.host.ssrc ssrc s.members.host.peers h.orderly) h
sound_after events s (Hear ssrc seq) taken h = sound_hear ssrc seq s.members h
sound_after events s Feedback taken h = h
sound_after events s (Say port from message now) taken h = sound_say acts_tell (length s.stream.packets) s.members port from message now h

pub sound_push : (config : Config) (steps : List Step) (step : Step) → AreSound (members_of config steps) → IsTaken config steps step → AreSound (members_of config (steps ++ step ∷ []))
sound_push config steps step h taken =
    subst (λ (s : Session). AreSound s.members) (sym (session_push config steps step)) (sound_after config.events (session_of config steps) step (taken_in config steps step taken) h)

pub none_sound : (config : Config) → AreSound (no_members config)
none_sound config = record {
  few_players = omega arith;
  few_joined = omega arith;
  orderly = record { few = omega arith; distinct = tt; strangers = tt };
  take_part = λ ssrc part. absurd cc;
}

pub legal_sound : (config : Config) (steps : List Step) → IsLegal config steps → AreSound (members_of config steps)
legal_sound config steps legal = legal_keeps config (λ taken. AreSound (members_of config taken)) (sound_push config) (none_sound config) steps legal

pub peers_are_joined : PeersAreJoined
peers_are_joined config steps legal =
    let h = legal_sound config steps legal in
    (h.take_part, λ port from message now ssrc seq is. said_reports (members_of config steps) port from message now ssrc seq h is)

-- ---- one that takes part goes on taking part

-- unless the act is that it leaves
part_stays : (ssrc : ℕ) (done : Act) (old new : List Peer) → Tells ssrc done old new → (done ≢ act.Leave ssrc) → takes_part ssrc old ≡ true → takes_part ssrc new ≡ true
part_stays ssrc act.Plain old new tells remains part = tells.neither (λ e. cc) remains ∙ part
part_stays ssrc (act.Join other) old new tells remains part = elim (cases_Bool (other == ssrc)) [
  | inl own ↦ let is : other ≡ ssrc = eqb-true other ssrc own in (tells.joins (ap act.Join is)).1
  | inr differs ↦ let apart : other ≢ ssrc = eqb-false other ssrc differs in tells.neither (λ e. apart cc) remains ∙ part
]
part_stays ssrc (act.Leave other) old new tells remains part = tells.neither (λ e. cc) remains ∙ part
part_stays ssrc (act.Ack other seq) old new tells remains part = tells.neither (λ e. cc) remains ∙ part
part_stays ssrc (act.Clocked offset) old new tells remains part = tells.neither (λ e. cc) remains ∙ part
part_stays ssrc (act.Ignored reason) old new tells remains part = tells.neither (λ e. cc) remains ∙ part

names_own : (ssrc : ℕ) (named : Option ℕ) → named ≡ Some ssrc → names ssrc named ≡ true
names_own ssrc named is = let same : (ssrc == ssrc) ≡ true = nat_eq_equiv.refl ssrc in rw (is, same) refl

-- a message whose act is that a participant leaves takes it out
leave_out : (events ssrc : ℕ) (s : Session) (port : PortKind) (from : Addr) (message : Message) (now : ℕ) → is_member ssrc s.members.joined ≡ true → (outcome_of s.members port from message now).answer.act ≡ act.Leave ssrc → takes_out events ssrc s (Say port from message now) ≡ true
leave_out events ssrc s port from message now member is =
    let named = names_own ssrc (ssrc_of message) (leaves_named s.members.host (has_room_for message s.members.joined) port from message now ssrc is) in
    let left : is_left_answer (say_in true events s port from message now) ≡ true = rw (is, member) refl in
    rw (named, left) refl

peer_stays : (events ssrc : ℕ) (s : Session) (step : Step) → AreSound s.members → takes_out events ssrc s step ≡ false → TakesPart ssrc s → takes_part ssrc (after s step).members.host.peers ≡ true
peer_stays events ssrc s Enter h stays part = part.peer
peer_stays events ssrc s (Play player command tick) h stays part = part.peer
peer_stays events ssrc s (Cut tick) h stays part = part.peer
peer_stays events ssrc s (Ack other seq) h stays part = part.peer
peer_stays events ssrc s (Join other) h stays part = part.peer
peer_stays events ssrc s (Leave other) h stays part = ap is_joined_one (peer_of-without ssrc other s.members.host.peers (eqb-false other ssrc stays)) ∙ part.peer
peer_stays events ssrc s (Hear other seq) h stays part = part.peer
peer_stays events ssrc s Feedback h stays part = part.peer
peer_stays events ssrc s (Say port from message now) h stays part =
    let outcome = outcome_of s.members port from message now in
    part_stays ssrc outcome.answer.act s.members.host.peers outcome.peers
    (acts_tell s.members.host (has_room_for message s.members.joined) port from message now ssrc h.orderly)
    (λ is. let out = leave_out events ssrc s port from message now part.participant is in cc)
    part.peer

pub part_along : (config : Config) (ssrc : ℕ) (before later : List Step) → AreTaken config before later → AreSound (members_of config before) → NeverLeaves config.events ssrc (session_of config before) later → TakesPart ssrc (session_of config before) → TakesPart ssrc (session_of config (before ++ later))
part_along config ssrc before [] taken h never part = rw (append-nil before) part
part_along config ssrc before (step ∷ later) taken h never part =
    let s = session_of config before in
    let pushed = sym (session_push config before step) in
    let peer = peer_stays config.events ssrc s step h never.0 part in
    let sound = sound_after config.events s step (taken_in config before step taken.0) h in
    let next : TakesPart ssrc (after s step) = record { peer = peer; participant = sound.take_part ssrc peer } in
    subst (λ (steps : List Step). TakesPart ssrc (session_of config steps)) (append_assoc before (step ∷ []) later)
    (part_along config ssrc (before ++ step ∷ []) later taken.1 (subst (λ (t : Session). AreSound t.members) pushed sound) (subst (λ (t : Session). NeverLeaves config.events ssrc t later) pushed never.1) (subst (λ (t : Session). TakesPart ssrc t) pushed next))

-- ---- one that joins by a message

-- the act by which someone joined
record IsJoin (done : Act) : Type 0 where
  ssrc : ℕ
  is : done ≡ act.Join ssrc

report_no_join : (answer : Report) (mark player : ℕ) → acted_as answer ≡ acted.Joined mark player → ⊥
report_no_join (report.Moved to) mark player h = cc
report_no_join (report.Old old) mark player h = cc
report_no_join (report.NotSent last) mark player h = cc

reported_no_join : (packets seq : ℕ) (found : Option Participant) (mark player : ℕ) → reported packets seq found ≡ acted.Joined mark player → ⊥
reported_no_join packets seq None mark player h = cc
reported_no_join packets seq (Some one) mark player h = report_no_join (report_of packets one seq) mark player h

acted_joined : (packets : ℕ) (joined : List Participant) (done : Act) (mark player : ℕ) → acted_of packets joined done ≡ acted.Joined mark player → IsJoin done
acted_joined packets joined act.Plain mark player h = absurd cc
acted_joined packets joined (act.Join ssrc) mark player h = record { ssrc = ssrc; is = refl }
acted_joined packets joined (act.Leave ssrc) mark player h = elim (cases_Bool (is_member ssrc joined)) [
  | inl t ↦ let left : acted.Left ≡ acted.Joined mark player = rw t at h in absurd cc
  | inr f ↦ let plain : acted.Plain ≡ acted.Joined mark player = rw f at h in absurd cc
]
acted_joined packets joined (act.Ack ssrc seq) mark player h = absurd (reported_no_join packets seq (find_joined ssrc joined) mark player h)
acted_joined packets joined (act.Clocked offset) mark player h = absurd cc
acted_joined packets joined (act.Ignored reason) mark player h = absurd cc

pub invited_stay : InvitedStay
invited_stay config before port from message now ssrc mark player reply later legal answer named never =
    let one = Say port from message now in
    let s = session_of config before in
    let apart = taken_apart config [] before (one ∷ later) legal in
    let h = legal_sound config before apart.0 in
    let outcome = outcome_of s.members port from message now in
    let done = said_done (has_room config before) config.events (length s.stream.packets) s.members port from message now reply (acted.Joined mark player) answer in
    let join = acted_joined (length s.stream.packets) s.members.joined outcome.answer.act mark player done in
    let told = joins_with_room s.members.host (has_room_for message s.members.joined) port from message now join.ssrc join.is in
    let some : Some join.ssrc ≡ Some ssrc = sym told.1 ∙ named in
    let same : join.ssrc ≡ ssrc = cc in
    let tells = acts_tell s.members.host (has_room_for message s.members.joined) port from message now ssrc h.orderly in
    let peer : takes_part ssrc outcome.peers ≡ true = (tells.joins (join.is ∙ ap act.Join same)).1 in
    let sound = sound_after config.events s one (taken_in config before one apart.1.0) h in
    let pushed = sym (session_push config before one) in
    let next : TakesPart ssrc (after s one) = record { peer = peer; participant = sound.take_part ssrc peer } in
    subst (λ (steps : List Step). TakesPart ssrc (session_of config steps)) (append_assoc before (one ∷ []) later)
    (part_along config ssrc (before ++ one ∷ []) later apart.1.1 (subst (λ (t : Session). AreSound t.members) pushed sound) never (subst (λ (t : Session). TakesPart ssrc t) pushed next))
