-- What holds of the members at any time: each step keeps it.
use Rattle.std.proofs.Common.{◌≡◌, ◌≢◌, ℕ, ◌+◌, ◌-◌, ◌<◌, ◌≤◌, true, false, List, [], ◌∷◌, ◌++◌, Option, Some, None, refl, sym, ap, ◌∙◌, length, length-append, arith, inl, inr}
use Rattle.std.specs.Prelude.{◌==◌}
use Rattle.std.proofs.lemmas.Bool.{cases_Bool, eqb-true, eqb-false}
use Rattle.jm_edge.specs.declared.Addr.{Addr}
use Rattle.apple_msg.specs.declared.message.Message.{Message}
use Rattle.apple_session.specs.declared.peer.Peer.{Peer}
use Rattle.apple_session.specs.declared.answer.PortKind.{PortKind}
use Rattle.apple_session.specs.declared.answer.Act.{Act}
use Rattle.apple_session.specs.declared.answer.Act.TheVariants as act
use Rattle.apple_session.specs.Peers.{peer_of, without, IsOrderly}
use Rattle.apple_session.specs.Conduct.{is_joined_one, takes_part, Tells, ActsTell}
use Rattle.apple_session.specs.Others.{peer_of-without, peer_of-without_own, step_orderly}
use Rattle.jm_book.specs.declared.steps.Step.TheVariants.{Say}
use Rattle.jm_book.specs.declared.marks.Report.{Report}
use Rattle.jm_book.specs.declared.marks.Report.TheVariants as report
use Rattle.jm_book.specs.declared.participants.Participant.{Participant}
use Rattle.jm_book.specs.Participants.{find_joined, is_member, most_joined, with_joiner, with_report_of, marked_by, report_of, noted, others_than, free_slot, length_changed}
use Rattle.jm_book.specs.Members.{Members, has_room_for, outcome_of, carried_out, said_outcome}
use Rattle.jm_book.specs.Answers.{acted_of, reported, acted_as, is_acted, is_said, said_of, after_if}
use Rattle.jm_book.specs.Core.{AreSound}
use Rattle.jm_book.specs.JoinedLaws.{member_changed, member_push, find_others, find_push, others_length}
use Rattle.jm_book.specs.TakenLaws.{Joins}
use Rattle.jm_book.specs.LegalJoined.{said_joins}
use Rattle.jm_book.specs.SayLaws.{Stays, stays_same, acks_from_joined}

-- ---- who is a member afterwards

found_member : (ssrc : ℕ) (joined : List Participant) (one : Participant) → find_joined ssrc joined ≡ Some one → is_member ssrc joined ≡ true
found_member ssrc joined one is = rw is refl

pub member_joiner : (packets ssrc : ℕ) (joined : List Participant) → is_member ssrc joined ≡ false → is_member ssrc (with_joiner packets ssrc joined) ≡ true
member_joiner packets ssrc joined absent =
    let one : Participant = record { ssrc = ssrc; mark = packets - 1; slot = free_slot joined; heard = None } in
    found_member ssrc (joined ++ one ∷ []) one (find_push joined one absent)

member_marked : (answer : Report) (ssrc other : ℕ) (joined : List Participant) → is_member other (marked_by answer ssrc joined) ≡ is_member other joined
member_marked (report.Moved mark) ssrc other joined = member_changed (λ one. record one { mark = mark }) ssrc other joined (λ one. refl)
member_marked (report.Old mark) ssrc other joined = refl
member_marked (report.NotSent last) ssrc other joined = refl

member_reported : (packets ssrc seq other : ℕ) (joined : List Participant) (found : Option Participant) → is_member other (with_report_of packets ssrc seq joined found) ≡ is_member other joined
member_reported packets ssrc seq other joined None = refl
member_reported packets ssrc seq other joined (Some one) = member_marked (report_of packets one seq) ssrc other joined

length_marked : (answer : Report) (ssrc : ℕ) (joined : List Participant) → length (marked_by answer ssrc joined) ≡ length joined
length_marked (report.Moved mark) ssrc joined = length_changed (λ one. record one { mark = mark }) ssrc joined
length_marked (report.Old mark) ssrc joined = refl
length_marked (report.NotSent last) ssrc joined = refl

length_reported : (packets ssrc seq : ℕ) (joined : List Participant) (found : Option Participant) → length (with_report_of packets ssrc seq joined found) ≡ length joined
length_reported packets ssrc seq joined None = refl
length_reported packets ssrc seq joined (Some one) = length_marked (report_of packets one seq) ssrc joined

member_other : (ssrc other : ℕ) (joined : List Participant) → other ≢ ssrc → is_member other joined ≡ true → is_member other (others_than ssrc joined) ≡ true
member_other ssrc other joined apart h = rw (find_others ssrc other joined apart) h

-- ---- each step keeps it

pub sound_enter : (members : Members) → members.entered < 64 → AreSound members → AreSound (record members { entered = members.entered + 1 })
sound_enter members few h = record { few_players = omega arith; few_joined = h.few_joined; orderly = h.orderly; take_part = h.take_part }

pub sound_join : (packets ssrc : ℕ) (members : Members) → length members.joined < most_joined → AreSound members → AreSound (record members { joined = with_joiner packets ssrc members.joined })
sound_join packets ssrc members few h =
    let one : Participant = record { ssrc = ssrc; mark = packets - 1; slot = free_slot members.joined; heard = None } in
    let more : length (members.joined ++ one ∷ []) ≡ length members.joined + 1 = length-append members.joined (one ∷ []) in
    record {
      few_players = h.few_players;
      few_joined = omega arith;
      orderly = h.orderly;
      take_part = λ other takes. member_push other members.joined one (h.take_part other takes);
    }

pub sound_marked : (answer : Report) (ssrc : ℕ) (members : Members) → AreSound members → AreSound (record members { joined = marked_by answer ssrc members.joined })
sound_marked answer ssrc members h = record {
  few_players = h.few_players;
  few_joined = let same = length_marked answer ssrc members.joined in let few = h.few_joined in omega arith;
  orderly = h.orderly;
  take_part = λ other takes. member_marked answer ssrc other members.joined ∙ h.take_part other takes;
}

pub sound_hear : (ssrc seq : ℕ) (members : Members) → AreSound members → AreSound (record members { joined = noted ssrc seq members.joined })
sound_hear ssrc seq members h = record {
  few_players = h.few_players;
  few_joined = let same = length_changed (λ one. record one { heard = Some seq }) ssrc members.joined in let few = h.few_joined in omega arith;
  orderly = h.orderly;
  take_part = λ other takes. member_changed (λ one. record one { heard = Some seq }) ssrc other members.joined (λ one. refl) ∙ h.take_part other takes;
}

left_apart : (ssrc other : ℕ) (peers : List Peer) → takes_part other (without ssrc peers) ≡ true → other ≢ ssrc
left_apart ssrc other peers takes same =
    let none : is_joined_one (peer_of other (without ssrc peers)) ≡ false = rw same (ap is_joined_one (peer_of-without_own ssrc peers)) in
    let wrong : true ≡ false = sym takes ∙ none in cc

pub sound_leave : (ssrc : ℕ) (members : Members) → IsOrderly members.host.ssrc (without ssrc members.host.peers) → AreSound members → AreSound (record members { host = record members.host { peers = without ssrc members.host.peers }; joined = others_than ssrc members.joined })
sound_leave ssrc members orderly h = record {
  few_players = h.few_players;
  few_joined = let fewer = others_length ssrc members.joined in let few = h.few_joined in omega arith;
  orderly = orderly;
  take_part = λ other takes.
      let apart = left_apart ssrc other members.host.peers takes in
      let takes_before : takes_part other members.host.peers ≡ true = sym (ap is_joined_one (peer_of-without other ssrc members.host.peers (λ e. apart (sym e)))) ∙ takes in
      member_other ssrc other members.joined apart (h.take_part other takes_before);
}

-- ---- a message

-- what the machine leaves of the peers, and who is a member then
carried_member : (packets other : ℕ) (joined : List Participant) (done : Act) (old new : List Peer) → Tells other done old new → (takes_part other old ≡ true → is_member other joined ≡ true) → takes_part other new ≡ true → is_member other (carried_out packets joined done) ≡ true
carried_member packets other joined (act.Join ssrc) old new tells was takes = elim (cases_Bool (is_member ssrc joined)) [
  | inl t ↦ rw t (elim (cases_Bool (ssrc == other)) [
    | inl s ↦ let same : ssrc ≡ other = eqb-true ssrc other s in rw (← same) t
    | inr d ↦
        let apart : ssrc ≢ other = eqb-false ssrc other d in
        was (sym (tells.neither (λ e. let is : ssrc ≡ other = cc in apart is) (λ e. absurd cc)) ∙ takes)
  ])
  | inr f ↦ rw f (elim (cases_Bool (ssrc == other)) [
    | inl s ↦ let same : ssrc ≡ other = eqb-true ssrc other s in rw (← same) (member_joiner packets ssrc joined f)
    | inr d ↦
        let apart : ssrc ≢ other = eqb-false ssrc other d in
        member_push other joined (record { ssrc = ssrc; mark = packets - 1; slot = free_slot joined; heard = None })
        (was (sym (tells.neither (λ e. let is : ssrc ≡ other = cc in apart is) (λ e. absurd cc)) ∙ takes))
  ])
]
carried_member packets other joined (act.Leave ssrc) old new tells was takes = elim (cases_Bool (ssrc == other)) [
  | inl s ↦
      let same : ssrc ≡ other = eqb-true ssrc other s in
      let gone : takes_part other new ≡ false = (tells.leaves (ap (λ (x : ℕ). act.Leave x) same)).1 in
      let wrong : true ≡ false = sym takes ∙ gone in absurd cc
  | inr d ↦
      let apart : ssrc ≢ other = eqb-false ssrc other d in
      member_other ssrc other joined (λ e. apart (sym e)) (was (sym (tells.neither (λ e. absurd cc) (λ e. let is : ssrc ≡ other = cc in apart is)) ∙ takes))
]
carried_member packets other joined (act.Ack ssrc seq) old new tells was takes =
    member_reported packets ssrc seq other joined (find_joined ssrc joined) ∙ was (sym (tells.neither (λ e. absurd cc) (λ e. absurd cc)) ∙ takes)
carried_member packets other joined act.Plain old new tells was takes = was (sym (tells.neither (λ e. absurd cc) (λ e. absurd cc)) ∙ takes)
carried_member packets other joined (act.Clocked offset) old new tells was takes = was (sym (tells.neither (λ e. absurd cc) (λ e. absurd cc)) ∙ takes)
carried_member packets other joined (act.Ignored why) old new tells was takes = was (sym (tells.neither (λ e. absurd cc) (λ e. absurd cc)) ∙ takes)

carried_few : (packets : ℕ) (joined : List Participant) (done : Act) → ((ssrc : ℕ) → done ≡ act.Join ssrc → is_member ssrc joined ≡ false → Joins joined ssrc) → length joined ≤ most_joined → length (carried_out packets joined done) ≤ most_joined
carried_few packets joined (act.Join ssrc) room few = elim (cases_Bool (is_member ssrc joined)) [
  | inl t ↦ rw t few
  | inr f ↦
      let one : Participant = record { ssrc = ssrc; mark = packets - 1; slot = free_slot joined; heard = None } in
      let more : length (joined ++ one ∷ []) ≡ length joined + 1 = length-append joined (one ∷ []) in
      let fewer = (room ssrc refl f).few in
      rw f (omega arith)
]
carried_few packets joined (act.Leave ssrc) room few = let fewer = others_length ssrc joined in omega arith
carried_few packets joined (act.Ack ssrc seq) room few = let same = length_reported packets ssrc seq joined (find_joined ssrc joined) in omega arith
carried_few packets joined act.Plain room few = few
carried_few packets joined (act.Clocked offset) room few = few
carried_few packets joined (act.Ignored why) room few = few

pub sound_say : ActsTell → (packets : ℕ) (members : Members) (port : PortKind) (from : Addr) (message : Message) (now : ℕ) → AreSound members → AreSound (said_outcome packets members (outcome_of members port from message now))
sound_say tell packets members port from message now h =
    let outcome = outcome_of members port from message now in
    let done = outcome.answer.act in
    record {
      few_players = h.few_players;
      few_joined = carried_few packets members.joined done (λ ssrc is absent. said_joins members port from message now ssrc is absent) h.few_joined;
      orderly = step_orderly members.host (has_room_for message members.joined) port from message now h.orderly;
      take_part = λ other takes. carried_member packets other members.joined done members.host.peers outcome.peers (tell members.host (has_room_for message members.joined) port from message now other h.orderly) (h.take_part other) takes;
    }

-- a report that comes with a message is of a participant
pub said_reports : (members : Members) (port : PortKind) (from : Addr) (message : Message) (now ssrc seq : ℕ) → AreSound members → (outcome_of members port from message now).answer.act ≡ act.Ack ssrc seq → is_member ssrc members.joined ≡ true
said_reports members port from message now ssrc seq h is =
    h.take_part ssrc (acks_from_joined members.host (has_room_for message members.joined) port from message now ssrc seq is)

-- ---- what takes no step changes nothing

untaken_report : (packets : ℕ) (one : Participant) (seq ssrc : ℕ) (joined : List Participant) (answer : Report) → is_acted (acted_as answer) ≡ false → marked_by answer ssrc joined ≡ joined
untaken_report packets one seq ssrc joined (report.Moved mark) h = absurd cc
untaken_report packets one seq ssrc joined (report.Old mark) h = refl
untaken_report packets one seq ssrc joined (report.NotSent last) h = refl

untaken_found : (packets seq ssrc : ℕ) (joined : List Participant) (found : Option Participant) → is_acted (reported packets seq found) ≡ false → with_report_of packets ssrc seq joined found ≡ joined
untaken_found packets seq ssrc joined None h = refl
untaken_found packets seq ssrc joined (Some one) h = untaken_report packets one seq ssrc joined (report_of packets one seq) h

untaken_act : (packets : ℕ) (joined : List Participant) (done : Act) → is_acted (acted_of packets joined done) ≡ false → Stays done × (carried_out packets joined done ≡ joined)
untaken_act packets joined act.Plain h = absurd cc
untaken_act packets joined (act.Join ssrc) h = elim (cases_Bool (is_member ssrc joined)) [
  | inl t ↦ let wrong : true ≡ false = rw t at h in absurd cc
  | inr f ↦ let wrong : true ≡ false = rw f at h in absurd cc
]
untaken_act packets joined (act.Leave ssrc) h = elim (cases_Bool (is_member ssrc joined)) [
  | inl t ↦ let wrong : true ≡ false = rw t at h in absurd cc
  | inr f ↦ let wrong : true ≡ false = rw f at h in absurd cc
]
untaken_act packets joined (act.Ack ssrc seq) h = (tt, untaken_found packets seq ssrc joined (find_joined ssrc joined) h)
untaken_act packets joined (act.Clocked offset) h = absurd cc
untaken_act packets joined (act.Ignored why) h = (tt, refl)

pub untaken_say : (packets : ℕ) (members : Members) (port : PortKind) (from : Addr) (message : Message) (now : ℕ)
    → is_acted (acted_of packets members.joined (outcome_of members port from message now).answer.act) ≡ false
    → said_outcome packets members (outcome_of members port from message now) ≡ members
untaken_say packets members port from message now h =
    let outcome = outcome_of members port from message now in
    let un = untaken_act packets members.joined outcome.answer.act h in
    let peers : outcome.peers ≡ members.host.peers = stays_same members.host (has_room_for message members.joined) port from message now un.0 in
    rw (peers, un.1) refl

-- what a message leaves, taken or not
pub said_after : (packets : ℕ) (members : Members) (port : PortKind) (from : Addr) (message : Message) (now : ℕ)
    → said_outcome packets members (outcome_of members port from message now)
    ≡ after_if (is_said (said_of packets members.joined (outcome_of members port from message now))) packets members (Say port from message now)
said_after packets members port from message now =
    elim (cases_Bool (is_acted (acted_of packets members.joined (outcome_of members port from message now).answer.act))) [
      | inl t ↦ rw t refl
      | inr f ↦ rw f (untaken_say packets members port from message now f)
    ]
