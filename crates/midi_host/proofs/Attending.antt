-- Who takes part, followed along the steps.
use Rattle.std.proofs.Common.{◌≡◌, ℕ, suc, ◌+◌, ◌≤◌, ◌-◌, ◌==◌, ◌||◌, Bool, true, false, List, [], ◌∷◌, ◌++◌, length, nat_le, Option, Some, None, refl, sym, ap, subst, ◌∙◌, inl, inr, arith, add-one, drop, drop-cons, get_or, ◌<◌}
use Rattle.std.specs.List.{fold}
use Rattle.std.proofs.lemmas.Bool.{cases_Bool}
use Rattle.apple_msg.specs.declared.message.Message.{Message}
use Rattle.apple_session.specs.declared.answer.Act.{Act}
use Rattle.apple_session.specs.declared.answer.Act.TheVariants as act
use Rattle.apple_session.specs.Conduct.{ssrc_of}
use Rattle.apple_session.specs.Host.{Host}
use Rattle.apple_session.specs.Machine.{Outcome, step}
use Rattle.apple_session.specs.Peers.{without}
use Rattle.jm_book.specs.declared.participants.Participant.{Participant}
use Rattle.jm_book.specs.declared.steps.Step.{Step}
use Rattle.jm_book.specs.declared.steps.Step.TheVariants.{Enter, Play, Cut, Ack, Join, Leave, Hear, Feedback, Say}
use Rattle.jm_book.specs.Participants.{is_member, find_joined, free_slot, others_than, changed, noted, with_joiner, with_report_of, distance, reaches}
use Rattle.jm_book.specs.Members.{Members, is_named_member, outcome_of, carried_out, said_outcome}
use Rattle.jm_book.specs.Members.{has_room_for as has_room_among}
use Rattle.jm_book.specs.Session.{Session, after}
use Rattle.jm_book.specs.Answers.{acted_of, reported}
use Rattle.midi_host.specs.declared.change.Change.{Change}
use Rattle.midi_host.specs.declared.change.Change.TheVariants.{Joins, Leaves, Neither}
use Rattle.midi_host.specs.SsrcList.{has_ssrc, without_first}
use Rattle.midi_host.specs.declared.counts.Counts.{Counts}
use Rattle.midi_host.specs.Counts.{change_by, change_of, with_change, with_kind, Tally, tallied}
use Rattle.midi_host.specs.Attendance.{Attending, ssrcs_of, Attends, is_named, has_room_for, joined_after, change_after, said_by, followed}

-- ---- SSRCs of lists of participants

member : (ssrc : ℕ) (joined : List Participant) → has_ssrc ssrc (ssrcs_of joined) ≡ is_member ssrc joined
member ssrc [] = refl
member ssrc (one ∷ others) = elim (cases_Bool (one.ssrc == ssrc)) [ inl t ↦ rw t refl | inr t ↦ rw t (member ssrc others) ]

others_left : (ssrc : ℕ) (joined : List Participant) → without_first ssrc (ssrcs_of joined) ≡ ssrcs_of (others_than ssrc joined)
others_left ssrc [] = refl
others_left ssrc (one ∷ others) = elim (cases_Bool (one.ssrc == ssrc)) [ inl t ↦ rw t refl | inr t ↦ rw t (ap (λ (l : List ℕ). one.ssrc ∷ l) (others_left ssrc others)) ]

changed_same : (change : Participant → Participant) (ssrc : ℕ) (joined : List Participant) → ((one : Participant) → (change one).ssrc ≡ one.ssrc) → ssrcs_of (changed change ssrc joined) ≡ ssrcs_of joined
changed_same change ssrc [] keeps = refl
changed_same change ssrc (one ∷ others) keeps = elim (cases_Bool (one.ssrc == ssrc)) [
  | inl t ↦ rw t (ap (λ (s : ℕ). s ∷ ssrcs_of others) (keeps one))
  | inr t ↦ rw t (ap (λ (l : List ℕ). one.ssrc ∷ l) (changed_same change ssrc others keeps))
]

report_same : (packets ssrc seq : ℕ) (joined : List Participant) (found : Option Participant) → ssrcs_of (with_report_of packets ssrc seq joined found) ≡ ssrcs_of joined
report_same packets ssrc seq joined None = refl
report_same packets ssrc seq joined (Some one) = elim (cases_Bool (distance one.mark seq == 0 || nat_le 32768 (distance one.mark seq))) [
  | inl t ↦ rw t refl
  | inr t ↦ elim (cases_Bool (nat_le packets (reaches one seq))) [
    | inl u ↦ rw (t, u) refl
    | inr u ↦ rw (t, u) (changed_same (λ p. record p { mark = reaches one seq }) ssrc joined (λ p. refl))
  ]
]

joined_at_end : (joined : List Participant) (one : Participant) → ssrcs_of (joined ++ one ∷ []) ≡ ssrcs_of joined ++ one.ssrc ∷ []
joined_at_end [] one = refl
joined_at_end (first ∷ others) one = ap (λ (l : List ℕ). first.ssrc ∷ l) (joined_at_end others one)

as_many : (joined : List Participant) → length (ssrcs_of joined) ≡ length joined
as_many [] = refl
as_many (one ∷ others) = omega (arith, as_many others)

-- ---- messages

named : (name : Option ℕ) (joined : List Participant) → is_named name (ssrcs_of joined) ≡ is_named_member name joined
named None joined = refl
named (Some ssrc) joined = member ssrc joined

room : (message : Message) (joined : List Participant) → has_room_for message (ssrcs_of joined) ≡ has_room_among message joined
room message joined = rw (named (ssrc_of message) joined, as_many joined) refl

no_change : (packets seq : ℕ) (found : Option Participant) → Neither ≡ change_by (reported packets seq found)
no_change packets seq None = refl
no_change packets seq (Some one) = elim (cases_Bool (distance one.mark seq == 0 || nat_le 32768 (distance one.mark seq))) [
  | inl t ↦ rw t refl
  | inr t ↦ elim (cases_Bool (nat_le packets (reaches one seq))) [ inl u ↦ rw (t, u) refl | inr u ↦ rw (t, u) refl ]
]

carried : (packets : ℕ) (joined : List Participant) (done : Act) → (joined_after done (ssrcs_of joined) ≡ ssrcs_of (carried_out packets joined done)) × (change_after done (ssrcs_of joined) ≡ change_by (acted_of packets joined done))
carried packets joined act.Plain = (refl, refl)
carried packets joined (act.Join ssrc) = elim (cases_Bool (is_member ssrc joined)) [
  | inl t ↦ let h : has_ssrc ssrc (ssrcs_of joined) ≡ true = member ssrc joined ∙ t in rw (h, t) (refl, refl)
  | inr t ↦ let h : has_ssrc ssrc (ssrcs_of joined) ≡ false = member ssrc joined ∙ t in rw (h, t) (sym (joined_at_end joined (record { ssrc = ssrc; mark = packets - 1; slot = free_slot joined; heard = None })), refl)
]
carried packets joined (act.Leave ssrc) = elim (cases_Bool (is_member ssrc joined)) [
  | inl t ↦ let h : has_ssrc ssrc (ssrcs_of joined) ≡ true = member ssrc joined ∙ t in (others_left ssrc joined, rw (h, t) refl)
  | inr t ↦ let h : has_ssrc ssrc (ssrcs_of joined) ≡ false = member ssrc joined ∙ t in (others_left ssrc joined, rw (h, t) refl)
]
carried packets joined (act.Ack ssrc seq) = (sym (report_same packets ssrc seq joined (find_joined ssrc joined)), no_change packets seq (find_joined ssrc joined))
carried packets joined (act.Clocked offset) = (refl, refl)
carried packets joined (act.Ignored reason) = (refl, refl)

said : (packets : ℕ) (members : Members) (outcome : Outcome) → Attends (said_outcome packets members outcome) (said_by outcome (record { host = members.host; joined = ssrcs_of members.joined })).0
    × ((said_by outcome (record { host = members.host; joined = ssrcs_of members.joined })).1 ≡ change_by (acted_of packets members.joined outcome.answer.act))
said packets members outcome =
    let c = carried packets members.joined outcome.answer.act in
    (record { host_is = refl; joined_are = c.0 }, c.1)

-- ---- steps

abbrev Follows : Session → Attending → Step → Type 0
Follows session attending step = Attends (after session step).members (followed attending step).0 × ((followed attending step).1 ≡ change_of session step)

follows_as : (session : Session) (one : Step) → Follows session (record { host = session.members.host; joined = ssrcs_of session.members.joined }) one
follows_as session Enter = (record { host_is = refl; joined_are = refl }, refl)
follows_as session (Play player command tick) = (record { host_is = refl; joined_are = refl }, refl)
follows_as session (Cut tick) = (record { host_is = refl; joined_are = refl }, refl)
follows_as session Feedback = (record { host_is = refl; joined_are = refl }, refl)
follows_as session (Ack ssrc seq) =
    (record { host_is = refl; joined_are = sym (report_same (length session.stream.packets) ssrc seq session.members.joined (find_joined ssrc session.members.joined)) }, refl)
follows_as session (Hear ssrc seq) =
    (record { host_is = refl; joined_are = sym (changed_same (λ one. record one { heard = Some seq }) ssrc session.members.joined (λ one. refl)) }, refl)
follows_as session (Join ssrc) = (
  record {
    host_is = refl;
    joined_are = sym (joined_at_end session.members.joined (record { ssrc = ssrc; mark = length session.stream.packets - 1; slot = free_slot session.members.joined; heard = None }));
  },
  refl,
)
follows_as session (Leave ssrc) = (record { host_is = refl; joined_are = others_left ssrc session.members.joined }, refl)
follows_as session (Say port from message now) =
    rw (room message session.members.joined) (said (length session.stream.packets) session.members (outcome_of session.members port from message now))

-- who takes part after a step, and what it changes
pub follows : (session : Session) (attending : Attending) (one : Step) → Attends session.members attending → Attends (after session one).members (followed attending one).0 × ((followed attending one).1 ≡ change_of session one)
follows session attending one is =
    let same : attending ≡ record { host = session.members.host; joined = ssrcs_of session.members.joined } = (λ i. record { host = is.host_is i; joined = is.joined_are i }) in
    subst (λ (a : Attending). Follows session a one) (sym same) (follows_as session one)

-- ---- counts

-- none of them is greater
abbrev pub AreFew : (most : ℕ) → Counts → Type 0
AreFew most counts = (counts.packets ≤ most) × (counts.commands ≤ most) × (counts.joins ≤ most) × (counts.leaves ≤ most)

abbrev AreChanged : (most : ℕ) → Counts → Type 0
AreChanged most counts = (counts.packets ≤ most) × (counts.commands ≤ most) × (counts.joins ≤ most + 1) × (counts.leaves ≤ most + 1)

few_changed : (most : ℕ) (change : Change) (counts : Counts) → AreFew most counts → AreChanged most (with_change change counts)
few_changed most Joins counts h = (h.0, h.1, omega (arith, h.2), omega (arith, h.3))
few_changed most Leaves counts h = (h.0, h.1, omega (arith, h.2), omega (arith, h.3))
few_changed most Neither counts h = (h.0, h.1, omega (arith, h.2), omega (arith, h.3))

few_after : (most : ℕ) (one : Step) (counts : Counts) → AreChanged most counts → AreFew (most + 1) (with_kind one counts)
few_after most Enter counts h = (omega (arith, h.0), omega (arith, h.1), h.2, h.3)
few_after most (Play player command tick) counts h = (omega (arith, h.0), omega (arith, h.1), h.2, h.3)
few_after most (Cut tick) counts h = (omega (arith, h.0), omega (arith, h.1), h.2, h.3)
few_after most (Ack ssrc seq) counts h = (omega (arith, h.0), omega (arith, h.1), h.2, h.3)
few_after most (Join ssrc) counts h = (omega (arith, h.0), omega (arith, h.1), h.2, h.3)
few_after most (Leave ssrc) counts h = (omega (arith, h.0), omega (arith, h.1), h.2, h.3)
few_after most (Hear ssrc seq) counts h = (omega (arith, h.0), omega (arith, h.1), h.2, h.3)
few_after most Feedback counts h = (omega (arith, h.0), omega (arith, h.1), h.2, h.3)
few_after most (Say port from message now) counts h = (omega (arith, h.0), omega (arith, h.1), h.2, h.3)

pub few_more : (most : ℕ) (one : Step) (change : Change) (counts : Counts) → AreFew most counts → AreFew (most + 1) (with_kind one (with_change change counts))
few_more most one change counts h = few_after most one (with_change change counts) (few_changed most change counts h)

-- one more step was followed and counted
pub one_more : (session : Session) (attending attending' : Attending) (one : Step) (change : Change) (counts counts' : Counts) (rest : List Step) (tally : Tally)
    → Attends session.members attending → (attending', change) ≡ followed attending one → counts' ≡ with_kind one (with_change change counts)
    → fold tallied (record { session = session; counts = counts }) (one ∷ rest) ≡ tally
    → Attends (after session one).members attending' × (fold tallied (record { session = after session one; counts = counts' }) rest ≡ tally)
one_more session attending attending' one change counts counts' rest tally is came counted all =
    let f = follows session attending one is in
    let to : attending' ≡ (followed attending one).0 = ap (λ (p : Attending × Change). p.0) came in
    let changes : change ≡ change_of session one = ap (λ (p : Attending × Change). p.1) came ∙ f.1 in
    let same : counts' ≡ with_kind one (with_change (change_of session one) counts) = counted ∙ ap (λ (c : Change). with_kind one (with_change c counts)) changes in (
      subst (λ (a : Attending). Attends (after session one).members a) (sym to) f.0,
      ap (λ (c : Counts). fold tallied (record { session = after session one; counts = c }) rest) same ∙ all,
    )

pub at_step : (steps : List Step) (i : ℕ) (one : Step) → i < length steps → one ≡ get_or steps i one → drop i steps ≡ one ∷ drop (i + 1) steps
at_step steps i one inside is = rw (add-one, drop-cons steps i one inside, ← is) refl
