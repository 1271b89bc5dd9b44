-- Honest participants stay in step.
use Rattle.std.proofs.Common.{◌≡◌, ℕ, ◌+◌, ◌-◌, ◌≤◌, ◌<◌, ◌^◌, true, false, List, [], ◌∷◌, ◌++◌, Option, Some, None, length, refl, sym, ap, subst, ◌∙◌, inl, inr, arith, append_assoc, length-append}
use Rattle.std.specs.Prelude.{◌==◌, Result}
use Rattle.std.specs.Cmp.{nat_eq_equiv}
use Rattle.std.specs.List.{AllByRecursion}
use Rattle.std.proofs.lemmas.Bool.{cases_Bool, eqb-true, eqb-false}
use Rattle.jm_cmds.specs.History.{below}
use Rattle.jm_cmds.specs.HistoryLaws.{AllByRecursion-weaker, AllByRecursion-append}
use Rattle.jm_cmds.specs.Sent.{packet_of}
use Rattle.jm_edge.specs.declared.Addr.{Addr}
use Rattle.apple_msg.specs.declared.message.Message.{Message}
use Rattle.apple_session.specs.declared.answer.PortKind.{PortKind}
use Rattle.apple_session.specs.Conduct.{ssrc_of}
use Rattle.jm_receiver.specs.declared.opening.AcceptFault.{AcceptFault}
use Rattle.jm_receiver.specs.declared.receiver.Took.{Took}
use Rattle.jm_receiver.specs.InStep.{first_lacking, CanTell}
use Rattle.jm_receiver.specs.Receiver.{Received}
use Rattle.jm_book.specs.declared.answers.Acked.{Acked}
use Rattle.jm_book.specs.declared.answers.Acked.TheVariants as acked
use Rattle.jm_book.specs.declared.answers.Acted.{Acted}
use Rattle.jm_book.specs.declared.answers.Acted.TheVariants as acted
use Rattle.jm_book.specs.declared.answers.Cutted.{Cutted}
use Rattle.jm_book.specs.declared.answers.Cutted.TheVariants as cutted
use Rattle.jm_book.specs.declared.answers.Gone.{Gone}
use Rattle.jm_book.specs.declared.answers.Gone.TheVariants as gone
use Rattle.jm_book.specs.declared.answers.Heard.{Heard}
use Rattle.jm_book.specs.declared.answers.Heard.TheVariants as heard
use Rattle.jm_book.specs.declared.answers.Joined.{Joined}
use Rattle.jm_book.specs.declared.answers.Joined.TheVariants as joined
use Rattle.jm_book.specs.declared.answers.Said.{Said}
use Rattle.jm_book.specs.declared.answers.Said.TheVariants as said
use Rattle.jm_book.specs.declared.participants.Participant.{Participant}
use Rattle.jm_book.specs.declared.steps.Config.{Config}
use Rattle.jm_book.specs.declared.steps.Step.{Step}
use Rattle.jm_book.specs.declared.steps.Step.TheVariants.{Enter, Play, Cut, Ack, Join, Leave, Hear, Feedback, Say}
use Rattle.jm_book.specs.Participants.{is_member}
use Rattle.jm_book.specs.Stream.{Stream, stream_of, sent_of}
use Rattle.jm_book.specs.Session.{session_of, members_of, checkpoint_of, session_stream}
use Rattle.jm_book.specs.Answers.{is_packet, is_moved, is_joined, is_left, is_noted, is_said}
use Rattle.jm_book.specs.BookAnswers.{cut_answer, ack_answer, join_answer, leave_answer, hear_answer, say_answer}
use Rattle.jm_book.specs.Legal.{IsTaken, IsLegal}
use Rattle.jm_book.specs.LegalLaws.{legal_push, taken_apart}
use Rattle.jm_book.specs.LegalJoined.{checkpoint_rises, legal_fits}
use Rattle.jm_book.specs.MarkLaws.{checkpoint_at_most}
use Rattle.jm_book.specs.JoinedLaws.{found_all}
use Rattle.jm_book.specs.AloneLaws.{split, packets_are, keeps_joined, joins_one, reports_one, leaves_one, hears_one, says_one}
use Rattle.jm_book.specs.MembersConduct.{JoinsBehind, MovesAlone, HearsAlone, LeavesAlone, SaidMakes}
use Rattle.jm_book.specs.SlowestLaws.{stays_near}
use Rattle.jm_book.specs.StreamConduct.{cut_count}
use Rattle.jm_book.specs.StreamLaws.{keeps_packets, counts_cuts}
use Rattle.jm_book.specs.Commands.{HasCommand, HaveCommands}
use Rattle.jm_session.specs.Packets.{number_of}
use Rattle.jm_session.specs.Premises.{sent_in}
use Rattle.jm_session.proofs.PremiseLaws.{sent_stays}
use Rattle.jm_session.specs.InStep.{IsInStep, ComesInStep, ReceiversStayInStep}
use Rattle.jm_session.proofs.InStepLaws.{number_by_cut}
use Rattle.jm_session.specs.Honest.{Situation, Event, goes, arrives, situation_after, with_answer, is_one_of, ReportsTaken, IsHonestStep, IsLater, IsHonest, AreHonest, HasLast, JoinsInStep, joined_with, situation_of, Meets, StaysInStep, HonestParticipantsStayInStep}

-- ---- the marks of one SSRC

-- no mark of it is past this packet
abbrev AtMost : (ssrc bound : ℕ) → List Participant → Type 0
AtMost ssrc bound joined = AllByRecursion (λ one. one.ssrc ≡ ssrc → one.mark ≤ bound) joined

none_at_most : (ssrc bound : ℕ) (joined : List Participant) → is_member ssrc joined ≡ false → AtMost ssrc bound joined
none_at_most ssrc bound [] h = tt
none_at_most ssrc bound (one ∷ others) h = elim (cases_Bool (one.ssrc == ssrc)) [
  | inl t ↦ let bad : true ≡ false = rw t at h in absurd cc
  | inr f ↦ let later : is_member ssrc others ≡ false = rw f at h in ((λ e. absurd (eqb-false one.ssrc ssrc f e)), none_at_most ssrc bound others later)
]

-- one that stands in a list is a member
within : (ssrc : ℕ) (front : List Participant) (one : Participant) (rest : List Participant) → one.ssrc ≡ ssrc → is_member ssrc (front ++ one ∷ rest) ≡ true
within ssrc [] one rest own = let same : (ssrc == ssrc) ≡ true = nat_eq_equiv.refl ssrc in rw (own, same) refl
within ssrc (first ∷ front) one rest own = elim (cases_Bool (first.ssrc == ssrc)) [
  | inl t ↦ rw t refl
  | inr f ↦ rw f (within ssrc front one rest own)
]

-- another stands in its place
replaced_at_most : (ssrc bound : ℕ) (front : List Participant) (one other : Participant) (rest : List Participant) → ((one.ssrc ≡ ssrc → one.mark ≤ bound) → other.ssrc ≡ ssrc → other.mark ≤ bound)
    → AtMost ssrc bound (front ++ one ∷ rest) → AtMost ssrc bound (front ++ other ∷ rest)
replaced_at_most ssrc bound [] one other rest keeps h = (keeps h.0, h.1)
replaced_at_most ssrc bound (first ∷ front) one other rest keeps h = (h.0, replaced_at_most ssrc bound front one other rest keeps h.1)

left_at_most : (ssrc bound : ℕ) (front : List Participant) (one : Participant) (rest : List Participant) → AtMost ssrc bound (front ++ one ∷ rest) → AtMost ssrc bound (front ++ rest)
left_at_most ssrc bound [] one rest h = h.1
left_at_most ssrc bound (first ∷ front) one rest h = (h.0, left_at_most ssrc bound front one rest h.1)

module _ (ssrc bound packets : ℕ) (old new : List Participant) (h : AtMost ssrc bound old) where
  moves : (other mark : ℕ) → MovesAlone packets other mark old new → (other ≡ ssrc → is_member ssrc old ≡ true → mark ≤ bound) → AtMost ssrc bound new
  moves other mark m to =
      subst (AtMost ssrc bound) (sym m.is)
      (replaced_at_most ssrc bound m.front m.one (record m.one { mark = mark }) m.rest
      (λ was e. to (sym m.own ∙ e) (rw m.was (within ssrc m.front m.one m.rest e))) (subst (AtMost ssrc bound) m.was h))

  hears : (other seq : ℕ) → HearsAlone other seq old new → AtMost ssrc bound new
  hears other seq m =
      subst (AtMost ssrc bound) (sym m.is) (replaced_at_most ssrc bound m.front m.one (record m.one { heard = Some seq }) m.rest (λ was e. was e) (subst (AtMost ssrc bound) m.was h))

  leaves : (other : ℕ) → LeavesAlone other old new → AtMost ssrc bound new
  leaves other m = subst (AtMost ssrc bound) (sym m.is) (left_at_most ssrc bound m.front m.one m.rest (subst (AtMost ssrc bound) m.was h))

  -- of this SSRC one joins only where it isn't joined, and then with the last packet that was sent
  joins : (other mark player : ℕ) → JoinsBehind packets other mark player old new → (is_member ssrc old ≡ false → packets - 1 ≤ bound) → AtMost ssrc bound new
  joins other mark player j last =
      subst (AtMost ssrc bound) (sym j.is)
      (AllByRecursion-append (λ one. one.ssrc ≡ ssrc → one.mark ≤ bound) old (record { ssrc = other; mark = mark; slot = j.slot; heard = None } ∷ []) h
      ((λ e. let sent = last (subst (λ n. is_member n old ≡ false) e j.absent) in omega (arith, j.last)), tt))

  same : new ≡ old → AtMost ssrc bound new
  same is = subst (AtMost ssrc bound) (sym is) h

-- ---- a step

-- a report of this SSRC that moves its mark moves it no further than this packet
abbrev OwnAtMost : Config → (steps : List Step) → (ssrc bound : ℕ) → Step → Type 0
OwnAtMost config steps ssrc bound (Ack other seq) = (mark : ℕ) → other ≡ ssrc → ack_answer config steps other seq ≡ acked.Moved mark → mark ≤ bound
OwnAtMost config steps ssrc bound (Say port from message now) =
    (mark : ℕ) (reply : Option Message) → ssrc_of message ≡ Some ssrc → say_answer config steps port from message now ≡ said.Done reply (acted.Moved mark) → mark ≤ bound
OwnAtMost config steps ssrc bound _ = Unit {0}

-- where one is joined, all that isn't said of another is of it
named_own : (other ssrc : ℕ) (named : Option ℕ) → named ≡ Some other → other ≡ ssrc → named ≡ Some ssrc
named_own other ssrc named is e = is ∙ ap (λ n. Some n) e

module _ (config : Config) (steps : List Step) (ssrc bound : ℕ) (last : is_member ssrc (members_of config steps).joined ≡ false → number_of (session_of config steps) - 1 ≤ bound) (h : AtMost ssrc bound (members_of config steps).joined) where
  last_sent : is_member ssrc (members_of config steps).joined ≡ false → length (stream_of steps).packets - 1 ≤ bound
  last_sent absent = let sent = last absent in omega (arith, packets_are config steps)

  acked_at_most : (other seq : ℕ) (answer : Acked) → ack_answer config steps other seq ≡ answer → is_moved answer ≡ true → (is_member ssrc (members_of config steps).joined ≡ true → OwnAtMost config steps ssrc bound (Ack other seq))
      → AtMost ssrc bound (members_of config (steps ++ Ack other seq ∷ [])).joined
  acked_at_most other seq (acked.Moved mark) is taken own =
      moves ssrc bound (length (stream_of steps).packets) (members_of config steps).joined (members_of config (steps ++ Ack other seq ∷ [])).joined h other mark (reports_one config steps other seq mark is) (λ e member. own member mark e is)
  acked_at_most other seq (acked.Old mark) is taken own = absurd cc
  acked_at_most other seq (acked.NotSent sent) is taken own = absurd cc
  acked_at_most other seq acked.UnknownSsrc is taken own = absurd cc
  acked_at_most other seq (acked.RecordFull events) is taken own = absurd cc

  joined_at_most : (other : ℕ) (answer : Joined) → join_answer config steps other ≡ answer → is_joined answer ≡ true → AtMost ssrc bound (members_of config (steps ++ Join other ∷ [])).joined
  joined_at_most other (joined.At mark player) is taken =
      joins ssrc bound (length (stream_of steps).packets) (members_of config steps).joined (members_of config (steps ++ Join other ∷ [])).joined h other mark player (joins_one config steps other mark player is) last_sent
  joined_at_most other joined.Already is taken = absurd cc
  joined_at_most other (joined.SessionFull most) is taken = absurd cc
  joined_at_most other (joined.RecordFull events) is taken = absurd cc

  left_by : (other : ℕ) (answer : Gone) → leave_answer config steps other ≡ answer → is_left answer ≡ true → AtMost ssrc bound (members_of config (steps ++ Leave other ∷ [])).joined
  left_by other gone.Left is taken = leaves ssrc bound 0 (members_of config steps).joined (members_of config (steps ++ Leave other ∷ [])).joined h other (leaves_one config steps other is)
  left_by other gone.UnknownSsrc is taken = absurd cc
  left_by other (gone.RecordFull events) is taken = absurd cc

  heard_by : (other seq : ℕ) (answer : Heard) → hear_answer config steps other ≡ answer → is_noted answer ≡ true → AtMost ssrc bound (members_of config (steps ++ Hear other seq ∷ [])).joined
  heard_by other seq heard.Noted is taken = hears ssrc bound 0 (members_of config steps).joined (members_of config (steps ++ Hear other seq ∷ [])).joined h other seq (hears_one config steps other seq is)
  heard_by other seq heard.UnknownSsrc is taken = absurd cc
  heard_by other seq (heard.RecordFull events) is taken = absurd cc

  made_at_most : (message : Message) (new : List Participant) (done : Acted) → SaidMakes (length (stream_of steps).packets) message (members_of config steps).joined new done
      → (is_member ssrc (members_of config steps).joined ≡ true → (mark : ℕ) → done ≡ acted.Moved mark → ssrc_of message ≡ Some ssrc → mark ≤ bound) → AtMost ssrc bound new
  made_at_most message new (acted.Joined mark player) makes own = joins ssrc bound (length (stream_of steps).packets) (members_of config steps).joined new h makes.ssrc mark player makes.holds last_sent
  made_at_most message new acted.Left makes own = leaves ssrc bound 0 (members_of config steps).joined new h makes.ssrc makes.holds
  made_at_most message new (acted.Moved mark) makes own =
      moves ssrc bound (length (stream_of steps).packets) (members_of config steps).joined new h makes.ssrc mark makes.holds (λ e member. own member mark refl (named_own makes.ssrc ssrc (ssrc_of message) makes.named e))
  made_at_most message new acted.Plain makes own = same ssrc bound 0 (members_of config steps).joined new h makes
  made_at_most message new (acted.Old mark) makes own = same ssrc bound 0 (members_of config steps).joined new h makes
  made_at_most message new (acted.NotSent sent) makes own = same ssrc bound 0 (members_of config steps).joined new h makes
  made_at_most message new (acted.Clocked offset) makes own = same ssrc bound 0 (members_of config steps).joined new h makes
  made_at_most message new (acted.Ignored why) makes own = same ssrc bound 0 (members_of config steps).joined new h makes

  said_at_most : (port : PortKind) (from : Addr) (message : Message) (now : ℕ) (answer : Said) → say_answer config steps port from message now ≡ answer → is_said answer ≡ true
      → (is_member ssrc (members_of config steps).joined ≡ true → OwnAtMost config steps ssrc bound (Say port from message now)) → AtMost ssrc bound (members_of config (steps ++ Say port from message now ∷ [])).joined
  said_at_most port from message now (said.Done reply done) is taken own =
      made_at_most message (members_of config (steps ++ Say port from message now ∷ [])).joined done (says_one config steps port from message now reply done is)
      (λ member mark e named. own member mark reply named (is ∙ ap (λ a. said.Done reply a) e))
  said_at_most port from message now (said.RecordFull events) is taken own = absurd cc

  -- a step that is taken moves no mark of this SSRC past this packet, unless a report of its own does
  step_at_most : (step : Step) → IsTaken config steps step → (is_member ssrc (members_of config steps).joined ≡ true → OwnAtMost config steps ssrc bound step) → AtMost ssrc bound (members_of config (steps ++ step ∷ [])).joined
  step_at_most Enter taken own = same ssrc bound 0 (members_of config steps).joined (members_of config (steps ++ Enter ∷ [])).joined h (keeps_joined config steps Enter refl)
  step_at_most (Play player command tick) taken own = same ssrc bound 0 (members_of config steps).joined (members_of config (steps ++ Play player command tick ∷ [])).joined h (keeps_joined config steps (Play player command tick) refl)
  step_at_most (Cut tick) taken own = same ssrc bound 0 (members_of config steps).joined (members_of config (steps ++ Cut tick ∷ [])).joined h (keeps_joined config steps (Cut tick) refl)
  step_at_most (Ack other seq) taken own = acked_at_most other seq (ack_answer config steps other seq) refl taken own
  step_at_most (Join other) taken own = joined_at_most other (join_answer config steps other) refl taken
  step_at_most (Leave other) taken own = left_by other (leave_answer config steps other) refl taken
  step_at_most (Hear other seq) taken own = heard_by other seq (hear_answer config steps other) refl taken
  step_at_most Feedback taken own = same ssrc bound 0 (members_of config steps).joined (members_of config (steps ++ Feedback ∷ [])).joined h (keeps_joined config steps Feedback refl)
  step_at_most (Say port from message now) taken own = said_at_most port from message now (say_answer config steps port from message now) refl taken own

-- ---- what was sent stays

packets_stay : (config : Config) (steps more : List Step) → number_of (session_of config steps) ≤ number_of (session_of config (steps ++ more))
packets_stay config steps more =
    let on = keeps_packets steps more in
    let all : length (stream_of (steps ++ more)).packets ≡ length (stream_of steps).packets + length on.later = ap length on.parts ∙ length-append (stream_of steps).packets on.later in
    omega (arith, all, packets_are config steps, packets_are config (steps ++ more))

pub same_sent : (config : Config) (steps more : List Step) (next : ℕ) → next ≤ number_of (session_of config steps) → below packet_of next (sent_in (session_of config (steps ++ more))) ≡ below packet_of next (sent_in (session_of config steps))
same_sent config steps more next l =
    ap (λ (stream : Stream). below packet_of next (sent_of stream)) (session_stream config (steps ++ more))
    ∙ sent_stays steps more next (omega (arith, packets_are config steps))
    ∙ ap (λ (stream : Stream). below packet_of next (sent_of stream)) (sym (session_stream config steps))

on_in_step : (config : Config) (steps more : List Step) (r : Received) → first_lacking r.last ≤ number_of (session_of config steps) → IsInStep config steps r → IsInStep config (steps ++ more) r
on_in_step config steps more r l is = record { ssrc = is.ssrc; whole = is.whole; unfinished = is.unfinished; agrees = rw (same_sent config steps more (first_lacking r.last) l) is.agrees }

was_in_step : (config : Config) (steps more : List Step) (r : Received) → first_lacking r.last ≤ number_of (session_of config steps) → IsInStep config (steps ++ more) r → IsInStep config steps r
was_in_step config steps more r l is = record { ssrc = is.ssrc; whole = is.whole; unfinished = is.unfinished; agrees = rw (← same_sent config steps more (first_lacking r.last) l) is.agrees }

-- ---- lists of steps

cuts_few : (steps : List Step) → cut_count steps ≤ length steps
cuts_few [] = omega arith
cuts_few (Enter ∷ steps) = omega (arith, cuts_few steps)
cuts_few (Play player command tick ∷ steps) = omega (arith, cuts_few steps)
cuts_few (Cut tick ∷ steps) = omega (arith, cuts_few steps)
cuts_few (Ack ssrc seq ∷ steps) = omega (arith, cuts_few steps)
cuts_few (Join ssrc ∷ steps) = omega (arith, cuts_few steps)
cuts_few (Leave ssrc ∷ steps) = omega (arith, cuts_few steps)
cuts_few (Hear ssrc seq ∷ steps) = omega (arith, cuts_few steps)
cuts_few (Feedback ∷ steps) = omega (arith, cuts_few steps)
cuts_few (Say port from message now ∷ steps) = omega (arith, cuts_few steps)

packets_fit : (config : Config) (steps : List Step) → IsLegal config steps → number_of (session_of config steps) ≤ config.events
packets_fit config steps legal = omega (arith, packets_are config steps, counts_cuts steps, cuts_few steps, legal_fits config steps legal)

pub first_have : (before later : List Step) → HaveCommands (before ++ later) → HaveCommands before
first_have [] later h = tt
first_have (step ∷ before) later h = (h.0, first_have before later h.1)

-- ---- what holds of a participant and its receiver

-- It is joined, and its mark is no packet that its receiver lacks; nor are those in the list of what it took. The receiver is in step.
record Holds (config : Config) (ssrc : ℕ) (steps : List Step) (r : Received) (taken : List ℕ) : Type 0 where
  legal : IsLegal config steps
  commands : HaveCommands steps
  member : is_member ssrc (members_of config steps).joined ≡ true
  marks : AtMost ssrc (first_lacking r.last - 1) (members_of config steps).joined
  taken_by : AllByRecursion (λ number. number ≤ first_lacking r.last - 1) taken
  sent : first_lacking r.last ≤ number_of (session_of config steps)
  in_step : IsInStep config steps r

one_of_few : (bound number : ℕ) (numbers : List ℕ) → is_one_of number numbers ≡ true → AllByRecursion (λ other. other ≤ bound) numbers → number ≤ bound
one_of_few bound number [] h all = absurd cc
one_of_few bound number (other ∷ others) h all = elim (cases_Bool (other == number)) [
  | inl t ↦ let same : other ≡ number = eqb-true other number t in rw (← same) all.0
  | inr f ↦ let later : is_one_of number others ≡ true = rw f at h in one_of_few bound number others later all.1
]

-- a report that moves its mark is of a packet that its receiver took
own_at_most : (config : Config) (steps : List Step) (ssrc bound : ℕ) (taken : List ℕ) (step : Step) → AllByRecursion (λ number. number ≤ bound) taken → ReportsTaken config steps ssrc taken step → OwnAtMost config steps ssrc bound step
own_at_most config steps ssrc bound taken Enter all honest = tt
own_at_most config steps ssrc bound taken (Play player command tick) all honest = tt
own_at_most config steps ssrc bound taken (Cut tick) all honest = tt
own_at_most config steps ssrc bound taken (Ack other seq) all honest = λ mark e is. one_of_few bound mark taken (honest mark e is) all
own_at_most config steps ssrc bound taken (Join other) all honest = tt
own_at_most config steps ssrc bound taken (Leave other) all honest = tt
own_at_most config steps ssrc bound taken (Hear other seq) all honest = tt
own_at_most config steps ssrc bound taken Feedback all honest = tt
own_at_most config steps ssrc bound taken (Say port from message now) all honest = λ mark reply named is. one_of_few bound mark taken (honest mark reply named is) all

-- an honest step keeps it
goes_on : (config : Config) (ssrc : ℕ) (s : Situation) (step : Step) → IsHonestStep config ssrc s step → Holds config ssrc s.steps s.receiver s.taken → Holds config ssrc (s.steps ++ step ∷ []) s.receiver s.taken
goes_on config ssrc s step is h = record {
  legal = legal_push config s.steps step h.legal is.legal;
  commands = AllByRecursion-append HasCommand s.steps (step ∷ []) h.commands (is.command, tt);
  member = is.stays;
  marks = step_at_most config s.steps ssrc (first_lacking s.receiver.last - 1) (λ absent. absurd (let both : true ≡ false = sym h.member ∙ absent in cc)) h.marks step is.legal
      (λ member. own_at_most config s.steps ssrc (first_lacking s.receiver.last - 1) s.taken step h.taken_by is.reports);
  taken_by = h.taken_by;
  sent = let more = packets_stay config s.steps (step ∷ []) in let sent = h.sent in omega arith;
  in_step = on_in_step config s.steps (step ∷ []) s.receiver h.sent h.in_step;
}

-- ---- a packet

near_of : (config : Config) (steps : List Step) (answer : Cutted) → cut_answer config steps ≡ answer → is_packet answer ≡ true → number_of (session_of config steps) < checkpoint_of (session_of config steps) + 32767
near_of config steps (cutted.Packet number) is h = let near = stays_near config steps number is in omega (arith, near.0, near.1, packets_are config steps)
near_of config steps (cutted.Behind ssrc mark) is h = absurd cc
near_of config steps (cutted.RecordFull events) is h = absurd cc

tells_of : (last : Option ℕ) (checkpoint number events : ℕ) → checkpoint ≤ first_lacking last - 1 → first_lacking last ≤ number → number < checkpoint + 32767 → number ≤ events → events < 2 ^ 64 → CanTell last number
tells_of None checkpoint number events early later near fits small = omega arith
tells_of (Some last) checkpoint number events early later near fits small = record { later = omega arith; near = omega arith; small = omega arith }

module _ (law : ReceiversStayInStep) (config : Config) (small : config.ssrc < 2 ^ 32) (fits : config.events < 2 ^ 64) (ssrc : ℕ) where
  meets : (before behind : List Step) (tick : ℕ) (r : Received) (taken : List ℕ) → first_lacking r.last ≤ number_of (session_of config before) → Holds config ssrc (before ++ Cut tick ∷ behind) r taken → Meets config before tick r
  meets before behind tick r taken later h =
      let steps = before ++ Cut tick ∷ behind in
      let joined = (members_of config steps).joined in
      let apart = taken_apart config [] before (Cut tick ∷ behind) h.legal in
      let one = split ssrc joined h.member in
      let mark : one.one.mark ≤ first_lacking r.last - 1 = found_all (λ other. other.ssrc ≡ ssrc → other.mark ≤ first_lacking r.last - 1) ssrc joined one.one one.found h.marks one.own in
      let passed : checkpoint_of (session_of config steps) ≤ one.one.mark = found_all (λ other. checkpoint_of (session_of config steps) ≤ other.mark) ssrc joined one.one one.found (checkpoint_at_most (number_of (session_of config steps)) joined) in
      let rises = checkpoint_rises config before (Cut tick ∷ behind) h.legal in
      let least : checkpoint_of (session_of config before) ≤ first_lacking r.last - 1 = omega arith in
      let early : checkpoint_of (session_of config before) ≤ first_lacking r.last = omega arith in
      let near = tells_of r.last (checkpoint_of (session_of config before)) (number_of (session_of config before)) config.events least later (near_of config before (cut_answer config before) refl apart.1.0) (packets_fit config before apart.0) fits in
      record {
        early = early;
        near = near;
        again = law config before tick r small apart.0 (first_have before (Cut tick ∷ behind) h.commands) early near (was_in_step config before (Cut tick ∷ behind) r later h.in_step);
      }

  next_meets : (s : Situation) (before : List Step) (tick : ℕ) → IsLater config s before tick → Holds config ssrc s.steps s.receiver s.taken → Meets config before tick s.receiver
  next_meets s before tick is h = meets before is.behind tick s.receiver s.taken is.later (subst (λ (steps : List Step). Holds config ssrc steps s.receiver s.taken) is.cut h)

  -- a later packet keeps it
  comes_in : (before behind : List Step) (tick : ℕ) (r : Received) (taken : List ℕ) → first_lacking r.last ≤ number_of (session_of config before) → Holds config ssrc (before ++ Cut tick ∷ behind) r taken
      → (in_step : ComesInStep config before tick r) → Holds config ssrc (before ++ Cut tick ∷ behind) in_step.after (in_step.took.number ∷ taken)
  comes_in before behind tick r taken later h is =
      let number = number_of (session_of config before) in
      let bound : first_lacking is.after.last ≡ number + 1 = ap first_lacking is.number in
      let more = packets_stay config (before ++ Cut tick ∷ []) behind in
      let all : (before ++ Cut tick ∷ []) ++ behind ≡ before ++ Cut tick ∷ behind = append_assoc before (Cut tick ∷ []) behind in
      let sent : number + 1 ≤ number_of (session_of config (before ++ Cut tick ∷ behind)) = subst (λ (steps : List Step). number + 1 ≤ number_of (session_of config steps)) all (omega (arith, number_by_cut config before tick)) in
      record {
        legal = h.legal;
        commands = h.commands;
        member = h.member;
        marks = AllByRecursion-weaker (λ one. one.ssrc ≡ ssrc → one.mark ≤ first_lacking r.last - 1) (λ one. one.ssrc ≡ ssrc → one.mark ≤ first_lacking is.after.last - 1) (λ one old e. let mark = old e in omega arith) (members_of config (before ++ Cut tick ∷ behind)).joined h.marks;
        taken_by = (let told = is.told in omega arith, AllByRecursion-weaker (λ other. other ≤ first_lacking r.last - 1) (λ other. other ≤ first_lacking is.after.last - 1) (λ other old. omega arith) taken h.taken_by);
        sent = omega arith;
        in_step = is.in_step behind;
      }

  abbrev HoldsIn : Situation → Type 0
  HoldsIn s = Holds config ssrc s.steps s.receiver s.taken

  arrives_in : (s : Situation) (before : List Step) (tick : ℕ) → IsLater config s before tick → HoldsIn s → HoldsIn (situation_after config s (arrives before tick))
  arrives_in s before tick is h =
      let again = (next_meets s before tick is h).again in
      let next = comes_in before is.behind tick s.receiver s.taken is.later (subst (λ (steps : List Step). Holds config ssrc steps s.receiver s.taken) is.cut h) again in
      subst (λ (answer : Result (Received × Took) AcceptFault). HoldsIn (with_answer s answer)) (sym again.taken)
      (subst (λ (steps : List Step). Holds config ssrc steps again.after (again.took.number ∷ s.taken)) (sym is.cut) next)

  befalls : (s : Situation) (event : Event) → IsHonest config ssrc s event → HoldsIn s → HoldsIn (situation_after config s event)
  befalls s (goes step) is h = goes_on config ssrc s step is h
  befalls s (arrives before tick) is h = arrives_in s before tick is h

  along : (s : Situation) (events : List Event) → AreHonest config ssrc s events → HoldsIn s → HoldsIn (situation_of config s events)
  along s [] are h = h
  along s (event ∷ events) are h = along (situation_after config s event) events are.1 (befalls s event are.0 h)

  -- ---- how it joins

  last_few : (last : Option ℕ) (packets : ℕ) → HasLast last packets → (packets - 1 ≤ first_lacking last - 1) × (first_lacking last ≤ packets)
  last_few None packets h = (omega arith, omega arith)
  last_few (Some last) packets h = (omega arith, omega arith)

  begins : (before : List Step) (join : Step) (r : Received) → JoinsInStep config ssrc before join r → HoldsIn (joined_with (before ++ join ∷ []) r)
  begins before join r is =
      let apart = taken_apart config [] before (join ∷ []) is.legal in
      let few = last_few r.last (number_of (session_of config before)) is.last in
      record {
        legal = is.legal;
        commands = is.commands;
        member = is.joined;
        marks = step_at_most config before ssrc (first_lacking r.last - 1) (λ absent. few.0) (none_at_most ssrc (first_lacking r.last - 1) (members_of config before).joined is.absent) join apart.1.0
            (λ member. absurd (let both : true ≡ false = sym member ∙ is.absent in cc));
        taken_by = tt;
        sent = let more = packets_stay config before (join ∷ []) in omega (arith, few.1);
        in_step = on_in_step config before (join ∷ []) r few.1 is.in_step;
      }

  stays_in : (s : Situation) → HoldsIn s → StaysInStep config s
  stays_in s h = record { in_step = h.in_step; next = λ before tick is. next_meets s before tick is h }

pub honest_stay_in_step : ReceiversStayInStep → HonestParticipantsStayInStep
honest_stay_in_step law config ssrc before join r events small fits joins honest =
    stays_in law config small fits ssrc (situation_of config (joined_with (before ++ join ∷ []) r) events)
    (along law config small fits ssrc (joined_with (before ++ join ∷ []) r) events honest (begins law config small fits ssrc before join r joins))
