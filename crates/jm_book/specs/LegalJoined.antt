-- What holds of the participants after legal steps, and of the checkpoint along them.
use Rattle.std.proofs.Common.{ℕ, ◌+◌, ◌-◌, ◌<◌, ◌≤◌, ◌≡◌, refl, Bool, true, false, List, [], ◌∷◌, ◌++◌, Option, Some, None, length, length-append, arith, inl, inr}
use Rattle.std.specs.Prelude.{nat_eq, nat_lt, ◌||◌}
use Rattle.std.specs.List.{AllByRecursion, IsDistinct}
use Rattle.std.specs.Cmp.{nat_eq_equiv}
use Rattle.std.proofs.lemmas.Bool.{cases_Bool}
use Rattle.std.proofs.lemmas.Bool.Decides.{nat_tests}
use Rattle.std.proofs.lemmas.List.{map-append}
use Rattle.std.proofs.lemmas.Map.Keys.{IsDistinct-push}
use Rattle.jm_cmds.specs.HistoryLaws.{AllByRecursion-weaker, AllByRecursion-append}
use Rattle.jm_edge.specs.declared.Addr.{Addr}
use Rattle.apple_msg.specs.declared.message.Message.{Message}
use Rattle.apple_session.specs.declared.answer.PortKind.{PortKind}
use Rattle.apple_session.specs.declared.answer.Act.{Act}
use Rattle.apple_session.specs.declared.answer.Act.TheVariants as act
use Rattle.apple_session.specs.Conduct.{ssrc_of}
use Rattle.jm_book.specs.declared.steps.Config.{Config}
use Rattle.jm_book.specs.declared.steps.Step.{Step}
use Rattle.jm_book.specs.declared.steps.Step.TheVariants.{Enter, Play, Cut, Ack, Join, Leave, Hear, Feedback, Say}
use Rattle.jm_book.specs.declared.marks.Report.{Report}
use Rattle.jm_book.specs.declared.marks.Report.TheVariants as report
use Rattle.jm_book.specs.declared.participants.Participant.{Participant}
use Rattle.jm_book.specs.Participants.{find_joined, is_member, most_joined, report_of, marked_by, with_report_of, with_joiner, moved, noted, others_than, free_slot, checkpoint_at, ssrcs_of, slots_of, length_changed}
use Rattle.jm_book.specs.Members.{Members, has_room_for, is_named_member, outcome_of, carried_out}
use Rattle.jm_book.specs.Stream.{next_packet}
use Rattle.jm_book.specs.Session.{Session, session_of, after, nothing, checkpoint_of}
use Rattle.jm_book.specs.Legal.{IsTakenIn, IsTaken, IsLegal}
use Rattle.jm_book.specs.LegalLaws.{taken_apart, taken_keeps, legal_keeps}
use Rattle.jm_book.specs.TakenLaws.{Joins, report_moves, join_taken, taken_in, taken_fits}
use Rattle.jm_book.specs.SayLaws.{joins_with_room}
use Rattle.jm_book.specs.MarkLaws.{checkpoint_at_most, checkpoint_at_least, checkpoint_sent}
use Rattle.jm_book.specs.JoinedLaws.{changed_all, field_changed, marks_moved, found_all, others_all, others_field, others_distinct, others_length, ssrc_absent, slot_absent, free_slot_free}
use Rattle.jm_book.specs.StepLaws.{session_push}

-- no mark is past the last sent packet; each SSRC is joined once, with a slot of its own
pub record Participate (packets : ℕ) (joined : List Participant) : Type 0 where
  pub marks : AllByRecursion (λ one. one.mark ≤ packets - 1) joined
  pub ssrcs : IsDistinct nat_eq (ssrcs_of joined)
  pub slots : IsDistinct nat_eq (slots_of joined)
  pub in_range : AllByRecursion (λ slot. slot < 32) (slots_of joined)
  pub few : length joined ≤ most_joined

-- that holds still, and the checkpoint doesn't fall
pub record Rises (packets more : ℕ) (joined new : List Participant) : Type 0 where
  pub holds : Participate more new
  pub checkpoint : checkpoint_at packets joined ≤ checkpoint_at more new

-- where no mark falls below the checkpoint and as many packets are sent, the checkpoint doesn't fall
rises : (packets more : ℕ) (joined new : List Participant) → Participate packets joined → packets ≤ more → AllByRecursion (λ one. checkpoint_at packets joined ≤ one.mark) new → Participate more new → Rises packets more joined new
rises packets more joined new h sent above holds =
    let below = checkpoint_sent packets joined h.marks in
    record { holds = holds; checkpoint = checkpoint_at_least (checkpoint_at packets joined) more new (omega arith) above }

-- the same participants, and at least as many packets
quiet : (packets more : ℕ) (joined : List Participant) → packets ≤ more → Participate packets joined → Rises packets more joined joined
quiet packets more joined sent h =
    rises packets more joined joined h sent (checkpoint_at_most packets joined) record {
      marks = AllByRecursion-weaker (λ one. one.mark ≤ packets - 1) (λ one. one.mark ≤ more - 1) (λ one l. omega arith) joined h.marks;
      ssrcs = h.ssrcs;
      slots = h.slots;
      in_range = h.in_range;
      few = h.few;
    }

here : (packets : ℕ) → packets ≤ packets
here packets = omega arith

-- a mark moves on, to a packet that was sent
moves : (packets ssrc mark : ℕ) (one : Participant) (joined : List Participant) → find_joined ssrc joined ≡ Some one → one.mark ≤ mark → mark ≤ packets - 1 → Participate packets joined → Rises packets packets joined (moved ssrc mark joined)
moves packets ssrc mark one joined found on sent h =
    let below : checkpoint_at packets joined ≤ one.mark = found_all (λ other. checkpoint_at packets joined ≤ other.mark) ssrc joined one found (checkpoint_at_most packets joined) in
    let above : checkpoint_at packets joined ≤ mark = omega arith in
    let change : Participant → Participant = λ other. record other { mark = mark } in
    rises packets packets joined (moved ssrc mark joined) h (here packets) (marks_moved (λ number. checkpoint_at packets joined ≤ number) ssrc mark joined above (checkpoint_at_most packets joined)) record {
      marks = marks_moved (λ number. number ≤ packets - 1) ssrc mark joined sent h.marks;
      ssrcs = rw (field_changed (λ other. other.ssrc) change ssrc joined (λ other. refl)) h.ssrcs;
      slots = rw (field_changed (λ other. other.slot) change ssrc joined (λ other. refl)) h.slots;
      in_range = rw (field_changed (λ other. other.slot) change ssrc joined (λ other. refl)) h.in_range;
      few = rw (length_changed change ssrc joined) h.few;
    }

-- a report of any number
reported : (packets ssrc seq : ℕ) (joined : List Participant) (one : Participant) (answer : Report) → find_joined ssrc joined ≡ Some one → report_of packets one seq ≡ answer → Participate packets joined → Rises packets packets joined (marked_by answer ssrc joined)
reported packets ssrc seq joined one (report.Moved mark) found is h =
    let came = report_moves packets one seq mark is in
    let past = came.0.past in
    let sent = came.0.sent in
    moves packets ssrc mark one joined found (omega (arith, came.1)) (omega (arith, came.1)) h
reported packets ssrc seq joined one (report.Old mark) found is h = quiet packets packets joined (here packets) h
reported packets ssrc seq joined one (report.NotSent last) found is h = quiet packets packets joined (here packets) h

reported_of : (packets ssrc seq : ℕ) (joined : List Participant) (found : Option Participant) → find_joined ssrc joined ≡ found → Participate packets joined → Rises packets packets joined (with_report_of packets ssrc seq joined found)
reported_of packets ssrc seq joined None is h = quiet packets packets joined (here packets) h
reported_of packets ssrc seq joined (Some one) is h = reported packets ssrc seq joined one (report_of packets one seq) is refl h

-- the number that was heard is no part of a mark or a slot
notes : (packets ssrc seq : ℕ) (joined : List Participant) → Participate packets joined → Rises packets packets joined (noted ssrc seq joined)
notes packets ssrc seq joined h =
    let change : Participant → Participant = λ other. record other { heard = Some seq } in
    rises packets packets joined (noted ssrc seq joined) h (here packets) (changed_all (λ one. checkpoint_at packets joined ≤ one.mark) change ssrc joined (λ one old. old) (checkpoint_at_most packets joined)) record {
      marks = changed_all (λ one. one.mark ≤ packets - 1) change ssrc joined (λ one old. old) h.marks;
      ssrcs = rw (field_changed (λ other. other.ssrc) change ssrc joined (λ other. refl)) h.ssrcs;
      slots = rw (field_changed (λ other. other.slot) change ssrc joined (λ other. refl)) h.slots;
      in_range = rw (field_changed (λ other. other.slot) change ssrc joined (λ other. refl)) h.in_range;
      few = rw (length_changed change ssrc joined) h.few;
    }

-- one leaves
leaves : (packets ssrc : ℕ) (joined : List Participant) → Participate packets joined → Rises packets packets joined (others_than ssrc joined)
leaves packets ssrc joined h =
    rises packets packets joined (others_than ssrc joined) h (here packets) (others_all (λ one. checkpoint_at packets joined ≤ one.mark) ssrc joined (checkpoint_at_most packets joined)) record {
      marks = others_all (λ one. one.mark ≤ packets - 1) ssrc joined h.marks;
      ssrcs = others_distinct (λ one. one.ssrc) ssrc joined h.ssrcs;
      slots = others_distinct (λ one. one.slot) ssrc joined h.slots;
      in_range = others_field (λ slot. slot < 32) (λ one. one.slot) ssrc joined h.in_range;
      few = let fewer = others_length ssrc joined in let few = h.few in omega arith;
    }

-- one joins
joins : (packets ssrc : ℕ) (joined : List Participant) → Joins joined ssrc → Participate packets joined → Rises packets packets joined (with_joiner packets ssrc joined)
joins packets ssrc joined j h =
    let slot = free_slot joined in
    let one : Participant = record { ssrc = ssrc; mark = packets - 1; slot = slot; heard = None } in
    let few : length joined < 32 = let now = j.few in omega arith in
    let free = free_slot_free joined few in
    let last : packets - 1 ≤ packets - 1 = omega arith in
    let more : length (joined ++ one ∷ []) ≡ length joined + 1 = length-append joined (one ∷ []) in
    rises packets packets joined (joined ++ one ∷ []) h (here packets) (AllByRecursion-append (λ other. checkpoint_at packets joined ≤ other.mark) joined (one ∷ []) (checkpoint_at_most packets joined) (checkpoint_sent packets joined h.marks, tt)) record {
      marks = AllByRecursion-append (λ other. other.mark ≤ packets - 1) joined (one ∷ []) h.marks (last, tt);
      ssrcs = rw (map-append (λ (other : Participant). other.ssrc) joined (one ∷ [])) (IsDistinct-push nat_eq_equiv (ssrcs_of joined) ssrc h.ssrcs (ssrc_absent ssrc joined j.absent));
      slots = rw (map-append (λ (other : Participant). other.slot) joined (one ∷ [])) (IsDistinct-push nat_eq_equiv (slots_of joined) slot h.slots (slot_absent slot joined free.0));
      in_range = rw (map-append (λ (other : Participant). other.slot) joined (one ∷ [])) (AllByRecursion-append (λ slot. slot < 32) (slots_of joined) (slot ∷ []) h.in_range (free.1, tt));
      few = let now = j.few in omega arith;
    }

-- ---- a message

either_few : (named few : Bool) → (named || few) ≡ true → named ≡ false → few ≡ true
either_few named few h none = let is : few ≡ true = rw none at h in is

-- who joins by a message has room
pub said_joins : (members : Members) (port : PortKind) (from : Addr) (message : Message) (now ssrc : ℕ) → (outcome_of members port from message now).answer.act ≡ act.Join ssrc → is_member ssrc members.joined ≡ false → Joins members.joined ssrc
said_joins members port from message now ssrc is absent =
    let came = joins_with_room members.host (has_room_for message members.joined) port from message now ssrc is in
    let named : is_named_member (ssrc_of message) members.joined ≡ false = rw came.1 absent in
    let few : nat_lt (length members.joined) most_joined ≡ true = either_few (is_named_member (ssrc_of message) members.joined) (nat_lt (length members.joined) most_joined) came.0 named in
    record { absent = absent; few = grind (arith, nat_tests, few) }

-- an act carried out, where who joins has room
carried : (packets : ℕ) (joined : List Participant) (done : Act) → ((ssrc : ℕ) → done ≡ act.Join ssrc → is_member ssrc joined ≡ false → Joins joined ssrc) → Participate packets joined → Rises packets packets joined (carried_out packets joined done)
carried packets joined (act.Join ssrc) room h = elim (cases_Bool (is_member ssrc joined)) [
  | inl t ↦ rw t (quiet packets packets joined (here packets) h)
  | inr f ↦ rw f (joins packets ssrc joined (room ssrc refl f) h)
]
carried packets joined (act.Leave ssrc) room h = leaves packets ssrc joined h
carried packets joined (act.Ack ssrc seq) room h = reported_of packets ssrc seq joined (find_joined ssrc joined) refl h
carried packets joined act.Plain room h = quiet packets packets joined (here packets) h
carried packets joined (act.Clocked offset) room h = quiet packets packets joined (here packets) h
carried packets joined (act.Ignored why) room h = quiet packets packets joined (here packets) h

-- ---- steps

abbrev pub ParticipateIn : Session → Type 0
ParticipateIn s = Participate (length s.stream.packets) s.members.joined

abbrev pub RisesTo : Session → Session → Type 0
RisesTo s new = Rises (length s.stream.packets) (length new.stream.packets) s.members.joined new.members.joined

-- one more taken step
pub participate_after : (events : ℕ) (s : Session) (step : Step) → ParticipateIn s → IsTakenIn events s step → RisesTo s (after s step)
participate_after events s Enter h taken = quiet (length s.stream.packets) (length s.stream.packets) s.members.joined (here (length s.stream.packets)) h
participate_after events s (Play player command tick) h taken = quiet (length s.stream.packets) (length s.stream.packets) s.members.joined (here (length s.stream.packets)) h
participate_after events s (Cut tick) h taken =
    let more : length (s.stream.packets ++ (next_packet s.stream tick).packet ∷ []) ≡ length s.stream.packets + 1 = length-append s.stream.packets ((next_packet s.stream tick).packet ∷ []) in
    quiet (length s.stream.packets) (length (after s (Cut tick)).stream.packets) s.members.joined (omega arith) h
participate_after events s (Ack ssrc seq) h taken = reported_of (length s.stream.packets) ssrc seq s.members.joined (find_joined ssrc s.members.joined) refl h
participate_after events s (Join ssrc) h taken = joins (length s.stream.packets) ssrc s.members.joined (join_taken events s ssrc taken) h
participate_after events s (Leave ssrc) h taken = leaves (length s.stream.packets) ssrc s.members.joined h
participate_after events s (Hear ssrc seq) h taken = notes (length s.stream.packets) ssrc seq s.members.joined h
participate_after events s Feedback h taken = quiet (length s.stream.packets) (length s.stream.packets) s.members.joined (here (length s.stream.packets)) h
participate_after events s (Say port from message now) h taken =
    let outcome = outcome_of s.members port from message now in
    carried (length s.stream.packets) s.members.joined outcome.answer.act (λ ssrc is absent. said_joins s.members port from message now ssrc is absent) h

pub participate_push : (config : Config) (steps : List Step) (step : Step) → ParticipateIn (session_of config steps) → IsTaken config steps step → RisesTo (session_of config steps) (session_of config (steps ++ step ∷ []))
participate_push config steps step h taken = rw (session_push config steps step) (participate_after config.events (session_of config steps) step h (taken_in config steps step taken))

pub none_participate : (config : Config) → ParticipateIn (nothing config)
unfolding IsDistinct
none_participate config = record { marks = tt; ssrcs = tt; slots = tt; in_range = tt; few = omega arith }

-- what holds of the participants after legal steps
pub legal_participate : (config : Config) (steps : List Step) → IsLegal config steps → ParticipateIn (session_of config steps)
legal_participate config steps legal =
    legal_keeps config (λ taken. ParticipateIn (session_of config taken)) (λ before step h taken. (participate_push config before step h taken).holds) (none_participate config) steps legal

-- further legal steps don't lower the checkpoint
pub checkpoint_rises : (config : Config) (steps more : List Step) → IsLegal config (steps ++ more) → checkpoint_of (session_of config steps) ≤ checkpoint_of (session_of config (steps ++ more))
checkpoint_rises config steps more legal =
    let apart = taken_apart config [] steps more legal in
    let same : checkpoint_of (session_of config steps) ≤ checkpoint_of (session_of config steps) = omega arith in
    (taken_keeps config (λ taken. RisesTo (session_of config steps) (session_of config taken)) (λ before step h taken. let next = participate_push config before step h.holds taken in record { holds = next.holds; checkpoint = let first = h.checkpoint in let last = next.checkpoint in omega arith }) steps more (record { holds = legal_participate config steps apart.0; checkpoint = same }) apart.1).checkpoint

-- legal steps fit the tape
pub legal_fits : (config : Config) (steps : List Step) → IsLegal config steps → length steps ≤ config.events
legal_fits config steps legal =
    legal_keeps config (λ taken. length taken ≤ config.events) (λ before step h taken. let room = taken_fits config before step taken in let more : length (before ++ step ∷ []) ≡ length before + 1 = length-append before (step ∷ []) in omega arith) (omega arith) steps legal
