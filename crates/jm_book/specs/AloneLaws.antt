-- Each step changes just its own participant, in its place.
use Rattle.std.proofs.Common.{ℕ, zero, suc, ◌+◌, ◌-◌, ◌<◌, ◌≤◌, ◌≡◌, refl, sym, ap, subst, ◌∙◌, inl, inr, Bool, true, false, List, [], ◌∷◌, ◌++◌, Option, Some, None, length, arith}
use Rattle.std.specs.Prelude.{◌%◌, ◌==◌, not, nat_le, is_some, if◌then◌else◌}
use Rattle.std.proofs.lemmas.Bool.{cases_Bool, eqb-true, cases_lt}
use Rattle.std.proofs.lemmas.Bool.Decides.{nat_tests}
use Rattle.jm_edge.specs.declared.Addr.{Addr}
use Rattle.apple_msg.specs.declared.message.Message.{Message}
use Rattle.apple_session.specs.declared.peer.Peer.{Peer}
use Rattle.apple_session.specs.declared.answer.PortKind.{PortKind}
use Rattle.apple_session.specs.declared.answer.Act.{Act}
use Rattle.apple_session.specs.declared.answer.Act.TheVariants as act
use Rattle.apple_session.specs.Conduct.{ssrc_of}
use Rattle.apple_session.specs.AnswerLaws.{acks_are_of_joined}
use Rattle.apple_session.specs.Host.{Host}
use Rattle.apple_session.specs.Machine.{step, ends}
use Rattle.apple_session.specs.Others.{found_ssrc}
use Rattle.apple_session.specs.Peers.{is_joined as is_joined_peer}
use Rattle.apple_session.specs.Steps.{IsQuiet, step_by}
use Rattle.jm_book.specs.declared.participants.Participant.{Participant}
use Rattle.jm_book.specs.declared.marks.Report.{Report}
use Rattle.jm_book.specs.declared.marks.Report.TheVariants as report
use Rattle.jm_book.specs.declared.answers.Acked.TheVariants as acked
use Rattle.jm_book.specs.declared.answers.Acted.{Acted}
use Rattle.jm_book.specs.declared.answers.Acted.TheVariants as acted
use Rattle.jm_book.specs.declared.answers.Gone.TheVariants as gone
use Rattle.jm_book.specs.declared.answers.Heard.TheVariants as heard
use Rattle.jm_book.specs.declared.answers.Joined.TheVariants as joined_as
use Rattle.jm_book.specs.declared.answers.Said.TheVariants as said
use Rattle.jm_book.specs.declared.steps.Config.{Config}
use Rattle.jm_book.specs.declared.steps.Step.{Step}
use Rattle.jm_book.specs.declared.steps.Step.TheVariants.{Enter, Play, Cut, Ack, Join, Leave, Hear, Feedback, Say}
use Rattle.jm_book.specs.Participants.{find_joined, is_member, has_slot, free_from, free_slot, most_joined, changed, noted, others_than, report_of, marked_by, with_report_of, with_joiner, distance, reaches}
use Rattle.jm_book.specs.Stream.{Stream, stream_of}
use Rattle.jm_book.specs.Members.{Members, has_room_for, outcome_of, carried_out}
use Rattle.jm_book.specs.Session.{Session, session_of, members_of, after, session_stream}
use Rattle.jm_book.specs.Answers.{ack_of, acked_as, acted_as, reported, acted_of, members_say}
use Rattle.jm_book.specs.BookAnswers.{has_room}
use Rattle.jm_book.specs.StepLaws.{session_push}
use Rattle.jm_book.specs.JoinedLaws.{free_slot_free}
use Rattle.jm_book.specs.TakenLaws.{Joins, report_moves}
use Rattle.jm_book.specs.LegalJoined.{said_joins, legal_participate}
use Rattle.jm_book.specs.SayLaws.{joins_with_room}
use Rattle.jm_book.specs.MembersConduct.{is_of_none, KeepsJoined, JoinsBehind, MovesAlone, HearsAlone, LeavesAlone, JoinsOne, ReportsOne, ReportsMove, LeavesOne, HearsOne, SaidMakes, SaysOne, JoinsFew}

-- ---- the one participant of an SSRC, and those before and behind it

pub record IsSplit (ssrc : ℕ) (joined : List Participant) : Type 0 where
  pub front : List Participant
  pub one : Participant
  pub rest : List Participant
  pub own : one.ssrc ≡ ssrc
  pub found : find_joined ssrc joined ≡ Some one
  pub was : joined ≡ front ++ one ∷ rest
  pub is : (change : Participant → Participant) → changed change ssrc joined ≡ front ++ change one ∷ rest
  pub left : others_than ssrc joined ≡ front ++ rest

pub split : (ssrc : ℕ) (joined : List Participant) → is_member ssrc joined ≡ true → IsSplit ssrc joined
split ssrc [] h = absurd cc
split ssrc (first ∷ others) h = elim (cases_Bool (first.ssrc == ssrc)) [
  | inl t ↦ record {
    front = [];
    one = first;
    rest = others;
    own = eqb-true first.ssrc ssrc t;
    found = rw t refl;
    was = refl;
    is = λ change. rw t refl;
    left = rw t refl;
  }
  | inr f ↦
      let later : is_member ssrc others ≡ true = rw f at h in
      let s = split ssrc others later in
      record {
        front = first ∷ s.front;
        one = s.one;
        rest = s.rest;
        own = s.own;
        found = rw f s.found;
        was = ap (λ (xs : List Participant). first ∷ xs) s.was;
        is = λ change. rw f (ap (λ (xs : List Participant). first ∷ xs) (s.is change));
        left = rw f (ap (λ (xs : List Participant). first ∷ xs) s.left);
      }
]

-- none leaves where none has the SSRC
none_left : (ssrc : ℕ) (joined : List Participant) → is_member ssrc joined ≡ false → others_than ssrc joined ≡ joined
none_left ssrc [] h = refl
none_left ssrc (first ∷ others) h = elim (cases_Bool (first.ssrc == ssrc)) [
  | inl t ↦ let bad : true ≡ false = rw t at h in absurd cc
  | inr f ↦ let later : is_member ssrc others ≡ false = rw f at h in rw f (ap (λ (xs : List Participant). first ∷ xs) (none_left ssrc others later))
]

leaves_alone : (ssrc : ℕ) (joined : List Participant) → is_member ssrc joined ≡ true → LeavesAlone ssrc joined (others_than ssrc joined)
leaves_alone ssrc joined h = let s = split ssrc joined h in record { front = s.front; one = s.one; rest = s.rest; own = s.own; was = s.was; is = s.left }

hears_alone : (ssrc seq : ℕ) (joined : List Participant) → is_member ssrc joined ≡ true → HearsAlone ssrc seq joined (noted ssrc seq joined)
hears_alone ssrc seq joined h =
    let s = split ssrc joined h in
    record { front = s.front; one = s.one; rest = s.rest; own = s.own; was = s.was; is = s.is (λ one. record one { heard = Some seq }) }

-- ---- a report

moves_alone : (packets ssrc seq mark : ℕ) (joined : List Participant) (one : Participant) → find_joined ssrc joined ≡ Some one → report_of packets one seq ≡ report.Moved mark → MovesAlone packets ssrc mark joined (marked_by (report_of packets one seq) ssrc joined)
moves_alone packets ssrc seq mark joined one found moves =
    let member : is_member ssrc joined ≡ true = ap is_some found in
    let s = split ssrc joined member in
    let some : Some s.one ≡ Some one = sym s.found ∙ found in
    let same : s.one ≡ one = cc in
    let told = report_moves packets one seq mark moves in
    let past = told.0.past in
    let sent = told.0.sent in
    let to = told.1 in
    let was_mark : s.one.mark ≡ one.mark = ap (λ (p : Participant). p.mark) same in
    rw moves record {
      front = s.front;
      one = s.one;
      rest = s.rest;
      own = s.own;
      was = s.was;
      is = s.is (λ p. record p { mark = mark });
      on = omega arith;
      sent = omega arith;
    }

acked_moved : (answer : Report) (mark : ℕ) → acked_as answer ≡ acked.Moved mark → answer ≡ report.Moved mark
acked_moved (report.Moved to) mark h = let same : to ≡ mark = cc in ap report.Moved same
acked_moved (report.Old old) mark h = absurd cc
acked_moved (report.NotSent last) mark h = absurd cc

reports_alone : (room : Bool) (events packets ssrc seq mark : ℕ) (joined : List Participant) (found : Option Participant) → find_joined ssrc joined ≡ found → ack_of room events packets seq found ≡ acked.Moved mark → MovesAlone packets ssrc mark joined (with_report_of packets ssrc seq joined found)
reports_alone room events packets ssrc seq mark joined None is h = absurd cc
reports_alone false events packets ssrc seq mark joined (Some one) is h = absurd cc
reports_alone true events packets ssrc seq mark joined (Some one) is h =
    moves_alone packets ssrc seq mark joined one is (acked_moved (report_of packets one seq) mark h)

-- a mark's low 16 bits are as far past another mark as it is, below a round
distance_of : (mark to : ℕ) → mark < to → to < mark + 32768 → distance mark (to % 65536) ≡ to - mark
distance_of mark to past near = omega arith

reports_move_on : (packets mark : ℕ) (one : Participant) → one.mark < mark → mark < one.mark + 32768 → mark < packets → report_of packets one (mark % 65536) ≡ report.Moved mark
reports_move_on packets mark one past near sent =
    let far = distance_of one.mark mark past near in
    let some : (distance one.mark (mark % 65536) == 0) ≡ false = rw far (let more : 0 < mark - one.mark = omega arith in grind (arith, nat_tests, more)) in
    let half : nat_le 32768 (distance one.mark (mark % 65536)) ≡ false = rw far (let less : mark - one.mark < 32768 = omega arith in grind (arith, nat_tests, less)) in
    let to : reaches one (mark % 65536) ≡ mark = omega (arith, far) in
    let within : nat_le packets mark ≡ false = grind (arith, nat_tests, sent) in
    rw (some, half, to, within) refl

pub reports_move : ReportsMove
reports_move events session ssrc mark one found past near sent =
    rw (found, reports_move_on (length session.stream.packets) mark one past near sent) refl

-- ---- the least free slot

-- each slot before the free one is taken
slots_before : (joined : List Participant) (left slot other : ℕ) → slot ≤ other → other < free_from joined left slot → has_slot joined other ≡ true
unfolding free_from
slots_before joined zero slot other above below = absurd (omega arith)
slots_before joined (suc left) slot other above below = elim (cases_Bool (has_slot joined slot)) [
  | inl t ↦
      let under : other < free_from joined left (slot + 1) = rw t at below in
      elim (cases_lt slot other) [
        | inl past ↦ slots_before joined left (slot + 1) other (omega arith) under
        | inr here ↦ let same : slot ≡ other = omega arith in subst (λ (s : ℕ). has_slot joined s ≡ true) same t
      ]
  | inr f ↦ let under : other < slot = rw f at below in absurd (omega arith)
]

joins_behind : (packets ssrc : ℕ) (joined : List Participant) → is_member ssrc joined ≡ false → length joined < most_joined → JoinsBehind packets ssrc (packets - 1) (64 + free_slot joined) joined (with_joiner packets ssrc joined)
joins_behind packets ssrc joined absent few =
    let free = free_slot_free joined few in
    record {
      absent = absent;
      slot = free_slot joined;
      is = refl;
      last = refl;
      player_is = refl;
      below = free.1;
      free = free.0;
      least = λ other below. slots_before joined 32 0 other (omega arith) below;
    }

-- ---- calls

of_none : (s : Session) (one : Step) → is_of_none one ≡ true → (after s one).members.joined ≡ s.members.joined
of_none s Enter h = refl
of_none s (Play player command tick) h = refl
of_none s (Cut tick) h = refl
of_none s (Ack ssrc seq) h = absurd cc
of_none s (Join ssrc) h = absurd cc
of_none s (Leave ssrc) h = absurd cc
of_none s (Hear ssrc seq) h = absurd cc
of_none s Feedback h = refl
of_none s (Say port from message now) h = absurd cc

joined_push : (config : Config) (steps : List Step) (one : Step) → (members_of config (steps ++ one ∷ [])).joined ≡ (after (session_of config steps) one).members.joined
joined_push config steps one = ap (λ (s : Session). s.members.joined) (session_push config steps one)

pub keeps_joined : KeepsJoined
keeps_joined config steps one none = joined_push config steps one ∙ of_none (session_of config steps) one none

joined_came : (known room many : Bool) (events most last number mark player : ℕ) → (if known then joined_as.Already else if not room then joined_as.RecordFull events else if many then joined_as.SessionFull most else joined_as.At last number) ≡ joined_as.At mark player → (known ≡ false) × (many ≡ false) × (last ≡ mark) × (number ≡ player)
joined_came true room many events most last number mark player h = absurd cc
joined_came false false many events most last number mark player h = absurd cc
joined_came false true true events most last number mark player h = absurd cc
joined_came false true false events most last number mark player h = (refl, refl, cc, cc)

-- the packets of a session are those of its stream
pub packets_are : (config : Config) (steps : List Step) → length (session_of config steps).stream.packets ≡ length (stream_of steps).packets
packets_are config steps = ap (λ (s : Stream). length s.packets) (session_stream config steps)

pub joins_one : JoinsOne
joins_one config steps ssrc mark player h =
    let s = session_of config steps in
    let here = s.members.joined in
    let packets = length s.stream.packets in
    let came = joined_came (is_member ssrc here) (has_room config steps) (nat_le most_joined (length here)) config.events most_joined (packets - 1) (64 + free_slot here) mark player h in
    let few : length here < most_joined = grind (arith, nat_tests, came.1) in
    rw (joined_push config steps (Join ssrc), ← packets_are config steps, ← came.2, ← came.3) (joins_behind packets ssrc here came.0 few)

pub reports_one : ReportsOne
reports_one config steps ssrc seq mark h =
    let s = session_of config steps in
    rw (joined_push config steps (Ack ssrc seq), ← packets_are config steps)
    (reports_alone (has_room config steps) config.events (length s.stream.packets) ssrc seq mark s.members.joined (find_joined ssrc s.members.joined) refl h)

left_came : (known room : Bool) (events : ℕ) → (if not known then gone.UnknownSsrc else if not room then gone.RecordFull events else gone.Left) ≡ gone.Left → known ≡ true
left_came true room events h = refl
left_came false room events h = absurd cc

pub leaves_one : LeavesOne
leaves_one config steps ssrc h =
    let here = (members_of config steps).joined in
    rw (joined_push config steps (Leave ssrc)) (leaves_alone ssrc here (left_came (is_member ssrc here) (has_room config steps) config.events h))

heard_came : (known room : Bool) (events : ℕ) → (if not known then heard.UnknownSsrc else if not room then heard.RecordFull events else heard.Noted) ≡ heard.Noted → known ≡ true
heard_came true room events h = refl
heard_came false room events h = absurd cc

pub hears_one : HearsOne
hears_one config steps ssrc seq h =
    let here = (members_of config steps).joined in
    rw (joined_push config steps (Hear ssrc seq)) (hears_alone ssrc seq here (heard_came (is_member ssrc here) (has_room config steps) config.events h))

pub joins_few : JoinsFew
joins_few config steps legal = (legal_participate config steps legal).few

-- ---- messages

-- what a machine lets leave, or passes on, is of the SSRC that the message names
quiet_leave : (done : Act) (ssrc : ℕ) → done ≡ act.Leave ssrc → IsQuiet done → ⊥
quiet_leave done ssrc e quiet = subst IsQuiet e quiet

ends_named : (peer : Peer) (message : Message) (other ssrc : ℕ) → peer.ssrc ≡ other → ssrc_of message ≡ Some other → ends peer ≡ act.Leave ssrc → ssrc_of message ≡ Some ssrc
ends_named peer message other ssrc own named e = elim (cases_Bool (is_joined_peer peer)) [
  | inl t ↦
      let leaves : act.Leave peer.ssrc ≡ act.Leave ssrc = rw t at e in
      let same : peer.ssrc ≡ ssrc = cc in
      named ∙ ap (λ (s : ℕ). Some s) (sym own ∙ same)
  | inr f ↦ let stays : act.Plain ≡ act.Leave ssrc = rw f at e in absurd cc
]

pub leaves_named : (host : Host) (room : Bool) (port : PortKind) (from : Addr) (message : Message) (now ssrc : ℕ) → (step host room port from message now).answer.act ≡ act.Leave ssrc → ssrc_of message ≡ Some ssrc
leaves_named host room port from message now =
    step_by (λ (done : Act) (peers : List Peer). (ssrc : ℕ) → done ≡ act.Leave ssrc → ssrc_of message ≡ Some ssrc) host room port from message now (record {
      same = λ done quiet ssrc e. absurd (quiet_leave done ssrc e quiet);
      guest = λ token other name others p m ne none made ssrc e. absurd cc;
      again = λ token other name old p m some ssrc e. ends_named old message other ssrc (found_ssrc other host.peers old some) (ap ssrc_of m) e;
      join = λ token other name peer p r m some t waits ssrc e. absurd cc;
      bye = λ token other peer m some ssrc e. ends_named peer message other ssrc (found_ssrc other host.peers peer some) (ap ssrc_of m) e;
    })

-- an act carried out, and what it comes to
acted_moved : (answer : Report) (mark : ℕ) → acted_as answer ≡ acted.Moved mark → answer ≡ report.Moved mark
acted_moved (report.Moved to) mark h = let same : to ≡ mark = cc in ap report.Moved same
acted_moved (report.Old old) mark h = absurd cc
acted_moved (report.NotSent last) mark h = absurd cc

report_made : (packets ssrc seq : ℕ) (message : Message) (joined : List Participant) (one : Participant) (answer : Report) → find_joined ssrc joined ≡ Some one → report_of packets one seq ≡ answer → ssrc_of message ≡ Some ssrc → SaidMakes packets message joined (marked_by answer ssrc joined) (acted_as answer)
report_made packets ssrc seq message joined one (report.Moved mark) found is named =
    record { ssrc = ssrc; named = named; holds = rw is at (moves_alone packets ssrc seq mark joined one found is) }
report_made packets ssrc seq message joined one (report.Old mark) found is named = refl
report_made packets ssrc seq message joined one (report.NotSent last) found is named = refl

reported_made : (packets ssrc seq : ℕ) (message : Message) (joined : List Participant) (found : Option Participant) → find_joined ssrc joined ≡ found → ssrc_of message ≡ Some ssrc → SaidMakes packets message joined (with_report_of packets ssrc seq joined found) (reported packets seq found)
reported_made packets ssrc seq message joined None is named = refl
reported_made packets ssrc seq message joined (Some one) is named = report_made packets ssrc seq message joined one (report_of packets one seq) is refl named

-- the SSRC that an act is of, and the room for one that joins
pub record ActsOf (message : Message) (joined : List Participant) (done : Act) : Type 0 where
  pub joins : (ssrc : ℕ) → done ≡ act.Join ssrc → ssrc_of message ≡ Some ssrc
  pub room : (ssrc : ℕ) → done ≡ act.Join ssrc → is_member ssrc joined ≡ false → Joins joined ssrc
  pub leaves : (ssrc : ℕ) → done ≡ act.Leave ssrc → ssrc_of message ≡ Some ssrc
  pub reports : (ssrc seq : ℕ) → done ≡ act.Ack ssrc seq → ssrc_of message ≡ Some ssrc

said_makes : (packets : ℕ) (message : Message) (joined : List Participant) (done : Act) → ActsOf message joined done → SaidMakes packets message joined (carried_out packets joined done) (acted_of packets joined done)
said_makes packets message joined act.Plain of = refl
said_makes packets message joined (act.Join ssrc) of = elim (cases_Bool (is_member ssrc joined)) [
  | inl t ↦ rw t refl
  | inr f ↦ rw f record { ssrc = ssrc; named = of.joins ssrc refl; holds = joins_behind packets ssrc joined f (of.room ssrc refl f).few }
]
said_makes packets message joined (act.Leave ssrc) of = elim (cases_Bool (is_member ssrc joined)) [
  | inl t ↦ rw t record { ssrc = ssrc; named = of.leaves ssrc refl; holds = leaves_alone ssrc joined t }
  | inr f ↦ rw f (none_left ssrc joined f)
]
said_makes packets message joined (act.Ack ssrc seq) of = reported_made packets ssrc seq message joined (find_joined ssrc joined) refl (of.reports ssrc seq refl)
said_makes packets message joined (act.Clocked offset) of = refl
said_makes packets message joined (act.Ignored reason) of = refl

pub acks_named : (host : Host) (room : Bool) (port : PortKind) (from : Addr) (message : Message) (now ssrc seq : ℕ) → (step host room port from message now).answer.act ≡ act.Ack ssrc seq → ssrc_of message ≡ Some ssrc
acks_named host room port from message now ssrc seq is = ap ssrc_of (acks_are_of_joined host room port from message now ssrc seq is).its_number

pub said_done : (room : Bool) (events packets : ℕ) (members : Members) (port : PortKind) (from : Addr) (message : Message) (now : ℕ) (reply : Option Message) (done : Acted)
    → members_say room events packets members port from message now ≡ said.Done reply done → acted_of packets members.joined (outcome_of members port from message now).answer.act ≡ done
said_done true events packets members port from message now reply done h = cc
said_done false events packets members port from message now reply done h = absurd cc

pub says_one : SaysOne
says_one config steps port from message now reply done h =
    let s = session_of config steps in
    let members = s.members in
    let packets = length s.stream.packets in
    let outcome = outcome_of members port from message now in
    let is = said_done (has_room config steps) config.events packets members port from message now reply done h in
    rw (joined_push config steps (Say port from message now), ← packets_are config steps, ← is) (said_makes packets message members.joined outcome.answer.act record {
      joins = λ ssrc e. (joins_with_room members.host (has_room_for message members.joined) port from message now ssrc e).1;
      room = λ ssrc e absent. said_joins members port from message now ssrc e absent;
      leaves = λ ssrc e. leaves_named members.host (has_room_for message members.joined) port from message now ssrc e;
      reports = λ ssrc seq e. acks_named members.host (has_room_for message members.joined) port from message now ssrc seq e;
    })
