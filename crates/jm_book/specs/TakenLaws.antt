-- What it says of a session that a step is taken.
use Rattle.std.proofs.Common.{ℕ, ◌+◌, ◌-◌, ◌<◌, ◌≡◌, ◌∙◌, refl, sym, Bool, true, false, List, [], ◌∷◌, Option, Some, None, length, arith, inl, inr}
use Rattle.std.specs.Prelude.{not, nat_le, nat_lt, ◌==◌, ◌||◌, ◌&&◌, if◌then◌else◌}
use Rattle.std.proofs.lemmas.Bool.{cases_Bool, lt-ltb}
use Rattle.std.proofs.lemmas.Bool.Decides.{nat_tests}
use Rattle.jm_cmds.specs.declared.commands.Command.{Command}
use Rattle.jm_cmds.specs.Command.{is_long}
use Rattle.jm_journal.specs.declared.fits.Fit.{Fit}
use Rattle.jm_journal.specs.declared.fits.Fit.TheVariants as fit
use Rattle.jm_book.specs.declared.steps.Config.{Config}
use Rattle.jm_book.specs.declared.steps.Step.{Step}
use Rattle.jm_book.specs.declared.steps.Step.TheVariants.{Enter, Play, Cut, Ack, Join, Leave, Hear, Feedback, Say}
use Rattle.jm_book.specs.declared.participants.Participant.{Participant}
use Rattle.jm_book.specs.declared.marks.Report.{Report}
use Rattle.jm_book.specs.declared.marks.Report.TheVariants as report
use Rattle.jm_book.specs.declared.answers.PlayFault.{PlayFault}
use Rattle.jm_book.specs.declared.answers.Joined.TheVariants as joined
use Rattle.jm_book.specs.Participants.{find_joined, is_member, most_joined, free_slot, distance, reaches, report_of, last_packet}
use Rattle.jm_book.specs.Segments.{Segment}
use Rattle.jm_book.specs.Stream.{Entry}
use Rattle.jm_book.specs.Waiting.{CanPlay}
use Rattle.jm_book.specs.Session.{Session, session_of}
use Rattle.jm_book.specs.Answers.{is_known, is_behind_others, needs_cut, fit_after, fit_refusal, or_else, cut_refusal, refusal_in, played_as, list_with, delta_with, ack_of, acked_as, is_accepted, is_moved, is_joined}
use Rattle.jm_book.specs.BookAnswers.{has_room}
use Rattle.jm_book.specs.Legal.{takes, IsTakenIn, IsTaken}

-- ---- a step is taken only where there is room

no_ack : (events packets seq : ℕ) (found : Option Participant) → is_moved (ack_of false events packets seq found) ≡ true → ⊥
no_ack events packets seq None h = cc
no_ack events packets seq (Some one) h = cc

no_room : (events : ℕ) (s : Session) (step : Step) → takes false events s step ≡ true → ⊥
no_room events s Enter h = cc
no_room events s (Play player command tick) h = elim (cases_Bool (is_known s.members player)) [
  | inl t ↦ let none : false ≡ true = rw t at h in cc
  | inr f ↦ let none : false ≡ true = rw f at h in cc
]
no_room events s (Cut tick) h = cc
no_room events s (Ack ssrc seq) h = no_ack events (length s.stream.packets) seq (find_joined ssrc s.members.joined) h
no_room events s (Join ssrc) h = elim (cases_Bool (is_member ssrc s.members.joined)) [
  | inl t ↦ let none : false ≡ true = rw t at h in cc
  | inr f ↦ let none : false ≡ true = rw f at h in cc
]
no_room events s (Leave ssrc) h = elim (cases_Bool (is_member ssrc s.members.joined)) [
  | inl t ↦ let none : false ≡ true = rw t at h in cc
  | inr f ↦ let none : false ≡ true = rw f at h in cc
]
no_room events s (Hear ssrc seq) h = elim (cases_Bool (is_member ssrc s.members.joined)) [
  | inl t ↦ let none : false ≡ true = rw t at h in cc
  | inr f ↦ let none : false ≡ true = rw f at h in cc
]
no_room events s Feedback h = cc
no_room events s (Say port from message now) h = cc

pub taken_with_room : (room : Bool) (events : ℕ) (s : Session) (step : Step) → takes room events s step ≡ true → (room ≡ true) × IsTakenIn events s step
taken_with_room true events s step h = (refl, h)
taken_with_room false events s step h = absurd (no_room events s step h)

-- a step is taken only where the tape isn't full
pub taken_room : (config : Config) (steps : List Step) (step : Step) → IsTaken config steps step → has_room config steps ≡ true
taken_room config steps step h = (taken_with_room (has_room config steps) config.events (session_of config steps) step h).0

pub taken_in : (config : Config) (steps : List Step) (step : Step) → IsTaken config steps step → IsTakenIn config.events (session_of config steps) step
taken_in config steps step h = (taken_with_room (has_room config steps) config.events (session_of config steps) step h).1

pub taken_fits : (config : Config) (steps : List Step) (step : Step) → IsTaken config steps step → length steps < config.events
taken_fits config steps step h = grind (arith, nat_tests, taken_room config steps step h)

-- ---- the refusals did not come

pub play_came : (known room : Bool) (unknown record_full : PlayFault) (others : Option PlayFault) → (if not known then Some unknown else if not room then Some record_full else others) ≡ None → (room ≡ true) × (others ≡ None)
play_came false room unknown record_full others h = absurd cc
play_came true false unknown record_full others h = absurd cc
play_came true true unknown record_full others h = (refl, h)

neither_came : (one other : Option PlayFault) → or_else one other ≡ None → (one ≡ None) × (other ≡ None)
neither_came None other h = (refl, h)
neither_came (Some why) other h = absurd cc

fit_came : (answer : Fit) → fit_refusal answer ≡ None → answer ≡ fit.Yes
fit_came fit.Yes h = refl
fit_came (fit.ParamsFull channel kept) h = absurd cc
fit_came (fit.PolyFull channel kept) h = absurd cc
fit_came (fit.SysexFull logs octets) h = absurd cc

cut_needless : (needed : Bool) (why : PlayFault) → (if needed then Some why else None) ≡ None → needed ≡ false
cut_needless true why h = absurd cc
cut_needless false why h = refl

-- no segment waits, and no cut is needed
cut_came : (waiting : List Segment) (behind : Bool) (pending octets delta : ℕ) → cut_refusal waiting behind pending octets delta ≡ None → (waiting ≡ []) × (needs_cut behind pending octets delta ≡ false)
cut_came [] behind pending octets delta h = (refl, cut_needless (needs_cut behind pending octets delta) _ h)
cut_came (segment ∷ others) behind pending octets delta h = absurd cc

-- there is room, the command fits, no segment waits, and no cut is needed
pub record Unrefused (room : Bool) (s : Session) (command : Command) (tick : ℕ) : Type 0 where
  pub has_room : room ≡ true
  pub fits : fit_after s command ≡ fit.Yes
  pub rests : s.stream.waiting ≡ []
  pub cut : needs_cut (is_behind_others command (length s.stream.pending)) (length s.stream.pending) (list_with s.stream command tick) (delta_with s.stream tick) ≡ false

pub unrefused : (room : Bool) (events : ℕ) (s : Session) (player : ℕ) (command : Command) (tick : ℕ) → refusal_in room events s player command tick ≡ None → Unrefused room s command tick
unrefused room events s player command tick none =
    let fits = fit_refusal (fit_after s command) in
    let behind = is_behind_others command (length s.stream.pending) in
    let cuts = cut_refusal s.stream.waiting behind (length s.stream.pending) (list_with s.stream command tick) (delta_with s.stream tick) in
    let came = play_came (is_known s.members player) room _ _ (or_else fits cuts) none in
    let both = neither_came fits cuts came.1 in
    let rest = cut_came s.stream.waiting behind (length s.stream.pending) (list_with s.stream command tick) (delta_with s.stream tick) both.1 in
    record {
      has_room = came.0;
      fits = fit_came (fit_after s command) both.0;
      rests = rest.0;
      cut = rest.1;
    }

pub accepted_unrefused : (serial : ℕ) (command : Command) (refusal : Option PlayFault) → is_accepted (played_as serial command refusal) ≡ true → refusal ≡ None
accepted_unrefused serial command None h = refl
accepted_unrefused serial command (Some why) h = absurd cc

join_came : (known many : Bool) (most mark player : ℕ) → is_joined (if known then joined.Already else if many then joined.SessionFull most else joined.At mark player) ≡ true → (known ≡ false) × (many ≡ false)
join_came true many most mark player h = absurd cc
join_came false true most mark player h = absurd cc
join_came false false most mark player h = (refl, refl)

-- ---- what each taken step says

-- neither of two tests is passed
neither : (a b : Bool) → (a || b) ≡ false → (a ≡ false) × (b ≡ false)
neither true b h = absurd cc
neither false true h = absurd cc
neither false false h = (refl, refl)

-- the report is of a packet that was sent, past the mark and less than half a round from it
pub record IsNews (packets : ℕ) (one : Participant) (seq : ℕ) : Type 0 where
  pub past : 0 < distance one.mark seq
  pub near : distance one.mark seq < 32768
  pub sent : reaches one seq < packets

report_came : (old ahead : Bool) (mark to moved : ℕ) (last : Option ℕ) → (if old then report.Old mark else if ahead then report.NotSent last else report.Moved to) ≡ report.Moved moved → (old ≡ false) × (ahead ≡ false) × (moved ≡ to)
report_came true ahead mark to moved last h = absurd cc
report_came false true mark to moved last h = absurd cc
report_came false false mark to moved last h = (refl, refl, cc)

pub report_moves : (packets : ℕ) (one : Participant) (seq mark : ℕ) → report_of packets one seq ≡ report.Moved mark → IsNews packets one seq × (mark ≡ reaches one seq)
report_moves packets one seq mark h =
    let to = reaches one seq in
    let old = distance one.mark seq == 0 || nat_le 32768 (distance one.mark seq) in
    let came = report_came old (nat_le packets to) one.mark to mark (last_packet packets) h in
    let apart = neither (distance one.mark seq == 0) (nat_le 32768 (distance one.mark seq)) came.0 in (
      record {
        past = grind (arith, nat_tests, apart.0);
        near = grind (arith, nat_tests, apart.1);
        sent = grind (arith, nat_tests, came.1);
      },
      came.2,
    )

-- the report is of a joined participant
pub record Reports (s : Session) (ssrc seq : ℕ) : Type 0 where
  pub one : Participant
  pub found : find_joined ssrc s.members.joined ≡ Some one
  pub moves : report_of (length s.stream.packets) one seq ≡ report.Moved (reaches one seq)
  pub news : IsNews (length s.stream.packets) one seq

acked_moves : (packets : ℕ) (one : Participant) (seq : ℕ) (answer : Report) → report_of packets one seq ≡ answer → is_moved (acked_as answer) ≡ true → IsNews packets one seq × (report_of packets one seq ≡ report.Moved (reaches one seq))
acked_moves packets one seq (report.Moved mark) is h =
    let moves = report_moves packets one seq mark is in
    let to : report.Moved mark ≡ report.Moved (reaches one seq) = rw moves.1 refl in
    (moves.0, rw is to)
acked_moves packets one seq (report.Old mark) is h = absurd cc
acked_moves packets one seq (report.NotSent last) is h = absurd cc

ack_found : (events : ℕ) (s : Session) (ssrc seq : ℕ) (found : Option Participant) → find_joined ssrc s.members.joined ≡ found → is_moved (ack_of true events (length s.stream.packets) seq found) ≡ true → Reports s ssrc seq
ack_found events s ssrc seq None is h = absurd cc
ack_found events s ssrc seq (Some one) is h =
    let moves = acked_moves (length s.stream.packets) one seq (report_of (length s.stream.packets) one seq) refl h in
    record { one = one; found = is; moves = moves.1; news = moves.0 }

pub ack_taken : (events : ℕ) (s : Session) (ssrc seq : ℕ) → IsTakenIn events s (Ack ssrc seq) → Reports s ssrc seq
ack_taken events s ssrc seq h = ack_found events s ssrc seq (find_joined ssrc s.members.joined) refl h

-- the participant is not joined, and few enough are
pub record Joins (joined : List Participant) (ssrc : ℕ) : Type 0 where
  pub absent : is_member ssrc joined ≡ false
  pub few : length joined < most_joined

pub join_taken : (events : ℕ) (s : Session) (ssrc : ℕ) → IsTakenIn events s (Join ssrc) → Joins s.members.joined ssrc
join_taken events s ssrc h =
    let here = s.members.joined in
    let came = join_came (is_member ssrc here) (nat_le most_joined (length here)) most_joined (length s.stream.packets - 1) (64 + free_slot here) h in
    record { absent = came.0; few = grind (arith, nat_tests, came.1) }

pub leave_taken : (events : ℕ) (s : Session) (ssrc : ℕ) → IsTakenIn events s (Leave ssrc) → is_member ssrc s.members.joined ≡ true
leave_taken events s ssrc h = elim (cases_Bool (is_member ssrc s.members.joined)) [
  | inl t ↦ t
  | inr f ↦ let none : false ≡ true = rw f at h in absurd cc
]

pub hear_taken : (events : ℕ) (s : Session) (ssrc seq : ℕ) → IsTakenIn events s (Hear ssrc seq) → is_member ssrc s.members.joined ≡ true
hear_taken events s ssrc seq h = elim (cases_Bool (is_member ssrc s.members.joined)) [
  | inl t ↦ t
  | inr f ↦ let none : false ≡ true = rw f at h in absurd cc
]

-- a play is taken only where its command fits
pub play_taken : (events : ℕ) (s : Session) (player : ℕ) (command : Command) (tick : ℕ) → IsTakenIn events s (Play player command tick) → Unrefused true s command tick
play_taken events s player command tick h =
    unrefused true events s player command tick (accepted_unrefused s.stream.plays command (refusal_in true events s player command tick) h)

nothing_before : (long : Bool) (pending : List Entry) → (long && nat_lt 0 (length pending)) ≡ false → long ≡ true → pending ≡ []
nothing_before long [] h is = refl
nothing_before true (one ∷ others) h is =
    let some : nat_lt 0 (length (one ∷ others)) ≡ true = lt-ltb 0 (length (one ∷ others)) (omega arith) in
    let bad : true ≡ false = sym some ∙ h in
    absurd cc
nothing_before false (one ∷ others) h is = absurd cc

none_first : (first a b c : Bool) → (first || a || b || c) ≡ false → first ≡ false
none_first true a b c h = absurd cc
none_first false a b c h = refl

-- a play is taken only where it comes in turn
pub can_play : (events : ℕ) (s : Session) (player : ℕ) (command : Command) (tick : ℕ) → IsTakenIn events s (Play player command tick) → CanPlay s.stream command
can_play events s player command tick h =
    let taken = play_taken events s player command tick h in
    let pending = length s.stream.pending in
    let behind : is_behind_others command pending ≡ false = none_first (is_behind_others command pending) (nat_le 256 pending) (nat_lt 4095 (list_with s.stream command tick)) (nat_lt 0x0FFFFFFF (delta_with s.stream tick)) taken.cut in
    record { rests = taken.rests; first = nothing_before (is_long command) s.stream.pending behind }
