-- The first participant with the least mark; and departures of those that a refused cut names.
use Rattle.std.proofs.Common.{ℕ, zero, suc, ◌+◌, ◌-◌, ◌<◌, ◌≤◌, ◌≡◌, refl, sym, ◌∙◌, ap, subst, inl, inr, Bool, true, false, List, [], ◌∷◌, ◌++◌, Option, Some, None, length, fold, append_assoc, append-nil, arith}
use Rattle.std.specs.Prelude.{◌==◌, not, nat_lt, if◌then◌else◌}
use Rattle.std.specs.List.{AllByRecursion}
use Rattle.std.specs.Cmp.{nat_eq_equiv}
use Rattle.std.proofs.lemmas.Bool.{cases_Bool, ltb-true, ltb-false}
use Rattle.std.proofs.lemmas.Bool.Decides.{nat_tests}
use Rattle.jm_cmds.specs.HistoryLaws.{AllByRecursion-weaker, AllByRecursion-append}
use Rattle.jm_book.specs.declared.participants.Participant.{Participant}
use Rattle.jm_book.specs.declared.answers.Cutted.{Cutted}
use Rattle.jm_book.specs.declared.answers.Cutted.TheVariants as cutted
use Rattle.jm_book.specs.declared.steps.Step.{Step}
use Rattle.jm_book.specs.declared.steps.Step.TheVariants.{Leave}
use Rattle.jm_book.specs.Participants.{is_member, others_than, least_mark, slowest, mark_or, checkpoint_at}
use Rattle.jm_book.specs.Stream.{Stream, last_sent}
use Rattle.jm_book.specs.Session.{Session, session_of, after, session_stream}
use Rattle.jm_book.specs.Answers.{is_behind, behind_or_sent, cut_in}
use Rattle.jm_book.specs.BookAnswers.{has_room}
use Rattle.jm_book.specs.Legal.{takes, AreTakenFrom}
use Rattle.jm_book.specs.AloneLaws.{packets_are}
use Rattle.jm_book.specs.MembersConduct.{IsFirstLeast, LeastOrLast, IsLeastMark, NamesLeast, NamesSlowest, StaysNear, is_behind_answer, of_named, departures, DeparturesFree}

-- ---- the first with the least mark

-- of those before, the first with the least mark is `best`
first_least : (front : List Participant) (best : Participant) (middle others : List Participant)
    → AllByRecursion (λ other. best.mark < other.mark) front → AllByRecursion (λ other. best.mark ≤ other.mark) middle
    → IsFirstLeast (least_mark best others) (front ++ best ∷ (middle ++ others))
first_least front best middle [] before behind = record { front = front; rest = middle; was = rw (append-nil middle) refl; before = before; behind = behind }
first_least front best middle (one ∷ others) before behind = elim (cases_Bool (nat_lt one.mark best.mark)) [
  | inl t ↦
      let less : one.mark < best.mark = ltb-true one.mark best.mark t in
      let all : AllByRecursion (λ other. one.mark < other.mark) (front ++ best ∷ middle) =
      AllByRecursion-append (λ other. one.mark < other.mark) front (best ∷ middle) (AllByRecursion-weaker (λ other. best.mark < other.mark) (λ other. one.mark < other.mark) (λ other l. omega arith) front before)
      (less, AllByRecursion-weaker (λ other. best.mark ≤ other.mark) (λ other. one.mark < other.mark) (λ other l. omega arith) middle behind) in
      let on = first_least (front ++ best ∷ middle) one [] others all tt in
      let same : (front ++ best ∷ middle) ++ one ∷ others ≡ front ++ best ∷ (middle ++ one ∷ others) = append_assoc front (best ∷ middle) (one ∷ others) in
      rw t (subst (λ (xs : List Participant). IsFirstLeast (least_mark one others) xs) same on)
  | inr f ↦
      let from : best.mark ≤ one.mark = ltb-false one.mark best.mark f in
      let all : AllByRecursion (λ other. best.mark ≤ other.mark) (middle ++ one ∷ []) = AllByRecursion-append (λ other. best.mark ≤ other.mark) middle (one ∷ []) behind (from, tt) in
      let on = first_least front best (middle ++ one ∷ []) others before all in
      let same : (middle ++ one ∷ []) ++ others ≡ middle ++ one ∷ others = append_assoc middle (one ∷ []) others in
      rw f (subst (λ (xs : List Participant). IsFirstLeast (least_mark best others) (front ++ best ∷ xs)) same on)
]

pub slowest_first : (joined : List Participant) (one : Participant) → slowest joined ≡ Some one → IsFirstLeast one joined
slowest_first [] one h = absurd cc
slowest_first (first ∷ others) one h = let same : least_mark first others ≡ one = cc in subst (λ (p : Participant). IsFirstLeast p (first ∷ others)) same (first_least [] first [] others tt tt)

least_or_last : (packets : ℕ) (joined : List Participant) → LeastOrLast (packets - 1) (checkpoint_at packets joined) joined
least_or_last packets [] = refl
least_or_last packets (one ∷ others) = record { one = least_mark one others; first = first_least [] one [] others tt tt; mark_is = refl }

pub is_least_mark : IsLeastMark
is_least_mark config steps =
    let s = session_of config steps in
    subst (λ (stream : Stream). LeastOrLast (last_sent stream) (checkpoint_at (length s.stream.packets) s.members.joined) s.members.joined) (session_stream config steps)
    (least_or_last (length s.stream.packets) s.members.joined)

-- ---- the participant that a refused cut names

mark_is_checkpoint : (packets : ℕ) (joined : List Participant) (one : Participant) → slowest joined ≡ Some one → checkpoint_at packets joined ≡ one.mark
mark_is_checkpoint packets joined one is = ap (mark_or (packets - 1)) is

behind_came : (packets : ℕ) (joined : List Participant) (found : Option Participant) (ssrc mark : ℕ) → slowest joined ≡ found → behind_or_sent packets joined found ≡ cutted.Behind ssrc mark → NamesLeast packets ssrc mark joined
behind_came packets joined None ssrc mark is h = absurd cc
behind_came packets joined (Some one) ssrc mark is h = elim (cases_Bool (is_behind packets joined)) [
  | inl t ↦
      let named : cutted.Behind one.ssrc one.mark ≡ cutted.Behind ssrc mark = rw t at h in
      let same : one.mark ≡ mark = cc in
      let far : 32767 ≤ packets - checkpoint_at packets joined = grind (arith, nat_tests, t) in
      record { one = one; first = slowest_first joined one is; ssrc_is = cc; mark_is = same; far = omega (arith, mark_is_checkpoint packets joined one is) }
  | inr f ↦ let sent : cutted.Packet packets ≡ cutted.Behind ssrc mark = rw f at h in absurd cc
]

cut_names : (room : Bool) (events packets : ℕ) (joined : List Participant) (ssrc mark : ℕ) → (if not room then cutted.RecordFull events else behind_or_sent packets joined (slowest joined)) ≡ cutted.Behind ssrc mark → NamesLeast packets ssrc mark joined
cut_names true events packets joined ssrc mark h = behind_came packets joined (slowest joined) ssrc mark refl h
cut_names false events packets joined ssrc mark h = absurd cc

pub names_slowest : NamesSlowest
names_slowest config steps ssrc mark h =
    let s = session_of config steps in
    rw (← packets_are config steps) (cut_names (has_room config steps) config.events (length s.stream.packets) s.members.joined ssrc mark h)

-- ---- the packet that a cut makes

sent_near : (packets number : ℕ) (joined : List Participant) (found : Option Participant) → slowest joined ≡ found → behind_or_sent packets joined found ≡ cutted.Packet number → (number ≡ packets) × (number < checkpoint_at packets joined + 32767)
sent_near packets number joined None is h =
    let same : packets ≡ number = cc in
    let last : checkpoint_at packets joined ≡ packets - 1 = ap (mark_or (packets - 1)) is in
    (sym same, omega arith)
sent_near packets number joined (Some one) is h = elim (cases_Bool (is_behind packets joined)) [
  | inl t ↦ let behind : cutted.Behind one.ssrc one.mark ≡ cutted.Packet number = rw t at h in absurd cc
  | inr f ↦
      let sent : cutted.Packet packets ≡ cutted.Packet number = rw f at h in
      let same : packets ≡ number = cc in
      let near : packets - checkpoint_at packets joined < 32767 = grind (arith, nat_tests, f) in
      (sym same, omega arith)
]

cut_near : (room : Bool) (events packets number : ℕ) (joined : List Participant) → (if not room then cutted.RecordFull events else behind_or_sent packets joined (slowest joined)) ≡ cutted.Packet number → (number ≡ packets) × (number < checkpoint_at packets joined + 32767)
cut_near true events packets number joined h = sent_near packets number joined (slowest joined) refl h
cut_near false events packets number joined h = absurd cc

pub stays_near : StaysNear
stays_near config steps number h =
    let s = session_of config steps in
    let near = cut_near (has_room config steps) config.events (length s.stream.packets) number s.members.joined h in
    (near.0 ∙ packets_are config steps, near.1)

-- ---- departures

-- one that stands in a list is a member, and without it the list is shorter by one
member_within : (front : List Participant) (one : Participant) (rest : List Participant) → is_member one.ssrc (front ++ one ∷ rest) ≡ true
member_within [] one rest = let same : (one.ssrc == one.ssrc) ≡ true = nat_eq_equiv.refl one.ssrc in rw same refl
member_within (first ∷ front) one rest = elim (cases_Bool (first.ssrc == one.ssrc)) [
  | inl t ↦ rw t refl
  | inr f ↦ rw f (member_within front one rest)
]

one_fewer : (ssrc : ℕ) (joined : List Participant) → is_member ssrc joined ≡ true → length (others_than ssrc joined) + 1 ≡ length joined
one_fewer ssrc [] h = absurd cc
one_fewer ssrc (first ∷ others) h = elim (cases_Bool (first.ssrc == ssrc)) [
  | inl t ↦ rw t (omega arith)
  | inr f ↦ let later : is_member ssrc others ≡ true = rw f at h in rw f (omega (arith, one_fewer ssrc others later))
]

named_member : (packets ssrc mark : ℕ) (joined : List Participant) → NamesLeast packets ssrc mark joined → is_member ssrc joined ≡ true
named_member packets ssrc mark joined n =
    subst (λ (s : ℕ). is_member s joined ≡ true) n.ssrc_is (rw n.first.was (member_within n.first.front n.one n.first.rest))

leave_takes : (events : ℕ) (session : Session) (ssrc : ℕ) → is_member ssrc session.members.joined ≡ true → takes true events session (Leave ssrc) ≡ true
leave_takes events session ssrc h = rw h refl

-- departures that are taken, few enough, and after which no cut is refused for one that is behind
pub record Frees (events : ℕ) (session : Session) (steps : List Step) (most : ℕ) : Type 0 where
  pub taken : AreTakenFrom events session steps
  pub few : length steps ≤ most
  pub freed : is_behind_answer (cut_in true events (fold after session steps)) ≡ false

none_joined : (events packets : ℕ) (joined : List Participant) → length joined ≤ 0 → is_behind_answer (behind_or_sent packets joined (slowest joined)) ≡ false
none_joined events packets [] h = refl
none_joined events packets (one ∷ others) h = absurd (omega arith)

-- the answer of the first cut, and what holds of departures after it
frees_named : (events most : ℕ) (session : Session) (answer : Cutted) → cut_in true events session ≡ answer → length session.members.joined ≤ suc most
    → ((s : Session) → length s.members.joined ≤ most → Frees events s (departures events most s) most)
    → Frees events session (of_named answer (λ ssrc. Leave ssrc ∷ departures events most (after session (Leave ssrc)))) (suc most)
frees_named events most session (cutted.Packet number) is h later = record { taken = tt; few = omega arith; freed = ap is_behind_answer is }
frees_named events most session (cutted.RecordFull all) is h later = record { taken = tt; few = omega arith; freed = ap is_behind_answer is }
frees_named events most session (cutted.Behind ssrc mark) is h later =
    let names = cut_names true events (length session.stream.packets) session.members.joined ssrc mark is in
    let member = named_member (length session.stream.packets) ssrc mark session.members.joined names in
    let fewer = one_fewer ssrc session.members.joined member in
    let on = later (after session (Leave ssrc)) (omega arith) in
    record { taken = (leave_takes events session ssrc member, on.taken); few = let few = on.few in omega arith; freed = on.freed }

frees : (events most : ℕ) (session : Session) → length session.members.joined ≤ most → Frees events session (departures events most session) most
frees events zero session h = record { taken = tt; few = omega arith; freed = none_joined events (length session.stream.packets) session.members.joined h }
frees events (suc most) session h = frees_named events most session (cut_in true events session) refl h (frees events most)

pub departures_free : DeparturesFree
departures_free events session =
    let f = frees events (length session.members.joined) session (omega arith) in
    (f.taken, f.few, f.freed)
