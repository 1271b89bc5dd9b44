-- Plays of commands, put together from single calls.
use Rattle.std.proofs.Common.{◌≡◌, ℕ, suc, ◌+◌, ◌%◌, ◌≤◌, ◌<◌, Bool, true, false, List, [], ◌∷◌, ◌++◌, length, drop, get_or, Result, Ok, Err, refl, sym, ap, subst, ◌∙◌, append_assoc, arith}
use Rattle.std.proofs.lemmas.List.{append-nil, drop_all}
use Rattle.std.proofs.Math.Seq.{drop-cons}
use Rattle.std.specs.declared.alloc.AllocError.{AllocError}
use Rattle.jm_edge.specs.Wire.{Letter, Wire}
use Rattle.jm_cmds.specs.declared.commands.Command.{Command}
use Rattle.jm_book.specs.declared.steps.Step.TheVariants as step
use Rattle.jm_book.specs.declared.answers.Played.{Played}
use Rattle.jm_desk.specs.declared.turn.Outcome.TheVariants as outcome
use Rattle.jm_desk.specs.History.{before_last}
use Rattle.jm_desk.specs.Sharing.{Shared, PassView, MakesTurn, config_of}
use Rattle.jm_receiver.specs.declared.heard.Heard.{Heard}
use Rattle.jm_serve.specs.declared.sender.Sender.{Sender}
use Rattle.jm_serve.specs.declared.sender.Pumped.{Pumped}
use Rattle.jm_serve.specs.declared.sender.Pumped.TheVariants as pumped
use Rattle.jm_serve.specs.declared.worked.Rounded.{Rounded}
use Rattle.jm_serve.specs.declared.playing.Tried.{Tried}
use Rattle.jm_serve.specs.declared.playing.Tried.TheVariants as tried
use Rattle.jm_serve.specs.declared.playing.Course.{Course}
use Rattle.jm_serve.specs.declared.playing.Course.TheVariants as course
use Rattle.jm_serve.specs.Exchange.{Posts}
use Rattle.jm_serve.specs.Acts.{Act, act, next_call, Gains, Scene, Works}
use Rattle.jm_serve.specs.Pump.{settled, Pumps}
use Rattle.jm_serve.specs.Playing.{Pace, pace_of, pace_after, pumped_came, tried_of, Once, answered, no_room, no_copy, course_of, pace_tried, needs_cut, course_by, stops, Retries, none_yet, one_more, Last, given_up, stopped, is_next, PlaysEach, all_played, goes_on, stopped_at}
use Rattle.jm_serve.specs.Playing.{PlaysOnce, Retried, PlaysLast, CutsAtOnce, RetriesSoFar, PlaysCommand, PlaysList}
use Rattle.jm_serve.specs.Playing.{settled as last_settled}
use Rattle.jm_serve.proofs.Joins.{posts_nothing, gains_nothing, gains_call, works-then, works_nothing}

-- ---- one play

pub once_uncopied : (desk : Shared) (player : ℕ) (command : Command) (moment : ℕ) (pass : PassView) (call : ℕ) → PlaysOnce desk player command moment tried.NoMemory pass pass call call
once_uncopied desk player command moment pass call = record { acts = []; once = no_copy; gains = gains_nothing desk pass; calls = refl }

pub once_starved : (desk : Shared) (player : ℕ) (command copied : Command) (moment : ℕ) (old new : PassView) (call call' : ℕ) → copied ≡ command → MakesTurn desk old new (step.Play player copied moment) outcome.NoMemory → call' ≡ (call + 1) % 4294967296
    → PlaysOnce desk player command moment tried.NoMemory old new call call'
once_starved desk player command copied moment old new call call' same made e =
    let turn : MakesTurn desk old new (step.Play player command moment) outcome.NoMemory = subst (λ (k : Command). MakesTurn desk old new (step.Play player k moment) outcome.NoMemory) same made in
    record {
      acts = act (before_last new.view.seen) (step.Play player command moment) outcome.NoMemory ∷ [];
      once = no_room (before_last new.view.seen);
      gains = gains_call desk old new (step.Play player command moment) outcome.NoMemory turn;
      calls = e;
    }

pub once_answered : (desk : Shared) (player : ℕ) (command copied : Command) (moment : ℕ) (answer : Played) (what : Tried) (old new : PassView) (call call' : ℕ) → copied ≡ command → MakesTurn desk old new (step.Play player copied moment) (outcome.Played answer) → what ≡ tried_of answer
    → call' ≡ (call + 1) % 4294967296 → PlaysOnce desk player command moment what old new call call'
once_answered desk player command copied moment answer what old new call call' same made w e =
    let turn : MakesTurn desk old new (step.Play player command moment) (outcome.Played answer) = subst (λ (k : Command). MakesTurn desk old new (step.Play player k moment) (outcome.Played answer)) same made in
    record {
      acts = act (before_last new.view.seen) (step.Play player command moment) (outcome.Played answer) ∷ [];
      once = subst (λ (k : Tried). Once player command moment (act (before_last new.view.seen) (step.Play player command moment) (outcome.Played answer) ∷ []) k) (sym w) (answered (before_last new.view.seen) answer);
      gains = gains_call desk old new (step.Play player command moment) (outcome.Played answer) turn;
      calls = e;
    }

-- ---- a cut at once

paced_settled : (moment : ℕ) (result : Result Pumped AllocError) (sender : Sender) (call faults : ℕ) → pace_of (settled moment result (record sender { call = call; send_faults = faults })) ≡ pace_after moment result (pace_of sender)
paced_settled moment (Ok (pumped.Packet number)) sender call faults = refl
paced_settled moment (Ok pumped.Idle) sender call faults = refl
paced_settled moment (Ok (pumped.RecordFull events)) sender call faults = refl
paced_settled moment (Ok (pumped.Behind ssrc mark)) sender call faults = refl
paced_settled moment (Err none) sender call faults = refl

pub paced_pumps : {desk : Shared} {at_once : Bool} {moment : ℕ} {result : Result Pumped AllocError} {sender sender' : Sender} {old new : Scene} → Pumps desk at_once moment result sender sender' old new → pace_of sender' ≡ pace_after moment result (pace_of sender)
paced_pumps {desk} {at_once} {moment} {result} {sender} {sender'} {old} {new} p = ap pace_of p.sender_is ∙ paced_settled moment result sender new.call new.faults

pub cuts_at_once : (desk : Shared) (moment : ℕ) (result : Result Pumped AllocError) (came : Rounded) (sender sender' : Sender) (old new : Scene) → Pumps desk true moment result sender sender' old new → came ≡ pumped_came result → CutsAtOnce desk moment came (pace_of sender) (pace_of sender') old new
cuts_at_once desk moment result came sender sender' old new p e = record {
  acts = p.acts;
  letters = p.letters;
  result = result;
  cuts = p.does;
  came_is = sym e;
  paced = paced_pumps p;
  works = p.works;
}

-- ---- one try

pub is_cut_needed : (what : Tried) → needs_cut what ≡ true → what ≡ tried.NeedsCut
is_cut_needed tried.NeedsCut e = refl
is_cut_needed tried.Accepted e = absurd cc e
is_cut_needed tried.PassedOver e = absurd cc e
is_cut_needed tried.UnknownPlayer e = absurd cc e
is_cut_needed tried.RecordFull e = absurd cc e
is_cut_needed tried.NoMemory e = absurd cc e

-- calls that send nothing
silent : (desk : Shared) (acts : List Act) (old new : Scene) → Gains desk acts old.pass new.pass → new.call ≡ next_call old.call acts → new.wire ≡ old.wire → new.faults ≡ old.faults → Works desk acts [] [] old new
silent desk acts old new gains calls wire faults =
    let posts : Posts [] [] old.faults old.faults old.wire old.wire = posts_nothing old.faults old.wire in
    record {
      gains = gains;
      posts = subst (λ (k : ℕ). Posts [] [] old.faults k old.wire new.wire) (sym faults) (subst (λ (k : Wire). Posts [] [] old.faults old.faults old.wire k) (sym wire) posts);
      calls = calls;
    }

module _ (desk : Shared) (player : ℕ) (command : Command) (moment : ℕ) where
  last_as : (cuts : ℕ) (acts : List Act) (what : Tried) (come : Course) (pace pace' : Pace) → come ≡ course_of what → pace' ≡ pace_tried what pace
      → Last (config_of desk) player command moment cuts pace acts [] (course_of what) (pace_tried what pace) → Last (config_of desk) player command moment cuts pace acts [] come pace'
  last_as cuts acts what come pace pace' e f last =
      subst (λ (k : Pace). Last (config_of desk) player command moment cuts pace acts [] come k) (sym f)
      (subst (λ (k : Course). Last (config_of desk) player command moment cuts pace acts [] k (pace_tried what pace)) (sym e) last)

  pub ends_settled : (cuts call' : ℕ) (what : Tried) (come : Course) (pace pace' : Pace) (old new : Scene) → PlaysOnce desk player command moment what old.pass new.pass old.call call' → needs_cut what ≡ false → come ≡ course_of what → pace' ≡ pace_tried what pace
      → new.call ≡ call' → new.wire ≡ old.wire → new.faults ≡ old.faults → PlaysLast desk player command moment cuts come pace pace' old new
  ends_settled cuts call' what come pace pace' old new p not come_is e call wire faults = record {
    acts = p.acts;
    letters = [];
    last = last_as cuts p.acts what come pace pace' come_is e (last_settled p.acts what p.once not);
    works = silent desk p.acts old new p.gains (call ∙ p.calls) wire faults;
  }

  last_any : (what : Tried) (pace : Pace) (acts : List Act) → Once player command moment acts what → Last (config_of desk) player command moment 34 pace acts [] (course_of what) (pace_tried what pace)
  last_any tried.NeedsCut pace acts once = given_up acts once refl
  last_any tried.Accepted pace acts once = last_settled acts tried.Accepted once refl
  last_any tried.PassedOver pace acts once = last_settled acts tried.PassedOver once refl
  last_any tried.UnknownPlayer pace acts once = last_settled acts tried.UnknownPlayer once refl
  last_any tried.RecordFull pace acts once = last_settled acts tried.RecordFull once refl
  last_any tried.NoMemory pace acts once = last_settled acts tried.NoMemory once refl

  pub ends_last : (call' : ℕ) (what : Tried) (come : Course) (pace pace' : Pace) (old new : Scene) → PlaysOnce desk player command moment what old.pass new.pass old.call call' → come ≡ course_of what → pace' ≡ pace_tried what pace
      → new.call ≡ call' → new.wire ≡ old.wire → new.faults ≡ old.faults → PlaysLast desk player command moment 34 come pace pace' old new
  ends_last call' what come pace pace' old new p come_is e call wire faults = record {
    acts = p.acts;
    letters = [];
    last = last_as 34 p.acts what come pace pace' come_is e (last_any what pace p.acts p.once);
    works = silent desk p.acts old new p.gains (call ∙ p.calls) wire faults;
  }

  -- a play that needs a cut, and the cut
  module _ (pace pace' : Pace) (old middle new : Scene) (once : PlaysOnce desk player command moment tried.NeedsCut old.pass middle.pass old.call middle.call) (wire : middle.wire ≡ old.wire) (faults : middle.faults ≡ old.faults) (came : Rounded) (cut : CutsAtOnce desk moment came pace pace' middle new) where
    pub retried : stops came ≡ false → Retried desk player command moment pace pace' old new
    retried on = record {
      play = once.acts;
      sends = cut.acts;
      packets = cut.letters;
      result = cut.result;
      once = once.once;
      cuts = cut.cuts;
      goes_on = ap stops cut.came_is ∙ on;
      paced = cut.paced;
      works = works-then (silent desk once.acts old middle once.gains once.calls wire faults) cut.works;
    }

    pub ends_stopped : (cuts : ℕ) → cuts < 34 → stops came ≡ true → PlaysLast desk player command moment cuts (course_by came) pace pace' old new
    ends_stopped cuts few on =
        let last : Last (config_of desk) player command moment cuts pace (once.acts ++ cut.acts) cut.letters (course_by (pumped_came cut.result)) (pace_after moment cut.result pace) =
        stopped once.acts cut.acts cut.letters cut.result once.once few cut.cuts (ap stops cut.came_is ∙ on) in
        record {
          acts = once.acts ++ cut.acts;
          letters = cut.letters;
          last = subst (λ (k : Pace). Last (config_of desk) player command moment cuts pace (once.acts ++ cut.acts) cut.letters (course_by came) k) (sym cut.paced)
              (subst (λ (k : Rounded). Last (config_of desk) player command moment cuts pace (once.acts ++ cut.acts) cut.letters (course_by k) (pace_after moment cut.result pace)) cut.came_is last);
          works = works-then (silent desk once.acts old middle once.gains once.calls wire faults) cut.works;
        }

  -- ---- one command

  pub retries_none : (pace : Pace) (scene : Scene) → RetriesSoFar desk player command moment 0 pace pace scene scene
  retries_none pace scene = record { acts = []; letters = []; retries = none_yet; works = works_nothing desk scene }

  pub retries_more : (cuts : ℕ) (pace middle last : Pace) (a b c : Scene) → RetriesSoFar desk player command moment cuts pace middle a b → Retried desk player command moment middle last b c → RetriesSoFar desk player command moment (cuts + 1) pace last a c
  retries_more cuts pace middle last a b c first second = record {
    acts = first.acts ++ (second.play ++ second.sends);
    letters = first.letters ++ second.packets;
    retries = subst (λ (k : Pace). Retries (config_of desk) player command moment pace (cuts + 1) (first.acts ++ (second.play ++ second.sends)) (first.letters ++ second.packets) k) (sym second.paced)
        (one_more cuts first.acts second.play second.sends first.letters second.packets middle second.result first.retries second.once second.cuts second.goes_on);
    works = works-then first.works second.works;
  }

  pub plays_ended : (cuts : ℕ) (come : Course) (pace middle last : Pace) (a b c : Scene) → cuts ≤ 34 → RetriesSoFar desk player command moment cuts pace middle a b → PlaysLast desk player command moment cuts come middle last b c → PlaysCommand desk player command moment come pace last a c
  plays_ended cuts come pace middle last a b c few first second = record {
    acts = first.acts ++ second.acts;
    letters = first.letters ++ second.letters;
    plays = record {
      cuts = cuts;
      few = few;
      retried = first.acts;
      packets = first.letters;
      middle = middle;
      retries = first.retries;
      rest = second.acts;
      others = second.letters;
      last = second.last;
      acts_are = refl;
      letters_are = refl;
    };
    works = works-then first.works second.works;
  }

-- ---- all commands of a packet

-- whatever is done of the rest completes what was done
pub record PlaysOn (desk : Shared) (player moment : ℕ) (all rest : List Heard) (pace pace' : Pace) (old new : Scene) : Type 0 where
  pub acts : List Act
  pub letters : List Letter
  pub completes : (acts' : List Act) (letters' : List Letter) (come : Course) (last : Pace) → PlaysEach (config_of desk) player moment rest pace' acts' letters' come last → PlaysEach (config_of desk) player moment all pace (acts ++ acts') (letters ++ letters') come last
  pub works : Works desk acts [] letters old new

module _ (desk : Shared) (player moment : ℕ) where
  pub plays_start : (all : List Heard) (pace : Pace) (scene : Scene) → PlaysOn desk player moment all all pace pace scene scene
  plays_start all pace scene = record { acts = []; letters = []; completes = λ acts' letters' come last p. p; works = works_nothing desk scene }

  plays_more : (all rest : List Heard) (one : Heard) (pace middle last : Pace) (a b c : Scene) → PlaysOn desk player moment all (one ∷ rest) pace middle a b → PlaysCommand desk player one.command moment course.Next middle last b c → PlaysOn desk player moment all rest pace last a c
  plays_more all rest one pace middle last a b c first second = record {
    acts = first.acts ++ second.acts;
    letters = first.letters ++ second.letters;
    completes = λ acts' letters' come end p.
        subst (λ (k : List Act). PlaysEach (config_of desk) player moment all pace k ((first.letters ++ second.letters) ++ letters') come end) (sym (append_assoc first.acts second.acts acts'))
        (subst (λ (k : List Letter). PlaysEach (config_of desk) player moment all pace (first.acts ++ (second.acts ++ acts')) k come end) (sym (append_assoc first.letters second.letters letters'))
        (first.completes (second.acts ++ acts') (second.letters ++ letters') come end (goes_on one rest middle last end second.acts acts' second.letters letters' come second.plays p)));
    works = works-then first.works second.works;
  }

  plays_until : (all rest : List Heard) (one : Heard) (come : Course) (pace middle last : Pace) (a b c : Scene) → PlaysOn desk player moment all (one ∷ rest) pace middle a b → is_next come ≡ false → PlaysCommand desk player one.command moment come middle last b c
      → PlaysList desk player all moment come pace last a c
  plays_until all rest one come pace middle last a b c first off second = record {
    acts = first.acts ++ second.acts;
    letters = first.letters ++ second.letters;
    plays = first.completes second.acts second.letters come last (stopped_at one rest middle last second.acts second.letters come second.plays off);
    works = works-then first.works second.works;
  }

  plays_all : (all : List Heard) (pace last : Pace) (a b : Scene) → PlaysOn desk player moment all [] pace last a b → PlaysList desk player all moment course.Next pace last a b
  plays_all all pace last a b first = record {
    acts = first.acts;
    letters = first.letters;
    plays = subst (λ (k : List Act). PlaysEach (config_of desk) player moment all pace k first.letters course.Next last) (append-nil first.acts)
        (subst (λ (k : List Letter). PlaysEach (config_of desk) player moment all pace (first.acts ++ []) k course.Next last) (append-nil first.letters)
        (first.completes [] [] course.Next last (all_played last)));
    works = first.works;
  }

  there : (all : List Heard) (i : ℕ) (one : Heard) → i < length all → one ≡ get_or all i one → drop i all ≡ one ∷ drop (i + 1) all
  there all i one inside is =
      let e : suc i ≡ i + 1 = omega arith in
      drop-cons all i one inside ∙ ap (λ (k : ℕ). get_or all i one ∷ drop k all) e ∙ ap (λ (h : Heard). h ∷ drop (i + 1) all) (sym is)

  pub plays_step : (all : List Heard) (i : ℕ) (one : Heard) (pace middle last : Pace) (a b c : Scene) → i < length all → one ≡ get_or all i one → PlaysOn desk player moment all (drop i all) pace middle a b → PlaysCommand desk player one.command moment course.Next middle last b c
      → PlaysOn desk player moment all (drop (i + 1) all) pace last a c
  plays_step all i one pace middle last a b c inside is first second =
      plays_more all (drop (i + 1) all) one pace middle last a b c (subst (λ (k : List Heard). PlaysOn desk player moment all k pace middle a b) (there all i one inside is) first) second

  pub plays_stop : (all : List Heard) (i : ℕ) (one : Heard) (come : Course) (pace middle last : Pace) (a b c : Scene) → i < length all → one ≡ get_or all i one → PlaysOn desk player moment all (drop i all) pace middle a b → is_next come ≡ false → PlaysCommand desk player one.command moment come middle last b c
      → PlaysList desk player all moment come pace last a c
  plays_stop all i one come pace middle last a b c inside is first off second =
      plays_until all (drop (i + 1) all) one come pace middle last a b c (subst (λ (k : List Heard). PlaysOn desk player moment all k pace middle a b) (there all i one inside is) first) off second

  pub plays_done : (all : List Heard) (i : ℕ) (pace last : Pace) (a b : Scene) → length all ≤ i → PlaysOn desk player moment all (drop i all) pace last a b → PlaysList desk player all moment course.Next pace last a b
  plays_done all i pace last a b past first =
      plays_all all pace last a b (subst (λ (k : List Heard). PlaysOn desk player moment all k pace last a b) (drop_all i all past) first)
