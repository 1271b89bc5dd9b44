-- Messages at a session, and the round of the control port's worker, put together from single calls.
use Rattle.std.proofs.Common.{◌≡◌, ℕ, suc, ◌+◌, ◌%◌, ◌<◌, true, false, List, [], ◌∷◌, ◌++◌, length, drop, get_or, Option, Some, None, Result, Ok, Err, refl, sym, ap, subst, ◌∙◌, append_assoc, arith}
use Rattle.std.proofs.lemmas.List.{append-nil}
use Rattle.std.proofs.Math.Seq.{drop-cons}
use Rattle.std.specs.declared.alloc.AllocError.{AllocError}
use Rattle.jm_edge.specs.declared.Addr.{Addr}
use Rattle.jm_edge.specs.Wire.{Letter, Wire}
use Rattle.apple_msg.specs.declared.message.Message.{Message}
use Rattle.apple_msg.specs.declared.message.Message.TheVariants as message
use Rattle.apple_msg.specs.declared.message.MsgFault.{MsgFault}
use Rattle.apple_msg.specs.Reading.{read}
use Rattle.apple_session.specs.declared.answer.PortKind.{PortKind}
use Rattle.apple_session.specs.declared.answer.PortKind.TheVariants.{Ctl}
use Rattle.jm_book.specs.declared.steps.Step.TheVariants as step
use Rattle.jm_book.specs.declared.lists.FeedbackEntry.{FeedbackEntry}
use Rattle.jm_book.specs.declared.answers.Said.{Said}
use Rattle.jm_book.specs.declared.answers.Given.{Given}
use Rattle.jm_desk.specs.History.{before_last}
use Rattle.jm_desk.specs.Sharing.{Shared, PassView, MakesTurn, config_of}
use Rattle.jm_serve.specs.declared.worked.Rounded.{Rounded}
use Rattle.jm_serve.specs.declared.worked.Rounded.TheVariants as rounded
use Rattle.jm_serve.specs.declared.message_calls.Told.{Told}
use Rattle.jm_serve.specs.declared.control.Reporter.{Reporter}
use Rattle.jm_serve.specs.Exchange.{Posts}
use Rattle.jm_serve.specs.Acts.{act, Scene}
use Rattle.jm_serve.specs.Messages.{letter_with, says, message_in, said_outcome, reply_letters, told_of, told_came, SaysOnce, Tells, given_outcome, reports_to, report_letters, given_came, ReportsOnce}
use Rattle.jm_serve.specs.Rounds.{DoesRound}
use Rattle.jm_serve.specs.Control.{Answers, passed_over, answered, since, is_report_due, Reports, was_full, no_room, not_due, was_due, ControlRound, AnswersOnce, ReportsWhenDue}
use Rattle.jm_serve.proofs.Joins.{posts-then, posts_nothing, gains_call, works-then, works_nothing, works_call}

-- ---- one datagram after another

-- of all these datagrams, the rest are still to be sent
pub record PostsRest (all rest : List Letter) (faults faults' : ℕ) (old new : Wire) : Type 0 where
  pub done : List Letter
  pub split : done ++ rest ≡ all
  pub posts : Posts [] done faults faults' old new

pub rest_start : (all : List Letter) (f : ℕ) (wire : Wire) → PostsRest all all f f wire wire
rest_start all f wire = record { done = []; split = refl; posts = posts_nothing f wire }

pub rest_more : (all rest : List Letter) (letter : Letter) (f g h : ℕ) (a b c : Wire) → PostsRest all (letter ∷ rest) f g a b → Posts [] (letter ∷ []) g h b c → PostsRest all rest f h a c
rest_more all rest letter f g h a b c first second = record {
  done = first.done ++ letter ∷ [];
  split = append_assoc first.done (letter ∷ []) rest ∙ first.split;
  posts = posts-then first.posts second;
}

pub rest_all : (all : List Letter) (f g : ℕ) (a b : Wire) → PostsRest all [] f g a b → Posts [] all f g a b
rest_all all f g a b first = subst (λ (k : List Letter). Posts [] k f g a b) (sym (append-nil first.done) ∙ first.split) first.posts

pub reports_step : (ssrc : ℕ) (all : List FeedbackEntry) (i : ℕ) (d : FeedbackEntry) (f g h : ℕ) (a b c : Wire) → i < length all → PostsRest (reports_to ssrc all) (reports_to ssrc (drop i all)) f g a b
    → Posts [] (letter_with (get_or all i d).to (message.Feedback ssrc (get_or all i d).seq) ∷ []) g h b c → PostsRest (reports_to ssrc all) (reports_to ssrc (drop (i + 1) all)) f h a c
reports_step ssrc all i d f g h a b c inside first second =
    let e : suc i ≡ i + 1 = omega arith in
    let there : drop i all ≡ get_or all i d ∷ drop (i + 1) all = drop-cons all i d inside ∙ ap (λ (k : ℕ). get_or all i d ∷ drop k all) e in
    rest_more (reports_to ssrc all) (reports_to ssrc (drop (i + 1) all)) (letter_with (get_or all i d).to (message.Feedback ssrc (get_or all i d).seq)) f g h a b c
    (subst (λ (k : List FeedbackEntry). PostsRest (reports_to ssrc all) (reports_to ssrc k) f g a b) there first) second

-- ---- single calls

pub says_once : (desk : Shared) (port : PortKind) (from : Addr) (m : Message) (moment : ℕ) (result : Result Said AllocError) (old new : PassView) (call call' : ℕ)
    → MakesTurn desk old new (step.Say port from m moment) (said_outcome result) → call' ≡ (call + 1) % 4294967296 → SaysOnce desk port from m moment result old new call call'
says_once desk port from m moment result old new call call' made e = record {
  before = before_last new.view.seen;
  gains = gains_call desk old new (step.Say port from m moment) (said_outcome result) made;
  calls = e;
}

pub tells : (desk : Shared) (port : PortKind) (from : Addr) (m : Message) (moment : ℕ) (answer : Result Said AllocError) (old new : PassView) (wire wire' : Wire) (call call' faults faults' : ℕ)
    → SaysOnce desk port from m moment answer old new call call' → Posts [] (reply_letters from answer) faults faults' wire wire'
    → Tells desk port from m moment (told_of answer) (record { pass = old; wire = wire; call = call; faults = faults }) (record { pass = new; wire = wire'; call = call'; faults = faults' })
tells desk port from m moment answer old new wire wire' call call' faults faults' s p = record {
  before = s.before;
  answer = answer;
  told_is = refl;
  works = record { gains = s.gains; posts = p; calls = s.calls };
}

pub reports_once : (desk : Shared) (answer : Result Given AllocError) (old new : PassView) (wire wire' : Wire) (call call' faults faults' : ℕ)
    → MakesTurn desk old new step.Feedback (given_outcome answer) → Posts [] (report_letters (config_of desk) (before_last new.view.seen) answer) faults faults' wire wire' → call' ≡ (call + 1) % 4294967296
    → ReportsOnce desk (given_came answer) (record { pass = old; wire = wire; call = call; faults = faults }) (record { pass = new; wire = wire'; call = call'; faults = faults' })
reports_once desk answer old new wire wire' call call' faults faults' m p e = record {
  before = before_last new.view.seen;
  answer = answer;
  came_is = refl;
  works = works_call desk old new step.Feedback (given_outcome answer) (report_letters (config_of desk) (before_last new.view.seen) answer) wire wire' call call' faults faults' m p e;
}

pub reports_posts : (desk : Shared) (ssrc : ℕ) (shown listed list : List FeedbackEntry) (f g : ℕ) (wire wire' : Wire) → ssrc ≡ (config_of desk).ssrc → shown ≡ listed → listed ≡ list
    → Posts [] (reports_to ssrc shown) f g wire wire' → Posts [] (reports_to (config_of desk).ssrc list) f g wire wire'
reports_posts desk ssrc shown listed list f g wire wire' own s l p =
    subst (λ (k : ℕ). Posts [] (reports_to k list) f g wire wire') own (subst (λ (k : List FeedbackEntry). Posts [] (reports_to ssrc k) f g wire wire') (s ∙ l) p)

-- ---- a datagram

pub answers_none : (desk : Shared) (given : Option Letter) (moment : ℕ) (scene : Scene) → message_in given ≡ None → AnswersOnce desk given moment rounded.Whole scene scene
answers_none desk given moment scene e = record { acts = []; letters = []; answers = passed_over e; works = works_nothing desk scene }

pub unread : (from : Addr) (octets : List ℕ) (fault : MsgFault) → Err fault ≡ read octets → message_in (Some (record { addr = from; octets = octets })) ≡ None
unread from octets fault e = sym (ap (λ (r : Result Message MsgFault). says from r) e)

pub was_read : (from : Addr) (octets : List ℕ) (m : Message) → Ok m ≡ read octets → message_in (Some (record { addr = from; octets = octets })) ≡ Some (from, m)
was_read from octets m e = sym (ap (λ (r : Result Message MsgFault). says from r) e)

pub answers_told : (desk : Shared) (given : Option Letter) (from : Addr) (m : Message) (moment : ℕ) (told : Told) (old new : Scene) → message_in given ≡ Some (from, m) → Tells desk Ctl from m moment told old new → AnswersOnce desk given moment (told_came told) old new
answers_told desk given from m moment told old new e t = record {
  acts = act t.before (step.Say Ctl from m moment) (said_outcome t.answer) ∷ [];
  letters = reply_letters from t.answer;
  answers = subst (λ (k : Told). Answers given moment (act t.before (step.Say Ctl from m moment) (said_outcome t.answer) ∷ []) (reply_letters from t.answer) (told_came k)) t.told_is (answered t.before from m t.answer e);
  works = t.works;
}

-- ---- a report

pub reports_not : (desk : Shared) (last : Option ℕ) (moment : ℕ) (scene : Scene) → is_report_due last moment ≡ false → ReportsWhenDue desk last moment rounded.Whole (Some (since last moment)) scene scene
reports_not desk last moment scene e = record { acts = []; letters = []; reports = not_due e; works = works_nothing desk scene }

pub reports_due : (desk : Shared) (last : Option ℕ) (moment : ℕ) (came : Rounded) (old new : Scene) → is_report_due last moment ≡ true → ReportsOnce desk came old new → ReportsWhenDue desk last moment came (Some moment) old new
reports_due desk last moment came old new e r = record {
  acts = act r.before step.Feedback (given_outcome r.answer) ∷ [];
  letters = report_letters (config_of desk) r.before r.answer;
  reports = subst (λ (k : Rounded). Reports (config_of desk) last moment rounded.Whole (act r.before step.Feedback (given_outcome r.answer) ∷ []) (report_letters (config_of desk) r.before r.answer) k (Some moment)) r.came_is (was_due r.before r.answer e);
  works = r.works;
}

-- ---- the round

module _ (desk : Shared) (given : Option Letter) (moment : ℕ) (reporter reporter' : Reporter) where
  pub round_whole : (came : Rounded) (a b c : Scene) → AnswersOnce desk given moment rounded.Whole a b → ReportsWhenDue desk reporter.last_report moment came reporter'.last_report b c
      → DoesRound (ControlRound (config_of desk)) desk given moment came reporter reporter' a c
  round_whole came a b c x y = record {
    acts = x.acts ++ y.acts;
    letters = x.letters ++ y.letters;
    does = record {
      answers = x.acts;
      replies = x.letters;
      first = rounded.Whole;
      says = x.answers;
      asks = y.acts;
      reports = y.letters;
      reporting = y.reports;
      acts_are = refl;
      letters_are = refl;
    };
    works = works-then x.works y.works;
  }

  round_stopped : (came : Rounded) (a b : Scene) → Reports (config_of desk) reporter.last_report moment came [] [] came reporter'.last_report → AnswersOnce desk given moment came a b
      → DoesRound (ControlRound (config_of desk)) desk given moment came reporter reporter' a b
  round_stopped came a b r x = record {
    acts = x.acts;
    letters = x.letters;
    does = record {
      answers = x.acts;
      replies = x.letters;
      first = came;
      says = x.answers;
      asks = [];
      reports = [];
      reporting = r;
      acts_are = sym (append-nil x.acts);
      letters_are = sym (append-nil x.letters);
    };
    works = x.works;
  }

  pub round_full : (a b : Scene) → reporter'.last_report ≡ Some (since reporter.last_report moment) → AnswersOnce desk given moment rounded.RecordFull a b → DoesRound (ControlRound (config_of desk)) desk given moment rounded.RecordFull reporter reporter' a b
  round_full a b e x =
      round_stopped rounded.RecordFull a b (subst (λ (k : Option ℕ). Reports (config_of desk) reporter.last_report moment rounded.RecordFull [] [] rounded.RecordFull k) (sym e) was_full) x

  pub round_starved : (a b : Scene) → reporter'.last_report ≡ Some (since reporter.last_report moment) → AnswersOnce desk given moment rounded.NoMemory a b → DoesRound (ControlRound (config_of desk)) desk given moment rounded.NoMemory reporter reporter' a b
  round_starved a b e x =
      round_stopped rounded.NoMemory a b (subst (λ (k : Option ℕ). Reports (config_of desk) reporter.last_report moment rounded.NoMemory [] [] rounded.NoMemory k) (sym e) no_room) x
