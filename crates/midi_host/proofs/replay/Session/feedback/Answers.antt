use Rattle.std.proofs.Common.{◌≡◌, ◌∙◌, refl, ap, ℕ, List}
use Rattle.std.specs.Prelude.{if◌then◌else◌}
use Rattle.jm_book.specs.declared.lists.FeedbackEntry.{FeedbackEntry}
use Rattle.jm_book.specs.declared.answers.Given.{Given}
use Rattle.jm_book.specs.declared.answers.Given.TheVariants as given
use Rattle.jm_book.specs.Answers.{is_given}
use Rattle.jm_book.specs.BookAnswers.{feedback_answer, feedback_list}
use Rattle.jm_script.specs.AnswerText.{answer_text}
use Rattle.midi_host.specs.SessionAnswers.{given_line}
use Rattle.midi_host.proofs.replay.Session.feedback.Goals as goal

-- the entries count only where they are given
given_line-same : (ssrc : ℕ) (answer : Given) (listed before : List FeedbackEntry) → given_line ssrc answer (if is_given answer then listed else before) ≡ given_line ssrc answer listed
given_line-same ssrc given.Given listed before = refl
given_line-same ssrc (given.RecordFull events) listed before = refl

pub returns : goal.returns
returns c =
    let book = c.args.self.now.book in
    let answer = feedback_answer book.config book.steps in
    let listed = feedback_list book.config book.steps in
    let answer_is : c.feedback-answer.result ≡ answer = rw (c.in_ok-reserve.ensures.config, c.in_ok-reserve.ensures.steps) at c.feedback-answer.ensures.answer in
    let entries_are = rw (c.in_ok-reserve.ensures.config, c.in_ok-reserve.ensures.steps) at c.feedback-answer.ensures.list in
    let ssrc_is : c.ssrc.result ≡ book.config.ssrc = rw (c.feedback-answer.ensures.taken.config, c.in_ok-reserve.ensures.config) at c.ssrc.ensures in
    let line_is : c.given_line.result ≡ given_line book.config.ssrc answer listed =
    rw (c.given_line.ensures, ssrc_is, entries_are)
    (given_line-same book.config.ssrc c.feedback-answer.result listed c.new-entries.result ∙ ap (λ a. given_line book.config.ssrc a listed) answer_is) in
    record {
      text = answer_text (given_line book.config.ssrc answer listed);
      lined_is = rw (c.feedback-answer.ensures.taken.config, c.feedback-answer.ensures.taken.steps, c.in_ok-reserve.ensures.config, c.in_ok-reserve.ensures.steps, answer_is) refl;
      out_is = rw line_is at c.in_ok-add.ensures;
    }
