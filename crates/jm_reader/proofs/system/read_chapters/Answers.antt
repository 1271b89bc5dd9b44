use Rattle.std.proofs.Common.{sym, ◌∙◌, arith, length-drop}
use Rattle.std.proofs.lemmas.Result.{err_from_is_err_and}
use Rattle.jm_reader.proofs.Chapters.{isnt_there, goes_on, ends_here, fails_here, all_read}
use Rattle.jm_reader.proofs.system.read_chapters.Goals as goal
use Rattle.jm_reader.proofs.system.read_chapters.Goals.{then-is_there+in_ok-size+else-ends_journal, else-is_there}

pub returns-in_err-size : goal.returns-in_err-size
returns-in_err-size c =
    let p = err_from_is_err_and c.from_residual.result c.from_residual.ensures.1 in
    rw (p.1, p.2) (fails_here c.in_err-size.field-0.0 _ _ _ _ _ _ _ c.loop-letter-test.true (sym c.is_there.ensures ∙ c.if-is_there.true) c.in_err-size.ensures.value c.loop-letter.invariant.gives)

pub returns-then-ends_journal : goal.returns-then-ends_journal
returns-then-ends_journal c =
    ends_here _ _ _ _ _ _ _ _ c.loop-letter-test.true (sym c.is_there.ensures ∙ c.if-is_there.true) (sym c.ends_journal.ensures ∙ c.if-ends_journal.true) c.in_ok-size.ensures.value c.loop-letter.invariant.gives

pub loop-letter-preserved : goal.loop-letter-preserved
loop-letter-preserved c =
    elim c.if-is_there.branch [
      | then-is_there+in_ok-size+else-ends_journal w ↦ rw (w.logs-is, w.rest-is, w.at-is, w.behind-rest.ensures) (record {
        gives = goes_on _ _ _ _ _ _ _ _ c.loop-letter-test.true (sym c.is_there.ensures ∙ w.if-is_there.true) (sym w.ends_journal.ensures ∙ w.if-ends_journal.false) w.in_ok-size.ensures.value c.loop-letter.invariant.gives;
        inside = omega (arith, length-drop w.in_ok-size.size c.loop-letter.rest.now, w.in_ok-size.ensures.used);
        few = omega (arith, length-drop w.in_ok-size.size c.loop-letter.rest.now);
      })
      | else-is_there w ↦ rw (w.logs-is, w.rest-is, w.at-is) (record {
        gives = isnt_there _ _ _ _ _ _ c.loop-letter-test.true (sym c.is_there.ensures ∙ w.if-is_there.false) c.loop-letter.invariant.gives;
        inside = c.loop-letter.invariant.inside;
        few = c.loop-letter.invariant.few;
      })
    ]

pub returns : goal.returns
returns c = all_read _ _ _ _ _ _ c.loop-letter-test.false c.loop-letter.invariant.gives
