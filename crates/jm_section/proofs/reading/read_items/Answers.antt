use Rattle.std.proofs.Common.{length, Option, Result, Ok, ℕ}
use Rattle.std.proofs.lemmas.Result.{err_from_is_err_and}
use Rattle.jm_section.specs.declared.item.Item.{Item}
use Rattle.jm_section.specs.declared.reading.SectionFault.{SectionFault}
use Rattle.jm_section.proofs.Loop.{goes_on, ends_here, fails_here, all_read}
use Rattle.jm_section.proofs.reading.read_items.Goals as goal

next : Option (Item × ℕ) → Result (Option (Item × ℕ)) SectionFault
next n = Ok n

pub returns-in_err-read_item : goal.returns-in_err-read_item
returns-in_err-read_item c =
    let p = err_from_is_err_and c.from_residual.result c.from_residual.ensures.1 in
    rw (p.1, p.2) (fails_here c.in_err-read_item.field-0.0 _ _ c.loop.items.items (length c.args.list.now) c.loop.counter c.loop.at c.loop.bare c.loop.running c.loop.rest.now c.loop-test.true c.in_err-read_item.ensures.value c.loop.invariant)

pub returns-in-None : goal.returns-in-None
returns-in-None c =
    ends_here _ _ c.loop.items.items (length c.args.list.now) c.loop.counter c.loop.at c.loop.bare c.loop.running c.loop.rest.now c.loop-test.true (rw c.in-None.is at c.in_ok-read_item.ensures.value) c.loop.invariant

pub loop-preserved : goal.loop-preserved
loop-preserved c =
    rw (c.in_ok-push-in-Some.ensures.items, c.behind-rest.ensures, c.running_behind-running.ensures)
    (goes_on _ _ c.loop.items.items (length c.args.list.now) c.loop.counter c.loop.at c.loop.bare c.loop.running c.loop.rest.now c.in-Some.item c.in-Some.used c.loop-test.true (rw c.in-Some.is at c.in_ok-read_item.ensures.value) (rw c.in-Some.is at c.in_ok-read_item.ensures.bound) c.loop.invariant)

pub returns : goal.returns
returns c =
    all_read _ _ c.loop.items.items (length c.args.list.now) c.loop.counter c.loop.at c.loop.bare c.loop.running c.loop.rest.now c.loop-test.false c.loop.invariant
