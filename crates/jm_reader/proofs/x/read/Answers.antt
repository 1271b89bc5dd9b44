use Rattle.std.proofs.Common.{◌≤◌, length, arith}
use Rattle.std.proofs.lemmas.Bool.Decides.{nat_tests}
use Rattle.std.proofs.lemmas.Result.{err_from_is_err_and}
use Rattle.jm_reader.proofs.LogsRead.{goes_on, fails_here, ends_here, all_read}
use Rattle.jm_reader.proofs.x.read.Goals as goal

pub returns-then-is_empty-2-clause-value : goal.returns-then-is_empty-2-clause-value
returns-then-is_empty-2-clause-value c =
    let none : length c.loop.rest.now ≤ 0 = grind (arith, nat_tests) in
    ends_here _ _ _ _ _ _ _ none c.loop.invariant

pub returns-in_err-size-clause-value : goal.returns-in_err-size-clause-value
returns-in_err-size-clause-value c =
    let p = err_from_is_err_and c.from_residual.result c.from_residual.ensures.1 in
    let some : 1 ≤ length c.loop.rest.now = grind (arith, nat_tests) in
    rw (p.1, p.2) (fails_here c.in_err-size.field-0.0 _ _ _ _ _ _ _ _ _ c.loop-test.true some c.in_err-size.ensures.value c.loop.invariant)

pub loop-preserved : goal.loop-preserved
loop-preserved c =
    let some : 1 ≤ length c.loop.rest.now = grind (arith, nat_tests) in
    rw (c.behind-rest.ensures) (goes_on _ _ _ _ _ _ _ _ _ _ c.loop-test.true some c.in_ok-size.ensures.value c.in_ok-size.ensures.used.1 c.loop.invariant)

pub returns-clause-value : goal.returns-clause-value
returns-clause-value c = all_read _ _ _ _ _ _ _ _ c.loop-test.false c.loop.invariant
