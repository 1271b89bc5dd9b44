use Rattle.std.proofs.Common.{get_or, refl, arith, ◌+◌, ◌*◌, ◌<◌, length}
use Rattle.jm_wire.proofs.Fields.{more, last_octet, three_parts}
use Rattle.jm_wire.proofs.delta.field_at.Goals as goal

pub overflow_mul-value : goal.overflow_mul-value
overflow_mul-value c =
    omega (arith, three_parts c.loop-i.i c.loop-i.value c.loop-i-test.true c.loop-i.invariant.below)

pub overflow_add-value : goal.overflow_add-value
overflow_add-value c =
    omega (arith, three_parts c.loop-i.i c.loop-i.value c.loop-i-test.true c.loop-i.invariant.below)

pub returns-then-o-lt128 : goal.returns-then-o-lt128
returns-then-o-lt128 c =
    let b = c.args.b.now in
    let i = c.loop-i.i in
    let lt : i < length b = omega (arith, c.loop-i.invariant.inside) in
    rw (last_octet b i c.loop-i.value (get_or b i 0) (c.loop-i.value * 128 + c.from.result) c.loop-i.invariant c.loop-i-test.true lt refl c.if-o-lt128.true (omega arith)) refl

pub loop-i-preserved : goal.loop-i-preserved
loop-i-preserved c =
    let b = c.args.b.now in
    let i = c.loop-i.i in
    let lt : i < length b = omega (arith, c.loop-i.invariant.inside) in
    more b i c.loop-i.value (get_or b i 0) (c.loop-i.value * 128 + c.from.result) c.loop-i.invariant lt refl c.if-o-lt128.false (omega arith)
