use Rattle.std.proofs.Common.{◌≡◌, ◌∙◌, sym, arith}
use Rattle.jm_journal.specs.Journal.{channels_from_more, channels_from_none}
use Rattle.jm_journal.proofs.channels.has_fresh.Goals as goal

pub loop-number-preserved : goal.loop-number-preserved
loop-number-preserved c =
    let n = c.loop-number.number in
    let channel : c.low.result ≡ n = omega (arith, c.low.ensures.value) in
    let here = rw channel at (sym c.is_fresh.ensures ∙ c.if-is_fresh.false) in
    rw (channels_from_more n (omega arith), here) at c.loop-number.invariant

pub returns-then-is_fresh : goal.returns-then-is_fresh
returns-then-is_fresh c =
    let n = c.loop-number.number in
    let channel : c.low.result ≡ n = omega (arith, c.low.ensures.value) in
    let here = rw channel at (sym c.is_fresh.ensures ∙ c.if-is_fresh.true) in
    rw (channels_from_more n (omega arith), here) at c.loop-number.invariant

pub returns : goal.returns
returns c = rw (channels_from_none c.loop-number.number (omega arith)) at c.loop-number.invariant
