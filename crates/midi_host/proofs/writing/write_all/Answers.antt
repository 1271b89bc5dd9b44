-- Each write adds the next piece of the text.
use Rattle.std.proofs.Common.{arith}
use Rattle.std.proofs.lemmas.List.{take_rest}
use Rattle.midi_host.proofs.WroteLemmas.{Wrote-piece, WrotePart-take}
use Rattle.midi_host.proofs.writing.write_all.Goals as goal

pub loop-at-preserved : goal.loop-at-preserved
loop-at-preserved g c =
    let text = c.args.text.now in
    let adds = rw (take_rest text c.loop-at.at) at c.in-Took.ensures.adds in
    record {
      within = grind (arith, c.in-Took.ensures.within, c.loop-at.invariant.within);
      wrote = Wrote-piece _ _ _ text c.loop-at.at c.in-Took.count c.loop-at.invariant.wrote adds;
      counted = omega (arith, c.in-Took.ensures.counted);
    }

pub returns-in-Failed-clause-err : goal.returns-in-Failed-clause-err
returns-in-Failed-clause-err g c =
    rw c.in-Failed.ensures.adds (WrotePart-take _ _ c.args.text.now c.loop-at.at c.loop-at.invariant.wrote)
