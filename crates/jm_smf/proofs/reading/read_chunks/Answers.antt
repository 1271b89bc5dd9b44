use Rattle.std.proofs.Common.{◌≡◌, ◌-◌, length, take, drop, arith, sym, ◌∙◌, length-drop}
use Rattle.std.proofs.lemmas.List.{length-take-le}
use Rattle.jm_smf.proofs.Loops.{one_chunk, the_track, chunk_failed, chunks_short}
use Rattle.jm_smf.proofs.reading.read_chunks.Goals as goal

pub returns-in-Err : goal.returns-in-Err
returns-in-Err c = chunk_failed _ _ c.args.most c.loop.counter c.loop.at c.loop.rest.now c.in-Err.fault c.loop-test.true (sym c.in-Err.ensures.value) c.loop.invariant

pub returns-then-is_track : goal.returns-then-is_track
returns-then-is_track c =
    let e = the_track _ _ c.args.most c.loop.counter c.loop.at c.loop.rest.now c.in-Ok.size c.loop-test.true (sym c.in-Ok.ensures.value) (sym c.is_track.ensures ∙ c.if-is_track.true) c.loop.invariant in
    let l : length (take (c.in-Ok.size - 8) (drop 8 c.loop.rest.now)) ≡ c.in-Ok.size - 8 = length-take-le (c.in-Ok.size - 8) (drop 8 c.loop.rest.now) (omega (arith, length-drop 8 c.loop.rest.now, c.in-Ok.ensures.bound.1)) in
    rw e (rw l at c.read_track.ensures)

pub loop-preserved : goal.loop-preserved
loop-preserved c =
    rw c.behind-rest.ensures
    (one_chunk _ _ c.args.most c.loop.counter c.loop.at c.loop.rest.now c.in-Ok.size c.loop-test.true (sym c.in-Ok.ensures.value) (sym c.is_track.ensures ∙ c.if-is_track.false) c.in-Ok.ensures.bound.1 c.loop.invariant)

pub returns : goal.returns
returns c = chunks_short _ _ c.args.most c.loop.counter c.loop.at c.loop.rest.now c.loop-test.false c.loop.invariant
