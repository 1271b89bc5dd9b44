use Rattle.std.proofs.Common.{sym, ◌∙◌, arith}
use Rattle.std.proofs.lemmas.List.{take-append-le, length-append}
use Rattle.jm_reader.proofs.Params.{kept_end, kept_none, kept_some}
use Rattle.jm_reader.proofs.m.read_params.Goals as goal

pub returns-then-is_empty : goal.returns-then-is_empty
returns-then-is_empty c =
    sym (kept_end c.args.channel c.args.logs.now c.loop.logs _ c.loop.rest.now c.if-is_empty.ensures) ∙ c.loop.invariant.so_far

pub returns-in-None : goal.returns-in-None
returns-in-None c =
    let e = c.truncate.ensures in
    let b = c.loop.invariant.before in
    let k = kept_none c.args.channel c.loop.index c.args.logs.now c.loop.logs c.args.octets.now c.loop.rest.now c.loop-test.true c.if-is_empty.ensures c.in-None.ensures in
    let s = c.loop.invariant.so_far in
    let n = c.len-before.ensures in
    cc (e, b, k, s, n)

pub loop-preserved : goal.loop-preserved
loop-preserved c =
    let p = c.in_ok-push-in-Some.ensures in
    let g = c.loop.invariant.grown in
    let k = kept_some c.args.channel c.loop.index c.args.logs.now c.loop.logs c.args.octets.now c.loop.rest.now c.in-Some.behind.now c.in-Some.log c.loop-test.true c.if-is_empty.ensures c.in-Some.ensures in
    record {
      grown = rw p (simp length-append (omega arith));
      before = rw p (take-append-le _ _ _ g ∙ c.loop.invariant.before);
      so_far = rw p (sym k ∙ c.loop.invariant.so_far);
    }
