use Rattle.std.proofs.Common.{◌≡◌, ◌<◌, ◌∷◌, List, length, ap, arith, length-append}
use Rattle.std.specs.List.{flat_map}
use Rattle.ch_param.specs.declared.param_table.HalfRow.{HalfRow}
use Rattle.ch_param.specs.ParamTable.{row_log, last_halves}
use Rattle.ch_param.proofs.param_table.logs_len.Goals as goal

pub loop-row-preserved : goal.loop-row-preserved
loop-row-preserved c =
    let halves = c.args.halves.now in
    let row = c.in-Some.row.now in
    let later = c.in-Some.later.now in
    let last : last_halves c.loop-row.rest.now ≡ row ∷ last_halves later = c.in-Some.ensures.last in
    let fewer : length later < length c.loop-row.rest.now = c.in-Some.ensures.fewer in
    let count = ap (λ (rows : List HalfRow). length rows) last in (
      λ packet. (
          let all = ap (λ (rows : List HalfRow). length (flat_map (row_log packet halves) rows)) last in
          omega (
            arith,
            all,
            length-append (row_log packet halves row) (flat_map (row_log packet halves) (last_halves later)),
            c.loop-row.invariant.0 packet,
            c.log_len-len.ensures.number packet,
          )
          ),
      omega (arith, fewer, c.loop-row.invariant.1, c.log_len-len.ensures.bound),
      omega (arith, count, c.loop-row.invariant.2, c.log_len-len.ensures.bound),
    )
