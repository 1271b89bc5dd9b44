use Rattle.std.proofs.Common.{◌≡◌, ◌+◌, append_assoc, arith}
use Rattle.std.specs.List.{flat_map}
use Rattle.std.proofs.lemmas.List.{append-nil}
use Rattle.midi_host.specs.StateLines.{high_lines, params_lines, numbers_from, numbers_more, numbers_none}
use Rattle.midi_host.proofs.answers.Answers.add_params.Goals as goal

pub loop-number-preserved : goal.loop-number-preserved
loop-number-preserved c =
    let n = c.loop-number.number in
    let line = high_lines c.args.state.now c.args.channel c.args.nrpn in
    let number : c.low-high.result ≡ n = omega (arith, c.low-high.ensures.value) in
    let added = rw number at c.in_ok-add_numbered.ensures in
    rw (added, append_assoc c.loop-number.self (line n) (flat_map line (numbers_from (n + 1) 128)))
    (rw (numbers_more n 128 (omega arith)) at c.loop-number.invariant)

pub returns : goal.returns
unfolding params_lines
returns c =
    rw (numbers_none c.loop-number.number 128 (omega arith), append-nil c.loop-number.self) at c.loop-number.invariant
