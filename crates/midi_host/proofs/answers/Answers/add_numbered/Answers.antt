use Rattle.std.proofs.Common.{◌≡◌, ◌+◌, append_assoc, arith}
use Rattle.std.specs.List.{flat_map}
use Rattle.std.proofs.lemmas.List.{append-nil}
use Rattle.midi_host.specs.StateLines.{number_line, numbered_lines, numbers_from, numbers_more, numbers_none}
use Rattle.midi_host.proofs.answers.Answers.add_numbered.Goals as goal

pub loop-number-preserved : goal.loop-number-preserved
loop-number-preserved c =
    let n = c.loop-number.number in
    let line = number_line c.args.state.now c.args.channel c.args.kind.now in
    let number : c.low.result ≡ n = omega (arith, c.low.ensures.value) in
    let added = rw (c.numbered_part.ensures, number) at c.in_ok-add_part.ensures in
    rw (added, append_assoc c.loop-number.self (line n) (flat_map line (numbers_from (n + 1) 128)))
    (rw (numbers_more n 128 (omega arith)) at c.loop-number.invariant)

pub returns : goal.returns
unfolding numbered_lines
returns c =
    rw (numbers_none c.loop-number.number 128 (omega arith), append-nil c.loop-number.self) at c.loop-number.invariant
