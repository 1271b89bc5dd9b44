use Rattle.std.proofs.Common.{◌≡◌, ◌+◌, append_assoc, arith}
use Rattle.std.specs.List.{flat_map}
use Rattle.std.proofs.lemmas.List.{append-nil}
use Rattle.midi_host.specs.StateLines.{state_lines, session_lines, channel_lines, numbers_from, numbers_more, numbers_none}
use Rattle.midi_host.proofs.answers.Answers.add_state.Goals as goal

pub loop-number-preserved : goal.loop-number-preserved
loop-number-preserved c =
    let n = c.loop-number.number in
    let line = channel_lines c.args.state.now in
    let number : c.low.result ≡ n = omega (arith, c.low.ensures.value) in
    let added = rw number at c.in_ok-add_channel.ensures in
    rw (added, append_assoc c.loop-number.self (line n) (flat_map line (numbers_from (n + 1) 16)))
    (rw (numbers_more n 16 (omega arith)) at c.loop-number.invariant)

pub returns : goal.returns
unfolding state_lines
returns c =
    let state = c.args.state.now in
    let all = rw (numbers_none c.loop-number.number 16 (omega arith), append-nil c.loop-number.self) at c.loop-number.invariant in
    rw (all, c.in_ok-add_session.ensures) (append_assoc c.args.self.now (session_lines state) (flat_map (channel_lines state) (numbers_from 0 16)))
