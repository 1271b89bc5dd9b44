use Rattle.std.proofs.Common.{◌≡◌, ◌≤◌, ◌+◌, length, length-append, below_more, arith}
use Rattle.std.specs.List.{flat_map}
use Rattle.jm_journal.specs.Channel.{channel_journal}
use Rattle.jm_journal.specs.Journal.{channels_from, channels_from_more, channels_from_none}
use Rattle.jm_journal.proofs.channels.channels_len.Goals as goal

pub loop-number-preserved : goal.loop-number-preserved
loop-number-preserved c =
    let n = c.loop-number.number in
    let span = c.args.span in
    let text = channel_journal span.checkpoint span.packet span.tick c.args.list.now in
    let channel : c.low.result ≡ n = omega (arith, c.low.ensures.value) in
    let value : c.channel_len-len.result ≡ length (text n) = rw channel at c.channel_len-len.ensures.value in
    let bound = c.channel_len-len.ensures.bound in
    let here : length (text n) ≤ 998 = omega (arith, value, bound) in
    let whole = rw (channels_from_more n (omega arith)) at c.loop-number.invariant.whole in
    record {
      whole = omega (arith, whole, value, length-append (text n) (flat_map text (channels_from (n + 1))));
      few = omega (arith, bound, c.loop-number.invariant.few);
      each = below_more _ _ c.loop-number.invariant.each here;
    }

pub returns-clause-value : goal.returns-clause-value
returns-clause-value c =
    let all = rw (channels_from_none c.loop-number.number (omega arith)) at c.loop-number.invariant.whole in
    omega (arith, all)
