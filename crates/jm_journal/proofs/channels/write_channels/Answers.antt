use Rattle.std.proofs.Common.{◌≡◌, ◌+◌, ◌++◌, length-append, arith}
use Rattle.std.specs.List.{flat_map}
use Rattle.jm_wire.specs.Octets.{Owes, Appends, owes_less, owes_nothing}
use Rattle.jm_journal.specs.Channel.{channel_journal}
use Rattle.jm_journal.specs.Journal.{channels, channels_from, channels_from_more, channels_from_none}
use Rattle.jm_journal.proofs.channels.write_channels.Goals as goal

pub write_channel-requires-clause-spare : goal.write_channel-requires-clause-spare
write_channel-requires-clause-spare c =
    let n = c.loop-number.number in
    let span = c.args.span in
    let text = channel_journal span.checkpoint span.packet span.tick c.args.list.now in
    let channel : c.low.result ≡ n = omega (arith, c.low.ensures.value) in
    let room = rw (channels_from_more n (omega arith)) at c.loop-number.invariant.room in
    rw channel (omega (arith, room, length-append (text n) (flat_map text (channels_from (n + 1)))))

pub loop-number-preserved : goal.loop-number-preserved
loop-number-preserved c =
    let n = c.loop-number.number in
    let span = c.args.span in
    let text = channel_journal span.checkpoint span.packet span.tick c.args.list.now in
    let channel : c.low.result ≡ n = omega (arith, c.low.ensures.value) in
    let written : Appends c.loop-number.out c.write_channel.new.out (text n) = rw channel at c.write_channel.ensures.written in
    let room = rw (channels_from_more n (omega arith)) at c.loop-number.invariant.room in
    let owes : Owes c.args.out.now c.loop-number.out (flat_map text channels) (text n ++ flat_map text (channels_from (n + 1))) =
    rw (channels_from_more n (omega arith)) at c.loop-number.invariant.owes in
    record {
      owes = owes_less owes written;
      room = omega (arith, room, written.spare, length-append (text n) (flat_map text (channels_from (n + 1))));
    }

pub returns : goal.returns
returns c = owes_nothing (rw (channels_from_none c.loop-number.number (omega arith)) at c.loop-number.invariant.owes)
