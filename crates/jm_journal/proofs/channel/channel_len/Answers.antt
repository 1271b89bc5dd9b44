use Rattle.std.proofs.Common.{◌≡◌, ◌<◌, length, refl, arith, length-append}
use Rattle.jm_wire.specs.Heads.{channel_octets}
use Rattle.jm_journal.specs.Channel.{channel_chapters, channel_head}
use Rattle.jm_journal.specs.Lens.{total_length, channel_journal_none, channel_journal_some}
use Rattle.jm_journal.proofs.channel.channel_len.Goals as goal

pub returns-then-chapters-eq0-clause-value : goal.returns-then-chapters-eq0-clause-value
returns-then-chapters-eq0-clause-value c =
    let span = c.args.span in
    let all = total_length span.checkpoint span.packet span.tick c.args.list.now c.args.channel c.of.result c.of.ensures.octets in
    let none : length (channel_chapters span.checkpoint span.packet span.tick c.args.list.now c.args.channel) ≡ 0 = omega (arith, all, c.total-chapters.ensures.total, c.if-chapters-eq0.true) in
    rw (channel_journal_none span.checkpoint span.packet span.tick c.args.list.now c.args.channel none) refl

pub returns-else-chapters-eq0-clause-value : goal.returns-else-chapters-eq0-clause-value
returns-else-chapters-eq0-clause-value c =
    let span = c.args.span in
    let head = channel_octets (channel_head span.checkpoint span.packet span.tick c.args.list.now c.args.channel) in
    let chapters = channel_chapters span.checkpoint span.packet span.tick c.args.list.now c.args.channel in
    let all = total_length span.checkpoint span.packet span.tick c.args.list.now c.args.channel c.of.result c.of.ensures.octets in
    let some : 0 < length chapters = omega (arith, all, c.total-chapters.ensures.total, c.if-chapters-eq0.false) in
    rw (channel_journal_some span.checkpoint span.packet span.tick c.args.list.now c.args.channel some)
    (omega (arith, all, c.total-chapters.ensures.total, length-append head chapters))
