use Rattle.std.proofs.Common.{◌≡◌, ◌<◌, length, ap, ◌∙◌, arith, length-append}
use Rattle.jm_wire.specs.Octets.{joined, unchanged}
use Rattle.jm_wire.specs.Heads.{channel_octets}
use Rattle.jm_journal.specs.Channel.{channel_chapters, channel_head}
use Rattle.jm_journal.specs.Lens.{total_length, channel_journal_none, channel_journal_some}
use Rattle.jm_journal.proofs.channel.write_channel.Goals as goal

pub returns-then-total-eq0 : goal.returns-then-total-eq0
returns-then-total-eq0 c =
    let span = c.args.span in
    let all = total_length span.checkpoint span.packet span.tick c.args.list.now c.args.channel c.of-lens.result c.of-lens.ensures.octets in
    let none : length (channel_chapters span.checkpoint span.packet span.tick c.args.list.now c.args.channel) ≡ 0 = omega (arith, all, c.total.ensures.total, c.if-total-eq0.true) in
    rw (channel_journal_none span.checkpoint span.packet span.tick c.args.list.now c.args.channel none) record {
      written = unchanged c.args.out.now;
      bound = omega arith;
    }

pub push_slice-requires : goal.push_slice-requires
push_slice-requires c =
    let span = c.args.span in
    let head = channel_octets (channel_head span.checkpoint span.packet span.tick c.args.list.now c.args.channel) in
    let chapters = channel_chapters span.checkpoint span.packet span.tick c.args.list.now c.args.channel in
    let all = total_length span.checkpoint span.packet span.tick c.args.list.now c.args.channel c.of-lens.result c.of-lens.ensures.octets in
    let some : 0 < length chapters = omega (arith, all, c.total.ensures.total, c.if-total-eq0.false) in
    let room = rw (channel_journal_some span.checkpoint span.packet span.tick c.args.list.now c.args.channel some) at c.requires.spare in
    let packed : c.pack.result ≡ head = c.pack.ensures ∙ ap channel_octets c.head_of.ensures.head in
    rw packed (omega (arith, room, length-append head chapters))

pub write_chapters-requires-clause-spare : goal.write_chapters-requires-clause-spare
write_chapters-requires-clause-spare c =
    let span = c.args.span in
    let head = channel_octets (channel_head span.checkpoint span.packet span.tick c.args.list.now c.args.channel) in
    let chapters = channel_chapters span.checkpoint span.packet span.tick c.args.list.now c.args.channel in
    let all = total_length span.checkpoint span.packet span.tick c.args.list.now c.args.channel c.of-lens.result c.of-lens.ensures.octets in
    let some : 0 < length chapters = omega (arith, all, c.total.ensures.total, c.if-total-eq0.false) in
    let room = rw (channel_journal_some span.checkpoint span.packet span.tick c.args.list.now c.args.channel some) at c.requires.spare in
    let packed : c.pack.result ≡ head = c.pack.ensures ∙ ap channel_octets c.head_of.ensures.head in
    let pushed = rw packed at c.push_slice.ensures.spare in
    omega (arith, room, length-append head chapters, pushed)

pub returns : goal.returns
returns c =
    let span = c.args.span in
    let head = channel_octets (channel_head span.checkpoint span.packet span.tick c.args.list.now c.args.channel) in
    let chapters = channel_chapters span.checkpoint span.packet span.tick c.args.list.now c.args.channel in
    let all = total_length span.checkpoint span.packet span.tick c.args.list.now c.args.channel c.of-lens.result c.of-lens.ensures.octets in
    let some : 0 < length chapters = omega (arith, all, c.total.ensures.total, c.if-total-eq0.false) in
    let packed : c.pack.result ≡ head = c.pack.ensures ∙ ap channel_octets c.head_of.ensures.head in
    let pushed = rw packed at c.push_slice.ensures in
    rw (channel_journal_some span.checkpoint span.packet span.tick c.args.list.now c.args.channel some) record {
      written = joined pushed c.write_chapters.ensures;
      bound = omega (arith, all, c.total.ensures.total, c.total.ensures.bound, length-append head chapters);
    }
