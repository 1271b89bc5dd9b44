use Rattle.std.proofs.Common.{refl}
use Rattle.jm_journal.specs.Channel.{channel_head}
use Rattle.jm_journal.specs.Lens.{total_length}
use Rattle.jm_journal.proofs.channel.head_of.Goals as goal

pub returns-clause-head : goal.returns-clause-head
unfolding channel_head
returns-clause-head c =
    let span = c.args.span in
    let o = c.requires.octets in
    let all = total_length span.checkpoint span.packet span.tick c.args.list.now c.args.channel c.args.lens.now o in
    rw (all, c.is_fresh.ensures, c.get.ensures.value, c.total.ensures.total, o.p, o.c, o.m, o.w, o.n, o.e, o.t, o.a) refl
