use Rattle.std.proofs.Common.{refl}
use Rattle.jm_journal.specs.System.{system_head}
use Rattle.jm_journal.specs.Lens.{system_length}
use Rattle.jm_journal.proofs.system.head_of.Goals as goal

pub returns-clause-head : goal.returns-clause-head
unfolding system_head
returns-clause-head c =
    let span = c.args.span in
    let o = c.requires.octets in
    let all = system_length span.checkpoint span.packet c.args.list.now c.args.lens.now o in
    rw (all, c.is_fresh.ensures, c.total.ensures.total, o.d, o.v, o.q, o.f, o.x) refl
