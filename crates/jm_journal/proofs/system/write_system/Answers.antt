use Rattle.std.proofs.Common.{◌≡◌, ◌<◌, length, ap, ◌∙◌, arith, length-append}
use Rattle.jm_wire.specs.Octets.{joined, unchanged}
use Rattle.jm_wire.specs.Heads.{system_octets}
use Rattle.jm_journal.specs.System.{system_chapters, system_head}
use Rattle.jm_journal.specs.Lens.{system_length, system_journal_none, system_journal_some}
use Rattle.jm_journal.proofs.system.write_system.Goals as goal

pub returns-then-total-eq0 : goal.returns-then-total-eq0
returns-then-total-eq0 c =
    let span = c.args.span in
    let all = system_length span.checkpoint span.packet c.args.list.now c.of-lens.result c.of-lens.ensures.octets in
    let none : length (system_chapters span.checkpoint span.packet c.args.list.now) ≡ 0 = omega (arith, all, c.total.ensures.total, c.if-total-eq0.true) in
    rw (system_journal_none span.checkpoint span.packet c.args.list.now none) record {
      written = unchanged c.args.out.now;
      bound = omega arith;
    }

pub push_slice-requires : goal.push_slice-requires
push_slice-requires c =
    let span = c.args.span in
    let head = system_octets (system_head span.checkpoint span.packet c.args.list.now) in
    let chapters = system_chapters span.checkpoint span.packet c.args.list.now in
    let all = system_length span.checkpoint span.packet c.args.list.now c.of-lens.result c.of-lens.ensures.octets in
    let some : 0 < length chapters = omega (arith, all, c.total.ensures.total, c.if-total-eq0.false) in
    let room = rw (system_journal_some span.checkpoint span.packet c.args.list.now some) at c.requires.spare in
    let packed : c.pack.result ≡ head = c.pack.ensures ∙ ap system_octets c.head_of.ensures.head in
    rw packed (omega (arith, room, length-append head chapters))

pub write_chapters-requires-clause-spare : goal.write_chapters-requires-clause-spare
write_chapters-requires-clause-spare c =
    let span = c.args.span in
    let head = system_octets (system_head span.checkpoint span.packet c.args.list.now) in
    let chapters = system_chapters span.checkpoint span.packet c.args.list.now in
    let all = system_length span.checkpoint span.packet c.args.list.now c.of-lens.result c.of-lens.ensures.octets in
    let some : 0 < length chapters = omega (arith, all, c.total.ensures.total, c.if-total-eq0.false) in
    let room = rw (system_journal_some span.checkpoint span.packet c.args.list.now some) at c.requires.spare in
    let packed : c.pack.result ≡ head = c.pack.ensures ∙ ap system_octets c.head_of.ensures.head in
    let pushed = rw packed at c.push_slice.ensures.spare in
    omega (arith, room, length-append head chapters, pushed)

pub returns : goal.returns
returns c =
    let span = c.args.span in
    let head = system_octets (system_head span.checkpoint span.packet c.args.list.now) in
    let chapters = system_chapters span.checkpoint span.packet c.args.list.now in
    let all = system_length span.checkpoint span.packet c.args.list.now c.of-lens.result c.of-lens.ensures.octets in
    let some : 0 < length chapters = omega (arith, all, c.total.ensures.total, c.if-total-eq0.false) in
    let packed : c.pack.result ≡ head = c.pack.ensures ∙ ap system_octets c.head_of.ensures.head in
    let pushed = rw packed at c.push_slice.ensures in
    rw (system_journal_some span.checkpoint span.packet c.args.list.now some) record {
      written = joined pushed c.write_chapters.ensures;
      bound = omega (arith, all, c.total.ensures.total, c.total.ensures.bound, length-append head chapters);
    }
