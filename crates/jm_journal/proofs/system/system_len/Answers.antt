use Rattle.std.proofs.Common.{◌≡◌, ◌<◌, length, refl, arith, length-append}
use Rattle.jm_wire.specs.Heads.{system_octets}
use Rattle.jm_journal.specs.System.{system_chapters, system_head}
use Rattle.jm_journal.specs.Lens.{system_length, system_journal_none, system_journal_some}
use Rattle.jm_journal.proofs.system.system_len.Goals as goal

pub returns-then-chapters-eq0-clause-value : goal.returns-then-chapters-eq0-clause-value
returns-then-chapters-eq0-clause-value c =
    let span = c.args.span in
    let all = system_length span.checkpoint span.packet c.args.list.now c.of.result c.of.ensures.octets in
    let none : length (system_chapters span.checkpoint span.packet c.args.list.now) ≡ 0 = omega (arith, all, c.total-chapters.ensures.total, c.if-chapters-eq0.true) in
    rw (system_journal_none span.checkpoint span.packet c.args.list.now none) refl

pub returns-else-chapters-eq0-clause-value : goal.returns-else-chapters-eq0-clause-value
returns-else-chapters-eq0-clause-value c =
    let span = c.args.span in
    let head = system_octets (system_head span.checkpoint span.packet c.args.list.now) in
    let chapters = system_chapters span.checkpoint span.packet c.args.list.now in
    let all = system_length span.checkpoint span.packet c.args.list.now c.of.result c.of.ensures.octets in
    let some : 0 < length chapters = omega (arith, all, c.total-chapters.ensures.total, c.if-chapters-eq0.false) in
    rw (system_journal_some span.checkpoint span.packet c.args.list.now some)
    (omega (arith, all, c.total-chapters.ensures.total, length-append head chapters))
