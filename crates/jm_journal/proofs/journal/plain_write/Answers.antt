use Rattle.std.proofs.Common.{◌≡◌, ap, ◌∙◌, arith}
use Rattle.jm_wire.specs.Octets.{joined}
use Rattle.jm_wire.specs.Heads.{journal_octets}
use Rattle.jm_journal.specs.Journal.{journal, journal_head, journal_length}
use Rattle.jm_journal.proofs.journal.plain_write.Goals as goal

pub push_slice-requires : goal.push_slice-requires
push_slice-requires c =
    let packed : c.pack.result ≡ journal_octets (journal_head c.args.checkpoint c.args.packet c.args.tick c.args.list.now) = c.pack.ensures ∙ ap journal_octets c.head_of.ensures.head in
    let all = journal_length c.args.checkpoint c.args.packet c.args.tick c.args.list.now in
    rw packed (omega (arith, all, c.requires.spare))

pub write_system-requires-clause-spare : goal.write_system-requires-clause-spare
write_system-requires-clause-spare c =
    let packed : c.pack.result ≡ journal_octets (journal_head c.args.checkpoint c.args.packet c.args.tick c.args.list.now) = c.pack.ensures ∙ ap journal_octets c.head_of.ensures.head in
    let pushed = rw packed at c.push_slice.ensures.spare in
    let all = journal_length c.args.checkpoint c.args.packet c.args.tick c.args.list.now in
    omega (arith, all, c.requires.spare, pushed)

pub write_channels-requires-clause-spare : goal.write_channels-requires-clause-spare
write_channels-requires-clause-spare c =
    let packed : c.pack.result ≡ journal_octets (journal_head c.args.checkpoint c.args.packet c.args.tick c.args.list.now) = c.pack.ensures ∙ ap journal_octets c.head_of.ensures.head in
    let pushed = rw packed at c.push_slice.ensures.spare in
    let all = journal_length c.args.checkpoint c.args.packet c.args.tick c.args.list.now in
    omega (arith, all, c.requires.spare, pushed, c.write_system.ensures.written.spare)

pub returns : goal.returns
unfolding journal
returns c =
    let packed : c.pack.result ≡ journal_octets (journal_head c.args.checkpoint c.args.packet c.args.tick c.args.list.now) = c.pack.ensures ∙ ap journal_octets c.head_of.ensures.head in
    joined (joined (rw packed at c.push_slice.ensures) c.write_system.ensures.written) c.write_channels.ensures
