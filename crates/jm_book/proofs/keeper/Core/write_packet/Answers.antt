use Rattle.std.proofs.Common.{arith}
use Rattle.jm_wire.specs.Octets.{joined}
use Rattle.jm_book.specs.Packet.{packet_text}
use Rattle.jm_section.specs.Pieces.{length-header-le}
use Rattle.jm_book.proofs.keeper.Core.write_packet.Goals as goal

pub write_section_header-requires-clause-room : goal.write_section_header-requires-clause-room
write_section_header-requires-clause-room c =
    omega (arith, length-header-le c.list_len.result c.has_journal.result, c.write_header.ensures.spare, c.requires.room)

pub write_list-requires : goal.write_list-requires
write_list-requires c =
    omega (arith, length-header-le c.list_len.result c.has_journal.result, c.write_header.ensures.spare, c.write_section_header.ensures.spare, c.list_len.ensures.value, c.list_len.ensures.bound, c.requires.room)

pub write_journal-requires-clause-spare : goal.write_journal-requires-clause-spare
write_journal-requires-clause-spare c =
    omega (arith, length-header-le c.list_len.result c.has_journal.result, c.write_header.ensures.spare, c.write_section_header.ensures.spare, c.write_list.ensures.spare, c.list_len.ensures.value, c.list_len.ensures.bound, c.requires.room, c.journal_len-len.ensures.number, c.journal_len-len.ensures.bound)

pub returns-clause-written : goal.returns-clause-written
unfolding packet_text
returns-clause-written c =
    let number = c.packets-number.ensures in
    let head = rw c.next_header.ensures at c.write_header.ensures in
    let section = rw (c.list_len.ensures.value, c.has_journal.ensures, number) at c.write_section_header.ensures in
    let journal = rw (c.checkpoint-checkpoint.ensures, number, c.next_tick-latest.ensures) at c.write_journal.ensures in
    joined (joined head (joined section c.write_list.ensures)) journal

pub returns-clause-bound : goal.returns-clause-bound
returns-clause-bound c =
    omega (arith, length-header-le c.list_len.result c.has_journal.result, c.write_header.ensures.spare, c.write_section_header.ensures.spare, c.write_list.ensures.spare, c.list_len.ensures.value, c.list_len.ensures.bound, c.write_journal.ensures.spare, c.journal_len-len.ensures.number, c.journal_len-len.ensures.bound)
