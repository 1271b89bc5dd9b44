use Rattle.ch_notes.specs.NoteTableLaws.{note_up_to}
use Rattle.ch_notes.specs.ExtraTableLaws.{extra_push}
use Rattle.ch_notes.proofs.extra_table.ExtraTable.note.Goals as goal

pub returns-clause-stands : goal.returns-clause-stands
returns-clause-stands c = λ channel from sent e h l.
    rw (c.change.ensures, c.note_event.ensures.event, c.own_channel.ensures, e)
    (extra_push channel from c.args.packet c.args.tick c.args.command.now sent h l)

pub returns-clause-order : goal.returns-clause-order
returns-clause-order c = λ later l.
    rw c.change.ensures (note_up_to c.note_event.result c.args.packet c.args.tick later c.args.self.now.notes c.requires l)
