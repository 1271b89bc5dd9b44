use Rattle.ch_notes.specs.PolyTableLaws.{presses_push, press_up_to}
use Rattle.ch_notes.proofs.poly_table.PolyTable.note.Goals as goal

pub returns-clause-stands : goal.returns-clause-stands
returns-clause-stands c = λ channel from sent e h l.
    rw (c.change.ensures, c.ends_notes.ensures, c.poly_event.ensures.event, c.own_channel-channel.ensures, e)
    (presses_push channel from c.args.packet c.args.tick c.args.command.now sent h l)

pub returns-clause-order : goal.returns-clause-order
returns-clause-order c = λ later l.
    rw c.change.ensures (press_up_to c.ends_notes.result c.poly_event.result c.args.packet later c.args.self.now c.requires l)
