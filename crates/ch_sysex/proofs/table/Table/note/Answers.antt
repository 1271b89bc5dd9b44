use Rattle.ch_sysex.specs.TableLaws.{sysex_push, noted_up_to}
use Rattle.ch_sysex.proofs.table.Table.note.Goals as goal

pub returns-clause-stands : goal.returns-clause-stands
returns-clause-stands c = λ from sent e l.
    rw (c.change.ensures, c.sysex_event.ensures, c.data_of.ensures.octets, e) (sysex_push from c.args.packet c.args.tick c.args.command.now sent l)

pub returns-clause-order : goal.returns-clause-order
returns-clause-order c = λ later l.
    rw c.change.ensures (noted_up_to c.sysex_event.result c.data_of.result.now c.args.packet later c.args.self.now c.requires.order l)
