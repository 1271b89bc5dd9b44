use Rattle.ch_control.specs.TableLaws.{controls_push, noted_up_to}
use Rattle.ch_control.proofs.control_table.ControlTable.note.Goals as goal

pub returns-clause-stands : goal.returns-clause-stands
returns-clause-stands c = λ channel from sent e h l.
    rw (c.change.ensures, c.control_event.ensures.event, c.pedal_event.ensures, c.own_channel-channel.ensures, e) (controls_push channel from c.args.packet c.args.tick c.args.command.now sent h l)

pub returns-clause-order : goal.returns-clause-order
returns-clause-order c = λ later l.
    rw c.change.ensures (noted_up_to c.control_event.result c.args.packet later c.args.self.now.kept c.requires l)
