use Rattle.ch_voice.specs.TableLaws.{wheel_push}
use Rattle.ch_voice.proofs.wheel_table.WheelTable.note.Goals as goal

pub returns-clause-stands : goal.returns-clause-stands
returns-clause-stands c = λ channel from sent e h l.
    rw (c.change.ensures, c.wheel_event.ensures, c.own_channel.ensures, e) (wheel_push channel from c.args.packet c.args.tick c.args.command.now sent h l)
