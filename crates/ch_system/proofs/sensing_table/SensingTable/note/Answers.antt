use Rattle.ch_system.specs.TableLaws.{sensing_push}
use Rattle.ch_system.proofs.sensing_table.SensingTable.note.Goals as goal

pub returns-clause-stands : goal.returns-clause-stands
returns-clause-stands c = λ from sent e l.
    rw (c.change.ensures, e) (sensing_push from c.args.packet c.args.tick c.args.command.now sent l)
