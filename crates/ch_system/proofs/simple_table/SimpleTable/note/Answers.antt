use Rattle.ch_system.specs.TableLaws.{simple_push}
use Rattle.ch_system.proofs.simple_table.SimpleTable.note.Goals as goal

pub returns-clause-stands : goal.returns-clause-stands
returns-clause-stands c = λ from sent e l.
    rw (c.change.ensures, e) (simple_push from c.args.packet c.args.tick c.args.command.now sent l)
