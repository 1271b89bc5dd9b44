use Rattle.std.proofs.Common.{ap, ◌∙◌}
use Rattle.ch_system.specs.Tables.{simple_fresh}
use Rattle.ch_system.specs.TableLaws.{simple_any}
use Rattle.ch_system.proofs.simple_table.SimpleTable.fresh.Goals as goal

pub returns-clause-stands : goal.returns-clause-stands
returns-clause-stands c = λ from sent e h.
    c.is_fresh.ensures ∙ ap (simple_fresh c.args.packet) e ∙ simple_any from c.args.packet sent h
