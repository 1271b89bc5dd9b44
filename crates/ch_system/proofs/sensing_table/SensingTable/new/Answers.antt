use Rattle.std.proofs.Common.{sym, ◌∙◌}
use Rattle.ch_system.specs.TableLaws.{sensing_none}
use Rattle.ch_system.proofs.sensing_table.SensingTable.new.Goals as goal

pub returns-clause-stands : goal.returns-clause-stands
returns-clause-stands c = c.none.ensures.state ∙ sym sensing_none
