use Rattle.std.proofs.Common.{sym}
use Rattle.ch_voice.specs.TableLaws.{pressure_none}
use Rattle.ch_voice.proofs.pressure_table.PressureTable.new.Goals as goal

pub returns-clause-stands : goal.returns-clause-stands
returns-clause-stands c = λ channel. sym (pressure_none channel)
