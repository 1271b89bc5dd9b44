use Rattle.std.proofs.Common.{sym}
use Rattle.ch_voice.specs.TableLaws.{wheel_none}
use Rattle.ch_voice.proofs.wheel_table.WheelTable.new.Goals as goal

pub returns-clause-stands : goal.returns-clause-stands
returns-clause-stands c = λ channel. sym (wheel_none channel)
