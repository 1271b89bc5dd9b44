use Rattle.std.proofs.Common.{sym}
use Rattle.ch_control.specs.TableLaws.{controls_none}
use Rattle.ch_control.proofs.control_table.ControlTable.new.Goals as goal

pub returns-clause-stands : goal.returns-clause-stands
returns-clause-stands c = λ channel. rw (c.none.ensures.state, c.none-2.ensures) (sym (controls_none channel))
