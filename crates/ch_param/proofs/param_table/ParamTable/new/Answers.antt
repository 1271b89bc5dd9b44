use Rattle.std.proofs.Common.{sym}
use Rattle.ch_param.specs.ParamTableLaws.{params_none}
use Rattle.ch_param.proofs.param_table.ParamTable.new.Goals as goal

pub returns-clause-stands : goal.returns-clause-stands
returns-clause-stands c = λ channel. rw (c.none.ensures, c.new.ensures) (sym (params_none channel))
