use Rattle.std.proofs.Common.{length, ap, ◌∙◌}
use Rattle.ch_param.specs.ParamTable.{ParamsKept, last_halves}
use Rattle.ch_param.specs.ParamTableLaws.{params_count}
use Rattle.ch_param.proofs.param_table.ParamTable.params.Goals as goal

pub returns-clause-stands : goal.returns-clause-stands
returns-clause-stands c = λ channel from sent e o.
    c.coded_count.ensures ∙ ap (λ (t : ParamsKept). length (last_halves t.halves)) e ∙ params_count channel from sent o
