use Rattle.std.proofs.Common.{ap, ◌∙◌}
use Rattle.ch_param.specs.ParamTable.{ParamsKept, rows_fresh}
use Rattle.ch_param.specs.ParamTableLaws.{params_fresh}
use Rattle.ch_param.proofs.param_table.ParamTable.fresh.Goals as goal

pub returns-clause-stands : goal.returns-clause-stands
returns-clause-stands c = λ channel from sent e o h.
    c.is_fresh.ensures ∙ ap (λ (t : ParamsKept). rows_fresh c.args.packet t.halves) e ∙ params_fresh channel from c.args.packet sent o h
