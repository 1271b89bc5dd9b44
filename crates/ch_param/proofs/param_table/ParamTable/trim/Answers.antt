use Rattle.std.proofs.Common.{ap, sym, ◌∙◌}
use Rattle.ch_param.specs.ParamTable.{ParamsKept, param_cut}
use Rattle.ch_param.specs.ParamTableLaws.{params_later}
use Rattle.ch_param.proofs.param_table.ParamTable.trim.Goals as goal

pub returns-clause-stands : goal.returns-clause-stands
returns-clause-stands c = λ channel from sent e l.
    c.cut.ensures ∙ ap (λ (t : ParamsKept). param_cut c.args.packet t) e ∙ sym (params_later channel from c.args.packet sent l)
