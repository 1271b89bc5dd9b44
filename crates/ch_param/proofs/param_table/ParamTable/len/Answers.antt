use Rattle.std.proofs.Common.{length, ap, ◌∙◌}
use Rattle.ch_param.specs.ParamTable.{ParamsKept, params_text}
use Rattle.ch_param.specs.ParamTableLaws.{params_coded}
use Rattle.ch_param.proofs.param_table.ParamTable.len.Goals as goal

pub returns-clause-stands : goal.returns-clause-stands
returns-clause-stands c = λ channel from sent e o h.
    c.text_len.ensures.number ∙ ap length (ap (λ (t : ParamsKept). params_text c.args.packet t.halves) e ∙ params_coded channel from c.args.packet sent o h)
