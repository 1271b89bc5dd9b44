use Rattle.std.proofs.Common.{ap, ◌∙◌}
use Rattle.jm_cmds.specs.declared.param.Param.{Param}
use Rattle.ch_param.specs.ParamTable.{ParamsKept, has_row}
use Rattle.ch_param.specs.ParamTableLaws.{params_has}
use Rattle.ch_param.proofs.param_table.ParamTable.has_param.Goals as goal

pub returns-clause-stands : goal.returns-clause-stands
returns-clause-stands c = λ channel from sent e o.
    let param : Param = record { nrpn = c.args.nrpn; high = c.args.high; low = c.args.low } in
    c.holds.ensures ∙ ap (λ (t : ParamsKept). has_row param t.halves) e ∙ params_has channel from param sent o
