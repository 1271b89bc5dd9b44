use Rattle.std.proofs.Common.{ap, ◌∙◌}
use Rattle.jm_cmds.specs.Selection.{selected_param}
use Rattle.ch_param.specs.ChapterM.{param_parts}
use Rattle.ch_param.specs.ParamTable.{ParamsKept}
use Rattle.ch_param.specs.ParamTableLaws.{params_selected}
use Rattle.ch_param.proofs.param_table.ParamTable.selected.Goals as goal

pub returns-clause-stands : goal.returns-clause-stands
returns-clause-stands c = λ channel from sent e.
    c.selection_parts.ensures ∙ ap (λ (t : ParamsKept). param_parts (selected_param t.selection)) e ∙ params_selected channel from sent
