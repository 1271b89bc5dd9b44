use Rattle.std.proofs.Common.{ap, ◌∙◌}
use Rattle.std.specs.List.{list_any}
use Rattle.jm_cmds.specs.KeptItem.{kept_fresh}
use Rattle.ch_control.specs.ControlTable.{ControlsKept}
use Rattle.ch_control.specs.TableLaws.{controls_fresh}
use Rattle.ch_control.proofs.control_table.ControlTable.fresh.Goals as goal

pub returns-clause-stands : goal.returns-clause-stands
returns-clause-stands c = λ channel from sent e h.
    c.is_fresh.ensures ∙ ap (λ (t : ControlsKept). list_any (kept_fresh c.args.packet) t.kept) e ∙ controls_fresh channel from c.args.packet sent h
