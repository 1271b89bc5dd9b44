-- The selection of a parameter in a channel (RFC 6295, A.1 and A.3.4): a fold over the session's commands.
use Rattle.std.specs.Prelude.{ℕ, Bool, true, false, ◌&&◌, Option, Some, None, ◌==◌, if◌then◌else◌}
use Rattle.jm_cmds.specs.declared.commands.Command.{Command}
use Rattle.jm_cmds.specs.declared.commands.Command.TheVariants.{Control}
use Rattle.jm_cmds.specs.declared.controls.ControlKind.{ControlKind}
use Rattle.jm_cmds.specs.declared.controls.ControlKind.TheVariants.{DataEntry, Selection, ResetControllers}
use Rattle.jm_cmds.specs.Control.{control_kind, is_entry, is_reset}
use Rattle.jm_cmds.specs.declared.param.Param.{Param}
use Rattle.jm_cmds.specs.declared.selection.ParamCommand.{ParamCommand}
use Rattle.jm_cmds.specs.declared.selection.ParamCommand.TheVariants.{Select, Enter, Unselect, Clear, Pass}
use Rattle.jm_cmds.specs.declared.selection.Selection.{Selection as Halves}
use Rattle.jm_cmds.specs.Param.{param_of}

-- what a controller of this kind means for parameters
abbrev pub control_command : ControlKind → ℕ → ParamCommand
control_command (DataEntry high) value = Enter high value
control_command (Selection nrpn high) value = Select nrpn high value
control_command ResetControllers value = Unselect
control_command _ value = Pass

-- what a command means for the parameters of this channel
abbrev pub param_command : ℕ → Command → ParamCommand
param_command channel (Control at number value) =
    if at == channel then control_command (control_kind number) value else Pass
param_command channel command = if is_reset command then Clear else Pass

abbrev pub no_selection : Halves
no_selection = record { nrpn = false; rpn_high = None; rpn_low = None; nrpn_high = None; nrpn_low = None }

-- with one more half of a parameter's number, whose kind is then the latest
abbrev pub selection_with : (nrpn high : Bool) (value : ℕ) → Halves → Halves
selection_with true true value s = record s { nrpn = true; nrpn_high = Some value }
selection_with true false value s = record s { nrpn = true; nrpn_low = Some value }
selection_with false true value s = record s { nrpn = false; rpn_high = Some value }
selection_with false false value s = record s { nrpn = false; rpn_low = Some value }

abbrev pub selection_after : Halves → ParamCommand → Halves
selection_after s (Select nrpn high value) = selection_with nrpn high value s
selection_after s (Enter high value) = s
selection_after s Unselect = no_selection
selection_after s Clear = no_selection
selection_after s Pass = s

-- the selected parameter: that of the kind of the latest half
abbrev pub selected_param : Halves → Option Param
selected_param s = if s.nrpn then param_of true s.nrpn_high s.nrpn_low else param_of false s.rpn_high s.rpn_low

-- Control 6 or 38 of this channel
abbrev pub is_data_entry : ℕ → Command → Bool
is_data_entry channel (Control at number value) = at == channel && is_entry number
is_data_entry channel _ = false
