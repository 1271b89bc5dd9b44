-- What the places of a history mean for the parameters of one channel (RFC 6295, A.1 and A.4).
use Rattle.std.specs.Prelude.{ℕ, Bool, true, false, ◌&&◌, List, Option, Some, None}
use Rattle.std.proofs.Math.Bool.{beq}
use Rattle.jm_cmds.specs.declared.history.Sent.{Sent}
use Rattle.jm_cmds.specs.History.{scanned}
use Rattle.jm_cmds.specs.declared.param.Param.{Param}
use Rattle.jm_cmds.specs.declared.selection.ParamCommand.{ParamCommand}
use Rattle.jm_cmds.specs.declared.selection.ParamCommand.TheVariants.{Select, Enter, Unselect, Clear, Pass}
use Rattle.jm_cmds.specs.declared.selection.Selection.{Selection}
use Rattle.ch_param.specs.declared.events.ParamEvent.{ParamEvent}
use Rattle.ch_param.specs.declared.events.ParamEvent.TheVariants.{Entry, Cleared, Other}
use Rattle.jm_cmds.specs.Param.{same_param}
use Rattle.jm_cmds.specs.Selection.{param_command, selection_after, selected_param}

-- a half of the value of the parameter that is selected, if one is
abbrev pub entry : (high : Bool) (value : ℕ) → Option Param → ParamEvent
entry high value (Some param) = Entry param high value
entry high value None = Other

abbrev pub param_event : Selection → ParamCommand → ParamEvent
param_event s (Enter high value) = entry high value (selected_param s)
param_event s Clear = Cleared
param_event s (Select nrpn high value) = Other
param_event s Unselect = Other
param_event s Pass = Other

-- ## Places, each with the selection before it

abbrev pub Place : Type 0
Place = Selection × Sent

abbrev pub selection_step : (channel : ℕ) → Selection → Sent → Selection
selection_step channel s sent = selection_after s (param_command channel sent.command)

abbrev pub placed : (channel : ℕ) → Selection → List Sent → List Place
placed channel s sent = scanned (selection_step channel) s sent

abbrev pub packet_at : Place → ℕ
packet_at place = place.1.packet

abbrev pub event_at : (channel : ℕ) → Place → ParamEvent
event_at channel place = param_event place.0 (param_command channel place.1.command)

-- ## What ends what

-- whether this event is of the parameter, or clears all
abbrev pub takes_param : Param → ParamEvent → Bool
takes_param param (Entry other high value) = same_param param other
takes_param param Cleared = true
takes_param param Other = false

-- whether it is of this half of the parameter, or clears all
abbrev pub takes_half : Param → (high : Bool) → ParamEvent → Bool
takes_half param high (Entry other half value) = same_param param other && beq high half
takes_half param high Cleared = true
takes_half param high Other = false

abbrev pub param_event_ends : ParamEvent → ParamEvent → Bool
param_event_ends (Entry param high value) later = takes_param param later
param_event_ends Cleared later = false
param_event_ends Other later = false

abbrev pub half_event_ends : ParamEvent → ParamEvent → Bool
half_event_ends (Entry param high value) later = takes_half param high later
half_event_ends Cleared later = false
half_event_ends Other later = false

-- The latest entry of each parameter stands, where it is active.
abbrev pub param_ends : (channel : ℕ) → Place → Place → Bool
param_ends channel place later = param_event_ends (event_at channel place) (event_at channel later)

-- The latest entry of each half of each parameter stands, where it is active.
abbrev pub half_ends : (channel : ℕ) → Place → Place → Bool
half_ends channel place later = half_event_ends (event_at channel place) (event_at channel later)
