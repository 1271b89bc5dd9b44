-- The sustain pedal of a channel, and how often it was moved. That its changes are counted is this project's own use of
-- the toggle tool of Chapter C (RFC 6295, A.3.2 and A.3.3).
use Rattle.std.specs.Prelude.{ℕ, ◌+◌, ◌%◌, ◌<◌, Bool, false, List, fold, nat_le, ◌==◌, if◌then◌else◌}
use Rattle.std.proofs.Math.Bool.{beq}
use Rattle.jm_cmds.specs.declared.commands.Command.{Command}
use Rattle.jm_cmds.specs.declared.commands.Command.TheVariants.{Control}
use Rattle.jm_cmds.specs.declared.controls.ControlKind.{ControlKind}
use Rattle.jm_cmds.specs.declared.controls.ControlKind.TheVariants as controls
use Rattle.jm_cmds.specs.declared.history.Sent.{Sent}
use Rattle.jm_cmds.specs.Control.{control_kind, is_reset}
use Rattle.jm_cmds.specs.declared.pedal.Pedal.{Pedal}
use Rattle.jm_cmds.specs.declared.pedal.PedalEvent.{PedalEvent}
use Rattle.jm_cmds.specs.declared.pedal.PedalEvent.TheVariants.{Moved, Released, Other}

-- the values of Control 64 with which the pedal is down
abbrev pub is_on : (value : ℕ) → Bool
is_on value = nat_le 64 value

-- what a controller of this kind means for the pedal
abbrev pub control_pedal : ControlKind → (value : ℕ) → PedalEvent
control_pedal controls.Pedal value = Moved (is_on value)
control_pedal controls.ResetControllers value = Released
control_pedal _ value = Other

-- what a command means for the pedal of this channel
abbrev pub pedal_event : (channel : ℕ) → Command → PedalEvent
pedal_event channel (Control at number value) =
    if at == channel then control_pedal (control_kind number) value else Other
pedal_event channel command = if is_reset command then Released else Other

-- up, and never moved
abbrev pub no_pedal : Pedal
no_pedal = record { on = false; toggles = 0 }

-- A move to where the pedal is already changes nothing.
abbrev pub pedal_step : Pedal → PedalEvent → Pedal
pedal_step pedal (Moved on) =
    if beq on pedal.on then pedal else record { on = on; toggles = (pedal.toggles + 1) % 64 }
pedal_step pedal Released = no_pedal
pedal_step pedal Other = pedal

abbrev pub pedal_along : (channel : ℕ) → Pedal → Sent → Pedal
pedal_along channel pedal place = pedal_step pedal (pedal_event channel place.command)

-- the pedal of this channel behind these commands
unfoldable pub pedal_after : (channel : ℕ) → List Sent → Pedal
pedal_after channel sent = fold (pedal_along channel) no_pedal sent

-- toggles are counted modulo 64
abbrev pub IsPedal : Pedal → Type 0
IsPedal pedal = pedal.toggles < 64
