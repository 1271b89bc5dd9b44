-- The channel of a command.
use Rattle.std.specs.Prelude.{◌≡◌, ℕ, Option, Some, None, MatchOption, unwrap_or}
use Rattle.std.proofs.Common.{refl, ap}
use Rattle.jm_cmds.specs.declared.commands.Command.{Command}
use Rattle.jm_cmds.specs.declared.commands.Command.TheVariants.{NoteOff, NoteOn, PolyPressure, Control, Program, Pressure, Wheel}

-- the channel of a channel command
abbrev pub channel_of : Command → Option ℕ
channel_of (NoteOff channel note velocity) = Some channel
channel_of (NoteOn channel note velocity) = Some channel
channel_of (PolyPressure channel note value) = Some channel
channel_of (Control channel number value) = Some channel
channel_of (Program channel program) = Some channel
channel_of (Pressure channel value) = Some channel
channel_of (Wheel channel first second) = Some channel
channel_of _ = None

-- the same, and 0 for a system command
abbrev pub own_channel : Command → ℕ
own_channel command = unwrap_or (channel_of command) 0

-- a command of this channel, or of no channel
abbrev pub IsForChannel : (channel : ℕ) → Command → Type 0
IsForChannel channel command = MatchOption (channel_of command) (Unit {0}) (λ at. at ≡ channel)

-- what system commands mean is the same for each channel
abbrev pub SystemMeansOne : {E : Type 0} → (event : ℕ → Command → E) → Type 0
SystemMeansOne event = (command : Command) → channel_of command ≡ None → (a b : ℕ) → event a command ≡ event b command

by_channel : {E : Type 0} (event : ℕ → Command → E) → SystemMeansOne event → (channel : ℕ) (command : Command) (of : Option ℕ) → channel_of command ≡ of → MatchOption of (Unit {0}) (λ at. at ≡ channel) →
    event (unwrap_or of 0) command ≡ event channel command
by_channel event system channel command None e h = system command e 0 channel
by_channel event system channel command (Some at) e h = ap (λ c. event c command) h

-- what a command means for a channel is what it means for its own
pub own-event : {E : Type 0} (event : ℕ → Command → E) → SystemMeansOne event → (channel : ℕ) (command : Command) → IsForChannel channel command → event (own_channel command) command ≡ event channel command
own-event event system channel command h = by_channel event system channel command (channel_of command) refl h
