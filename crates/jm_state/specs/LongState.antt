-- A long command sets no part.
use Rattle.std.proofs.Common.{◌≡◌, true, refl}
use Rattle.jm_cmds.specs.declared.commands.Command.{Command}
use Rattle.jm_cmds.specs.declared.commands.Command.TheVariants.{NoteOff, NoteOn, PolyPressure, Control, Program, Pressure, Wheel, QuarterFrame, SongPosition, SongSelect, TuneRequest, Clock, Start, Continue, Stop, ActiveSensing, SystemReset, Sysex}
use Rattle.jm_cmds.specs.Command.{is_long}
use Rattle.jm_cmds.specs.LongLaws.{long_unkept, long_no_reset}
use Rattle.jm_state.specs.declared.state.State.{State}
use Rattle.jm_state.specs.Apply.{applied}

pub long_sets_nothing : (s : State) (command : Command) → is_long command ≡ true → applied s command ≡ s
long_sets_nothing s (NoteOff channel note velocity) long = absurd cc
long_sets_nothing s (NoteOn channel note velocity) long = absurd cc
long_sets_nothing s (PolyPressure channel note value) long = absurd cc
long_sets_nothing s (Control channel number value) long = absurd cc
long_sets_nothing s (Program channel program) long = absurd cc
long_sets_nothing s (Pressure channel value) long = absurd cc
long_sets_nothing s (Wheel channel first second) long = absurd cc
long_sets_nothing s (QuarterFrame value) long = absurd cc
long_sets_nothing s (SongPosition value) long = absurd cc
long_sets_nothing s (SongSelect song) long = absurd cc
long_sets_nothing s TuneRequest long = absurd cc
long_sets_nothing s Clock long = absurd cc
long_sets_nothing s Start long = absurd cc
long_sets_nothing s Continue long = absurd cc
long_sets_nothing s Stop long = absurd cc
long_sets_nothing s ActiveSensing long = absurd cc
long_sets_nothing s SystemReset long = absurd cc
long_sets_nothing s (Sysex octets) long = rw (long_no_reset octets long, long_unkept octets long) refl
