-- What holds of long commands, and of those that one packet holds whole.
use Rattle.std.proofs.Common.{◌≡◌, ◌≤◌, ◌∷◌, [], ℕ, List, true, false, length, length-append, refl, arith}
use Rattle.std.proofs.lemmas.Bool.{ltb-true, ltb-false, lt-leb}
use Rattle.jm_cmds.specs.declared.commands.Command.{Command}
use Rattle.jm_cmds.specs.declared.commands.Command.TheVariants.{NoteOff, NoteOn, PolyPressure, Control, Program, Pressure, Wheel, QuarterFrame, SongPosition, SongSelect, TuneRequest, Clock, Start, Continue, Stop, ActiveSensing, SystemReset, Sysex}
use Rattle.jm_cmds.specs.Command.{spelling, is_long}
use Rattle.jm_cmds.specs.Control.{is_reset_message}
use Rattle.jm_cmds.specs.Data.{is_kept_message, is_long_message}

-- a long message is not kept for repair
pub long_unkept : (octets : List ℕ) → is_long_message octets ≡ true → is_kept_message octets ≡ false
long_unkept octets long = lt-leb (length octets) 254 (let many = ltb-true 2046 (length octets) long in omega arith)

-- and is no Reset State command
pub long_no_reset : (octets : List ℕ) → is_long_message octets ≡ true → is_reset_message octets ≡ false
long_no_reset [] long = refl
long_no_reset (a ∷ []) long = refl
long_no_reset (a ∷ b ∷ []) long = refl
long_no_reset (a ∷ b ∷ c ∷ []) long = refl
long_no_reset (a ∷ b ∷ c ∷ d ∷ []) long = absurd cc
long_no_reset (a ∷ b ∷ c ∷ d ∷ e ∷ rest) long = refl

-- a command that isn't long has at most 2,048 octets
pub whole_few : (command : Command) → is_long command ≡ false → length (spelling command) ≤ 2048
whole_few (NoteOff channel note velocity) short = omega arith
whole_few (NoteOn channel note velocity) short = omega arith
whole_few (PolyPressure channel note value) short = omega arith
whole_few (Control channel number value) short = omega arith
whole_few (Program channel program) short = omega arith
whole_few (Pressure channel value) short = omega arith
whole_few (Wheel channel first second) short = omega arith
whole_few (QuarterFrame value) short = omega arith
whole_few (SongPosition value) short = omega arith
whole_few (SongSelect song) short = omega arith
whole_few TuneRequest short = omega arith
whole_few Clock short = omega arith
whole_few Start short = omega arith
whole_few Continue short = omega arith
whole_few Stop short = omega arith
whole_few ActiveSensing short = omega arith
whole_few SystemReset short = omega arith
whole_few (Sysex octets) short = omega (arith, length-append octets (0xf7 ∷ []), ltb-false 2046 (length octets) short)
