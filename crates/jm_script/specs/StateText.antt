-- What is printed of the parts of a receiver's state.
use Rattle.std.specs.Prelude.{ℕ, Bool, List, ◌++◌, Option, Some, None, codes, decimal, if◌then◌else◌}
use Rattle.jm_cmds.specs.declared.selection.Selection.{Selection}
use Rattle.jm_cmds.specs.declared.sequencing.SequencerPart.{SequencerPart}
use Rattle.jm_cmds.specs.declared.frames.TimePart.{TimePart}
use Rattle.jm_state.specs.declared.entered.Halves.{Halves}
use Rattle.jm_script.specs.Piece.{seven_text, frames_text}
use Rattle.jm_script.specs.declared.answer.StatePart.{StatePart}
use Rattle.jm_script.specs.declared.answer.StatePart.TheVariants.{Song, Sequencer, Time, Sysex, Program, Control, Pedal, Select, Param, Wheel, Note, Pressure, Poly}

-- 1 where it is so, else 0
abbrev pub flag_text : Bool → List ℕ
flag_text b = if b then codes "1" else codes "0"

-- which kind of parameter it is, behind a space
abbrev pub kind_text : (nrpn : Bool) → List ℕ
kind_text nrpn = if nrpn then codes " nrpn" else codes " rpn"

unfoldable pub sequencer_text : SequencerPart → List ℕ
sequencer_text part = codes "sequencer " ++ flag_text part.running ++ codes " " ++ flag_text part.downbeat ++ codes " " ++ decimal part.position ++ codes "\n"

unfoldable pub time_text : TimePart → List ℕ
time_text part = codes "time " ++ frames_text part.complete ++ codes " " ++ frames_text part.partial ++ codes " " ++ flag_text part.backward ++ codes " " ++ decimal part.point ++ codes "\n"

-- a program, with its bank where it has one
unfoldable pub program_text : (channel program : ℕ) → Option (ℕ × ℕ) → List ℕ
program_text channel program None = codes "program " ++ decimal channel ++ codes " " ++ decimal program ++ codes "\n"
program_text channel program (Some bank) = codes "program " ++ decimal channel ++ codes " " ++ decimal program ++ codes " " ++ decimal bank.0 ++ codes " " ++ decimal bank.1 ++ codes "\n"

-- the kind of the last half that came, then the halves of registered parameters and of the others, the high ones first
unfoldable pub select_text : (channel : ℕ) → Selection → List ℕ
select_text channel part = codes "select " ++ decimal channel ++ kind_text part.nrpn ++ seven_text part.rpn_high ++ seven_text part.rpn_low ++ seven_text part.nrpn_high ++ seven_text part.nrpn_low ++ codes "\n"

unfoldable pub param_text : (channel : ℕ) → (nrpn : Bool) → (high low : ℕ) → Halves → List ℕ
param_text channel nrpn high low halves = codes "param " ++ decimal channel ++ kind_text nrpn ++ codes " " ++ decimal high ++ codes " " ++ decimal low ++ seven_text halves.entry_high ++ seven_text halves.entry_low ++ codes "\n"

-- a word, a channel and two numbers
abbrev pub pair_text : (word : List ℕ) → (channel first second : ℕ) → List ℕ
pair_text word channel first second = word ++ decimal channel ++ codes " " ++ decimal first ++ codes " " ++ decimal second ++ codes "\n"

-- a word, a channel and a number
abbrev pub single_text : (word : List ℕ) → (channel value : ℕ) → List ℕ
single_text word channel value = word ++ decimal channel ++ codes " " ++ decimal value ++ codes "\n"

unfoldable pub part_text : StatePart → List ℕ
part_text (Song song) = codes "song " ++ decimal song ++ codes "\n"
part_text (Sequencer part) = sequencer_text part
part_text (Time part) = time_text part
part_text (Sysex count) = codes "sysex " ++ decimal count ++ codes "\n"
part_text (Program channel part) = program_text channel part.program part.bank
part_text (Control channel number value) = pair_text (codes "control ") channel number value
part_text (Pedal channel count) = single_text (codes "pedal ") channel count
part_text (Select channel part) = select_text channel part
part_text (Param channel nrpn high low halves) = param_text channel nrpn high low halves
part_text (Wheel channel first second) = pair_text (codes "wheel ") channel first second
part_text (Note channel note velocity) = pair_text (codes "note ") channel note velocity
part_text (Pressure channel value) = single_text (codes "pressure ") channel value
part_text (Poly channel note value) = pair_text (codes "poly ") channel note value
