-- The lines of a receiver's state: one for each part that is there.
use Rattle.std.specs.Prelude.{◌≡◌, ℕ, zero, suc, ◌+◌, ◌-◌, ◌<◌, ◌≤◌, Bool, true, false, List, [], ◌∷◌, ◌++◌, ◌&&◌, ◌==◌, if◌then◌else◌, Option, Some, None, option_map, is_none}
use Rattle.std.proofs.Common.{refl, arith}
use Rattle.std.specs.List.{flat_map, range_with_len}
use Rattle.jm_state.specs.declared.state.State.{State}
use Rattle.jm_state.specs.declared.entered.Halves.{Halves}
use Rattle.jm_state.specs.Parts.{song_of, sequencer_of, time_code_of, sysex_count_of, program_of, control_of, toggles_of, selection_of, param_of, wheel_of, note_of, pressure_of, poly_of}
use Rattle.jm_script.specs.declared.answer.AnswerLine.TheVariants as answer
use Rattle.jm_script.specs.declared.answer.StatePart.{StatePart}
use Rattle.jm_script.specs.declared.answer.StatePart.TheVariants.{Song, Sequencer, Time, Sysex, Program, Control, Pedal, Select, Param, Wheel, Note, Pressure, Poly}
use Rattle.jm_script.specs.AnswerText.{answer_text}
use Rattle.midi_host.specs.declared.state_lines.Numbered.{Numbered}
use Rattle.midi_host.specs.declared.state_lines.Numbered.TheVariants.{Controls, Params, Notes, Polys}

-- the line of a part, if it is there
abbrev pub part_line : Option StatePart → List ℕ
part_line None = []
part_line (Some part) = answer_text (answer.Part part)

-- a count that is 0 is no part
abbrev pub counted_part : ℕ → StatePart → Option StatePart
counted_part count part = if count == 0 then None else Some part

abbrev pub wheel_part : (channel : ℕ) → Option (ℕ × ℕ) → Option StatePart
wheel_part channel None = None
wheel_part channel (Some wheel) = Some (Wheel channel wheel.0 wheel.1)

-- a parameter of which no half was entered is no part
abbrev pub halves_part : (channel : ℕ) → (nrpn : Bool) → (high low : ℕ) → Halves → Option StatePart
halves_part channel nrpn high low halves =
    if is_none halves.entry_high && is_none halves.entry_low then None else Some (Param channel nrpn high low halves)

-- the part of this kind and channel that has this number
abbrev pub numbered_part : State → (channel : ℕ) → Numbered → (number : ℕ) → Option StatePart
numbered_part state channel Controls number = option_map (Control channel number) (control_of state channel number)
numbered_part state channel (Params nrpn high) number = halves_part channel nrpn high number (param_of state channel nrpn high number)
numbered_part state channel Notes number = option_map (Note channel number) (note_of state channel number)
numbered_part state channel Polys number = option_map (Poly channel number) (poly_of state channel number)

-- the numbers from the first on that are below the end, ascending
unfoldable pub numbers_from : (first end : ℕ) → List ℕ
numbers_from first end = range_with_len first (end - first)

pub numbers_more : (first end : ℕ) → first < end → numbers_from first end ≡ first ∷ numbers_from (first + 1) end
unfolding numbers_from
numbers_more first end few = let more : end - first ≡ suc (end - (first + 1)) = omega arith in rw more refl

pub numbers_none : (first end : ℕ) → end ≤ first → numbers_from first end ≡ []
unfolding numbers_from
numbers_none first end many = let none : end - first ≡ zero = omega arith in rw none refl

abbrev pub number_line : State → (channel : ℕ) → Numbered → (number : ℕ) → List ℕ
number_line state channel kind number = part_line (numbered_part state channel kind number)

-- the lines of the parts of this kind, by their numbers from 0 to 127
unfoldable pub numbered_lines : State → (channel : ℕ) → Numbered → List ℕ
numbered_lines state channel kind = flat_map (number_line state channel kind) (numbers_from 0 128)

-- the lines of the parameters of this kind and high half, by their low halves
abbrev pub high_lines : State → (channel : ℕ) → (nrpn : Bool) → (high : ℕ) → List ℕ
high_lines state channel nrpn high = numbered_lines state channel (Params nrpn high)

-- those of this kind, by their numbers
unfoldable pub params_lines : State → (channel : ℕ) → (nrpn : Bool) → List ℕ
params_lines state channel nrpn = flat_map (high_lines state channel nrpn) (numbers_from 0 128)

-- ## A channel

abbrev pub before_params : State → (channel : ℕ) → List ℕ
before_params state channel =
    part_line (option_map (Program channel) (program_of state channel))
    ++ numbered_lines state channel Controls
    ++ part_line (counted_part (toggles_of state channel) (Pedal channel (toggles_of state channel)))
    ++ part_line (option_map (Select channel) (selection_of state channel))

abbrev pub behind_params : State → (channel : ℕ) → List ℕ
behind_params state channel =
    part_line (wheel_part channel (wheel_of state channel))
    ++ numbered_lines state channel Notes
    ++ part_line (option_map (Pressure channel) (pressure_of state channel))
    ++ numbered_lines state channel Polys

unfoldable pub channel_lines : State → (channel : ℕ) → List ℕ
channel_lines state channel =
    before_params state channel
    ++ params_lines state channel false
    ++ params_lines state channel true
    ++ behind_params state channel

-- ## The whole

-- the parts that the whole session has
unfoldable pub session_lines : State → List ℕ
session_lines state =
    part_line (option_map Song (song_of state))
    ++ part_line (option_map Sequencer (sequencer_of state))
    ++ part_line (option_map Time (time_code_of state))
    ++ part_line (counted_part (sysex_count_of state) (Sysex (sysex_count_of state)))

unfoldable pub state_lines : State → List ℕ
state_lines state = session_lines state ++ flat_map (channel_lines state) (numbers_from 0 16)
