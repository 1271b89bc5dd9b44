-- An event that is written is spelled.
use Rattle.std.proofs.Common.{◌≡◌, ℕ, ◌+◌, ◌-◌, ◌<◌, true, false, eqb, ltb, List, [], ◌∷◌, ◌++◌, length, refl, ap, subst, ◌∙◌, append_assoc, length-append, add-one, arith}
use Rattle.std.proofs.lemmas.Bool.{lt-ltb, le-ltb, ne_eqb}
use Rattle.std.proofs.lemmas.List.{append-nil}
use Rattle.jm_wire.specs.Delta.{value, delta}
use Rattle.jm_wire.specs.DeltaWriting as deltas
use Rattle.jm_cmds.specs.declared.commands.Command.{Command}
use Rattle.jm_cmds.specs.declared.commands.Command.TheVariants.{NoteOff, NoteOn, PolyPressure, Control, Program, Pressure, Wheel, QuarterFrame, SongPosition, SongSelect, TuneRequest, Clock, Start, Continue, Stop, ActiveSensing, SystemReset, Sysex}
use Rattle.jm_cmds.specs.Command.{spelling, status_of, IsCommand}
use Rattle.jm_cmds.specs.Data.{IsSysex}
use Rattle.jm_smf.specs.declared.before.Before.{Before}
use Rattle.jm_smf.specs.File.{lead, event}
use Rattle.jm_smf.specs.Grammar.{IsBlock, Escapes, wholly, behind_channel, no_running, message_ended, SpellsEvent, with_status, message, escape}

-- an event that is written stands behind its delta, and no message is begun
pub record IsSpelled (before : Before) (ticks : ℕ) (command : Command) : Type 0 where
  pub text : List ℕ
  pub after : Before
  pub event_is : event ticks command ≡ delta ticks ++ text
  pub spelled : SpellsEvent before text (command ∷ []) after
  pub ended : after.unfinished ≡ false

-- a length that is written, and as many octets
block_written : (octets : List ℕ) → length octets < 268435456 → IsBlock (delta (length octets) ++ octets) octets
block_written octets few =
    let w = deltas.written (length octets) few in
    record { field = delta (length octets); field_is = w.field; size_is = w.value_is; text_is = refl }

channel_spelled : (before : Before) (ticks : ℕ) (command : Command) → before.unfinished ≡ false → IsCommand command → status_of command < 0xf0 → IsSpelled before ticks command
unfolding event lead
channel_spelled before ticks command e h low =
    let first : ltb (status_of command) 0xf0 ≡ true = lt-ltb (status_of command) 0xf0 low in
    let other : eqb (status_of command) 0xf0 ≡ false = ne_eqb (status_of command) 0xf0 (λ z. omega (arith, low, z)) in
    record {
      text = spelling command;
      after = behind_channel before command;
      event_is = rw (first, other) (ap (λ (t : List ℕ). t ++ spelling command) (append-nil (delta ticks)));
      spelled = with_status command h low;
      ended = e;
    }

escape_spelled : (before : Before) (ticks : ℕ) (command : Command) → before.unfinished ≡ false → IsCommand command → 0xf0 < status_of command → length (spelling command) < 268435456 → IsSpelled before ticks command
unfolding event lead
escape_spelled before ticks command e h high few =
    let first : ltb (status_of command) 0xf0 ≡ false = le-ltb (status_of command) 0xf0 (omega (arith, high)) in
    let other : eqb (status_of command) 0xf0 ≡ false = ne_eqb (status_of command) 0xf0 (λ z. omega (arith, high, z)) in
    let field = delta (length (spelling command)) in
    let one : Escapes (spelling command) (command ∷ []) = subst (λ (t : List ℕ). Escapes t (command ∷ [])) (append-nil (spelling command)) (wholly (command ∷ []) (h, tt)) in
    record {
      text = 0xf7 ∷ (field ++ spelling command);
      after = message_ended;
      event_is = rw (first, other) (append_assoc (delta ticks) (0xf7 ∷ field) (spelling command));
      spelled = escape (field ++ spelling command) (spelling command) (command ∷ []) e (block_written (spelling command) few) one;
      ended = refl;
    }

message_spelled : (before : Before) (ticks : ℕ) (octets : List ℕ) → before.unfinished ≡ false → IsSysex octets → IsSpelled before ticks (Sysex octets)
unfolding event lead
message_spelled before ticks octets e h =
    let inside = octets ++ 0xf7 ∷ [] in
    let len : length inside ≡ length octets + 1 = grind (arith, length-append, add-one) in
    let size : length (0xf0 ∷ inside) - 1 ≡ length inside = omega arith in
    record {
      text = 0xf0 ∷ (delta (length inside) ++ inside);
      after = no_running before;
      event_is =
          ap (λ (n : ℕ). (delta ticks ++ 0xf0 ∷ delta n) ++ inside) size
          ∙ append_assoc (delta ticks) (0xf0 ∷ delta (length inside)) inside;
      spelled = message (delta (length inside) ++ inside) octets h (block_written inside (omega (arith, len, h.few)));
      ended = e;
    }

-- What is written of a command is an event that spells it, where no message is begun.
pub event_is_spelled : (before : Before) (ticks : ℕ) (command : Command) → before.unfinished ≡ false → IsCommand command → IsSpelled before ticks command
event_is_spelled before ticks (NoteOff channel note velocity) e h = channel_spelled before ticks (NoteOff channel note velocity) e h (omega (arith, h.0))
event_is_spelled before ticks (NoteOn channel note velocity) e h = channel_spelled before ticks (NoteOn channel note velocity) e h (omega (arith, h.0))
event_is_spelled before ticks (PolyPressure channel note value) e h = channel_spelled before ticks (PolyPressure channel note value) e h (omega (arith, h.0))
event_is_spelled before ticks (Control channel number value) e h = channel_spelled before ticks (Control channel number value) e h (omega (arith, h.0))
event_is_spelled before ticks (Program channel program) e h = channel_spelled before ticks (Program channel program) e h (omega (arith, h.0))
event_is_spelled before ticks (Pressure channel value) e h = channel_spelled before ticks (Pressure channel value) e h (omega (arith, h.0))
event_is_spelled before ticks (Wheel channel first second) e h = channel_spelled before ticks (Wheel channel first second) e h (omega (arith, h.0))
event_is_spelled before ticks (QuarterFrame value) e h = escape_spelled before ticks (QuarterFrame value) e h (omega arith) (omega arith)
event_is_spelled before ticks (SongPosition value) e h = escape_spelled before ticks (SongPosition value) e h (omega arith) (omega arith)
event_is_spelled before ticks (SongSelect song) e h = escape_spelled before ticks (SongSelect song) e h (omega arith) (omega arith)
event_is_spelled before ticks TuneRequest e h = escape_spelled before ticks TuneRequest e h (omega arith) (omega arith)
event_is_spelled before ticks Clock e h = escape_spelled before ticks Clock e h (omega arith) (omega arith)
event_is_spelled before ticks Start e h = escape_spelled before ticks Start e h (omega arith) (omega arith)
event_is_spelled before ticks Continue e h = escape_spelled before ticks Continue e h (omega arith) (omega arith)
event_is_spelled before ticks Stop e h = escape_spelled before ticks Stop e h (omega arith) (omega arith)
event_is_spelled before ticks ActiveSensing e h = escape_spelled before ticks ActiveSensing e h (omega arith) (omega arith)
event_is_spelled before ticks SystemReset e h = escape_spelled before ticks SystemReset e h (omega arith) (omega arith)
event_is_spelled before ticks (Sysex octets) e h = message_spelled before ticks octets e h
