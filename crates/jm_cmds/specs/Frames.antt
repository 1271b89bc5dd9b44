-- MIDI Time Code by quarter frames (RFC 6295, B.4 and B.4.1).
use Rattle.std.specs.Prelude.{ℕ, ◌+◌, ◌-◌, ◌*◌, ◌/◌, ◌%◌, ◌<◌, Bool, true, false, List, Option, Some, None, fold, ◌==◌, if◌then◌else◌}
use Rattle.jm_cmds.specs.declared.commands.Command.{Command}
use Rattle.jm_cmds.specs.declared.commands.Command.TheVariants.{QuarterFrame}
use Rattle.jm_cmds.specs.declared.history.Sent.{Sent}
use Rattle.jm_cmds.specs.Control.{is_reset}
use Rattle.jm_cmds.specs.declared.frames.TimePart.{TimePart}
use Rattle.jm_cmds.specs.declared.frames.FrameEvent.{FrameEvent}
use Rattle.jm_cmds.specs.declared.frames.FrameEvent.TheVariants.{Framed, Cleared, Other}

abbrev pub frame_event : Command → FrameEvent
frame_event (QuarterFrame value) = Framed value
frame_event command = if is_reset command then Cleared else Other

abbrev pub IsFrameEvent : FrameEvent → Type 0
IsFrameEvent (Framed value) = value < 128
IsFrameEvent _ = Unit {0}

-- ## Nibbles

-- the weight of the nibble of a type: type 0 is the high end of a word of 32 bits
abbrev pub nibble_weight : ℕ → ℕ
nibble_weight kind =
    if kind == 0 then 0x10000000
    else (if kind == 1 then 0x1000000
    else (if kind == 2 then 0x100000
    else (if kind == 3 then 0x10000
    else (if kind == 4 then 0x1000
    else (if kind == 5 then 0x100
    else (if kind == 6 then 0x10
    else 1))))))

-- the word with this nibble in the place of what it has at this weight
abbrev pub nibble_at : (word nibble weight : ℕ) → ℕ
nibble_at word nibble weight = word - word / weight % 16 * weight + nibble * weight

unfoldable pub set_nibble : (word kind nibble : ℕ) → ℕ
set_nibble word kind nibble = nibble_at word nibble (nibble_weight kind)

-- ## Steps

-- what the first quarter frame starts from
abbrev pub time_code_from : Option TimePart → TimePart
time_code_from None = record { complete = None; partial = None; backward = false; point = 7 }
time_code_from (Some code) = code

-- A nibble that doesn't go on with the word. Type 0 begins one forward, type 7 one backward, and with another type there
-- is none.
abbrev pub restarted : (kind nibble : ℕ) → TimePart → TimePart
restarted kind nibble code =
    if kind == 0 then record code { partial = Some (set_nibble 0 0 nibble); backward = false; point = 0 }
    else (if kind == 7 then record code { partial = Some (set_nibble 0 7 nibble); backward = true; point = 7 }
    else record code { partial = None; point = if code.backward then 0 else 7 })

-- The next nibble of this word: it is complete with type 7 forward, and with type 0 backward.
abbrev pub advanced : (kind nibble word : ℕ) → TimePart → TimePart
advanced kind nibble word code =
    if kind == (if code.backward then 0 else 7)
    then record code { complete = Some (set_nibble word kind nibble); partial = None; point = kind }
    else record code { partial = Some (set_nibble word kind nibble); point = kind }

-- whether this type follows the last one of the word that is being spelled
abbrev pub is_next : ℕ → TimePart → Bool
is_next kind code = if code.backward then kind + 1 == code.point else kind == code.point + 1

abbrev pub framed_on : (kind nibble : ℕ) → TimePart → Option ℕ → TimePart
framed_on kind nibble code None = restarted kind nibble code
framed_on kind nibble code (Some word) = if is_next kind code then advanced kind nibble word code else restarted kind nibble code

-- one quarter frame more
abbrev pub framed : (kind nibble : ℕ) → TimePart → TimePart
framed kind nibble code = framed_on kind nibble code code.partial

-- the high three bits of a quarter frame are its type, the low four its nibble
abbrev pub time_code_step : Option TimePart → FrameEvent → Option TimePart
time_code_step state (Framed value) = Some (framed (value / 16) (value % 16) (time_code_from state))
time_code_step state Cleared = None
time_code_step state Other = state

abbrev pub time_code_along : Option TimePart → Sent → Option TimePart
time_code_along state place = time_code_step state (frame_event place.command)

-- The time code behind these commands: none where no quarter frame came since the last Reset State command.
unfoldable pub time_code_after : List Sent → Option TimePart
time_code_after sent = fold time_code_along None sent

-- POINT is a type
abbrev pub IsTimeCode : Option TimePart → Type 0
IsTimeCode None = Unit {0}
IsTimeCode (Some code) = code.point < 8
