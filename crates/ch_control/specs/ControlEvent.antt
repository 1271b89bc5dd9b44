-- What a command means for the controllers of one channel (RFC 6295, A.3).
use Rattle.std.specs.Prelude.{◌≡◌, ℕ, ◌+◌, ◌%◌, ◌<◌, List, Bool, true, false, not, ◌&&◌, ◌||◌, nat_le, ◌==◌, if◌then◌else◌, count_by}
use Rattle.std.specs.List.{AllByRecursion}
use Rattle.jm_cmds.specs.declared.commands.Command.{Command}
use Rattle.jm_cmds.specs.declared.commands.Command.TheVariants.{Control}
use Rattle.jm_cmds.specs.declared.history.Sent.{Sent}
use Rattle.jm_cmds.specs.Control.{is_entry, is_counted, is_reset}
use Rattle.ch_control.specs.declared.events.ControlEvent.{ControlEvent}
use Rattle.ch_control.specs.declared.events.ControlEvent.TheVariants.{Set, Dropped, Other}

-- ## Controllers by their numbers

-- the item of a controller: 124 and 125 are one, and so are 126 and 127
unfoldable pub item_of : ℕ → ℕ
item_of number = if number == 125 then 124 else (if number == 127 then 126 else number)

-- Whether Control 121 leaves it as it is, so that it is coded while it is active. That these are 0, 32 and 120 to 127 is
-- this project's own choice.
unfoldable pub is_kept : ℕ → Bool
is_kept number = number == 0 || number == 32 || nat_le 120 number

-- ## Events

abbrev pub control_event : (channel : ℕ) → Command → ControlEvent
control_event channel (Control at number value) =
    if at == channel && not (is_entry number) then Set number value else Other
control_event channel command = if is_reset command then Dropped else Other

-- the number is one of a controller of this chapter
abbrev pub IsWithin : ControlEvent → Type 0
IsWithin (Set number value) = (number < 128) × (is_entry number ≡ false)
IsWithin Dropped = Unit {0}
IsWithin Other = Unit {0}

-- Whether this event is of the controller's item, or makes it inactive: a Reset State command, or
-- Control 121 where it sets the controller back.
abbrev pub concerns : (number : ℕ) → ControlEvent → Bool
concerns number (Set other value) = item_of number == item_of other || (other == 121 && not (is_kept number))
concerns number Dropped = true
concerns number Other = false

-- whether the later event takes the place of the earlier one, or makes it inactive
abbrev pub event_ends : (event later : ControlEvent) → Bool
event_ends (Set number value) later = concerns number later
event_ends Dropped later = false
event_ends Other later = false

-- the event of a place of the history
abbrev pub event_at : (channel : ℕ) → Sent → ControlEvent
event_at channel place = control_event channel place.command

-- what ends what among the controllers of a channel
abbrev pub control_ends : (channel : ℕ) → (place later : Sent) → Bool
control_ends channel place later = event_ends (event_at channel place) (event_at channel later)

-- so of each place
abbrev pub AreWithin : (channel : ℕ) → List Sent → Type 0
AreWithin channel places = AllByRecursion (λ place. IsWithin (event_at channel place)) places

-- ## Counts

abbrev pub is_control : (number : ℕ) → ControlEvent → Bool
is_control number (Set other value) = other == number
is_control number Dropped = false
is_control number Other = false

-- the number of commands of this controller of the channel in the session
abbrev pub control_count : (channel number : ℕ) → (session : List Sent) → ℕ
control_count channel number session = count_by (λ place. is_control number (event_at channel place)) session

-- The second octet of a log: A=0 and the value, or A=1, then 1, and the count modulo 64.
abbrev pub value_field : (channel : ℕ) → (session : List Sent) → (number value : ℕ) → ℕ
value_field channel session number value =
    if is_counted number then 192 + control_count channel number session % 64 else value
