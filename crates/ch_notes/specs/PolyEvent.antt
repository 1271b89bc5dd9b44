-- What a command means for the pressures on the keys of one channel (RFC 6295, A.1 and A.9).
use Rattle.std.specs.Prelude.{ℕ, ◌<◌, List, Bool, true, false, Option, Some, None, ◌==◌, if◌then◌else◌}
use Rattle.std.specs.List.{AllByRecursion}
use Rattle.jm_cmds.specs.declared.commands.Command.{Command}
use Rattle.jm_cmds.specs.declared.commands.Command.TheVariants.{PolyPressure}
use Rattle.jm_cmds.specs.declared.history.Sent.{Sent}
use Rattle.jm_cmds.specs.Control.{ends_controllers}
use Rattle.ch_notes.specs.declared.presses.PolyEvent.{PolyEvent}
use Rattle.ch_notes.specs.declared.presses.PolyEvent.TheVariants.{Pressed, Dropped, Other}

abbrev pub poly_event : ℕ → Command → PolyEvent
poly_event channel (PolyPressure at note value) = if at == channel then Pressed note value else Other
poly_event channel command = if ends_controllers channel command then Dropped else Other

-- the note is a note
abbrev pub IsWithin : PolyEvent → Type 0
IsWithin (Pressed note value) = note < 128
IsWithin Dropped = Unit {0}
IsWithin Other = Unit {0}

-- whether this event is of the note, or ends it with all others
abbrev pub poly_concerns : ℕ → PolyEvent → Bool
poly_concerns note (Pressed other value) = note == other
poly_concerns note Dropped = true
poly_concerns note Other = false

-- whether the later event takes the place of the earlier one, or makes it inactive
abbrev pub poly_event_ends : PolyEvent → PolyEvent → Bool
poly_event_ends (Pressed note value) later = poly_concerns note later
poly_event_ends Dropped later = false
poly_event_ends Other later = false

-- the event of a place of the history
abbrev pub poly_at : ℕ → Sent → PolyEvent
poly_at channel place = poly_event channel place.command

-- What ends what among the pressures on the keys of a channel: the last one on each note that is C-active
-- stands.
abbrev pub poly_ends : ℕ → Sent → Sent → Bool
poly_ends channel place later = poly_event_ends (poly_at channel place) (poly_at channel later)

-- so of each place
abbrev pub ArePresses : ℕ → List Sent → Type 0
ArePresses channel places = AllByRecursion (λ place. IsWithin (poly_at channel place)) places

-- the note that is pressed
abbrev pub pressed_note : PolyEvent → Option ℕ
pressed_note (Pressed note value) = Some note
pressed_note Dropped = None
pressed_note Other = None

abbrev pub poly_key : ℕ → Sent → Option ℕ
poly_key channel place = pressed_note (poly_at channel place)

abbrev pub is_poly : Command → Bool
is_poly (PolyPressure at note value) = true
is_poly command = false

-- whether it is a pressure on this note
abbrev pub presses : ℕ → PolyEvent → Bool
presses note (Pressed other value) = note == other
presses note Dropped = false
presses note Other = false
