-- What a command means for the notes of one channel (RFC 6295, A.1 and A.6).
use Rattle.std.specs.Prelude.{ℕ, ◌<◌, List, Bool, true, false, ◌==◌, if◌then◌else◌}
use Rattle.jm_cmds.specs.declared.commands.Command.{Command}
use Rattle.jm_cmds.specs.declared.commands.Command.TheVariants.{NoteOff, NoteOn}
use Rattle.jm_cmds.specs.declared.history.Sent.{Sent}
use Rattle.std.specs.List.{AllByRecursion}
use Rattle.jm_cmds.specs.Control.{ends_notes}
use Rattle.ch_notes.specs.declared.events.NoteEvent.{NoteEvent}
use Rattle.ch_notes.specs.declared.events.NoteEvent.TheVariants.{Struck, Released, Cleared, Other}

abbrev pub note_event : ℕ → Command → NoteEvent
note_event channel (NoteOn at note velocity) =
    if at == channel then (if velocity == 0 then Released note 64 else Struck note velocity) else Other
note_event channel (NoteOff at note velocity) = if at == channel then Released note velocity else Other
note_event channel command = if ends_notes channel command then Cleared else Other

-- the note is a note, and a struck one has a velocity
abbrev pub IsWithin : NoteEvent → Type 0
IsWithin (Struck note velocity) = (note < 128) × (velocity < 128) × (0 < velocity)
IsWithin (Released note velocity) = note < 128
IsWithin Cleared = Unit {0}
IsWithin Other = Unit {0}

-- whether this event is of the note, or ends it with all others
abbrev pub concerns : ℕ → NoteEvent → Bool
concerns note (Struck other velocity) = note == other
concerns note (Released other velocity) = note == other
concerns note Cleared = true
concerns note Other = false

-- whether the later event takes the place of the earlier one, or makes it inactive
abbrev pub event_ends : NoteEvent → NoteEvent → Bool
event_ends (Struck note velocity) later = concerns note later
event_ends (Released note velocity) later = concerns note later
event_ends Cleared later = false
event_ends Other later = false

-- the event of a place of the history
abbrev pub event_at : ℕ → Sent → NoteEvent
event_at channel place = note_event channel place.command

-- what ends what among the notes of a channel: the last command of each note that is N-active stands
abbrev pub note_ends : ℕ → Sent → Sent → Bool
note_ends channel place later = event_ends (event_at channel place) (event_at channel later)

-- so of each place
abbrev pub AreWithin : ℕ → List Sent → Type 0
AreWithin channel places = AllByRecursion (λ place. IsWithin (event_at channel place)) places
