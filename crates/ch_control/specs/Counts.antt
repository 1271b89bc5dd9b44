-- How often a session sent the controllers of a channel that are counted.
use Rattle.std.specs.Prelude.{ℕ, ◌+◌, ◌%◌, ◌<◌, List, ◌==◌, if◌then◌else◌}
use Rattle.jm_cmds.specs.declared.history.Sent.{Sent}
use Rattle.jm_cmds.specs.Pedal.{no_pedal, IsPedal}
use Rattle.ch_control.specs.declared.session.Session.{Session}
use Rattle.ch_control.specs.declared.counts.Counts.{Counts}
use Rattle.ch_control.specs.declared.events.ControlEvent.{ControlEvent}
use Rattle.ch_control.specs.declared.events.ControlEvent.TheVariants.{Set, Dropped, Other}
use Rattle.ch_control.specs.ControlEvent.{control_count}

abbrev pub no_counts : Counts
no_counts = record { increments = 0; decrements = 0; sounds_off = 0; set_backs = 0; notes_off = 0 }

-- each is below 64
abbrev pub AreCounts : Counts → Type 0
AreCounts counts = (counts.increments < 64) × (counts.decrements < 64) × (counts.sounds_off < 64) × (counts.set_backs < 64) × (counts.notes_off < 64)

-- the count of this controller behind a command of that one
abbrev pub count_step : (number other count : ℕ) → ℕ
count_step number other count = if other == number then (count + 1) % 64 else count

-- a command more of this controller
abbrev pub one_more : (number : ℕ) → Counts → Counts
one_more number counts = record {
  increments = count_step 96 number counts.increments;
  decrements = count_step 97 number counts.decrements;
  sounds_off = count_step 120 number counts.sounds_off;
  set_backs = count_step 121 number counts.set_backs;
  notes_off = count_step 123 number counts.notes_off;
}

-- an event more
abbrev pub counts_after : Counts → ControlEvent → Counts
counts_after counts (Set number value) = one_more number counts
counts_after counts Dropped = counts
counts_after counts Other = counts

-- the count of a controller that is counted
abbrev pub count_in : Counts → (number : ℕ) → ℕ
count_in counts number =
    if number == 96 then counts.increments
    else (if number == 97 then counts.decrements
    else (if number == 120 then counts.sounds_off
    else (if number == 121 then counts.set_backs
    else (if number == 123 then counts.notes_off else 0))))

-- the counts of a channel behind these commands, modulo 64
abbrev pub session_counts : (channel : ℕ) → List Sent → Counts
session_counts channel sent = record {
  increments = control_count channel 96 sent % 64;
  decrements = control_count channel 97 sent % 64;
  sounds_off = control_count channel 120 sent % 64;
  set_backs = control_count channel 121 sent % 64;
  notes_off = control_count channel 123 sent % 64;
}

-- ## With the pedal

abbrev pub no_session : Session
no_session = record { counts = no_counts; pedal = no_pedal }

-- what is counted modulo 64 is below it
abbrev pub IsSession : Session → Type 0
IsSession session = AreCounts session.counts × IsPedal session.pedal
