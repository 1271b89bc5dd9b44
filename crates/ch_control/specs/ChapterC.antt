-- Chapter C of a channel (RFC 6295, A.3, Figure A.3.1, and A.3.2, Figures A.3.2 and A.3.3).
use Rattle.std.specs.Prelude.{ℕ, ◌+◌, Bool, List, [], ◌∷◌, ◌==◌, if◌then◌else◌}
use Rattle.jm_cmds.specs.declared.history.Sent.{Sent}
use Rattle.jm_cmds.specs.History.{coded, below}
use Rattle.jm_cmds.specs.Sent.{packet_of}
use Rattle.jm_cmds.specs.Pedal.{pedal_after}
use Rattle.jm_chapter.specs.declared.log.Log.{Log}
use Rattle.jm_chapter.specs.Logs.{listed, has_fresh}
use Rattle.ch_control.specs.declared.events.ControlEvent.{ControlEvent}
use Rattle.ch_control.specs.declared.events.ControlEvent.TheVariants.{Set, Dropped, Other}
use Rattle.ch_control.specs.ControlEvent.{event_at, control_ends, value_field}

-- ## Logs

-- S NUMBER, A VALUE
abbrev pub value_log : (channel : ℕ) → (session : List Sent) → (number value : ℕ) → Log
value_log channel session number value = record { number = number; field = value_field channel session number value }

-- The log of the sustain pedal's toggles: S NUMBER, A=1, then 0, and how often the session moved the pedal. That Control
-- 64 is told by its value and by its toggles is this project's own choice.
abbrev pub toggle_log : (channel : ℕ) → (session : List Sent) → (number : ℕ) → Log
toggle_log channel session number = record { number = number; field = 128 + (pedal_after channel session).toggles }

-- Control 64 has both.
abbrev pub set_logs : (channel : ℕ) → (session : List Sent) → (number value : ℕ) → List Log
set_logs channel session number value =
    value_log channel session number value ∷ (if number == 64 then toggle_log channel session number ∷ [] else [])

abbrev pub event_logs : (channel : ℕ) → (session : List Sent) → ControlEvent → List Log
event_logs channel session (Set number value) = set_logs channel session number value
event_logs channel session Dropped = []
event_logs channel session Other = []

-- the logs that a place of the session has
abbrev pub control_logs : (channel : ℕ) → (session : List Sent) → Sent → List Log
control_logs channel session place = event_logs channel session (event_at channel place)

-- ## The chapter

-- the places that the chapter codes in this packet's journal
abbrev pub coded_controls : (channel checkpoint packet : ℕ) → List Sent → List Sent
coded_controls channel checkpoint packet sent = coded (control_ends channel) packet_of checkpoint (below packet_of packet sent)

-- Chapter C of this channel in the journal of this packet.
unfoldable pub chapter_c : (channel checkpoint packet : ℕ) → List Sent → List ℕ
chapter_c channel checkpoint packet sent = listed (control_logs channel (below packet_of packet sent)) packet (coded_controls channel checkpoint packet sent)

-- whether an S bit of the chapter is 0
unfoldable pub fresh_c : (channel checkpoint packet : ℕ) → List Sent → Bool
fresh_c channel checkpoint packet sent = has_fresh (control_logs channel (below packet_of packet sent)) packet (coded_controls channel checkpoint packet sent)
