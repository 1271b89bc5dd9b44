-- What the table of Chapter C keeps.
use Rattle.std.specs.Prelude.{ℕ, ◌+◌, ◌≤◌, Bool, true, false, not, List, [], ◌∷◌, ◌++◌, ◌==◌, if◌then◌else◌, filter, map, length, slice_index}
use Rattle.std.specs.List.{flat_map, list_any, AllByRecursion}
use Rattle.jm_cmds.specs.declared.history.Sent.{Sent}
use Rattle.jm_cmds.specs.declared.pedal.Pedal.{Pedal}
use Rattle.jm_cmds.specs.declared.pedal.PedalEvent.{PedalEvent}
use Rattle.jm_cmds.specs.Control.{is_counted}
use Rattle.jm_cmds.specs.History.{coded}
use Rattle.jm_cmds.specs.KeptItem.{kept_fresh, kept_since}
use Rattle.jm_cmds.specs.Pedal.{pedal_step, pedal_after}
use Rattle.jm_cmds.specs.Sent.{packet_of, s_of}
use Rattle.jm_chapter.specs.declared.log.Log.{Log}
use Rattle.jm_chapter.specs.Logs.{logs_text, with_header}
use Rattle.ch_control.specs.declared.counts.Counts.{Counts}
use Rattle.ch_control.specs.declared.events.ControlEvent.{ControlEvent}
use Rattle.ch_control.specs.declared.events.ControlEvent.TheVariants.{Set, Dropped, Other}
use Rattle.ch_control.specs.ControlEvent.{is_kept, event_at, event_ends, control_ends}
use Rattle.ch_control.specs.Counts.{counts_after, count_in, session_counts}

-- Of the whole session the counts and the pedal; and the controls that a journal codes, oldest first, each with its packet.
pub record ControlsKept : Type 0 where
  pub counts : Counts
  pub pedal : Pedal
  pub kept : List (ℕ × ControlEvent)

-- ## What it stands for

abbrev pub is_set : ControlEvent → Bool
is_set (Set number value) = true
is_set Dropped = false
is_set Other = false

-- the packet and the event of each place that tells a controller
abbrev pub sets_of : (channel : ℕ) → List Sent → List (ℕ × ControlEvent)
sets_of channel places = map {B = ℕ × ControlEvent} (λ place. (packet_of place, event_at channel place)) (filter (λ place. is_set (event_at channel place)) places)

-- What is kept behind these commands, with this checkpoint: it trims the controls, and neither counts nor pedal.
unfoldable pub controls_kept : (channel checkpoint : ℕ) → List Sent → ControlsKept
controls_kept channel checkpoint sent = record {
  counts = session_counts channel sent;
  pedal = pedal_after channel sent;
  kept = sets_of channel (coded (control_ends channel) packet_of checkpoint sent);
}

-- none is of a packet past this one
abbrev pub AreKeptUpTo : (packet : ℕ) → List (ℕ × ControlEvent) → Type 0
AreKeptUpTo packet ks = AllByRecursion (λ k. k.0 ≤ packet) ks

-- ## What the calls do

-- a control is kept itself
abbrev pub kept_of : (packet : ℕ) → ControlEvent → List (ℕ × ControlEvent)
kept_of packet (Set number value) = (packet, Set number value) ∷ []
kept_of packet Dropped = []
kept_of packet Other = []

-- one event more: what it ends goes
abbrev pub kept_noted : ControlEvent → (packet : ℕ) → List (ℕ × ControlEvent) → List (ℕ × ControlEvent)
kept_noted event packet ks = filter (λ k. not (event_ends k.1 event)) ks ++ kept_of packet event

abbrev pub controls_noted : ControlEvent → PedalEvent → (packet : ℕ) → ControlsKept → ControlsKept
controls_noted event pedal packet table = record {
  counts = counts_after table.counts event;
  pedal = pedal_step table.pedal pedal;
  kept = kept_noted event packet table.kept;
}

-- a later checkpoint trims the controls
abbrev pub controls_cut : (packet : ℕ) → ControlsKept → ControlsKept
controls_cut packet table = record { counts = table.counts; pedal = table.pedal; kept = kept_since packet table.kept }

-- ## Its octets

-- A=0 and the value, or A=1, then 1, and the count
abbrev pub field_of : Counts → (number value : ℕ) → ℕ
field_of counts number value = if is_counted number then 192 + count_in counts number else value

-- the logs of a control; that of Control 64 has its toggles behind it
abbrev pub logs_of : Counts → (toggles : ℕ) → ControlEvent → List Log
logs_of counts toggles (Set number value) =
    record { number = number; field = field_of counts number value } ∷ (if number == 64 then record { number = number; field = 128 + toggles } ∷ [] else [])
logs_of counts toggles Dropped = []
logs_of counts toggles Other = []

abbrev pub logs_count : Counts → (toggles : ℕ) → List (ℕ × ControlEvent) → ℕ
logs_count counts toggles ks = length (flat_map (λ k. logs_of counts toggles k.1) ks)

abbrev pub kept_texts : Counts → (toggles packet : ℕ) → List (ℕ × ControlEvent) → List ℕ
kept_texts counts toggles packet ks = flat_map (λ k. logs_text (s_of (kept_fresh packet k)) (logs_of counts toggles k.1)) ks

-- its chapter in a packet's journal
abbrev pub controls_text : (packet : ℕ) → ControlsKept → List ℕ
controls_text packet table =
    with_header (logs_count table.counts table.pedal.toggles table.kept) (list_any (kept_fresh packet) table.kept) (kept_texts table.counts table.pedal.toggles packet table.kept)

-- ## In keys and arrays

-- the controls of these numbers, each with its value in the array
abbrev pub controls_in : (values : List ℕ) → List (ℕ × ℕ) → List (ℕ × ControlEvent)
controls_in values es = map {B = ℕ × ControlEvent} (λ e. (e.1, Set e.0 (slice_index values e.0))) es

-- the other number of the same item, or the number itself where there is none
abbrev pub twin_of : ℕ → ℕ
twin_of number =
    if number == 124 then 125
    else (if number == 125 then 124
    else (if number == 126 then 127
    else (if number == 127 then 126 else number)))

-- those that Control 121 leaves
abbrev pub left_by_121 : List (ℕ × ℕ) → List (ℕ × ℕ)
left_by_121 es = filter (λ e. is_kept e.0) es
