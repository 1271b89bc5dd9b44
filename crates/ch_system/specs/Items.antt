-- The items of the system chapters (RFC 6295, B.1 to B.4), and where each is coded.
use Rattle.std.specs.Prelude.{ℕ, ◌%◌, Bool, true, false, ◌||◌, List, filter, count_by}
use Rattle.std.specs.List.{list_any}
use Rattle.jm_cmds.specs.declared.commands.Command.{Command}
use Rattle.jm_cmds.specs.declared.commands.Command.TheVariants.{QuarterFrame, SongPosition, SongSelect, TuneRequest, Clock, Start, Continue, Stop, ActiveSensing, SystemReset}
use Rattle.jm_cmds.specs.declared.history.Sent.{Sent}
use Rattle.jm_cmds.specs.Control.{is_reset}
use Rattle.jm_cmds.specs.History.{coded, below}
use Rattle.jm_cmds.specs.OneItem.{replaced}
use Rattle.jm_cmds.specs.Sent.{packet_of, is_fresh}
use Rattle.ch_system.specs.declared.items.SystemItem.{SystemItem}
use Rattle.ch_system.specs.declared.items.SystemItem.TheVariants.{Reset, Tune, Song, Sensing, Sequence, Frames}

-- ## What an item is

abbrev pub is_system_reset : Command → Bool
is_system_reset SystemReset = true
is_system_reset _ = false

abbrev pub is_tune : Command → Bool
is_tune TuneRequest = true
is_tune _ = false

abbrev pub is_song : Command → Bool
is_song (SongSelect song) = true
is_song _ = false

abbrev pub is_sensing : Command → Bool
is_sensing ActiveSensing = true
is_sensing _ = false

abbrev pub is_sequence : Command → Bool
is_sequence Clock = true
is_sequence Start = true
is_sequence Continue = true
is_sequence Stop = true
is_sequence (SongPosition value) = true
is_sequence _ = false

abbrev pub is_frame : Command → Bool
is_frame (QuarterFrame value) = true
is_frame _ = false

-- whether the command is of this item
abbrev pub is_of : SystemItem → Command → Bool
is_of Reset command = is_system_reset command
is_of Tune command = is_tune command
is_of Song command = is_song command
is_of Sensing command = is_sensing command
is_of Sequence command = is_sequence command
is_of Frames command = is_frame command

abbrev pub is_place_of : SystemItem → Sent → Bool
is_place_of item place = is_of item place.command

-- ## What is coded of it

-- whether behind this place an earlier one of the item isn't coded: it is of the item, or a Reset State command
abbrev pub touches : SystemItem → Sent → Bool
touches item place = is_of item place.command || is_reset place.command

-- What ends what: a later command of the item takes the place of an earlier one, and a Reset State command makes it
-- inactive.
abbrev pub item_ends : SystemItem → Sent → Sent → Bool
item_ends item place later = replaced (is_place_of item) (touches item) place later

-- The place that a packet's journal codes of the item. It is one at most.
unfoldable pub item_coded : SystemItem → (checkpoint packet : ℕ) → List Sent → List Sent
item_coded item checkpoint packet sent = filter (is_place_of item) (coded (item_ends item) packet_of checkpoint (below packet_of packet sent))

-- whether the packet before brought what is coded of the item
abbrev pub item_fresh : SystemItem → (checkpoint packet : ℕ) → List Sent → Bool
item_fresh item checkpoint packet sent = list_any (is_fresh packet) (item_coded item checkpoint packet sent)

-- ## How often it was sent

-- the commands of the item among these places
abbrev pub item_total : SystemItem → List Sent → ℕ
item_total item places = count_by (is_place_of item) places

-- their number modulo 128, over a whole session: resets don't matter
unfoldable pub item_count : SystemItem → List Sent → ℕ
item_count item session = item_total item session % 128
