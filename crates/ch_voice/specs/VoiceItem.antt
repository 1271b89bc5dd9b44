-- The items of Chapters W and T: what their latest command alone tells of a channel.
use Rattle.std.specs.Prelude.{ℕ, Bool, ◌&&◌, List, filter}
use Rattle.std.specs.List.{list_any, flat_map}
use Rattle.jm_cmds.specs.declared.commands.Command.{Command}
use Rattle.jm_cmds.specs.declared.history.Sent.{Sent}
use Rattle.jm_cmds.specs.History.{coded, below}
use Rattle.jm_cmds.specs.OneItem.{replaced}
use Rattle.jm_cmds.specs.Sent.{packet_of, is_fresh}
use Rattle.ch_voice.specs.declared.item.VoiceItem.{VoiceItem}
use Rattle.ch_voice.specs.declared.item.VoiceItem.TheVariants.{Wheel, Pressure}
use Rattle.ch_voice.specs.WheelEvent.{wheel_event, is_moved, ends_wheel}
use Rattle.ch_voice.specs.PressureEvent.{pressure_event, is_pressed, ends_pressure}

-- whether the command tells the item
abbrev pub tells : VoiceItem → (channel : ℕ) → Command → Bool
tells Wheel channel command = is_moved (wheel_event channel command)
tells Pressure channel command = is_pressed (pressure_event channel command)

-- whether behind it an earlier command of the item isn't coded
abbrev pub touches : VoiceItem → (channel : ℕ) → Command → Bool
touches Wheel channel command = ends_wheel (wheel_event channel command)
touches Pressure channel command = ends_pressure (pressure_event channel command)

abbrev pub tells_at : VoiceItem → (channel : ℕ) → Sent → Bool
tells_at item channel place = tells item channel place.command

abbrev pub touches_at : VoiceItem → (channel : ℕ) → Sent → Bool
touches_at item channel place = touches item channel place.command

-- what ends what: the latest command of the item that is active as its chapter asks stands
abbrev pub item_ends : VoiceItem → (channel : ℕ) → Sent → Sent → Bool
item_ends item channel place later = replaced (tells_at item channel) (touches_at item channel) place later

-- the places that a packet's journal codes
abbrev pub item_coded : VoiceItem → (channel checkpoint packet : ℕ) → List Sent → List Sent
item_coded item channel checkpoint packet sent = coded (item_ends item channel) packet_of checkpoint (below packet_of packet sent)

-- The one of them that tells the item, where it is coded.
unfoldable pub item_told : VoiceItem → (channel checkpoint packet : ℕ) → List Sent → List Sent
item_told item channel checkpoint packet sent = filter (tells_at item channel) (item_coded item channel checkpoint packet sent)

-- whether the packet before brought it
abbrev pub item_fresh : VoiceItem → (channel checkpoint packet : ℕ) → List Sent → Bool
item_fresh item channel checkpoint packet sent = list_any (is_fresh packet) (item_told item channel checkpoint packet sent)

-- ## Its chapter

-- the octets of the coded places, where `log` gives those of a place
abbrev pub item_chapter : (log : Sent → List ℕ) → VoiceItem → (channel checkpoint packet : ℕ) → List Sent → List ℕ
item_chapter log item channel checkpoint packet sent = flat_map log (item_coded item channel checkpoint packet sent)

-- whether its S is 0
abbrev pub fresh_chapter : VoiceItem → (channel checkpoint packet : ℕ) → List Sent → Bool
fresh_chapter item channel checkpoint packet sent =
    list_any (λ place. tells_at item channel place && is_fresh packet place) (item_coded item channel checkpoint packet sent)
