-- Chapter T of a channel (RFC 6295, A.8, Figure A.8.1).
use Rattle.std.specs.Prelude.{ℕ, ◌+◌, Bool, List, [], ◌∷◌}
use Rattle.jm_cmds.specs.declared.history.Sent.{Sent}
use Rattle.jm_cmds.specs.Sent.{s_bit}
use Rattle.ch_voice.specs.declared.events.PressureEvent.{PressureEvent}
use Rattle.ch_voice.specs.declared.events.PressureEvent.TheVariants.{Pressed, Cleared, Other}
use Rattle.ch_voice.specs.declared.item.VoiceItem.TheVariants.{Pressure as PressureItem}
use Rattle.ch_voice.specs.PressureEvent.{pressure_at}
use Rattle.ch_voice.specs.VoiceItem.{item_coded, item_chapter, fresh_chapter}

-- S PRESSURE, where the pressure is told
abbrev pub pressure_octets : (s : ℕ) → PressureEvent → List ℕ
pressure_octets s (Pressed value) = (s + value) ∷ []
pressure_octets s Cleared = []
pressure_octets s Other = []

-- the log of a place
abbrev pub pressure_log : (channel packet : ℕ) → Sent → List ℕ
pressure_log channel packet place = pressure_octets (s_bit packet place) (pressure_at channel place)

-- the places that the chapter codes in this packet's journal
abbrev pub coded_pressure : (channel checkpoint packet : ℕ) → List Sent → List Sent
coded_pressure channel checkpoint packet sent = item_coded PressureItem channel checkpoint packet sent

-- Chapter T of this channel in the journal of this packet, with this checkpoint.
unfoldable pub chapter_t : (channel checkpoint packet : ℕ) → List Sent → List ℕ
chapter_t channel checkpoint packet sent = item_chapter (pressure_log channel packet) PressureItem channel checkpoint packet sent

-- whether its S is 0
unfoldable pub fresh_t : (channel checkpoint packet : ℕ) → List Sent → Bool
fresh_t channel checkpoint packet sent = fresh_chapter PressureItem channel checkpoint packet sent
