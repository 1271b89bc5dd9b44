-- Chapter W of a channel (RFC 6295, A.5, Figure A.5.1).
use Rattle.std.specs.Prelude.{ℕ, ◌+◌, Bool, List, [], ◌∷◌}
use Rattle.jm_cmds.specs.declared.history.Sent.{Sent}
use Rattle.jm_cmds.specs.Sent.{s_bit}
use Rattle.ch_voice.specs.declared.events.WheelEvent.{WheelEvent}
use Rattle.ch_voice.specs.declared.events.WheelEvent.TheVariants.{Moved, Cleared, Other}
use Rattle.ch_voice.specs.declared.item.VoiceItem.TheVariants.{Wheel as WheelItem}
use Rattle.ch_voice.specs.WheelEvent.{wheel_at}
use Rattle.ch_voice.specs.VoiceItem.{item_coded, item_chapter, fresh_chapter}

-- S FIRST, 0 SECOND, where the wheel is moved
abbrev pub wheel_octets : (s : ℕ) → WheelEvent → List ℕ
wheel_octets s (Moved first second) = (s + first) ∷ second ∷ []
wheel_octets s Cleared = []
wheel_octets s Other = []

-- the log of a place
abbrev pub wheel_log : (channel packet : ℕ) → Sent → List ℕ
wheel_log channel packet place = wheel_octets (s_bit packet place) (wheel_at channel place)

-- the places that the chapter codes in this packet's journal
abbrev pub coded_wheel : (channel checkpoint packet : ℕ) → List Sent → List Sent
coded_wheel channel checkpoint packet sent = item_coded WheelItem channel checkpoint packet sent

-- Chapter W of this channel in the journal of this packet, with this checkpoint.
unfoldable pub chapter_w : (channel checkpoint packet : ℕ) → List Sent → List ℕ
chapter_w channel checkpoint packet sent = item_chapter (wheel_log channel packet) WheelItem channel checkpoint packet sent

-- whether its S is 0
unfoldable pub fresh_w : (channel checkpoint packet : ℕ) → List Sent → Bool
fresh_w channel checkpoint packet sent = fresh_chapter WheelItem channel checkpoint packet sent
