-- What the table of Chapter W keeps.
use Rattle.std.specs.Prelude.{ℕ, List, [], ◌∷◌}
use Rattle.std.specs.List.{flat_map}
use Rattle.jm_cmds.specs.declared.history.Sent.{Sent}
use Rattle.jm_cmds.specs.KeptItem.{kept, kept_fresh}
use Rattle.jm_cmds.specs.Sent.{packet_of, s_of}
use Rattle.ch_voice.specs.declared.events.WheelEvent.{WheelEvent}
use Rattle.ch_voice.specs.declared.events.WheelEvent.TheVariants.{Moved, Cleared, Other}
use Rattle.ch_voice.specs.declared.item.VoiceItem.TheVariants.{Wheel as WheelItem}
use Rattle.ch_voice.specs.WheelEvent.{wheel_at}
use Rattle.ch_voice.specs.ChapterW.{wheel_octets}
use Rattle.ch_voice.specs.VoiceItem.{tells_at, touches_at}

-- The move of the wheel that a journal with this checkpoint codes behind these commands, with its packet.
unfoldable pub wheel_kept : (channel checkpoint : ℕ) → List Sent → List (ℕ × WheelEvent)
wheel_kept channel checkpoint sent = kept (tells_at WheelItem channel) (touches_at WheelItem channel) packet_of (wheel_at channel) checkpoint sent

-- one command more
abbrev pub wheel_noted : WheelEvent → (packet : ℕ) → List (ℕ × WheelEvent) → List (ℕ × WheelEvent)
wheel_noted (Moved first second) packet ks = (packet, Moved first second) ∷ []
wheel_noted Cleared packet ks = []
wheel_noted Other packet ks = ks

-- its octets in a packet's journal
abbrev pub wheel_text : (packet : ℕ) → List (ℕ × WheelEvent) → List ℕ
wheel_text packet ks = flat_map (λ k. wheel_octets (s_of (kept_fresh packet k)) k.1) ks
