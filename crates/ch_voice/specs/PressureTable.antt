-- What the table of Chapter T keeps.
use Rattle.std.specs.Prelude.{ℕ, List, [], ◌∷◌}
use Rattle.std.specs.List.{flat_map}
use Rattle.jm_cmds.specs.declared.history.Sent.{Sent}
use Rattle.jm_cmds.specs.KeptItem.{kept, kept_fresh}
use Rattle.jm_cmds.specs.Sent.{packet_of, s_of}
use Rattle.ch_voice.specs.declared.events.PressureEvent.{PressureEvent}
use Rattle.ch_voice.specs.declared.events.PressureEvent.TheVariants.{Pressed, Cleared, Other}
use Rattle.ch_voice.specs.declared.item.VoiceItem.TheVariants.{Pressure as PressureItem}
use Rattle.ch_voice.specs.PressureEvent.{pressure_at}
use Rattle.ch_voice.specs.ChapterT.{pressure_octets}
use Rattle.ch_voice.specs.VoiceItem.{tells_at, touches_at}

-- The pressure that a journal with this checkpoint codes behind these commands, with its packet.
unfoldable pub pressure_kept : (channel checkpoint : ℕ) → List Sent → List (ℕ × PressureEvent)
pressure_kept channel checkpoint sent = kept (tells_at PressureItem channel) (touches_at PressureItem channel) packet_of (pressure_at channel) checkpoint sent

-- one command more
abbrev pub pressure_noted : PressureEvent → (packet : ℕ) → List (ℕ × PressureEvent) → List (ℕ × PressureEvent)
pressure_noted (Pressed value) packet ks = (packet, Pressed value) ∷ []
pressure_noted Cleared packet ks = []
pressure_noted Other packet ks = ks

-- its octets in a packet's journal
abbrev pub pressure_text : (packet : ℕ) → List (ℕ × PressureEvent) → List ℕ
pressure_text packet ks = flat_map (λ k. pressure_octets (s_of (kept_fresh packet k)) k.1) ks
