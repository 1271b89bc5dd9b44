-- Chapters W and T by the place that tells their item.
use Rattle.std.proofs.Common.{◌≡◌, ℕ, true, false, List, [], ◌∷◌, ap, refl, ◌∙◌, append-nil}
use Rattle.std.specs.List.{flat_map, filter}
use Rattle.jm_cmds.specs.declared.history.Sent.{Sent}
use Rattle.jm_cmds.specs.History.{standing, coded, below}
use Rattle.jm_cmds.specs.OnePlace.{one_standing, Touching, flat_map-told, any-told}
use Rattle.jm_cmds.specs.Sent.{packet_of, is_fresh, s_bit}
use Rattle.ch_voice.specs.declared.events.WheelEvent.{WheelEvent}
use Rattle.ch_voice.specs.declared.events.WheelEvent.TheVariants as wheels
use Rattle.ch_voice.specs.declared.events.PressureEvent.{PressureEvent}
use Rattle.ch_voice.specs.declared.events.PressureEvent.TheVariants as pressures
use Rattle.ch_voice.specs.declared.item.VoiceItem.{VoiceItem}
use Rattle.ch_voice.specs.declared.item.VoiceItem.TheVariants.{Wheel, Pressure}
use Rattle.ch_voice.specs.WheelEvent.{wheel_at, is_moved, ends_wheel}
use Rattle.ch_voice.specs.PressureEvent.{pressure_at, is_pressed, ends_pressure}
use Rattle.ch_voice.specs.VoiceItem.{tells_at, touches_at, item_ends, item_coded, item_told, item_fresh, item_chapter, fresh_chapter}
use Rattle.ch_voice.specs.ChapterW.{chapter_w, fresh_w, wheel_octets, wheel_log}
use Rattle.ch_voice.specs.ChapterT.{chapter_t, fresh_t, pressure_octets, pressure_log}

-- ## An item

wheel_touching : (event : WheelEvent) → is_moved event ≡ true → ends_wheel event ≡ true
wheel_touching (wheels.Moved first second) h = refl
wheel_touching wheels.Cleared h = cc
wheel_touching wheels.Other h = cc

pressure_touching : (event : PressureEvent) → is_pressed event ≡ true → ends_pressure event ≡ true
pressure_touching (pressures.Pressed value) h = refl
pressure_touching pressures.Cleared h = cc
pressure_touching pressures.Other h = cc

pub touching : (item : VoiceItem) (channel : ℕ) → Touching (tells_at item channel) (touches_at item channel)
touching Wheel channel x h = wheel_touching (wheel_at channel x) h
touching Pressure channel x h = pressure_touching (pressure_at channel x) h

-- what stands in the checkpoint history is coded
pub told-coded : (item : VoiceItem) (channel checkpoint packet : ℕ) (sent places : List Sent) →
    standing (item_ends item channel) places ≡ coded (item_ends item channel) packet_of checkpoint (below packet_of packet sent) →
    one_standing (tells_at item channel) (touches_at item channel) places ≡ item_told item channel checkpoint packet sent
unfolding item_told one_standing
told-coded item channel checkpoint packet sent places e = ap (filter (tells_at item channel)) e

-- ## Its chapter

chapter-told : (log : Sent → List ℕ) (item : VoiceItem) (channel checkpoint packet : ℕ) (sent places : List Sent) → ((x : Sent) → tells_at item channel x ≡ false → log x ≡ []) →
    item_told item channel checkpoint packet sent ≡ places → item_chapter log item channel checkpoint packet sent ≡ flat_map log places
unfolding item_told
chapter-told log item channel checkpoint packet sent places silent e =
    flat_map-told (tells_at item channel) log silent (item_coded item channel checkpoint packet sent) ∙ ap (flat_map log) e

fresh-told : (item : VoiceItem) (channel checkpoint packet : ℕ) (sent : List Sent) → fresh_chapter item channel checkpoint packet sent ≡ item_fresh item channel checkpoint packet sent
unfolding item_told
fresh-told item channel checkpoint packet sent = any-told (tells_at item channel) (is_fresh packet) (item_coded item channel checkpoint packet sent)

-- ## The wheel's

pub wheel_silent : (s : ℕ) (event : WheelEvent) → is_moved event ≡ false → wheel_octets s event ≡ []
wheel_silent s (wheels.Moved first second) h = cc
wheel_silent s wheels.Cleared h = refl
wheel_silent s wheels.Other h = refl

pub w_none : (channel checkpoint packet : ℕ) (sent : List Sent) → item_told Wheel channel checkpoint packet sent ≡ [] → chapter_w channel checkpoint packet sent ≡ []
unfolding chapter_w
w_none channel checkpoint packet sent e =
    chapter-told (wheel_log channel packet) Wheel channel checkpoint packet sent [] (λ x h. wheel_silent (s_bit packet x) (wheel_at channel x) h) e

pub w_one : (channel checkpoint packet : ℕ) (sent : List Sent) (place : Sent) → item_told Wheel channel checkpoint packet sent ≡ place ∷ [] → chapter_w channel checkpoint packet sent ≡ wheel_log channel packet place
unfolding chapter_w
w_one channel checkpoint packet sent place e =
    chapter-told (wheel_log channel packet) Wheel channel checkpoint packet sent (place ∷ []) (λ x h. wheel_silent (s_bit packet x) (wheel_at channel x) h) e
    ∙ append-nil (wheel_log channel packet place)

pub w_fresh : (channel checkpoint packet : ℕ) (sent : List Sent) → fresh_w channel checkpoint packet sent ≡ item_fresh Wheel channel checkpoint packet sent
unfolding fresh_w
w_fresh channel checkpoint packet sent = fresh-told Wheel channel checkpoint packet sent

-- ## The pressure's

pub pressure_silent : (s : ℕ) (event : PressureEvent) → is_pressed event ≡ false → pressure_octets s event ≡ []
pressure_silent s (pressures.Pressed value) h = cc
pressure_silent s pressures.Cleared h = refl
pressure_silent s pressures.Other h = refl

pub t_none : (channel checkpoint packet : ℕ) (sent : List Sent) → item_told Pressure channel checkpoint packet sent ≡ [] → chapter_t channel checkpoint packet sent ≡ []
unfolding chapter_t
t_none channel checkpoint packet sent e =
    chapter-told (pressure_log channel packet) Pressure channel checkpoint packet sent [] (λ x h. pressure_silent (s_bit packet x) (pressure_at channel x) h) e

pub t_one : (channel checkpoint packet : ℕ) (sent : List Sent) (place : Sent) → item_told Pressure channel checkpoint packet sent ≡ place ∷ [] → chapter_t channel checkpoint packet sent ≡ pressure_log channel packet place
unfolding chapter_t
t_one channel checkpoint packet sent place e =
    chapter-told (pressure_log channel packet) Pressure channel checkpoint packet sent (place ∷ []) (λ x h. pressure_silent (s_bit packet x) (pressure_at channel x) h) e
    ∙ append-nil (pressure_log channel packet place)

pub t_fresh : (channel checkpoint packet : ℕ) (sent : List Sent) → fresh_t channel checkpoint packet sent ≡ item_fresh Pressure channel checkpoint packet sent
unfolding fresh_t
t_fresh channel checkpoint packet sent = fresh-told Pressure channel checkpoint packet sent
