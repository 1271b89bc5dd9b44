-- The law of repair for a channel's pressure.
use Rattle.std.proofs.Common.{◌≡◌, ℕ, ◌<◌, Bool, true, false, cond, ◌&&◌, ◌||◌, eqb, List, Option, Some, None, refl, sym, ap, ◌∙◌, inl, inr}
use Rattle.std.proofs.lemmas.Bool.{cases_Bool, eq-eqb, or_cases}
use Rattle.jm_cmds.specs.declared.commands.Command.{Command}
use Rattle.jm_cmds.specs.declared.commands.Command.TheVariants as commands
use Rattle.jm_cmds.specs.declared.history.Sent.{Sent}
use Rattle.jm_cmds.specs.Control.{ends_notes, ends_controllers, is_reset, is_reset_message}
use Rattle.jm_cmds.specs.History.{below, InOrder}
use Rattle.jm_cmds.specs.HistoryLaws.{InOrder-filter}
use Rattle.jm_cmds.specs.Sent.{packet_of, is_fresh}
use Rattle.ch_voice.specs.declared.events.PressureEvent.{PressureEvent}
use Rattle.ch_voice.specs.declared.events.PressureEvent.TheVariants.{Pressed, Cleared, Other}
use Rattle.ch_voice.specs.PressureEvent.{pressure_event, pressure_at, is_pressed, ends_pressure, pressure_ends}
use Rattle.ch_voice.specs.ChapterT.{coded_pressure}
use Rattle.ch_sysex.specs.SysexEvent.{resets}
use Rattle.jm_state.specs.Parts.{nth_channel, pressure_of}
use Rattle.jm_state.specs.Says.{ended, pressure_says}
use Rattle.jm_state.specs.Kept.{no_channel_at}
use Rattle.jm_state.specs.PartLaws.{by_part}
use Rattle.jm_state.specs.Replay.{over}
use Rattle.jm_state.specs.SettingLaws.{program_alone, toggles_alone, param_high_alone, param_low_alone}
use Rattle.jm_state.specs.Final.{final, speaks, over_assoc, final-flat_map, final-same, final-coded}
use Rattle.jm_reader.specs.declared.logs.LogKind.{LogKind}
use Rattle.jm_reader.specs.declared.logs.LogKind.TheVariants as kinds
use Rattle.jm_reader.specs.WrittenT.{t_said, pressure_said, place_said}
use Rattle.jm_reader.specs.WrittenC.{c_said}
use Rattle.jm_receiver.specs.declared.group.Group.{Group}
use Rattle.jm_receiver.specs.declared.group.Group.TheVariants.{Controls, Pressures}
use Rattle.jm_receiver.specs.Group.{all_groups}
use Rattle.jm_receiver.specs.Order.{IsPart, concerns, log_says}
use Rattle.jm_receiver.specs.Repairs.{Repairs, LastSays, repairs, groups_heard, resets_heard, seen_since, place_says, journal_says, command_says, command_set, session_channels}
use Rattle.jm_receiver.specs.ControlsHeard.{AreDrops, is_drop, drops_heard}
use Rattle.jm_receiver.specs.WheelLaw.{resets_controllers, resets_drop}
use Rattle.jm_receiver.specs.NoteLaw.{silences, silences_drop}

-- what a log says of the pressure: what ends all notes, Control 121 and the pressure's own
abbrev pub pressure_log_says : (channel : ℕ) → LogKind → Option (Option ℕ)
pressure_log_says channel log = command_says (pressure_says channel) log

-- the groups that say something of it
abbrev pub pressure_groups : Group → Bool
pressure_groups Controls = true
pressure_groups Pressures = true
pressure_groups group = false

none_of_two : (a b c : Bool) → a ≡ false → ended {X = ℕ} ((a && b) || (a && c)) ≡ None
none_of_two a b c h = rw h refl

pressure_silent : (channel : ℕ) (log : LogKind) → concerns pressure_groups channel log ≡ false → pressure_log_says channel log ≡ None
pressure_silent channel (kinds.Control at number value) h = none_of_two (eqb at channel) (silences number) (resets_controllers number) h
pressure_silent channel (kinds.Count at number count) h = none_of_two (eqb at channel) (silences number) (resets_controllers number) h
pressure_silent channel (kinds.Pressure at value) h = rw h refl
pressure_silent channel log h = refl

last_says : (channel : ℕ) → channel < 16 → LastSays (λ s. pressure_of s channel) (pressure_says channel)
last_says channel l s command is = (by_part s command is).pressure channel l

pub pressure_is : (channel : ℕ) → channel < 16 → IsPart channel pressure_groups (λ s. pressure_of s channel) (pressure_log_says channel)
pressure_is channel l = record {
  absent = ap (λ c. c.pressure) (no_channel_at channel l);
  counted = λ s count. refl;
  session = λ s log. ap (λ channels. (nth_channel channels channel).pressure) (session_channels s log);
  set = λ s log is. command_set (λ s. pressure_of s channel) (pressure_says channel) (last_says channel l)
      (record {
        program = λ s at value w. (program_alone s at value w).pressure channel l refl;
        toggles = λ s at count w. (toggles_alone s at count w).pressure channel l refl;
        high = λ s at nrpn high low value w. (param_high_alone s at nrpn high low value w).pressure channel l refl;
        low = λ s at nrpn high low value w. (param_low_alone s at nrpn high low value w).pressure channel l refl;
      }) s log is;
  silent = pressure_silent channel;
}

-- ## The controllers that drop it

abbrev pub drops_pressure : ℕ → Bool
drops_pressure number = silences number || resets_controllers number

left_too : (a b : Bool) → a ≡ true → (a || b) ≡ true
left_too a b h = rw h refl

right_too : (a b : Bool) → b ≡ true → (a || b) ≡ true
right_too true b h = refl
right_too false b h = h

pub pressure_drop : AreDrops drops_pressure
pressure_drop = record {
  coded = λ number h. elim (or_cases (silences number) (resets_controllers number) h) [ inl a ↦ silences_drop.coded number a | inr b ↦ resets_drop.coded number b ];
  kept = λ number h. elim (or_cases (silences number) (resets_controllers number) h) [ inl a ↦ silences_drop.kept number a | inr b ↦ resets_drop.kept number b ];
  item = λ number other h e. elim (or_cases (silences number) (resets_controllers number) h) [
    | inl a ↦ left_too (silences other) (resets_controllers other) (silences_drop.item number other a e)
    | inr b ↦ right_too (silences other) (resets_controllers other) (resets_drop.item number other b e)
  ];
}

-- what ends all notes or sets the controllers back
abbrev ends_either : (channel : ℕ) → Command → Bool
ends_either channel command = ends_notes channel command || ends_controllers channel command

two_drops : (a b c : Bool) → ((a && (b || c)) || false) ≡ ((a && b) || (a && c))
two_drops true true c = refl
two_drops true false true = refl
two_drops true false false = refl
two_drops false b c = refl

or_self : (b : Bool) → b ≡ (b || b)
or_self true = refl
or_self false = refl

pressure_ended : (channel : ℕ) (command : Command) → (is_drop drops_pressure channel command || is_reset command) ≡ ends_either channel command
pressure_ended channel (commands.Control at number value) = two_drops (eqb at channel) (silences number) (resets_controllers number)
pressure_ended channel (commands.Sysex octets) = or_self (is_reset_message octets)
pressure_ended channel command = refl

-- ## The pressure's chapter

abbrev presses : PressureEvent → Option (Option ℕ)
presses (Pressed value) = Some (Some value)
presses Cleared = None
presses Other = None

self : (n : ℕ) → eqb n n ≡ true
self n = eq-eqb n n refl

event_heard : (channel : ℕ) (fresh : Bool) (event : PressureEvent) → final (log_says (pressure_log_says channel)) (pressure_said channel fresh event) ≡ presses event
event_heard channel fresh (Pressed value) = rw (self channel) refl
event_heard channel fresh Cleared = refl
event_heard channel fresh Other = refl

chapter_heard : (channel checkpoint packet : ℕ) (sent : List Sent) → final (log_says (pressure_log_says channel)) (t_said channel checkpoint packet sent) ≡ final (λ place. presses (pressure_at channel place)) (coded_pressure channel checkpoint packet sent)
unfolding t_said
chapter_heard channel checkpoint packet sent =
    final-flat_map (log_says (pressure_log_says channel)) (place_said channel packet) (coded_pressure channel checkpoint packet sent)
    ∙ final-same (λ place. final (log_says (pressure_log_says channel)) (place_said channel packet place)) (λ place. presses (pressure_at channel place)) (λ place. event_heard channel (is_fresh packet place) (pressure_at channel place)) (coded_pressure channel checkpoint packet sent)

spoken_end : (b : Bool) → speaks (ended {X = ℕ} b) ≡ true → b ≡ true
spoken_end true h = refl
spoken_end false h = cc

is_press : (event : PressureEvent) → speaks (presses event) ≡ true → is_pressed event ≡ true
is_press (Pressed value) h = refl
is_press Cleared h = cc
is_press Other h = cc

covered : (channel : ℕ) (command : Command) → ends_pressure (pressure_event channel command) ≡ true → speaks (over (presses (pressure_event channel command)) (ended (ends_either channel command))) ≡ true
covered channel (commands.Pressure at value) h =
    elim (cases_Bool (eqb at channel)) [
      | inl t ↦ rw t refl
      | inr f ↦ absurd (let f : false ≡ true = (rw f at h) in cc)
    ]
covered channel command h = by_end (ends_either channel command) h
  where
    by_end : (b : Bool) → ends_pressure (cond b Cleared Other) ≡ true → speaks (over (presses (cond b Cleared Other)) (ended b)) ≡ true
    by_end true h = refl
    by_end false h = cc

cleared : (channel : ℕ) (command : Command) → ends_either channel command ≡ true → ends_pressure (pressure_event channel command) ≡ true
cleared channel (commands.Pressure at value) h = absurd (let f : false ≡ true = h in cc)
cleared channel command h = by_end (ends_either channel command) h
  where
    by_end : (b : Bool) → b ≡ true → ends_pressure (cond b Cleared Other) ≡ true
    by_end true h = refl
    by_end false h = cc

both : (a b : Bool) → (a && b) ≡ true → b ≡ true
both true b h = h
both false b h = cc

said_so : (channel : ℕ) (command : Command) → over (presses (pressure_event channel command)) (ended (ends_either channel command)) ≡ pressure_says channel command
said_so channel (commands.Pressure at value) = elim (cases_Bool (eqb at channel)) [ inl t ↦ rw t refl | inr f ↦ rw f refl ]
said_so channel command = by_end (ends_either channel command)
  where
    by_end : (b : Bool) → over (presses (cond b Cleared Other)) (ended b) ≡ ended b
    by_end true = refl
    by_end false = refl

-- The logs of a journal say of the pressure what the commands from the checkpoint on say.
pub pressure_heard : (channel : ℕ) → channel < 16 → (checkpoint packet tick : ℕ) (sent : List Sent) → InOrder packet_of sent →
    journal_says (pressure_log_says channel) channel checkpoint packet tick sent ≡ final (place_says (pressure_says channel)) (seen_since checkpoint packet sent)
unfolding all_groups
pressure_heard channel l checkpoint packet tick sent o =
    let seen = below packet_of packet sent in
    let t = final (log_says (pressure_log_says channel)) (t_said channel checkpoint packet sent) in
    let c = final (log_says (pressure_log_says channel)) (c_said channel checkpoint packet sent) in
    let reset = final {V = ℕ} (λ place. ended (resets place)) (seen_since checkpoint packet sent) in
    let own : Sent → Option (Option ℕ) = λ place. presses (pressure_at channel place) in
    let ends : Sent → Option (Option ℕ) = λ place. ended (ends_either channel place.command) in
    rw (groups_heard channel pressure_groups (λ s. pressure_of s channel) (pressure_log_says channel) l (pressure_is channel l) checkpoint packet tick sent, resets_heard {V = ℕ} checkpoint packet tick sent o)
    (sym (over_assoc t c reset)
    ∙ ap (over t) (drops_heard channel drops_pressure pressure_drop (pressure_says channel) (λ number value. dropping number) checkpoint packet sent o
    ∙ final-same (λ place. ended (is_drop drops_pressure channel place.command || resets place)) ends (λ place. ap (λ b. ended b) (pressure_ended channel place.command)) (seen_since checkpoint packet sent))
    ∙ ap (λ (a : Option (Option ℕ)). over a (final ends (seen_since checkpoint packet sent))) (chapter_heard channel checkpoint packet sent)
    ∙ final-coded (pressure_ends channel) own ends
    (λ x y s e. covered channel y.command (both (is_pressed (pressure_at channel x)) (ends_pressure (pressure_at channel y)) e))
    (λ x y s r. rw (is_press (pressure_at channel x) s) (cleared channel y.command (spoken_end (ends_either channel y.command) r)))
    packet_of checkpoint seen (InOrder-filter packet_of _ sent o)
    ∙ final-same (λ place. over (own place) (ends place)) (place_says (pressure_says channel)) (λ place. said_so channel place.command) (seen_since checkpoint packet sent))
  where
    dropping : (number : ℕ) → ended {X = ℕ} ((eqb channel channel && silences number) || (eqb channel channel && resets_controllers number)) ≡ ended (drops_pressure number)
    dropping number = rw (self channel) refl

-- The pressure of each channel is repaired.
pub pressure_repaired : (channel : ℕ) → channel < 16 → Repairs (λ s. pressure_of s channel)
pressure_repaired channel l = repairs channel pressure_groups (λ s. pressure_of s channel) (pressure_log_says channel) (pressure_says channel) l (pressure_is channel l) (last_says channel l) (λ checkpoint packet tick sent o. pressure_heard channel l checkpoint packet tick sent o)
