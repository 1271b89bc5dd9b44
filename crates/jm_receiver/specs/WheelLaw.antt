-- The law of repair for a channel's wheel.
use Rattle.std.proofs.Common.{◌≡◌, ℕ, ◌<◌, Bool, true, false, cond, ◌&&◌, ◌||◌, eqb, List, Option, Some, None, refl, sym, ap, ◌∙◌, inl, inr, arith}
use Rattle.std.proofs.lemmas.Bool.{cases_Bool, eq-eqb}
use Rattle.std.proofs.lemmas.Bool.Decides.{nat_tests}
use Rattle.jm_cmds.specs.declared.commands.Command.{Command}
use Rattle.jm_cmds.specs.declared.commands.Command.TheVariants as commands
use Rattle.jm_cmds.specs.declared.history.Sent.{Sent}
use Rattle.jm_cmds.specs.Control.{control_kind, clears_controllers, ends_controllers, is_reset, is_entry}
use Rattle.jm_cmds.specs.History.{below, InOrder}
use Rattle.jm_cmds.specs.HistoryLaws.{InOrder-filter}
use Rattle.jm_cmds.specs.Sent.{packet_of, is_fresh}
use Rattle.ch_control.specs.ControlEvent.{item_of, is_kept}
use Rattle.ch_voice.specs.declared.events.WheelEvent.{WheelEvent}
use Rattle.ch_voice.specs.declared.events.WheelEvent.TheVariants.{Moved, Cleared, Other}
use Rattle.ch_voice.specs.WheelEvent.{wheel_event, wheel_at, is_moved, ends_wheel, wheel_ends}
use Rattle.ch_voice.specs.ChapterW.{coded_wheel}
use Rattle.ch_sysex.specs.SysexEvent.{resets}
use Rattle.jm_state.specs.Parts.{nth_channel, wheel_of}
use Rattle.jm_state.specs.Says.{ended, wheel_says}
use Rattle.jm_state.specs.Kept.{no_channel_at}
use Rattle.jm_state.specs.PartLaws.{by_part}
use Rattle.jm_state.specs.Replay.{over}
use Rattle.jm_state.specs.SettingLaws.{program_alone, toggles_alone, param_high_alone, param_low_alone}
use Rattle.jm_state.specs.Final.{final, speaks, over_assoc, final-flat_map, final-same, final-coded}
use Rattle.jm_reader.specs.declared.logs.LogKind.{LogKind}
use Rattle.jm_reader.specs.declared.logs.LogKind.TheVariants as kinds
use Rattle.jm_reader.specs.WrittenW.{w_said, wheel_said, place_said}
use Rattle.jm_reader.specs.WrittenC.{c_said}
use Rattle.jm_receiver.specs.declared.group.Group.{Group}
use Rattle.jm_receiver.specs.declared.group.Group.TheVariants.{Controls, Wheels}
use Rattle.jm_receiver.specs.Group.{all_groups}
use Rattle.jm_receiver.specs.Order.{IsPart, concerns, log_says}
use Rattle.jm_receiver.specs.Repairs.{Repairs, LastSays, repairs, groups_heard, resets_heard, seen_since, place_says, journal_says, command_says, command_set, session_channels}
use Rattle.jm_receiver.specs.ControlsHeard.{AreDrops, is_drop, drops_heard}

-- what a log says of the wheel: Control 121 and the wheel's own
abbrev pub wheel_log_says : (channel : ℕ) → LogKind → Option (Option (ℕ × ℕ))
wheel_log_says channel log = command_says (wheel_says channel) log

-- the groups that say something of it
abbrev pub wheel_groups : Group → Bool
wheel_groups Controls = true
wheel_groups Wheels = true
wheel_groups group = false

wheel_silent : (channel : ℕ) (log : LogKind) → concerns wheel_groups channel log ≡ false → wheel_log_says channel log ≡ None
wheel_silent channel (kinds.Control at number value) h = rw h refl
wheel_silent channel (kinds.Count at number count) h = rw h refl
wheel_silent channel (kinds.Wheel at first second) h = rw h refl
wheel_silent channel log h = refl

last_says : (channel : ℕ) → channel < 16 → LastSays (λ s. wheel_of s channel) (wheel_says channel)
last_says channel l s command is = (by_part s command is).wheel channel l

pub wheel_is : (channel : ℕ) → channel < 16 → IsPart channel wheel_groups (λ s. wheel_of s channel) (wheel_log_says channel)
wheel_is channel l = record {
  absent = ap (λ c. c.wheel) (no_channel_at channel l);
  counted = λ s count. refl;
  session = λ s log. ap (λ channels. (nth_channel channels channel).wheel) (session_channels s log);
  set = λ s log is. command_set (λ s. wheel_of s channel) (wheel_says channel) (last_says channel l)
      (record {
        program = λ s at value w. (program_alone s at value w).wheel channel l refl;
        toggles = λ s at count w. (toggles_alone s at count w).wheel channel l refl;
        high = λ s at nrpn high low value w. (param_high_alone s at nrpn high low value w).wheel channel l refl;
        low = λ s at nrpn high low value w. (param_low_alone s at nrpn high low value w).wheel channel l refl;
      }) s log is;
  silent = wheel_silent channel;
}

-- ## Control 121

abbrev pub resets_controllers : ℕ → Bool
resets_controllers number = clears_controllers (control_kind number)

pub resets_alone : (number : ℕ) → resets_controllers number ≡ eqb number 121
unfolding control_kind
resets_alone number = grind (arith, nat_tests)

same_item : (number other : ℕ) → eqb number 121 ≡ true → eqb (item_of number) (item_of other) ≡ true → eqb other 121 ≡ true
unfolding item_of
same_item number other h e = grind (arith, nat_tests)

is_coded : (number : ℕ) → eqb number 121 ≡ true → is_entry number ≡ false
unfolding is_entry
is_coded number h = grind (arith, nat_tests)

stays : (number : ℕ) → eqb number 121 ≡ true → is_kept number ≡ true
unfolding is_kept
stays number h = grind (arith, nat_tests)

pub resets_drop : AreDrops resets_controllers
resets_drop = record {
  coded = λ number h. is_coded number (sym (resets_alone number) ∙ h);
  kept = λ number h. stays number (sym (resets_alone number) ∙ h);
  item = λ number other h e. resets_alone other ∙ same_item number other (sym (resets_alone number) ∙ h) e;
}

both_false : (b : Bool) → (false || b) ≡ b
both_false b = refl

or_none : (b : Bool) → (b || false) ≡ b
or_none true = refl
or_none false = refl

-- it drops what a Reset State command drops, too
pub controllers_ended : (channel : ℕ) (command : Command) → (is_drop resets_controllers channel command || is_reset command) ≡ ends_controllers channel command
controllers_ended channel (commands.Control at number value) = or_none (eqb at channel && resets_controllers number)
controllers_ended channel command = refl

-- ## The wheel's chapter

abbrev moves : WheelEvent → Option (Option (ℕ × ℕ))
moves (Moved first second) = Some (Some (first, second))
moves Cleared = None
moves Other = None

event_heard : (channel : ℕ) (fresh : Bool) (event : WheelEvent) → final (log_says (wheel_log_says channel)) (wheel_said channel fresh event) ≡ moves event
event_heard channel fresh (Moved first second) = let self : eqb channel channel ≡ true = eq-eqb channel channel refl in rw self refl
event_heard channel fresh Cleared = refl
event_heard channel fresh Other = refl

chapter_heard : (channel checkpoint packet : ℕ) (sent : List Sent) → final (log_says (wheel_log_says channel)) (w_said channel checkpoint packet sent) ≡ final (λ place. moves (wheel_at channel place)) (coded_wheel channel checkpoint packet sent)
unfolding w_said
chapter_heard channel checkpoint packet sent =
    final-flat_map (log_says (wheel_log_says channel)) (place_said channel packet) (coded_wheel channel checkpoint packet sent)
    ∙ final-same (λ place. final (log_says (wheel_log_says channel)) (place_said channel packet place)) (λ place. moves (wheel_at channel place)) (λ place. event_heard channel (is_fresh packet place) (wheel_at channel place)) (coded_wheel channel checkpoint packet sent)

move_or_end : (b : Bool) → speaks (ended {X = ℕ × ℕ} b) ≡ true → b ≡ true
move_or_end true h = refl
move_or_end false h = cc

is_move : (event : WheelEvent) → speaks (moves event) ≡ true → is_moved event ≡ true
is_move (Moved first second) h = refl
is_move Cleared h = cc
is_move Other h = cc

-- what ends a move is a move, or ends the controllers
covered : (channel : ℕ) (command : Command) → ends_wheel (wheel_event channel command) ≡ true → speaks (over (moves (wheel_event channel command)) (ended (ends_controllers channel command))) ≡ true
covered channel (commands.Wheel at first second) h =
    elim (cases_Bool (eqb at channel)) [
      | inl t ↦ rw t refl
      | inr f ↦ absurd (let f : false ≡ true = (rw f at h) in cc)
    ]
covered channel command h = by_end (ends_controllers channel command) h
  where
    by_end : (b : Bool) → ends_wheel (cond b Cleared Other) ≡ true → speaks (over (moves (cond b Cleared Other)) (ended b)) ≡ true
    by_end true h = refl
    by_end false h = cc

cleared : (channel : ℕ) (command : Command) → ends_controllers channel command ≡ true → ends_wheel (wheel_event channel command) ≡ true
cleared channel (commands.Wheel at first second) h = absurd (let f : false ≡ true = h in cc)
cleared channel command h = rw h refl

both : (a b : Bool) → (a && b) ≡ true → b ≡ true
both true b h = h
both false b h = cc

said_so : (channel : ℕ) (command : Command) → over (moves (wheel_event channel command)) (ended (ends_controllers channel command)) ≡ wheel_says channel command
said_so channel (commands.Wheel at first second) = elim (cases_Bool (eqb at channel)) [ inl t ↦ rw t refl | inr f ↦ rw f refl ]
said_so channel command = by_end (ends_controllers channel command)
  where
    by_end : (b : Bool) → over (moves (cond b Cleared Other)) (ended b) ≡ ended b
    by_end true = refl
    by_end false = refl

-- The logs of a journal say of the wheel what the commands from the checkpoint on say.
pub wheel_heard : (channel : ℕ) → channel < 16 → (checkpoint packet tick : ℕ) (sent : List Sent) → InOrder packet_of sent →
    journal_says (wheel_log_says channel) channel checkpoint packet tick sent ≡ final (place_says (wheel_says channel)) (seen_since checkpoint packet sent)
unfolding all_groups
wheel_heard channel l checkpoint packet tick sent o =
    let seen = below packet_of packet sent in
    let w = final (log_says (wheel_log_says channel)) (w_said channel checkpoint packet sent) in
    let c = final (log_says (wheel_log_says channel)) (c_said channel checkpoint packet sent) in
    let reset = final {V = ℕ × ℕ} (λ place. ended (resets place)) (seen_since checkpoint packet sent) in
    let moved : Sent → Option (Option (ℕ × ℕ)) = λ place. moves (wheel_at channel place) in
    let ends : Sent → Option (Option (ℕ × ℕ)) = λ place. ended (ends_controllers channel place.command) in
    rw (groups_heard channel wheel_groups (λ s. wheel_of s channel) (wheel_log_says channel) l (wheel_is channel l) checkpoint packet tick sent, resets_heard {V = ℕ × ℕ} checkpoint packet tick sent o)
    (sym (over_assoc w c reset)
    ∙ ap (over w) (drops_heard channel resets_controllers resets_drop (wheel_says channel) (λ number value. dropping number) checkpoint packet sent o
    ∙ final-same (λ place. ended (is_drop resets_controllers channel place.command || resets place)) ends (λ place. ap (λ b. ended b) (controllers_ended channel place.command)) (seen_since checkpoint packet sent))
    ∙ ap (λ (a : Option (Option (ℕ × ℕ))). over a (final ends (seen_since checkpoint packet sent))) (chapter_heard channel checkpoint packet sent)
    ∙ final-coded (wheel_ends channel) moved ends
    (λ x y s e. covered channel y.command (both (is_moved (wheel_at channel x)) (ends_wheel (wheel_at channel y)) e))
    (λ x y s r. rw (is_move (wheel_at channel x) s) (cleared channel y.command (move_or_end (ends_controllers channel y.command) r)))
    packet_of checkpoint seen (InOrder-filter packet_of _ sent o)
    ∙ final-same (λ place. over (moved place) (ends place)) (place_says (wheel_says channel)) (λ place. said_so channel place.command) (seen_since checkpoint packet sent))
  where
    dropping : (number : ℕ) → ended {X = ℕ × ℕ} (eqb channel channel && resets_controllers number) ≡ ended (resets_controllers number)
    dropping number = let self : eqb channel channel ≡ true = eq-eqb channel channel refl in rw self refl

-- The wheel of each channel is repaired.
pub wheel_repaired : (channel : ℕ) → channel < 16 → Repairs (λ s. wheel_of s channel)
wheel_repaired channel l = repairs channel wheel_groups (λ s. wheel_of s channel) (wheel_log_says channel) (wheel_says channel) l (wheel_is channel l) (last_says channel l) (λ checkpoint packet tick sent o. wheel_heard channel l checkpoint packet tick sent o)
