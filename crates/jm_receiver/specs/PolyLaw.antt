-- The law of repair for the pressures on the keys of a channel.
use Rattle.std.proofs.Common.{◌≡◌, ℕ, ◌<◌, Bool, true, false, cond, ◌&&◌, ◌||◌, eqb, List, Option, Some, None, refl, sym, ap, ◌∙◌, subst, inl, inr, arith}
use Rattle.std.proofs.lemmas.Bool.{cases_Bool, eq-eqb, eqb-true}
use Rattle.std.proofs.lemmas.Bool.Decides.{nat_tests}
use Rattle.jm_cmds.specs.declared.commands.Command.{Command}
use Rattle.jm_cmds.specs.declared.commands.Command.TheVariants as commands
use Rattle.jm_cmds.specs.declared.history.Sent.{Sent}
use Rattle.jm_cmds.specs.Control.{ends_controllers}
use Rattle.jm_cmds.specs.History.{below, InOrder}
use Rattle.jm_cmds.specs.HistoryLaws.{InOrder-filter}
use Rattle.jm_cmds.specs.Sent.{packet_of, is_fresh}
use Rattle.ch_notes.specs.declared.presses.PolyEvent.{PolyEvent}
use Rattle.ch_notes.specs.declared.presses.PolyEvent.TheVariants.{Pressed, Dropped, Other}
use Rattle.ch_notes.specs.PolyEvent.{poly_event, poly_at, poly_event_ends, poly_ends, poly_concerns}
use Rattle.ch_notes.specs.ChapterA.{coded_presses}
use Rattle.ch_sysex.specs.SysexEvent.{resets}
use Rattle.jm_state.specs.Parts.{nth_channel, poly_of}
use Rattle.jm_state.specs.Table.{value_at}
use Rattle.jm_state.specs.Says.{ended, poly_says}
use Rattle.jm_state.specs.Kept.{no_channel_at, no_value}
use Rattle.jm_state.specs.PartLaws.{by_part}
use Rattle.jm_state.specs.Replay.{over}
use Rattle.jm_state.specs.SettingLaws.{program_alone, toggles_alone, param_high_alone, param_low_alone}
use Rattle.jm_state.specs.Final.{final, speaks, over_assoc, final-flat_map, final-same, final-coded}
use Rattle.jm_reader.specs.declared.logs.LogKind.{LogKind}
use Rattle.jm_reader.specs.declared.logs.LogKind.TheVariants as kinds
use Rattle.jm_reader.specs.WrittenA.{a_said, event_said, place_said}
use Rattle.jm_reader.specs.WrittenC.{c_said}
use Rattle.jm_reader.specs.WrittenListed.{all_logged}
use Rattle.jm_receiver.specs.declared.group.Group.{Group}
use Rattle.jm_receiver.specs.declared.group.Group.TheVariants.{Controls, Polys}
use Rattle.jm_receiver.specs.Group.{all_groups}
use Rattle.jm_receiver.specs.Order.{IsPart, concerns, log_says}
use Rattle.jm_receiver.specs.Repairs.{Repairs, LastSays, repairs, groups_heard, resets_heard, seen_since, place_says, journal_says, command_says, command_set, session_channels}
use Rattle.jm_receiver.specs.ControlsHeard.{is_drop, drops_heard}
use Rattle.jm_receiver.specs.WheelLaw.{resets_controllers, resets_drop, controllers_ended}

-- what a log says of the pressure on a key: Control 121 and the pressure's own
abbrev pub poly_log_says : (channel note : ℕ) → LogKind → Option (Option ℕ)
poly_log_says channel note log = command_says (poly_says channel note) log

-- the groups that say something of it
abbrev pub poly_groups : Group → Bool
poly_groups Controls = true
poly_groups Polys = true
poly_groups group = false

poly_silent : (channel note : ℕ) (log : LogKind) → concerns poly_groups channel log ≡ false → poly_log_says channel note log ≡ None
poly_silent channel note (kinds.Control at number value) h = rw h refl
poly_silent channel note (kinds.Count at number count) h = rw h refl
poly_silent channel note (kinds.Poly at other value) h = rw h refl
poly_silent channel note log h = refl

last_says : (channel note : ℕ) → channel < 16 → note < 128 → LastSays (λ s. poly_of s channel note) (poly_says channel note)
last_says channel note l m s command is = (by_part s command is).poly channel note l m

pub poly_is : (channel note : ℕ) → channel < 16 → note < 128 → IsPart channel poly_groups (λ s. poly_of s channel note) (poly_log_says channel note)
poly_is channel note l m = record {
  absent = ap (λ c. value_at c.polys note) (no_channel_at channel l) ∙ no_value note m;
  counted = λ s count. refl;
  session = λ s log. ap (λ channels. value_at (nth_channel channels channel).polys note) (session_channels s log);
  set = λ s log is. command_set (λ s. poly_of s channel note) (poly_says channel note) (last_says channel note l m)
      (record {
        program = λ s at value w. (program_alone s at value w).poly channel note l m refl;
        toggles = λ s at count w. (toggles_alone s at count w).poly channel note l m refl;
        high = λ s at nrpn high low value w. (param_high_alone s at nrpn high low value w).poly channel note l m refl;
        low = λ s at nrpn high low value w. (param_low_alone s at nrpn high low value w).poly channel note l m refl;
      }) s log is;
  silent = poly_silent channel note;
}

-- ## The pressures' chapter

abbrev presses : (note : ℕ) → PolyEvent → Option (Option ℕ)
presses note (Pressed other value) = cond (eqb other note) (Some (Some value)) None
presses note Dropped = None
presses note Other = None

abbrev is_dropped : PolyEvent → Bool
is_dropped (Pressed other value) = false
is_dropped Dropped = true
is_dropped Other = false

self : (n : ℕ) → eqb n n ≡ true
self n = eq-eqb n n refl

event_heard : (channel note : ℕ) (fresh : Bool) (event : PolyEvent) → final (log_says (poly_log_says channel note)) (all_logged fresh (event_said channel event)) ≡ presses note event
event_heard channel note fresh (Pressed other value) = rw (self channel) refl
event_heard channel note fresh Dropped = refl
event_heard channel note fresh Other = refl

chapter_heard : (channel note checkpoint packet : ℕ) (sent : List Sent) → final (log_says (poly_log_says channel note)) (a_said channel checkpoint packet sent) ≡ final (λ place. presses note (poly_at channel place)) (coded_presses channel checkpoint (below packet_of packet sent))
unfolding a_said
chapter_heard channel note checkpoint packet sent =
    let places = coded_presses channel checkpoint (below packet_of packet sent) in
    final-flat_map (log_says (poly_log_says channel note)) (λ place. all_logged (is_fresh packet place) (place_said channel place)) places
    ∙ final-same (λ place. final (log_says (poly_log_says channel note)) (all_logged (is_fresh packet place) (place_said channel place))) (λ place. presses note (poly_at channel place))
    (λ place. event_heard channel note (is_fresh packet place) (poly_at channel place)) places

spoken : (b : Bool) (value : ℕ) → speaks (cond b (Some (Some value)) None) ≡ true → b ≡ true
spoken true value h = refl
spoken false value h = cc

spoken_end : (b : Bool) → speaks (ended {X = ℕ} b) ≡ true → b ≡ true
spoken_end true h = refl
spoken_end false h = cc

turned : (n k : ℕ) → eqb n k ≡ true → eqb k n ≡ true
turned n k h = grind (arith, nat_tests)

said_later : (note : ℕ) (later : PolyEvent) → poly_concerns note later ≡ true → speaks (over (presses note later) (ended (is_dropped later))) ≡ true
said_later note (Pressed n value) c = rw (turned note n c) refl
said_later note Dropped c = refl
said_later note Other c = absurd (let f : false ≡ true = c in cc)

covered : (note : ℕ) (event later : PolyEvent) → speaks (presses note event) ≡ true → poly_event_ends event later ≡ true → speaks (over (presses note later) (ended (is_dropped later))) ≡ true
covered note (Pressed n value) later h e =
    let same : n ≡ note = eqb-true n note (spoken (eqb n note) value h) in
    said_later note later (subst (λ k. poly_concerns k later ≡ true) same e)
covered note Dropped later h e = absurd (let f : false ≡ true = h in cc)
covered note Other later h e = absurd (let f : false ≡ true = h in cc)

cleared : (note : ℕ) (event later : PolyEvent) → speaks (presses note event) ≡ true → is_dropped later ≡ true → poly_event_ends event later ≡ true
cleared note (Pressed n value) Dropped h c = refl
cleared note Dropped later h c = absurd (let f : false ≡ true = h in cc)
cleared note Other later h c = absurd (let f : false ≡ true = h in cc)
cleared note event (Pressed n value) h c = absurd (let f : false ≡ true = c in cc)
cleared note event Other h c = absurd (let f : false ≡ true = c in cc)

by_end : (b : Bool) → b ≡ is_dropped (cond b Dropped Other)
by_end true = refl
by_end false = refl

no_drop : (a : Bool) (note value : ℕ) → false ≡ is_dropped (cond a (Pressed note value) Other)
no_drop true note value = refl
no_drop false note value = refl

drops : (channel : ℕ) (command : Command) → ends_controllers channel command ≡ is_dropped (poly_event channel command)
drops channel (commands.PolyPressure at note value) = no_drop (eqb at channel) note value
drops channel command = by_end (ends_controllers channel command)

said_so : (channel note : ℕ) (command : Command) → over (presses note (poly_event channel command)) (ended (is_dropped (poly_event channel command))) ≡ poly_says channel note command
said_so channel note (commands.PolyPressure at other value) =
    elim (cases_Bool (eqb at channel)) [
      | inl t ↦ elim (cases_Bool (eqb other note)) [ inl n ↦ rw (t, n) refl | inr n ↦ rw (t, n) refl ]
      | inr f ↦ rw f refl
    ]
said_so channel note command = ended_so (ends_controllers channel command)
  where
    ended_so : (b : Bool) → over (presses note (cond b Dropped Other)) (ended (is_dropped (cond b Dropped Other))) ≡ ended b
    ended_so true = refl
    ended_so false = refl

-- The logs of a journal say of the pressure on a key what the commands from the checkpoint on say.
pub poly_heard : (channel note : ℕ) → channel < 16 → note < 128 → (checkpoint packet tick : ℕ) (sent : List Sent) → InOrder packet_of sent →
    journal_says (poly_log_says channel note) channel checkpoint packet tick sent ≡ final (place_says (poly_says channel note)) (seen_since checkpoint packet sent)
unfolding all_groups
poly_heard channel note l m checkpoint packet tick sent o =
    let seen = below packet_of packet sent in
    let a = final (log_says (poly_log_says channel note)) (a_said channel checkpoint packet sent) in
    let c = final (log_says (poly_log_says channel note)) (c_said channel checkpoint packet sent) in
    let reset = final {V = ℕ} (λ place. ended (resets place)) (seen_since checkpoint packet sent) in
    let own : Sent → Option (Option ℕ) = λ place. presses note (poly_at channel place) in
    let ends : Sent → Option (Option ℕ) = λ place. ended (is_dropped (poly_at channel place)) in
    rw (groups_heard channel poly_groups (λ s. poly_of s channel note) (poly_log_says channel note) l (poly_is channel note l m) checkpoint packet tick sent, resets_heard {V = ℕ} checkpoint packet tick sent o)
    (sym (over_assoc a c reset)
    ∙ ap (over a) (drops_heard channel resets_controllers resets_drop (poly_says channel note) (λ number value. dropping number) checkpoint packet sent o
    ∙ final-same (λ place. ended (is_drop resets_controllers channel place.command || resets place)) ends (λ place. ap (λ b. ended b) (controllers_ended channel place.command ∙ drops channel place.command)) (seen_since checkpoint packet sent))
    ∙ ap (λ (p : Option (Option ℕ)). over p (final ends (seen_since checkpoint packet sent))) (chapter_heard channel note checkpoint packet sent)
    ∙ final-coded (poly_ends channel) own ends
    (λ x y h e. covered note (poly_at channel x) (poly_at channel y) h e)
    (λ x y h e. cleared note (poly_at channel x) (poly_at channel y) h (spoken_end (is_dropped (poly_at channel y)) e))
    packet_of checkpoint seen (InOrder-filter packet_of _ sent o)
    ∙ final-same (λ place. over (own place) (ends place)) (place_says (poly_says channel note)) (λ place. said_so channel note place.command) (seen_since checkpoint packet sent))
  where
    dropping : (number : ℕ) → ended {X = ℕ} (eqb channel channel && resets_controllers number) ≡ ended (resets_controllers number)
    dropping number = rw (self channel) refl

-- The pressure on each key of each channel is repaired.
pub poly_repaired : (channel note : ℕ) → channel < 16 → note < 128 → Repairs (λ s. poly_of s channel note)
poly_repaired channel note l m =
    repairs channel poly_groups (λ s. poly_of s channel note) (poly_log_says channel note) (poly_says channel note) l (poly_is channel note l m) (last_says channel note l m) (λ checkpoint packet tick sent o. poly_heard channel note l m checkpoint packet tick sent o)
