-- Repair of two states that are the same but for their parameters leaves them the same but for their parameters.
use Rattle.std.proofs.Common.{◌≡◌, ℕ, ◌+◌, ◌%◌, ◌<◌, Bool, true, false, cond, eqb, List, [], ◌∷◌, Option, Some, None, fold, refl, sym, ap, ◌∙◌, subst, inl, inr, arith}
use Rattle.std.specs.List.{flat_map}
use Rattle.std.proofs.lemmas.Bool.{cases_Bool}
use Rattle.jm_cmds.specs.declared.commands.Command.{Command}
use Rattle.jm_cmds.specs.declared.param.Param.{Param}
use Rattle.jm_cmds.specs.declared.pedal.Pedal.{Pedal}
use Rattle.jm_cmds.specs.declared.selection.Selection.{Selection}
use Rattle.jm_cmds.specs.Pedal.{pedal_step, pedal_event}
use Rattle.jm_cmds.specs.Selection.{param_command}
use Rattle.jm_state.specs.declared.channel.ChannelState.{ChannelState}
use Rattle.jm_state.specs.declared.channel.ProgramPart.{ProgramPart}
use Rattle.jm_state.specs.declared.state.State.{State}
use Rattle.jm_state.specs.Apply.{applied}
use Rattle.jm_state.specs.Kept.{IsState, channel_put}
use Rattle.jm_state.specs.Parts.{no_state, channel_of, with_channel, control_at, pedal_by, half_put, song_of, sequencer_of, time_code_of, sysex_count_of, program_of, control_of}
use Rattle.jm_state.specs.PartLaws.{by_part}
use Rattle.jm_state.specs.Says.{said, count_after, song_says, program_says, control_says, selection_behind, wheel_says, note_says, pressure_says, poly_says}
use Rattle.jm_state.specs.Table.{value_at}
use Rattle.jm_reader.specs.declared.logs.Log.{Log}
use Rattle.jm_reader.specs.declared.logs.LogKind.{LogKind}
use Rattle.jm_reader.specs.declared.logs.LogKind.TheVariants as kinds
use Rattle.jm_receiver.specs.Group.{command_of, all_channels}
use Rattle.jm_receiver.specs.Order.{in_order, with_log, session_done, repaired-fold, channel_log_is, session_log_is, message_is, cleared_is, high_is}
use Rattle.jm_receiver.specs.Repair.{has_reset, cleared, counts, with_message, messages_repaired, with_session_log, high_entered, low_entered, applied_if, with_channel_log, repaired}

-- two channels are the same but for their parameters
pub record AreAlike (a b : ChannelState) : Type 0 where
  pub program : a.program ≡ b.program
  pub control : (number : ℕ) → number < 128 → control_at a number ≡ control_at b number
  pub toggles : a.toggles ≡ b.toggles
  pub selection : a.selection ≡ b.selection
  pub wheel : a.wheel ≡ b.wheel
  pub note : (note : ℕ) → note < 128 → value_at a.notes note ≡ value_at b.notes note
  pub pressure : a.pressure ≡ b.pressure
  pub poly : (note : ℕ) → note < 128 → value_at a.polys note ≡ value_at b.polys note

-- two states are the same but for their parameters
pub record SameButParams (s t : State) : Type 0 where
  pub song : song_of s ≡ song_of t
  pub sequencer : sequencer_of s ≡ sequencer_of t
  pub time_code : time_code_of s ≡ time_code_of t
  pub sysex_count : sysex_count_of s ≡ sysex_count_of t
  pub channels : (channel : ℕ) → channel < 16 → AreAlike (channel_of s channel) (channel_of t channel)

alike_self : (c : ChannelState) → AreAlike c c
alike_self c = record { program = refl; control = λ n l. refl; toggles = refl; selection = refl; wheel = refl; note = λ n l. refl; pressure = refl; poly = λ n l. refl }

same_self : (s : State) → SameButParams s s
same_self s = record { song = refl; sequencer = refl; time_code = refl; sysex_count = refl; channels = λ channel l. alike_self (channel_of s channel) }

-- two states, each whole
record AreTwo (s t : State) : Type 0 where
  same : SameButParams s t
  left : IsState s
  right : IsState t

pedals_same : (a b : ChannelState) → AreAlike a b → pedal_by a.toggles (control_at a 64) ≡ pedal_by b.toggles (control_at b 64)
pedals_same a b h = rw (h.toggles, h.control 64 (omega arith)) refl

program_same : (channel : ℕ) (command : Command) (s t : State) → channel < 16 → SameButParams s t →
    said (program_says channel (control_of s channel 0) (control_of s channel 32) command) (program_of s channel) ≡ said (program_says channel (control_of t channel 0) (control_of t channel 32) command) (program_of t channel)
program_same channel command s t l h =
    let c = h.channels channel l in
    rw (c.control 0 (omega arith), c.control 32 (omega arith), c.program) refl

pub applied_same : (s t : State) (command : Command) → IsState s → IsState t → SameButParams s t → SameButParams (applied s command) (applied t command)
applied_same s t command left right h =
    let a = by_part s command left in
    let b = by_part t command right in
    record {
      song = a.song ∙ ap (said (song_says command)) h.song ∙ sym b.song;
      sequencer = a.sequencer ∙ rw (h.sequencer) (sym b.sequencer);
      time_code = a.time_code ∙ rw (h.time_code) (sym b.time_code);
      sysex_count = a.sysex_count ∙ ap (λ (n : ℕ). count_after n command) h.sysex_count ∙ sym b.sysex_count;
      channels = λ channel l.
          let c = h.channels channel l in
          record {
            program = a.program channel l ∙ program_same channel command s t l h ∙ sym (b.program channel l);
            control = λ number n. a.control channel number l n ∙ ap (said (control_says channel number command)) (c.control number n) ∙ sym (b.control channel number l n);
            toggles = ap (λ (p : Pedal). p.toggles) (a.pedal channel l ∙ ap (λ (p : Pedal). pedal_step p (pedal_event channel command)) (pedals_same (channel_of s channel) (channel_of t channel) c) ∙ sym (b.pedal channel l));
            selection = a.selection channel l ∙ ap (λ (k : Option Selection). selection_behind k (param_command channel command)) c.selection ∙ sym (b.selection channel l);
            wheel = a.wheel channel l ∙ ap (said (wheel_says channel command)) c.wheel ∙ sym (b.wheel channel l);
            note = λ note n. a.note channel note l n ∙ ap (said (note_says channel note command)) (c.note note n) ∙ sym (b.note channel note l n);
            pressure = a.pressure channel l ∙ ap (said (pressure_says channel command)) c.pressure ∙ sym (b.pressure channel l);
            poly = λ note n. a.poly channel note l n ∙ ap (said (poly_says channel note command)) (c.poly note n) ∙ sym (b.poly channel note l n);
          };
    }

-- ## A log

-- one change of a channel of both
put_same : (s t : State) (at : ℕ) (change : ChannelState → ChannelState) → IsState s → IsState t → ((a b : ChannelState) → AreAlike a b → AreAlike (change a) (change b)) → SameButParams s t →
    SameButParams (with_channel s at (change (channel_of s at))) (with_channel t at (change (channel_of t at)))
put_same s t at change left right keeps h = record {
  song = h.song;
  sequencer = h.sequencer;
  time_code = h.time_code;
  sysex_count = h.sysex_count;
  channels = λ channel l.
      rw (channel_put s.channels at channel change (omega (arith, l, left.sixteen)), channel_put t.channels at channel change (omega (arith, l, right.sixteen)))
      (one (eqb at channel) (channel_of s channel) (channel_of t channel) (h.channels channel l));
}
  where
    one : (b : Bool) (c d : ChannelState) → AreAlike c d → AreAlike (cond b (change c) c) (cond b (change d) d)
    one true c d k = keeps c d k
    one false c d k = k

program_alike : (value : Option ProgramPart) (a b : ChannelState) → AreAlike a b → AreAlike (record a { program = value }) (record b { program = value })
program_alike value a b h = record { program = refl; control = h.control; toggles = h.toggles; selection = h.selection; wheel = h.wheel; note = h.note; pressure = h.pressure; poly = h.poly }

toggles_alike : (count : ℕ) (a b : ChannelState) → AreAlike a b → AreAlike (record a { toggles = count }) (record b { toggles = count })
toggles_alike count a b h = record { program = h.program; control = h.control; toggles = refl; selection = h.selection; wheel = h.wheel; note = h.note; pressure = h.pressure; poly = h.poly }

half_alike : (high : Bool) (p : Param) (value : Option ℕ) (a b : ChannelState) → AreAlike a b → AreAlike (half_put high p value a) (half_put high p value b)
half_alike high p value a b h = record { program = h.program; control = h.control; toggles = h.toggles; selection = h.selection; wheel = h.wheel; note = h.note; pressure = h.pressure; poly = h.poly }

high_same : (s t : State) (at : ℕ) (nrpn : Bool) (high low : ℕ) (value : Option ℕ) → IsState s → IsState t → SameButParams s t → SameButParams (high_entered s at nrpn high low value) (high_entered t at nrpn high low value)
high_same s t at nrpn high low None left right h = h
high_same s t at nrpn high low (Some value) left right h =
    put_same s t at (half_put true (record { nrpn = nrpn; high = high; low = low }) (Some value)) left right (half_alike true (record { nrpn = nrpn; high = high; low = low }) (Some value)) h

low_same : (s t : State) (at : ℕ) (nrpn : Bool) (high low : ℕ) (value : Option ℕ) → IsState s → IsState t → SameButParams s t → SameButParams (low_entered s at nrpn high low value) (low_entered t at nrpn high low value)
low_same s t at nrpn high low None left right h = h
low_same s t at nrpn high low (Some value) left right h =
    put_same s t at (half_put false (record { nrpn = nrpn; high = high; low = low }) (Some value)) left right (half_alike false (record { nrpn = nrpn; high = high; low = low }) (Some value)) h

applied_if_same : (s t : State) (command : Option Command) → IsState s → IsState t → SameButParams s t → SameButParams (applied_if s command) (applied_if t command)
applied_if_same s t None left right h = h
applied_if_same s t (Some command) left right h = applied_same s t command left right h

channel_log_same : (s t : State) (log : LogKind) → IsState s → IsState t → SameButParams s t → SameButParams (with_channel_log s log) (with_channel_log t log)
channel_log_same s t (kinds.Program at program bank) left right h =
    put_same s t at (λ c. record c { program = Some (record { program = program; bank = bank }) }) left right (program_alike (Some (record { program = program; bank = bank }))) h
channel_log_same s t (kinds.Param at nrpn high low entry_high entry_low) left right h =
    low_same (high_entered s at nrpn high low entry_high) (high_entered t at nrpn high low entry_high) at nrpn high low entry_low
    (high_is s at nrpn high low entry_high left) (high_is t at nrpn high low entry_high right) (high_same s t at nrpn high low entry_high left right h)
channel_log_same s t (kinds.Toggle at count) left right h = put_same s t at (λ c. record c { toggles = count % 64 }) left right (toggles_alike (count % 64)) h
channel_log_same s t log left right h = applied_if_same s t (command_of log) left right h

session_log_same : (s t : State) (log : LogKind) → SameButParams s t → SameButParams (with_session_log s log) (with_session_log t log)
session_log_same s t (kinds.Song song) h = record { song = refl; sequencer = h.sequencer; time_code = h.time_code; sysex_count = h.sysex_count; channels = h.channels }
session_log_same s t (kinds.Sequencer running downbeat position) h = record { song = h.song; sequencer = refl; time_code = h.time_code; sysex_count = h.sysex_count; channels = h.channels }
session_log_same s t (kinds.TimeCode complete partial backward point) h = record { song = h.song; sequencer = h.sequencer; time_code = refl; sysex_count = h.sysex_count; channels = h.channels }
session_log_same s t log h = h

message_same : (reset : Bool) (before : ℕ) (s t : State) (log : Log) → SameButParams s t → SameButParams (with_message reset before s log) (with_message reset before t log)
message_same reset before s t log h =
    elim (cases_Bool (counts reset before log.what)) [
      | inl c ↦ rw c (record { song = h.song; sequencer = h.sequencer; time_code = h.time_code; sysex_count = ap (λ (n : ℕ). (n + 1) % 256) h.sysex_count; channels = h.channels })
      | inr n ↦ rw n h
    ]

-- ## Repair

fold_two : {X : Type 0} (step : State → X → State) → ((s : State) (x : X) → IsState s → IsState (step s x)) → ((s t : State) (x : X) → IsState s → IsState t → SameButParams s t → SameButParams (step s x) (step t x)) →
    (s t : State) (xs : List X) → AreTwo s t → AreTwo (fold step s xs) (fold step t xs)
fold_two step keeps same s t [] two = two
fold_two step keeps same s t (x ∷ xs) two =
    fold_two step keeps same (step s x) (step t x) xs
    (record { same = same s t x two.left two.right two.same; left = keeps s x two.left; right = keeps t x two.right })

cleared_two : (s t : State) (logs : List Log) → AreTwo s t → AreTwo (cleared logs s) (cleared logs t)
cleared_two s t logs two =
    record {
      same = elim (cases_Bool (has_reset logs)) [ inl r ↦ rw r (same_self no_state) | inr f ↦ rw f (two.same) ];
      left = cleared_is s logs two.left;
      right = cleared_is t logs two.right;
    }

messages_two : (s t : State) (logs : List Log) → AreTwo s t → AreTwo (messages_repaired logs s) (messages_repaired logs t)
messages_two s t logs two =
    subst (λ n. AreTwo (fold (with_message (has_reset logs) n) s logs) (messages_repaired logs t)) (sym two.same.sysex_count)
    (fold_two (with_message (has_reset logs) (sysex_count_of t)) (λ u log is. message_is (has_reset logs) (sysex_count_of t) u log is) (λ u v log left right h. message_same (has_reset logs) (sysex_count_of t) u v log h) s t logs two)

-- Repair of both by the same logs leaves them the same but for their parameters.
pub repaired_same : (s t : State) (logs : List Log) → IsState s → IsState t → SameButParams s t → SameButParams (repaired s logs) (repaired t logs)
repaired_same s t logs left right h =
    let counted = messages_two (cleared logs s) (cleared logs t) logs (cleared_two s t logs (record { same = h; left = left; right = right })) in
    let done : AreTwo (session_done s logs) (session_done t logs) =
    fold_two (λ u log. with_session_log u log.what) (λ u log is. session_log_is u log.what is) (λ u v log left right k. session_log_same u v log.what k)
    (messages_repaired logs (cleared logs s)) (messages_repaired logs (cleared logs t)) logs counted in
    let all = fold_two with_log (λ u log is. channel_log_is u log.what is) (λ u v log left right k. channel_log_same u v log.what left right k)
    (session_done s logs) (session_done t logs) (flat_map (λ channel. in_order channel logs) all_channels) done in
    rw (repaired-fold s logs, repaired-fold t logs) (all.same)
