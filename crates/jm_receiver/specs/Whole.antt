-- What holds of the state of every receiver, whatever it took.
use Rattle.std.proofs.Common.{◌≡◌, ℕ, zero, suc, ◌+◌, ◌-◌, ◌%◌, ◌^◌, ◌<◌, ◌≤◌, Bool, true, false, cond, ◌||◌, eqb, List, [], ◌∷◌, ◌++◌, Option, Some, None, fold, drop, length, refl, sym, ap, subst, inl, inr, arith}
use Rattle.std.specs.Prelude.{is_some, Result, Ok, Err, filter}
use Rattle.std.specs.List.{flat_map, AllByRecursion, IsDistinct}
use Rattle.std.proofs.Math.Bool.{beq}
use Rattle.std.proofs.lemmas.Bool.{cases_Bool, eqb-true}
use Rattle.jm_wire.specs.Readers.{◌>>=◌}
use Rattle.jm_cmds.specs.declared.commands.Command.{Command}
use Rattle.jm_cmds.specs.declared.commands.Command.TheVariants.{Sysex, SystemReset}
use Rattle.jm_cmds.specs.declared.param.Param.{Param}
use Rattle.jm_cmds.specs.declared.pedal.Pedal.{Pedal}
use Rattle.jm_cmds.specs.declared.pedal.PedalEvent.{PedalEvent}
use Rattle.jm_cmds.specs.declared.pedal.PedalEvent.TheVariants.{Moved, Released, Other}
use Rattle.jm_cmds.specs.declared.selection.ParamCommand.{ParamCommand}
use Rattle.jm_cmds.specs.declared.selection.ParamCommand.TheVariants.{Select, Enter, Unselect, Clear, Pass}
use Rattle.jm_cmds.specs.Control.{is_reset_message}
use Rattle.jm_cmds.specs.Data.{is_kept_message}
use Rattle.jm_cmds.specs.HistoryLaws.{AllByRecursion-append, AllByRecursion-filter}
use Rattle.jm_cmds.specs.Param.{same_param}
use Rattle.jm_cmds.specs.Pedal.{pedal_step, pedal_event}
use Rattle.jm_cmds.specs.Selection.{param_command}
use Rattle.jm_section.specs.declared.item.Item.{Item}
use Rattle.jm_state.specs.declared.channel.ChannelState.{ChannelState}
use Rattle.jm_state.specs.declared.entered.Entry.{Entry}
use Rattle.jm_state.specs.declared.entered.Halves.{Halves}
use Rattle.jm_state.specs.declared.state.State.{State}
use Rattle.jm_state.specs.Apply.{applied, selected_by}
use Rattle.jm_state.specs.Entered.{half_set, halves_in, is_other, entered_with, latest}
use Rattle.jm_state.specs.Parts.{no_state, sysex_count_of, toggles_of, pedal_of, selection_of, entered_of, with_toggles}
use Rattle.jm_state.specs.Says.{count_after, entered_if, entered_behind}
use Rattle.jm_state.specs.Kept.{IsState, no_channel_at}
use Rattle.jm_state.specs.KeptLaws.{no_state_is, state_after_is}
use Rattle.jm_state.specs.ParamLaws.{entered_few}
use Rattle.jm_state.specs.PartLaws.{by_part}
use Rattle.jm_state.specs.SettingLaws.{program_alone, param_high_alone, param_low_alone, reads_as_set, toggles_alone}
use Rattle.jm_reader.specs.declared.logs.Log.{Log}
use Rattle.jm_reader.specs.declared.logs.LogKind.{LogKind}
use Rattle.jm_reader.specs.declared.logs.LogKind.TheVariants as kinds
use Rattle.jm_receiver.specs.declared.heard.Hearing.{Hearing}
use Rattle.jm_receiver.specs.declared.opening.AcceptFault.{AcceptFault}
use Rattle.jm_receiver.specs.declared.place.Placed.{Placed}
use Rattle.jm_receiver.specs.declared.place.Uses.{Uses}
use Rattle.jm_receiver.specs.declared.place.Uses.TheVariants.{Nothing, Fresh, All}
use Rattle.jm_receiver.specs.declared.receiver.Took.{Took}
use Rattle.jm_receiver.specs.Accept.{Contents, opened, placed, repaired_using, kept_over, heard_in, took_at, accepted}
use Rattle.jm_receiver.specs.Group.{command_of, all_channels}
use Rattle.jm_receiver.specs.Heard.{command_said, heard_if, sent_also, sent_all}
use Rattle.jm_receiver.specs.Order.{in_order, with_log, session_done, repaired-fold, channel_log_is, session_log_is, message_is, high_is}
use Rattle.jm_receiver.specs.ParamKeys.{keys_of, distinct_entered}
use Rattle.jm_receiver.specs.ParamLogs.{put_left, high_in, low_in, half_in, param}
use Rattle.jm_receiver.specs.Receiver.{Received}
use Rattle.jm_receiver.specs.Repair.{has_reset, cleared, counts, with_message, messages_repaired, with_session_log, high_entered, low_entered, applied_if, with_channel_log, repaired}
use Rattle.jm_receiver.specs.Repairs.{session_channels}

-- one of the halves is there
abbrev pub has_half : Halves → Bool
has_half h = is_some h.entry_high || is_some h.entry_low

-- What was entered in a channel: different parameters, at most 16, each with a half.
pub record IsEntered (es : List Entry) : Type 0 where
  pub distinct : IsDistinct same_param (keys_of es)
  pub few : length es ≤ 16
  pub valued : AllByRecursion (λ e. has_half e.halves ≡ true) es

-- A state with 16 channels and whole tables, whose counts are in their ranges and whose parameters are as above.
pub record IsWhole (s : State) : Type 0 where
  pub state : IsState s
  pub sysex_count : sysex_count_of s < 256
  pub toggles : (channel : ℕ) → channel < 16 → toggles_of s channel < 64
  pub entered : (channel : ℕ) → channel < 16 → IsEntered (entered_of s channel)

-- ## What was entered

pub entered_none : IsEntered []
unfolding IsDistinct
entered_none = record { distinct = tt; few = omega arith; valued = tt }

keys_dropped : (P : Param → Type 0) (k : ℕ) (es : List Entry) → AllByRecursion P (keys_of es) → AllByRecursion P (keys_of (drop k es))
keys_dropped P zero es h = h
keys_dropped P (suc k) [] h = tt
keys_dropped P (suc k) (e ∷ es) h = keys_dropped P k es h.1

distinct_dropped : (k : ℕ) (es : List Entry) → IsDistinct same_param (keys_of es) → IsDistinct same_param (keys_of (drop k es))
unfolding IsDistinct
distinct_dropped zero es d = d
distinct_dropped (suc k) [] d = tt
distinct_dropped (suc k) (e ∷ es) d = distinct_dropped k es d.1

all_dropped : (P : Entry → Type 0) (k : ℕ) (es : List Entry) → AllByRecursion P es → AllByRecursion P (drop k es)
all_dropped P zero es h = h
all_dropped P (suc k) [] h = tt
all_dropped P (suc k) (e ∷ es) h = all_dropped P k es h.1

set_half : (high : Bool) (value : ℕ) (h : Halves) → has_half (half_set high (Some value) h) ≡ true
set_half true value h = refl
set_half false value h = last (is_some h.entry_high)
  where
    last : (b : Bool) → (b || true) ≡ true
    last true = refl
    last false = refl

pub entered_more : (high : Bool) (p : Param) (value : ℕ) (es : List Entry) → IsEntered es → IsEntered (entered_with high p (Some value) es)
unfolding latest
entered_more high p value es is =
    let e : Entry = record { param = p; halves = half_set high (Some value) (halves_in es p) } in
    let others = filter (is_other p) es in
    let all = others ++ e ∷ [] in
    record {
      distinct = distinct_dropped (length all - 16) all (distinct_entered p e es refl is.distinct);
      few = entered_few high p value es;
      valued = all_dropped (λ (x : Entry). has_half x.halves ≡ true) (length all - 16) all
          (AllByRecursion-append (λ (x : Entry). has_half x.halves ≡ true) others (e ∷ []) (AllByRecursion-filter (λ (x : Entry). has_half x.halves ≡ true) (is_other p) es is.valued) (set_half high value (halves_in es p), tt));
    }

half_in_is : (high : Bool) (p : Param) (value : Option ℕ) (es : List Entry) → IsEntered es → IsEntered (half_in high p value es)
half_in_is high p None es is = is
half_in_is high p (Some value) es is = entered_more high p value es is

entered_if_is : (o : Option Param) (high : Bool) (value : ℕ) (es : List Entry) → IsEntered es → IsEntered (entered_if o high value es)
entered_if_is None high value es is = is
entered_if_is (Some p) high value es is = entered_more high p value es is

entered_behind_is : (o : Option Param) (command : ParamCommand) (es : List Entry) → IsEntered es → IsEntered (entered_behind o command es)
entered_behind_is o (Select nrpn high value) es is = is
entered_behind_is o (Enter high value) es is = entered_if_is o high value es is
entered_behind_is o Unselect es is = is
entered_behind_is o Clear es is = entered_none
entered_behind_is o Pass es is = is

-- ## A command

pedal_small : (p : Pedal) (event : PedalEvent) → p.toggles < 64 → (pedal_step p event).toggles < 64
pedal_small p (Moved on) l = elim (cases_Bool (beq on p.on)) [ inl t ↦ rw t l | inr f ↦ rw f (omega arith) ]
pedal_small p Released l = omega arith
pedal_small p Other l = l

count_small : (count : ℕ) (command : Command) → count < 256 → count_after count command < 256
count_small count (Sysex octets) l =
    elim (cases_Bool (is_reset_message octets)) [
      | inl t ↦ rw t (omega arith)
      | inr f ↦ elim (cases_Bool (is_kept_message octets)) [ inl k ↦ rw (f, k) (omega arith) | inr n ↦ rw (f, n) l ]
    ]
count_small count SystemReset l = omega arith
count_small count command l = l

no_toggles : {n : ℕ} → n ≡ 0 → n < 64
no_toggles e = omega (arith, e)

pub none_whole : IsWhole no_state
none_whole = record {
  state = no_state_is;
  sysex_count = omega arith;
  toggles = λ channel l. no_toggles (ap (λ (c : ChannelState). c.toggles) (no_channel_at channel l));
  entered = λ channel l. subst IsEntered (sym (ap (λ (c : ChannelState). c.entered) (no_channel_at channel l))) entered_none;
}

pub applied_whole : (s : State) (command : Command) → IsWhole s → IsWhole (applied s command)
applied_whole s command is =
    let parts = by_part s command is.state in
    record {
      state = state_after_is s command is.state;
      sysex_count = rw (parts.sysex_count) (count_small (sysex_count_of s) command is.sysex_count);
      toggles = λ channel l.
          let same : toggles_of (applied s command) channel ≡ (pedal_step (pedal_of s channel) (pedal_event channel command)).toggles = ap (λ (p : Pedal). p.toggles) (parts.pedal channel l) in
          rw same (pedal_small (pedal_of s channel) (pedal_event channel command) (is.toggles channel l));
      entered = λ channel l. rw (parts.entered channel l) (entered_behind_is (selected_by (selection_of s channel)) (param_command channel command) (entered_of s channel) (is.entered channel l));
    }

-- ## A log

-- a state with the same channels
channels_whole : (s t : State) → t.channels ≡ s.channels → IsState t → sysex_count_of t < 256 → IsWhole s → IsWhole t
channels_whole s t same state l is = record {
  state = state;
  sysex_count = l;
  toggles = λ channel c. rw same (is.toggles channel c);
  entered = λ channel c. rw same (is.entered channel c);
}

session_count : (s : State) (log : LogKind) → sysex_count_of s < 256 → sysex_count_of (with_session_log s log) < 256
session_count s (kinds.Song song) l = l
session_count s (kinds.Sequencer running downbeat position) l = l
session_count s (kinds.TimeCode complete partial backward point) l = l
session_count s log l = l

session_log_whole : (s : State) (log : LogKind) → IsWhole s → IsWhole (with_session_log s log)
session_log_whole s log is = channels_whole s (with_session_log s log) (session_channels s log) (session_log_is s log is.state) (session_count s log is.sysex_count) is

message_whole : (reset : Bool) (before : ℕ) (s : State) (log : Log) → IsWhole s → IsWhole (with_message reset before s log)
message_whole reset before s log is =
    channels_whole s (with_message reset before s log)
    (elim (cases_Bool (counts reset before log.what)) [ inl t ↦ rw t refl | inr f ↦ rw f refl ])
    (message_is reset before s log is.state)
    (elim (cases_Bool (counts reset before log.what)) [ inl t ↦ rw t (omega arith) | inr f ↦ rw f (is.sysex_count) ]) is

high_count : (s : State) (at : ℕ) (nrpn : Bool) (high low : ℕ) (value : Option ℕ) → sysex_count_of (high_entered s at nrpn high low value) ≡ sysex_count_of s
high_count s at nrpn high low None = refl
high_count s at nrpn high low (Some value) = refl

low_count : (s : State) (at : ℕ) (nrpn : Bool) (high low : ℕ) (value : Option ℕ) → sysex_count_of (low_entered s at nrpn high low value) ≡ sysex_count_of s
low_count s at nrpn high low None = refl
low_count s at nrpn high low (Some value) = refl

high_toggles : (s : State) (at channel : ℕ) (nrpn : Bool) (high low : ℕ) (value : Option ℕ) → channel < 16 → IsState s → toggles_of (high_entered s at nrpn high low value) channel ≡ toggles_of s channel
high_toggles s at channel nrpn high low None l is = refl
high_toggles s at channel nrpn high low (Some value) l is = (param_high_alone s at nrpn high low (Some value) is).toggles channel l refl

low_toggles : (s : State) (at channel : ℕ) (nrpn : Bool) (high low : ℕ) (value : Option ℕ) → channel < 16 → IsState s → toggles_of (low_entered s at nrpn high low value) channel ≡ toggles_of s channel
low_toggles s at channel nrpn high low None l is = refl
low_toggles s at channel nrpn high low (Some value) l is = (param_low_alone s at nrpn high low (Some value) is).toggles channel l refl

chosen : (b : Bool) (a c : List Entry) → IsEntered a → IsEntered c → IsEntered (cond b a c)
chosen true a c x y = x
chosen false a c x y = y

high_whole : (s : State) (at : ℕ) (nrpn : Bool) (high low : ℕ) (value : Option ℕ) → IsWhole s → IsWhole (high_entered s at nrpn high low value)
high_whole s at nrpn high low value is = record {
  state = high_is s at nrpn high low value is.state;
  sysex_count = rw (high_count s at nrpn high low value) (is.sysex_count);
  toggles = λ channel l. rw (high_toggles s at channel nrpn high low value l is.state) (is.toggles channel l);
  entered = λ channel l.
      rw (high_in s at channel nrpn high low value l is.state)
      (chosen (eqb at channel) (half_in true (param nrpn high low) value (entered_of s channel)) (entered_of s channel) (half_in_is true (param nrpn high low) value (entered_of s channel) (is.entered channel l)) (is.entered channel l));
}

low_whole : (s : State) (at : ℕ) (nrpn : Bool) (high low : ℕ) (value : Option ℕ) → IsState (low_entered s at nrpn high low value) → IsWhole s → IsWhole (low_entered s at nrpn high low value)
low_whole s at nrpn high low value state is = record {
  state = state;
  sysex_count = rw (low_count s at nrpn high low value) (is.sysex_count);
  toggles = λ channel l. rw (low_toggles s at channel nrpn high low value l is.state) (is.toggles channel l);
  entered = λ channel l.
      rw (low_in s at channel nrpn high low value l is.state)
      (chosen (eqb at channel) (half_in false (param nrpn high low) value (entered_of s channel)) (entered_of s channel) (half_in_is false (param nrpn high low) value (entered_of s channel) (is.entered channel l)) (is.entered channel l));
}

toggles_set : (s : State) (at count channel : ℕ) → channel < 16 → IsState s → count < 64 → toggles_of s channel < 64 → toggles_of (with_toggles s at count) channel < 64
toggles_set s at count channel l is small old =
    elim (cases_Bool (eqb at channel)) [
      | inl t ↦
          let same : at ≡ channel = eqb-true at channel t in
          rw (same, (reads_as_set s is).toggles channel count l) small
      | inr f ↦ rw ((toggles_alone s at count is).toggles channel l f) old
    ]

applied_if_whole : (s : State) (command : Option Command) → IsWhole s → IsWhole (applied_if s command)
applied_if_whole s None is = is
applied_if_whole s (Some command) is = applied_whole s command is

pub channel_log_whole : (s : State) (log : LogKind) → IsWhole s → IsWhole (with_channel_log s log)
channel_log_whole s (kinds.Program at program bank) is = record {
  state = channel_log_is s (kinds.Program at program bank) is.state;
  sysex_count = is.sysex_count;
  toggles = λ channel l. rw ((program_alone s at (Some (record { program = program; bank = bank })) is.state).toggles channel l refl) (is.toggles channel l);
  entered = λ channel l. rw (put_left s at channel (λ c. record c { program = Some (record { program = program; bank = bank }) }) l is.state (λ c. refl)) (is.entered channel l);
}
channel_log_whole s (kinds.Param at nrpn high low entry_high entry_low) is =
    low_whole (high_entered s at nrpn high low entry_high) at nrpn high low entry_low
    (channel_log_is s (kinds.Param at nrpn high low entry_high entry_low) is.state) (high_whole s at nrpn high low entry_high is)
channel_log_whole s (kinds.Toggle at count) is = record {
  state = channel_log_is s (kinds.Toggle at count) is.state;
  sysex_count = is.sysex_count;
  toggles = λ channel l. toggles_set s at (count % 64) channel l is.state (omega arith) (is.toggles channel l);
  entered = λ channel l. rw (put_left s at channel (λ c. record c { toggles = count % 64 }) l is.state (λ c. refl)) (is.entered channel l);
}
channel_log_whole s log is = applied_if_whole s (command_of log) is

-- ## Repair

fold_whole : {X : Type 0} (step : State → X → State) → ((s : State) (x : X) → IsWhole s → IsWhole (step s x)) → (s : State) (xs : List X) → IsWhole s → IsWhole (fold step s xs)
fold_whole step keeps s [] is = is
fold_whole step keeps s (x ∷ xs) is = fold_whole step keeps (step s x) xs (keeps s x is)

cleared_whole : (s : State) (logs : List Log) → IsWhole s → IsWhole (cleared logs s)
cleared_whole s logs is = elim (cases_Bool (has_reset logs)) [ inl t ↦ rw t none_whole | inr f ↦ rw f is ]

-- Repair by any logs leaves a whole state.
pub repaired_whole : (s : State) (logs : List Log) → IsWhole s → IsWhole (repaired s logs)
repaired_whole s logs is =
    let begins = cleared logs s in
    let counted = messages_repaired logs begins in
    let counted_is : IsWhole counted = fold_whole (with_message (has_reset logs) begins.sysex_count) (message_whole (has_reset logs) begins.sysex_count) begins logs (cleared_whole s logs is) in
    let done_is : IsWhole (session_done s logs) = fold_whole (λ t log. with_session_log t log.what) (λ t log w. session_log_whole t log.what w) counted logs counted_is in
    rw (repaired-fold s logs) (fold_whole with_log (λ t log w. channel_log_whole t log.what w) (session_done s logs) (flat_map (λ channel. in_order channel logs) all_channels) done_is)

-- ## The receiver

-- What holds of a receiver: its state is whole, and before it has taken a packet all parts are absent and no message is unfinished.
pub record IsReceived (r : Received) : Type 0 where
  pub whole : IsWhole r.state
  pub begins : r.last ≡ None → r.state ≡ no_state
  pub empty : r.last ≡ None → r.unfinished ≡ None

said_whole : (h : Hearing) (said : Option Command) → IsWhole h.state → IsWhole (heard_if h said).state
said_whole h None is = is
said_whole h (Some command) is = applied_whole h.state command is

sent_whole : (h : Hearing) (items : List Item) → IsWhole h.state → IsWhole (fold sent_also h items).state
sent_whole h [] is = is
sent_whole h (item ∷ items) is = sent_whole (sent_also h item) items (said_whole (record h { tick = (h.tick + item.delta) % 2 ^ 32 }) (command_said h.unfinished item.what) is)

pub used_whole : (uses : Uses) (logs : List Log) (h : Hearing) → IsWhole h.state → IsWhole (repaired_using uses logs h).state
used_whole Nothing logs h is = is
used_whole Fresh logs h is = repaired_whole h.state (filter (λ log. log.fresh) logs) is
used_whole All logs h is = repaired_whole h.state logs is

hearing_whole : (r : Received) (c : Contents) (place : Placed) → IsWhole r.state → IsWhole (heard_in r c place).state
unfolding sent_all
hearing_whole r c place is =
    let begins : Hearing = record { state = r.state; tick = c.tick; heard = []; unfinished = None } in
    sent_whole (record (repaired_using place.uses c.logs begins) { unfinished = kept_over place.gap r.unfinished }) c.items (used_whole place.uses c.logs begins is)

pub ok_value : {A E : Type 0} → (a b : A) → ◌≡◌ {A = Result A E} (Ok a) (Ok b) → a ≡ b
ok_value a b e = cc

taken_whole : (r : Received) (c : Contents) (place : Placed) (after : Received) (took : Took) → IsReceived r → ◌≡◌ {A = Result (Received × Took) AcceptFault} (Ok (took_at place (heard_in r c place) r)) (Ok (after, took)) → IsReceived after
taken_whole r c place after took is e =
    let same : (took_at place (heard_in r c place) r).0 ≡ after = ap (λ (p : Received × Took). p.0) (ok_value (took_at place (heard_in r c place) r) (after, took) e) in
    rw (← same) (record {
      whole = hearing_whole r c place is.whole;
      begins = λ n. absurd (let no : ◌≡◌ {A = Option ℕ} (Some place.number) None = n in cc);
      empty = λ n. absurd (let no : ◌≡◌ {A = Option ℕ} (Some place.number) None = n in cc);
    })

placed_whole : (r : Received) (c : Contents) (o : Result Placed AcceptFault) (after : Received) (took : Took) → IsReceived r → (o >>= (λ place. Ok (took_at place (heard_in r c place) r))) ≡ Ok (after, took) → IsReceived after
placed_whole r c (Ok place) after took is e = taken_whole r c place after took is e
placed_whole r c (Err fault) after took is e = absurd cc

opened_whole : (r : Received) (o : Result Contents AcceptFault) (after : Received) (took : Took) → IsReceived r → (o >>= (λ c. placed r.last c.number >>= (λ place. Ok (took_at place (heard_in r c place) r)))) ≡ Ok (after, took) → IsReceived after
opened_whole r (Ok c) after took is e = placed_whole r c (placed r.last c.number) after took is e
opened_whole r (Err fault) after took is e = absurd cc

-- A packet that is taken leaves a receiver so.
pub accepted_whole : (r : Received) (octets : List ℕ) (after : Received) (took : Took) → IsReceived r → accepted r octets ≡ Ok (after, took) → IsReceived after
unfolding accepted
accepted_whole r octets after took is e = opened_whole r (opened r.ssrc octets) after took is e

pub new_whole : (ssrc : ℕ) → IsReceived (record { ssrc = ssrc; last = None; state = no_state; unfinished = None })
new_whole ssrc = record { whole = none_whole; begins = λ n. refl; empty = λ n. refl }
