-- What the logs of a written journal enter in a channel.
use Rattle.std.proofs.lemmas.Bool.{not-true}
use Rattle.std.proofs.Common.{◌≡◌, ℕ, ◌%◌, ◌<◌, ◌≤◌, Bool, true, false, not, cond, ◌&&◌, eqb, List, [], ◌∷◌, Option, Some, None, fold, length, refl, sym, ap, ◌∙◌, inl, inr, arith}
use Rattle.std.proofs.Math.Bool.{beq}
use Rattle.std.specs.List.{flat_map, list_any, filter, AllByRecursion}
use Rattle.std.proofs.lemmas.Bool.{cases_Bool, eqb-true, eq-eqb, and_parts}
use Rattle.std.proofs.lemmas.Bool.Decides.{nat_tests}
use Rattle.jm_cmds.specs.declared.commands.Command.{Command}
use Rattle.jm_cmds.specs.declared.commands.Command.TheVariants as commands
use Rattle.jm_cmds.specs.declared.controls.ControlKind.{ControlKind}
use Rattle.jm_cmds.specs.declared.controls.ControlKind.TheVariants as numbers
use Rattle.jm_cmds.specs.declared.history.Sent.{Sent}
use Rattle.jm_cmds.specs.declared.param.Param.{Param}
use Rattle.jm_cmds.specs.Control.{control_kind, is_entry, is_counted, is_reset}
use Rattle.jm_cmds.specs.ControlLaws.{is_entry_kind, is_entry-kind}
use Rattle.jm_cmds.specs.History.{below}
use Rattle.jm_cmds.specs.HistoryLaws.{AllByRecursion-append, AllByRecursion-filter, AllByRecursion-weaker}
use Rattle.jm_cmds.specs.Param.{same_param}
use Rattle.jm_cmds.specs.Selection.{control_command}
use Rattle.jm_cmds.specs.Sent.{packet_of, is_fresh}
use Rattle.ch_control.specs.declared.events.ControlEvent.{ControlEvent}
use Rattle.ch_control.specs.declared.events.ControlEvent.TheVariants as events
use Rattle.ch_control.specs.ControlEvent.{control_event, event_at}
use Rattle.ch_control.specs.ChapterC.{coded_controls}
use Rattle.jm_state.specs.declared.channel.ChannelState.{ChannelState}
use Rattle.jm_state.specs.declared.entered.Entry.{Entry}
use Rattle.jm_state.specs.declared.state.State.{State}
use Rattle.jm_state.specs.Apply.{applied, selected_by}
use Rattle.jm_state.specs.Entered.{halves_in, entered_with}
use Rattle.jm_state.specs.Parts.{nth_channel, channel_of, with_channel, half_put, selection_of, entered_of}
use Rattle.jm_state.specs.Says.{said, entered_behind}
use Rattle.jm_state.specs.Kept.{IsState, channel_put}
use Rattle.jm_state.specs.PartLaws.{by_part}
use Rattle.jm_state.specs.Replay.{said-over}
use Rattle.jm_state.specs.Final.{final, over_none, final-flat_map, final-none, final-one}
use Rattle.jm_reader.specs.declared.logs.Log.{Log}
use Rattle.jm_reader.specs.declared.logs.LogKind.{LogKind}
use Rattle.jm_reader.specs.declared.logs.LogKind.TheVariants as kinds
use Rattle.jm_reader.specs.WrittenC.{c_said, event_said, place_said as c_place}
use Rattle.jm_reader.specs.WrittenListed.{all_logged}
use Rattle.jm_reader.specs.WrittenM.{m_said}
use Rattle.jm_reader.specs.WrittenJournal.{journal_logs}
use Rattle.jm_receiver.specs.declared.group.Group.{Group}
use Rattle.jm_receiver.specs.declared.group.Group.TheVariants.{Programs, Params, Controls, Wheels, Released, Struck, Pressures, Polys}
use Rattle.jm_receiver.specs.Group.{is_of, all_groups, all_channels}
use Rattle.jm_receiver.specs.Repair.{has_reset, cleared, counts, with_message, messages_repaired, with_session_log, high_entered, low_entered, with_channel_log, repaired}
use Rattle.jm_receiver.specs.Order.{of_group, in_order, with_log, log_says, session_done, repaired-fold, channel_log_is, session_is, high_is, tag, rank, is_of-tag, final-filter_none, all_of}
use Rattle.jm_receiver.specs.SystemLogs.{all_flat}
use Rattle.jm_receiver.specs.Chapters.{group_logs, group_tagged, in_order_of_journal, in_order_of_fresh}
use Rattle.jm_receiver.specs.Repairs.{session_channels}
use Rattle.jm_receiver.specs.ParamKeys.{is_known, Holds, holds_entered, half_of, half_entered}

-- ## One log

-- a half that a log has is entered
abbrev pub half_in : (high : Bool) → Param → Option ℕ → List Entry → List Entry
half_in high p None es = es
half_in high p (Some value) es = entered_with high p (Some value) es

abbrev pub param : (nrpn : Bool) → (high low : ℕ) → Param
param nrpn high low = record { nrpn = nrpn; high = high; low = low }

-- what a log enters in this channel: a parameter's both halves, and no other does
abbrev pub log_enters : (channel : ℕ) → List Entry → LogKind → List Entry
log_enters channel es (kinds.Param at nrpn high low entry_high entry_low) =
    cond (eqb at channel) (half_in false (param nrpn high low) entry_low (half_in true (param nrpn high low) entry_high es)) es
log_enters channel es log = es

-- a log of Controls 6 and 38, of which there is none
abbrev pub is_entry_log : LogKind → Bool
is_entry_log (kinds.Control at number value) = is_entry number
is_entry_log (kinds.Count at number count) = is_entry number
is_entry_log log = false

-- a change of a channel that enters nothing
pub put_left : (s : State) (at channel : ℕ) (change : ChannelState → ChannelState) → channel < 16 → IsState s → ((c : ChannelState) → (change c).entered ≡ c.entered) →
    entered_of (with_channel s at (change (channel_of s at))) channel ≡ entered_of s channel
put_left s at channel change l is h =
    ap (λ (c : ChannelState). c.entered) (channel_put s.channels at channel change (omega (arith, l, is.sixteen)))
    ∙ elim (cases_Bool (eqb at channel)) [ inl t ↦ rw t (h (channel_of s channel)) | inr f ↦ rw f refl ]

put_entered : (s : State) (at channel : ℕ) (high : Bool) (p : Param) (value : ℕ) → channel < 16 → IsState s →
    entered_of (with_channel s at (half_put high p (Some value) (channel_of s at))) channel ≡ cond (eqb at channel) (entered_with high p (Some value) (entered_of s channel)) (entered_of s channel)
put_entered s at channel high p value l is =
    ap (λ (c : ChannelState). c.entered) (channel_put s.channels at channel (half_put high p (Some value)) (omega (arith, l, is.sixteen)))
    ∙ elim (cases_Bool (eqb at channel)) [ inl t ↦ rw t refl | inr f ↦ rw f refl ]

pub high_in : (s : State) (at channel : ℕ) (nrpn : Bool) (high low : ℕ) (value : Option ℕ) → channel < 16 → IsState s →
    entered_of (high_entered s at nrpn high low value) channel ≡ cond (eqb at channel) (half_in true (param nrpn high low) value (entered_of s channel)) (entered_of s channel)
high_in s at channel nrpn high low None l is = elim (cases_Bool (eqb at channel)) [ inl t ↦ rw t refl | inr f ↦ rw f refl ]
high_in s at channel nrpn high low (Some value) l is = put_entered s at channel true (param nrpn high low) value l is

pub low_in : (s : State) (at channel : ℕ) (nrpn : Bool) (high low : ℕ) (value : Option ℕ) → channel < 16 → IsState s →
    entered_of (low_entered s at nrpn high low value) channel ≡ cond (eqb at channel) (half_in false (param nrpn high low) value (entered_of s channel)) (entered_of s channel)
low_in s at channel nrpn high low None l is = elim (cases_Bool (eqb at channel)) [ inl t ↦ rw t refl | inr f ↦ rw f refl ]
low_in s at channel nrpn high low (Some value) l is = put_entered s at channel false (param nrpn high low) value l is

-- another controller enters nothing
control_kind_left : (selected : Option Param) (kind : ControlKind) (value : ℕ) (es : List Entry) → is_entry_kind kind ≡ false → entered_behind selected (control_command kind value) es ≡ es
control_kind_left selected (numbers.DataEntry high) value es h = absurd (let f : true ≡ false = h in cc)
control_kind_left selected (numbers.Selection nrpn high) value es h = refl
control_kind_left selected (numbers.Increment n) value es h = refl
control_kind_left selected (numbers.Silence n) value es h = refl
control_kind_left selected numbers.ResetControllers value es h = refl
control_kind_left selected (numbers.Mode n) value es h = refl
control_kind_left selected (numbers.Kept n) value es h = refl
control_kind_left selected numbers.Pedal value es h = refl
control_kind_left selected (numbers.Plain n) value es h = refl

control_left : (s : State) (channel at number value : ℕ) → channel < 16 → IsState s → is_entry number ≡ false → entered_of (applied s (commands.Control at number value)) channel ≡ entered_of s channel
control_left s channel at number value l is h =
    (by_part s (commands.Control at number value) is).entered channel l
    ∙ elim (cases_Bool (eqb at channel)) [
      | inl t ↦ rw t (control_kind_left (selected_by (selection_of s channel)) (control_kind number) value (entered_of s channel) (is_entry-kind number ∙ h))
      | inr f ↦ rw f refl
    ]

-- What a log enters.
pub with_entered : (channel : ℕ) → channel < 16 → (s : State) (log : LogKind) → IsState s → is_entry_log log ≡ false → entered_of (with_channel_log s log) channel ≡ log_enters channel (entered_of s channel) log
with_entered channel l s (kinds.Program at program bank) is h =
    put_left s at channel (λ c. record c { program = Some (record { program = program; bank = bank }) }) l is (λ c. refl)
with_entered channel l s (kinds.Param at nrpn high low entry_high entry_low) is h =
    let first = high_entered s at nrpn high low entry_high in
    low_in first at channel nrpn high low entry_low l (high_is s at nrpn high low entry_high is)
    ∙ ap (λ (es : List Entry). cond (eqb at channel) (half_in false (param nrpn high low) entry_low es) es) (high_in s at channel nrpn high low entry_high l is)
    ∙ elim (cases_Bool (eqb at channel)) [ inl t ↦ rw t refl | inr f ↦ rw f refl ]
with_entered channel l s (kinds.Toggle at count) is h = put_left s at channel (λ c. record c { toggles = count % 64 }) l is (λ c. refl)
with_entered channel l s (kinds.Control at number value) is h = control_left s channel at number value l is h
with_entered channel l s (kinds.Count at number count) is h = control_left s channel at number 0 l is h
with_entered channel l s (kinds.Wheel at first second) is h = (by_part s (commands.Wheel at first second) is).entered channel l
with_entered channel l s (kinds.NoteOff at note) is h = (by_part s (commands.NoteOff at note 64) is).entered channel l
with_entered channel l s (kinds.NoteOn at note velocity soon) is h = (by_part s (commands.NoteOn at note velocity) is).entered channel l
with_entered channel l s (kinds.Pressure at value) is h = (by_part s (commands.Pressure at value) is).entered channel l
with_entered channel l s (kinds.Poly at note value) is h = (by_part s (commands.PolyPressure at note value) is).entered channel l
with_entered channel l s log is h = refl

-- ## Many logs

-- what a log says of a half of a parameter
abbrev pub as_said : Option ℕ → Option (Option ℕ)
as_said None = None
as_said (Some value) = Some (Some value)

abbrev pub param_log_says : (channel : ℕ) → (param : Param) → (high : Bool) → LogKind → Option (Option ℕ)
param_log_says channel p half (kinds.Param at nrpn high low entry_high entry_low) =
    cond (eqb at channel && same_param p (param nrpn high low)) (as_said (cond half entry_high entry_low)) None
param_log_says channel p half log = None

-- the parameter of a log of this channel is known
abbrev pub IsLogOfKnown : (channel : ℕ) → List Param → LogKind → Type 0
IsLogOfKnown channel known (kinds.Param at nrpn high low entry_high entry_low) = eqb at channel ≡ true → is_known known (param nrpn high low) ≡ true
IsLogOfKnown channel known log = Unit {0}

-- a log that repair may take without pushing anything out
pub record Fits (channel : ℕ) (known : List Param) (log : LogKind) : Type 0 where
  pub no_entry : is_entry_log log ≡ false
  pub is_known : IsLogOfKnown channel known log

module _ (channel : ℕ) (known : List Param) (few : length known ≤ 16) where
  holds_in : (es : List Entry) (high : Bool) (p : Param) (value : Option ℕ) → Holds known es → is_known known p ≡ true → Holds known (half_in high p value es)
  holds_in es high p None h k = h
  holds_in es high p (Some value) h k = holds_entered known es high p value few h k

  pub holds_log : (es : List Entry) (log : LogKind) → Holds known es → IsLogOfKnown channel known log → Holds known (log_enters channel es log)
  holds_log es (kinds.Param at nrpn high low entry_high entry_low) h k =
      let p = param nrpn high low in
      elim (cases_Bool (eqb at channel)) [
        | inl t ↦ rw t (holds_in (half_in true p entry_high es) false p entry_low (holds_in es true p entry_high h (k t)) (k t))
        | inr f ↦ rw f h
      ]
  holds_log es log h k = h

  pub holds_logs : (es : List Entry) (logs : List Log) → Holds known es → AllByRecursion (λ log. IsLogOfKnown channel known log.what) logs → Holds known (fold (λ e log. log_enters channel e log.what) es logs)
  holds_logs es [] h a = h
  holds_logs es (log ∷ logs) h a = holds_logs (log_enters channel es log.what) logs (holds_log es log.what h a.0) a.1

  module _ (q : Param) (half : Bool) where
    abbrev read : List Entry → Option ℕ
    read es = half_of half (halves_in es q)

    half_said : (es : List Entry) (high : Bool) (p : Param) (value : Option ℕ) → Holds known es → is_known known p ≡ true →
        read (half_in high p value es) ≡ said (cond (same_param q p && beq half high) (as_said value) None) (read es)
    half_said es high p None h k = elim (cases_Bool (same_param q p && beq half high)) [ inl t ↦ rw t refl | inr f ↦ rw f refl ]
    half_said es high p (Some value) h k = half_entered known es q half p high value few h k

    two_halves : (same half : Bool) (a b : Option ℕ) (old : Option ℕ) → said (cond (same && beq half false) (as_said b) None) (said (cond (same && beq half true) (as_said a) None) old) ≡ said (cond same (as_said (cond half a b)) None) old
    two_halves true true a b old = refl
    two_halves true false a b old = refl
    two_halves false half a b old = refl

    log_said : (es : List Entry) (log : LogKind) → Holds known es → IsLogOfKnown channel known log → read (log_enters channel es log) ≡ said (param_log_says channel q half log) (read es)
    log_said es (kinds.Param at nrpn high low entry_high entry_low) h k =
        let p = param nrpn high low in
        elim (cases_Bool (eqb at channel)) [
          | inl t ↦
              rw t
              (half_said (half_in true p entry_high es) false p entry_low (holds_in es true p entry_high h (k t)) (k t)
              ∙ ap (said (cond (same_param q p && beq half false) (as_said entry_low) None)) (half_said es true p entry_high h (k t))
              ∙ two_halves (same_param q p) half entry_high entry_low (read es))
          | inr f ↦ rw f refl
        ]
    log_said es log h k = refl

    -- What the logs enter is what the last that speaks of a half says of it.
    pub logs_said : (es : List Entry) (logs : List Log) → Holds known es → AllByRecursion (λ log. IsLogOfKnown channel known log.what) logs →
        read (fold (λ e log. log_enters channel e log.what) es logs) ≡ said (final (log_says (param_log_says channel q half)) logs) (read es)
    logs_said es [] h a = refl
    logs_said es (log ∷ logs) h a =
        let later = final (log_says (param_log_says channel q half)) logs in
        logs_said (log_enters channel es log.what) logs (holds_log es log.what h a.0) a.1
        ∙ ap (said later) (log_said es log.what h a.0)
        ∙ said-over later (param_log_says channel q half log.what) (read es)

-- ## Repair

logs_enter : (channel : ℕ) → channel < 16 → (known : List Param) (s : State) (logs : List Log) → IsState s → AllByRecursion (λ log. Fits channel known log.what) logs →
    entered_of (fold with_log s logs) channel ≡ fold (λ e log. log_enters channel e log.what) (entered_of s channel) logs
logs_enter channel l known s [] is a = refl
logs_enter channel l known s (log ∷ logs) is a =
    logs_enter channel l known (with_log s log) logs (channel_log_is s log.what is) a.1
    ∙ ap (λ (es : List Entry). fold (λ e x. log_enters channel e x.what) es logs) (with_entered channel l s log.what is (a.0).no_entry)

session_left : (s : State) (logs : List Log) → (fold (λ t log. with_session_log t log.what) s logs).channels ≡ s.channels
session_left s [] = refl
session_left s (log ∷ logs) = session_left (with_session_log s log.what) logs ∙ session_channels s log.what

messages_left : (reset : Bool) (before : ℕ) (s : State) (logs : List Log) → (fold (with_message reset before) s logs).channels ≡ s.channels
messages_left reset before s [] = refl
messages_left reset before s (log ∷ logs) =
    messages_left reset before (with_message reset before s log) logs
    ∙ elim (cases_Bool (counts reset before log.what)) [ inl t ↦ rw t refl | inr f ↦ rw f refl ]

pub done_left : (s : State) (logs : List Log) → (session_done s logs).channels ≡ (cleared logs s).channels
done_left s logs = session_left (messages_repaired logs (cleared logs s)) logs ∙ messages_left (has_reset logs) (cleared logs s).sysex_count (cleared logs s) logs

-- the logs of all channels, in the order of repair
abbrev pub all_in_order : List Log → List Log
all_in_order logs = flat_map (λ channel. in_order channel logs) all_channels

-- What repair enters, where its logs push nothing out.
pub entered_repaired : (channel : ℕ) → channel < 16 → (known : List Param) (s : State) (logs : List Log) → IsState s → AllByRecursion (λ log. Fits channel known log.what) (all_in_order logs) →
    entered_of (repaired s logs) channel ≡ fold (λ e log. log_enters channel e log.what) (entered_of (cleared logs s) channel) (all_in_order logs)
entered_repaired channel l known s logs is a =
    ap (λ (t : State). entered_of t channel) (repaired-fold s logs)
    ∙ logs_enter channel l known (session_done s logs) (all_in_order logs) (session_is s logs is) a
    ∙ ap (λ (channels : List ChannelState). fold (λ e log. log_enters channel e log.what) (nth_channel channels channel).entered (all_in_order logs)) (done_left s logs)

-- ## The logs of a journal

-- a tag of another group than the parameters and the controls
abbrev is_plain : Option (Group × ℕ) → Bool
is_plain None = true
is_plain (Some t) = not (eqb (rank t.0) 1) && not (eqb (rank t.0) 2)

plain_fits : (channel : ℕ) (known : List Param) (log : LogKind) → is_plain (tag log) ≡ true → Fits channel known log
plain_fits channel known (kinds.Param at nrpn high low entry_high entry_low) h = absurd (let f : false ≡ true = h in cc)
plain_fits channel known (kinds.Control at number value) h = absurd (let f : false ≡ true = h in cc)
plain_fits channel known (kinds.Count at number count) h = absurd (let f : false ≡ true = h in cc)
plain_fits channel known log h = record { no_entry = refl; is_known = tt }

plain_group : (group : Group) (at channel checkpoint packet tick : ℕ) (known : List Param) (sent : List Sent) → is_plain (Some (group, at)) ≡ true → AllByRecursion (λ log. Fits channel known log.what) (group_logs group at checkpoint packet tick sent)
plain_group group at channel checkpoint packet tick known sent h =
    AllByRecursion-weaker (λ (log : Log). tag log.what ≡ Some (group, at)) (λ log. Fits channel known log.what)
    (λ log e. plain_fits channel known log.what (ap is_plain e ∙ h)) (group_logs group at checkpoint packet tick sent) (group_tagged group at checkpoint packet tick sent)

logged_all : (P : Log → Type 0) (fresh : Bool) (whats : List LogKind) → AllByRecursion (λ what. P (record { fresh = fresh; what = what })) whats → AllByRecursion P (all_logged fresh whats)
logged_all P fresh [] h = tt
logged_all P fresh (what ∷ whats) h = (h.0, logged_all P fresh whats h.1)

module _ (channel : ℕ) (known : List Param) where
  abbrev FitsLog : LogKind → Type 0
  FitsLog what = Fits channel known what

  value_fits : (b : Bool) (at number count value : ℕ) → is_entry number ≡ false → FitsLog (cond b (kinds.Count at number count) (kinds.Control at number value))
  value_fits true at number count value h = record { no_entry = h; is_known = tt }
  value_fits false at number count value h = record { no_entry = h; is_known = tt }

  abbrev SetsNone : ControlEvent → Type 0
  SetsNone (events.Set number value) = is_entry number ≡ false
  SetsNone events.Dropped = Unit {0}
  SetsNone events.Other = Unit {0}

  event_fits : (at : ℕ) (session : List Sent) (event : ControlEvent) → SetsNone event → AllByRecursion FitsLog (event_said at session event)
  event_fits at session (events.Set number value) h =
      elim (cases_Bool (eqb number 64)) [
        | inl t ↦ rw t (value_fits (is_counted number) at number _ value h, (record { no_entry = refl; is_known = tt }, tt))
        | inr f ↦ rw f (value_fits (is_counted number) at number _ value h, tt)
      ]
  event_fits at session events.Dropped h = tt
  event_fits at session events.Other h = tt

  sets_none : (at : ℕ) (command : Command) → SetsNone (control_event at command)
  sets_none at (commands.Control own number value) =
      elim (cases_Bool (eqb own at && not (is_entry number))) [
        | inl t ↦ rw t (not-true (is_entry number) (and_parts (eqb own at) (not (is_entry number)) t).1)
        | inr f ↦ rw f tt
      ]
  sets_none at command = dropped (is_reset command)
    where
      dropped : (b : Bool) → SetsNone (cond b events.Dropped events.Other)
      dropped true = tt
      dropped false = tt

  controls_fit : (at checkpoint packet : ℕ) (sent : List Sent) → AllByRecursion (λ log. FitsLog log.what) (c_said at checkpoint packet sent)
  unfolding c_said
  controls_fit at checkpoint packet sent =
      let session = below packet_of packet sent in
      all_flat (λ log. FitsLog log.what) (λ place. all_logged (is_fresh packet place) (c_place at session place))
      (λ x. logged_all (λ log. FitsLog log.what) (is_fresh packet x) (c_place at session x) (event_fits at session (event_at at x) (sets_none at x.command)))
      (coded_controls at checkpoint packet sent)

  module _ (checkpoint packet tick : ℕ) (sent : List Sent) (own : (at : ℕ) → AllByRecursion (λ log. FitsLog log.what) (m_said at checkpoint packet sent)) where
    group_fits : (group : Group) (at : ℕ) → AllByRecursion (λ log. FitsLog log.what) (group_logs group at checkpoint packet tick sent)
    group_fits Programs at = plain_group Programs at channel checkpoint packet tick known sent refl
    group_fits Params at = own at
    group_fits Controls at = controls_fit at checkpoint packet sent
    group_fits Wheels at = plain_group Wheels at channel checkpoint packet tick known sent refl
    group_fits Released at = plain_group Released at channel checkpoint packet tick known sent refl
    group_fits Struck at = plain_group Struck at channel checkpoint packet tick known sent refl
    group_fits Pressures at = plain_group Pressures at channel checkpoint packet tick known sent refl
    group_fits Polys at = plain_group Polys at channel checkpoint packet tick known sent refl

    sixteen : AllByRecursion (λ at. at < 16) all_channels
    unfolding all_channels
    sixteen = (omega arith, (omega arith, (omega arith, (omega arith, (omega arith, (omega arith, (omega arith, (omega arith, (omega arith, (omega arith, (omega arith, (omega arith, (omega arith, (omega arith, (omega arith, (omega arith, tt))))))))))))))))

    -- of logs that stand group by group
    logs_fit : (logs : List Log) (by_group : ℕ → Group → List Log) → ((at : ℕ) → at < 16 → in_order at logs ≡ flat_map (by_group at) all_groups) → ((group : Group) (at : ℕ) → AllByRecursion (λ log. FitsLog log.what) (by_group at group)) →
        (channels : List ℕ) → AllByRecursion (λ at. at < 16) channels → AllByRecursion (λ log. FitsLog log.what) (flat_map (λ at. in_order at logs) channels)
    logs_fit logs by_group order fit [] h = tt
    logs_fit logs by_group order fit (at ∷ more) h =
        let here : AllByRecursion (λ log. FitsLog log.what) (in_order at logs) = rw (order at h.0) (all_flat (λ log. FitsLog log.what) (by_group at) (λ group. fit group at) all_groups) in
        AllByRecursion-append (λ log. FitsLog log.what) (in_order at logs) (flat_map (λ k. in_order k logs) more) here (logs_fit logs by_group order fit more h.1)

    -- All logs of a journal may be taken, where those of Chapter M may.
    pub journal_fits : AllByRecursion (λ log. FitsLog log.what) (all_in_order (journal_logs checkpoint packet tick sent))
    journal_fits =
        logs_fit (journal_logs checkpoint packet tick sent) (λ at group. group_logs group at checkpoint packet tick sent)
        (λ at l. in_order_of_journal at checkpoint packet tick sent l) group_fits all_channels sixteen

    -- and so may the fresh ones
    pub fresh_fit : AllByRecursion (λ log. FitsLog log.what) (all_in_order (filter (λ log. log.fresh) (journal_logs checkpoint packet tick sent)))
    fresh_fit =
        logs_fit (filter (λ log. log.fresh) (journal_logs checkpoint packet tick sent)) (λ at group. filter (λ log. log.fresh) (group_logs group at checkpoint packet tick sent))
        (λ at l. in_order_of_fresh at checkpoint packet tick sent l)
        (λ group at. AllByRecursion-filter (λ log. FitsLog log.what) (λ log. log.fresh) (group_logs group at checkpoint packet tick sent) (group_fits group at)) all_channels sixteen

-- ## Chapter M alone

untold : (channel : ℕ) (p : Param) (half : Bool) (group : Group) (log : LogKind) → eqb (rank group) 1 ≡ false → tag log ≡ Some (group, channel) → param_log_says channel p half log ≡ None
untold channel p half group (kinds.Param at nrpn high low entry_high entry_low) h e =
    absurd (let same : Some 1 ≡ Some (rank group) = ap ranked e in let b : true ≡ false = ap is_one same ∙ h in cc)
  where
    ranked : Option (Group × ℕ) → Option ℕ
    ranked None = None
    ranked (Some t) = Some (rank t.0)

    is_one : Option ℕ → Bool
    is_one None = false
    is_one (Some n) = eqb n 1
untold channel p half group log h e = refl

both : (a b : Bool) → (a && b) ≡ true → b ≡ true
both true b h = h
both false b h = absurd (let f : false ≡ true = h in cc)

elsewhere : (group : Group) (channel other : ℕ) (p : Param) (half : Bool) (log : LogKind) → eqb channel other ≡ false → is_of group other log ≡ true → param_log_says channel p half log ≡ None
elsewhere group channel other p half (kinds.Param at nrpn high low entry_high entry_low) apart h =
    let there : eqb at other ≡ true = both (eqb (rank group) 1) (eqb at other) (sym (is_of-tag group other (kinds.Param at nrpn high low entry_high entry_low)) ∙ h) in
    let same : at ≡ other = eqb-true at other there in
    elim (cases_Bool (eqb at channel)) [
      | inl t ↦ absurd (let here : channel ≡ other = sym (eqb-true at channel t) ∙ same in let b : true ≡ false = sym (eq-eqb channel other here) ∙ apart in cc)
      | inr f ↦ rw f refl
    ]
elsewhere group channel other p half log apart h = refl

in_16 : (channel : ℕ) → channel < 16 → list_any (λ k. eqb channel k) all_channels ≡ true
unfolding all_channels
in_16 channel l = grind (arith, nat_tests)

module _ (channel : ℕ) (l : channel < 16) (p : Param) (half : Bool) where
  abbrev says : Log → Option (Option ℕ)
  says = log_says (param_log_says channel p half)

  silent_elsewhere : (logs : List Log) (other : ℕ) → eqb channel other ≡ false → final says (in_order other logs) ≡ None
  unfolding in_order
  silent_elsewhere logs other apart =
      final-flat_map says (λ group. of_group group other logs) all_groups
      ∙ final-none (λ group. final says (of_group group other logs)) all_groups
      (all_of (λ group. final says (of_group group other logs) ≡ None)
      (λ group. final-filter_none says (λ log. is_of group other log.what) (λ log h. elsewhere group channel other p half log.what apart h) logs) all_groups)

  abbrev AreOfGroup : Group → List Log → Type 0
  AreOfGroup group logs = AllByRecursion (λ log. tag log.what ≡ Some (group, channel)) logs

  silent_group : (group : Group) (logs : List Log) → eqb (rank group) 1 ≡ false → AreOfGroup group logs → final says logs ≡ None
  silent_group group logs h tagged =
      final-none says logs (AllByRecursion-weaker (λ (log : Log). tag log.what ≡ Some (group, channel)) (λ log. says log ≡ None) (λ log e. untold channel p half group log.what h e) logs tagged)

  -- of logs that stand group by group
  params_alone : (logs : List Log) (by_group : Group → List Log) → in_order channel logs ≡ flat_map by_group all_groups → ((group : Group) → AreOfGroup group (by_group group)) → final says (all_in_order logs) ≡ final says (by_group Params)
  unfolding all_groups
  params_alone logs by_group order tagged =
      let none = λ (group : Group) (h : eqb (rank group) 1 ≡ false). silent_group group (by_group group) h (tagged group) in
      final-flat_map says (λ k. in_order k logs) all_channels
      ∙ final-one (λ k. final says (in_order k logs)) channel all_channels (silent_elsewhere logs)
      (λ k e. let same : channel ≡ k = eqb-true channel k e in ap (λ (n : ℕ). final says (in_order n logs)) (sym same)) (in_16 channel l)
      ∙ ap (final says) order
      ∙ final-flat_map says by_group all_groups
      ∙ rw (none Programs refl, none Controls refl, none Wheels refl, none Released refl, none Struck refl, none Pressures refl, none Polys refl) (over_none (final says (by_group Params)))

  -- Of a journal's logs, in the order of repair, those of the channel's Chapter M alone speak of its parameters.
  pub m_alone : (checkpoint packet tick : ℕ) (sent : List Sent) → final says (all_in_order (journal_logs checkpoint packet tick sent)) ≡ final says (m_said channel checkpoint packet sent)
  m_alone checkpoint packet tick sent =
      params_alone (journal_logs checkpoint packet tick sent) (λ group. group_logs group channel checkpoint packet tick sent) (in_order_of_journal channel checkpoint packet tick sent l)
      (λ group. group_tagged group channel checkpoint packet tick sent)

  -- and so it is of the fresh ones
  pub fresh_alone : (checkpoint packet tick : ℕ) (sent : List Sent) → final says (all_in_order (filter (λ log. log.fresh) (journal_logs checkpoint packet tick sent))) ≡ final says (filter (λ log. log.fresh) (m_said channel checkpoint packet sent))
  fresh_alone checkpoint packet tick sent =
      params_alone (filter (λ log. log.fresh) (journal_logs checkpoint packet tick sent)) (λ group. filter (λ log. log.fresh) (group_logs group channel checkpoint packet tick sent))
      (in_order_of_fresh channel checkpoint packet tick sent l)
      (λ group. AllByRecursion-filter (λ (log : Log). tag log.what ≡ Some (group, channel)) (λ log. log.fresh) (group_logs group channel checkpoint packet tick sent) (group_tagged group channel checkpoint packet tick sent))
