-- The law of repair for whole states.
use Rattle.std.proofs.Common.{◌≡◌, ℕ, ◌<◌, ◌≤◌, Bool, true, false, ◌||◌, List, [], ◌∷◌, None, length, refl, sym, ap, ◌∙◌, inl, inr, arith}
use Rattle.std.specs.Prelude.{nat_lt}
use Rattle.std.specs.List.{list_any, AllByRecursion}
use Rattle.std.proofs.lemmas.Bool.{cases_Bool, ltb-false, le-ltb}
use Rattle.jm_cmds.specs.declared.history.Sent.{Sent}
use Rattle.jm_cmds.specs.declared.param.Param.{Param}
use Rattle.jm_cmds.specs.History.{below, InOrder}
use Rattle.jm_cmds.specs.Param.{same_param}
use Rattle.jm_cmds.specs.ParamLaws.{same_param-equal}
use Rattle.jm_cmds.specs.Sent.{packet_of}
use Rattle.ch_param.specs.ChapterM.{session_places}
use Rattle.ch_sysex.specs.ChapterX.{sysex_logs}
use Rattle.jm_state.specs.declared.entered.Entry.{Entry}
use Rattle.jm_state.specs.declared.entered.Halves.{Halves}
use Rattle.jm_state.specs.declared.state.State.{State}
use Rattle.jm_state.specs.Entered.{no_halves, halves_in}
use Rattle.jm_state.specs.KeptLaws.{no_state_is}
use Rattle.jm_state.specs.Parts.{no_state, entered_of, param_of}
use Rattle.jm_state.specs.ReplayLaws.{state_behind, behind_is}
use Rattle.jm_state.specs.SettingLaws.{Touched, nothing, SameBut}
use Rattle.jm_state.specs.Says.{said}
use Rattle.jm_state.specs.Final.{final}
use Rattle.jm_reader.specs.declared.logs.Log.{Log}
use Rattle.jm_reader.specs.Written.{AreCommands}
use Rattle.jm_reader.specs.WrittenJournal.{journal_logs}
use Rattle.jm_receiver.specs.Repair.{repaired}
use Rattle.jm_receiver.specs.Congruence.{SameButParams, repaired_same}
use Rattle.jm_receiver.specs.KnownLaw.{sequencer_repaired, time_code_repaired}
use Rattle.jm_receiver.specs.MessageLaw.{number_of_messages_repaired}
use Rattle.jm_receiver.specs.ControlLaw.{control_repaired}
use Rattle.jm_receiver.specs.NoteLaw.{note_repaired}
use Rattle.jm_receiver.specs.PolyLaw.{poly_repaired}
use Rattle.jm_receiver.specs.PressureLaw.{pressure_repaired}
use Rattle.jm_receiver.specs.ProgramLaw.{program_repaired}
use Rattle.jm_receiver.specs.SelectionLaw.{selection_repaired}
use Rattle.jm_receiver.specs.SongLaw.{song_repaired}
use Rattle.jm_receiver.specs.ToggleLaw.{toggles_repaired}
use Rattle.jm_receiver.specs.WheelLaw.{wheel_repaired}
use Rattle.jm_state.specs.ParamLaws.{same_self as param_self}
use Rattle.jm_receiver.specs.ParamKeys.{is_known, Holds, half_of}
use Rattle.jm_receiver.specs.ParamLaw.{recent, read_half, half_from, same_halves, params_before, half_before, holds_before}
use Rattle.jm_receiver.specs.ParamLogs.{param}
use Rattle.jm_receiver.specs.ParamPlaces.{params_entered, clears, place_says}
use Rattle.jm_receiver.specs.Whole.{has_half, IsEntered, IsWhole}

-- More than 16 different parameters of the channel were entered since the last Reset State command.
abbrev pub is_crowded : (channel : ℕ) → List Sent → Bool
is_crowded channel sent = nat_lt 16 (length (params_entered channel sent))

-- what isn't compared behind these commands: the parameters of crowded channels, of which those pushed out aren't part of the state
abbrev pub crowded : List Sent → Touched
crowded sent = record nothing { params = λ channel. is_crowded channel sent }

-- The state is what these commands leave: all parts are equal, parameters by their kind and number, those of crowded channels aside.
abbrev pub Agrees : State → List Sent → Type 0
Agrees s sent = SameBut (crowded sent) (state_behind no_state sent) s

-- Repair by the journal of a packet of a state that agrees with the packets before `next`, of which that packet is none, leaves one that
-- agrees with all packets before it: wherever the journal's checkpoint isn't later than `next`. The commands stand in the order of
-- their packets and are within their bounds, and the journal has at most 128 logs of System Exclusive messages, as the limits of a
-- session ask (`KeepsLimits`). With `next` 0 the state is the empty one, which a receiver has before any packet.
abbrev pub StatesAreRepaired : Type 0
StatesAreRepaired =
    (checkpoint next packet tick : ℕ) (sent : List Sent) (s : State) → AreCommands sent → InOrder packet_of sent → sysex_logs checkpoint (below packet_of packet sent) ≤ 128 → checkpoint ≤ next → next ≤ packet →
    IsWhole s → Agrees s (below packet_of next sent) → Agrees (repaired s (journal_logs checkpoint packet tick sent)) (below packet_of packet sent)

-- ## All parts but parameters

pub alike_parts : (own : ℕ → Bool) (s t : State) → SameBut (record nothing { params = own }) s t → SameButParams t s
alike_parts own s t h = record {
  song = h.song refl;
  sequencer = h.sequencer refl;
  time_code = h.time_code refl;
  sysex_count = h.sysex_count refl;
  channels = λ channel l. record {
    program = h.program channel l refl;
    control = λ number n. h.control channel number l n refl;
    toggles = h.toggles channel l refl;
    selection = h.selection channel l refl;
    wheel = h.wheel channel l refl;
    note = λ note n. h.note channel note l n refl;
    pressure = h.pressure channel l refl;
    poly = λ note n. h.poly channel note l n refl;
  };
}

-- ## Parameters

-- an entry is of this parameter
abbrev has_key : List Entry → Param → Bool
has_key es p = list_any (λ e. same_param e.param p) es

no_value : has_half no_halves ≡ false
no_value = refl

valued_some : (h : Halves) → has_half h ≡ true → h ≡ no_halves → ⊥
valued_some h v e = let t : true ≡ false = sym v ∙ ap has_half e ∙ no_value in cc

-- where a parameter has a half, an entry has it
found_key : (known : List Param) (es : List Entry) (p : Param) → (halves_in es p ≡ no_halves → ⊥) → AllByRecursion (λ e. is_known known e.param ≡ true) es → is_known known p ≡ true
found_key known [] p n a = absurd (n refl)
found_key known (e ∷ es) p n a =
    elim (cases_Bool (same_param e.param p)) [
      | inl t ↦ sym (ap (is_known known) (same_param-equal e.param p t)) ∙ a.0
      | inr f ↦ found_key known es p (λ h. n (rw f h)) a.1
    ]

found_valued : (es : List Entry) (p : Param) → AllByRecursion (λ e. has_half e.halves ≡ true) es → has_key es p ≡ true → halves_in es p ≡ no_halves → ⊥
found_valued [] p a k h = let t : false ≡ true = k in cc
found_valued (e ∷ es) p a k h =
    elim (cases_Bool (same_param e.param p)) [
      | inl t ↦ valued_some e.halves a.0 (rw t at h)
      | inr f ↦ found_valued es p a.1 (rw f at k) (rw f at h)
    ]

all_known : (known : List Param) (ours es : List Entry) → ((p : Param) → has_key es p ≡ true → is_known known p ≡ true) → AllByRecursion (λ e. is_known known e.param ≡ true) es
all_known known ours [] h = tt
all_known known ours (e ∷ es) h =
    (h e.param (rw (param_self e.param) refl), all_known known ours es (λ p k. h p (rw k (last (same_param e.param p)))))
  where
    last : (b : Bool) → (b || true) ≡ true
    last true = refl
    last false = refl

-- A whole state that has the same halves as one with known parameters has known ones.
pub holds_too : (known : List Param) (ours theirs : List Entry) → IsEntered ours → Holds known theirs → ((p : Param) → halves_in ours p ≡ halves_in theirs p) → Holds known ours
holds_too known ours theirs is h same = record {
  among = all_known known ours ours (λ p k. found_key known theirs p (λ none. found_valued ours p is.valued k (same p ∙ none)) h.among);
  distinct = is.distinct;
}

pub param_again : (p : Param) → param p.nrpn p.high p.low ≡ p
param_again p = same_param-equal (param p.nrpn p.high p.low) p (param_self p)

pub few_of : (channel : ℕ) (sent : List Sent) → is_crowded channel sent ≡ false → length (params_entered channel sent) ≤ 16
few_of channel sent h = ltb-false 16 (length (params_entered channel sent)) h

module _ (channel : ℕ) (l : channel < 16) (checkpoint next packet tick : ℕ) (sent : List Sent) (s : State) (o : InOrder packet_of sent) (early : checkpoint ≤ next) (late : next ≤ packet) (is : IsWhole s) (agrees : Agrees s (below packet_of next sent)) (few : length (params_entered channel (below packet_of packet sent)) ≤ 16) where
  -- where nothing clears them, the parameters are those of the packets before `next`
  entered_agrees : list_any (clears channel) (recent channel checkpoint (below packet_of packet sent)) ≡ false → (p : Param) → halves_in (entered_of s channel) p ≡ halves_in (entered_of (state_behind no_state (below packet_of next sent)) channel) p
  entered_agrees f p =
      let before = below packet_of next sent in
      let fewer = params_before channel checkpoint next packet sent o early late f in
      let open_too : is_crowded channel before ≡ false = le-ltb 16 (length (params_entered channel before)) (omega (arith, few, fewer)) in
      ap (halves_in (entered_of s channel)) (sym (param_again p))
      ∙ agrees.param channel p.nrpn p.high p.low l open_too
      ∙ ap (halves_in (entered_of (state_behind no_state before) channel)) (param_again p)

  pub holds_agrees : list_any (clears channel) (recent channel checkpoint (below packet_of packet sent)) ≡ false → Holds (params_entered channel (below packet_of packet sent)) (entered_of s channel)
  holds_agrees f =
      holds_too (params_entered channel (below packet_of packet sent)) (entered_of s channel) (entered_of (state_behind no_state (below packet_of next sent)) channel) (is.entered channel l)
      (holds_before channel l checkpoint next packet sent o early late few f) (entered_agrees f)

  pub said_agrees : (p : Param) (half : Bool) → list_any (clears channel) (recent channel checkpoint (below packet_of packet sent)) ≡ false →
      read_half channel p half s ≡ said (final (place_says channel p half) (session_places channel (below packet_of next sent))) None
  said_agrees p half f = ap (half_of half) (entered_agrees f p) ∙ half_before channel l p half checkpoint next packet sent o early late few f

  half_agrees : (p : Param) (half : Bool) → read_half channel p half (repaired s (journal_logs checkpoint packet tick sent)) ≡ read_half channel p half (state_behind no_state (below packet_of packet sent))
  half_agrees p half = half_from channel l p half checkpoint next packet tick sent s o early late is.state few holds_agrees (said_agrees p half)

  param_agrees : (nrpn : Bool) (high low : ℕ) → param_of (repaired s (journal_logs checkpoint packet tick sent)) channel nrpn high low ≡ param_of (state_behind no_state (below packet_of packet sent)) channel nrpn high low
  param_agrees nrpn high low =
      let p = param nrpn high low in
      same_halves (halves_in (entered_of (repaired s (journal_logs checkpoint packet tick sent)) channel) p) (halves_in (entered_of (state_behind no_state (below packet_of packet sent)) channel) p)
      (half_agrees p true) (half_agrees p false)

-- ## The law

-- the parameters of channels that aren't crowded are what these commands leave
abbrev pub ParamsAgree : State → List Sent → Type 0
ParamsAgree s sent =
    (channel : ℕ) (nrpn : Bool) (high low : ℕ) → channel < 16 → is_crowded channel sent ≡ false → param_of s channel nrpn high low ≡ param_of (state_behind no_state sent) channel nrpn high low

-- Where these logs repair all parts but parameters of the state that some commands leave, and the parameters of one that agrees with it,
-- they repair that one.
pub states_from : (s : State) (logs : List Log) (before after : List Sent) → SameButParams (repaired (state_behind no_state before) logs) (state_behind no_state after) → ParamsAgree (repaired s logs) after →
    IsWhole s → Agrees s before → Agrees (repaired s logs) after
states_from s logs before after b params is agrees =
    let old = state_behind no_state before in
    let a = repaired_same s old logs is.state (behind_is no_state before no_state_is) (alike_parts (λ channel. is_crowded channel before) old s agrees) in
    record {
      song = λ n. a.song ∙ b.song;
      sequencer = λ n. a.sequencer ∙ b.sequencer;
      time_code = λ n. a.time_code ∙ b.time_code;
      sysex_count = λ n. a.sysex_count ∙ b.sysex_count;
      program = λ channel l n. (a.channels channel l).program ∙ (b.channels channel l).program;
      control = λ channel number l k n. (a.channels channel l).control number k ∙ (b.channels channel l).control number k;
      toggles = λ channel l n. (a.channels channel l).toggles ∙ (b.channels channel l).toggles;
      selection = λ channel l n. (a.channels channel l).selection ∙ (b.channels channel l).selection;
      param = λ channel nrpn high low l n. params channel nrpn high low l n;
      wheel = λ channel l n. (a.channels channel l).wheel ∙ (b.channels channel l).wheel;
      note = λ channel note l k n. (a.channels channel l).note note k ∙ (b.channels channel l).note note k;
      pressure = λ channel l n. (a.channels channel l).pressure ∙ (b.channels channel l).pressure;
      poly = λ channel note l k n. (a.channels channel l).poly note k ∙ (b.channels channel l).poly note k;
    }

pub states_repaired : StatesAreRepaired
states_repaired checkpoint next packet tick sent s h o messages early late is agrees =
    states_from s (journal_logs checkpoint packet tick sent) (below packet_of next sent) (below packet_of packet sent)
    (record {
      song = song_repaired checkpoint next packet tick sent o early late;
      sequencer = sequencer_repaired checkpoint next packet tick sent h o early late;
      time_code = time_code_repaired checkpoint next packet tick sent h o early late;
      sysex_count = number_of_messages_repaired checkpoint next packet tick sent o messages early late;
      channels = λ channel l. record {
        program = program_repaired channel l checkpoint next packet tick sent o early late;
        control = λ number n. control_repaired channel number l n checkpoint next packet tick sent o early late;
        toggles = toggles_repaired channel l checkpoint next packet tick sent o early late;
        selection = selection_repaired channel l checkpoint next packet tick sent o early late;
        wheel = wheel_repaired channel l checkpoint next packet tick sent o early late;
        note = λ note n. note_repaired channel note l n checkpoint next packet tick sent o early late;
        pressure = pressure_repaired channel l checkpoint next packet tick sent o early late;
        poly = λ note n. poly_repaired channel note l n checkpoint next packet tick sent o early late;
      };
    })
    (λ channel nrpn high low l n. param_agrees channel l checkpoint next packet tick sent s o early late is agrees (few_of channel (below packet_of packet sent) n) nrpn high low)
    is agrees
