-- Whether two states are the same, as a test: true exactly where all parts are equal.
use Rattle.std.proofs.Common.{◌≡◌, ℕ, zero, suc, ◌<◌, Bool, true, false, ◌&&◌, Option, Some, None, eqb, List, inl, inr, refl, ap, sym, ◌∙◌, arith, IsTrue}
use Rattle.std.specs.Option.{option_eq}
use Rattle.std.proofs.lemmas.Bool.{cases_Bool, cases_lt, eqb-true, eq-eqb, and_parts, false≢true}
use Rattle.std.proofs.Math.Bool.{beq}
use Rattle.jm_cmds.specs.declared.selection.Selection.{Selection}
use Rattle.jm_cmds.specs.declared.sequencing.SequencerPart.{SequencerPart}
use Rattle.jm_cmds.specs.declared.frames.TimePart.{TimePart}
use Rattle.jm_cmds.specs.ParamLaws.{beq-true}
use Rattle.jm_state.specs.declared.channel.ProgramPart.{ProgramPart}
use Rattle.jm_state.specs.declared.channel.ChannelState.{ChannelState}
use Rattle.jm_state.specs.declared.state.State.{State}
use Rattle.jm_state.specs.Table.{value_at}
use Rattle.jm_state.specs.Entered.{same_entered}
use Rattle.jm_state.specs.EnteredLaws.{entered_equal, equal_entered}
use Rattle.jm_state.specs.Parts.{control_at, channel_of}
use Rattle.jm_state.specs.Same.{SameChannel, AreSame, selection_equal}

-- ## Parts

abbrev pub pair_eq : ℕ × ℕ → ℕ × ℕ → Bool
pair_eq a b = eqb a.0 b.0 && eqb a.1 b.1

abbrev pub program_eq : ProgramPart → ProgramPart → Bool
program_eq a b = eqb a.program b.program && option_eq pair_eq a.bank b.bank

abbrev pub selection_eq : Selection → Selection → Bool
selection_eq a b =
    beq a.nrpn b.nrpn && (option_eq eqb a.rpn_high b.rpn_high && (option_eq eqb a.rpn_low b.rpn_low && (option_eq eqb a.nrpn_high b.nrpn_high && option_eq eqb a.nrpn_low b.nrpn_low)))

abbrev pub sequencer_eq : SequencerPart → SequencerPart → Bool
sequencer_eq a b = beq a.running b.running && (beq a.downbeat b.downbeat && eqb a.position b.position)

abbrev pub time_eq : TimePart → TimePart → Bool
time_eq a b =
    option_eq eqb a.complete b.complete && (option_eq eqb a.partial b.partial && (beq a.backward b.backward && eqb a.point b.point))

-- the test holds of each number below this one
abbrev pub all_below : ℕ → (ℕ → Bool) → Bool
all_below zero p = true
all_below (suc n) p = p n && all_below n p

abbrev pub values_eq : (a b : List (Option ℕ)) → Bool
values_eq a b = all_below 128 (λ n. option_eq eqb (value_at a n) (value_at b n))

abbrev pub controls_eq : ChannelState → ChannelState → Bool
controls_eq a b = all_below 128 (λ n. option_eq eqb (control_at a n) (control_at b n))

-- ## Channels and states

unfoldable pub channel_eq : ChannelState → ChannelState → Bool
channel_eq a b =
    eqb a.toggles b.toggles && (option_eq program_eq a.program b.program && (controls_eq a b && (option_eq selection_eq a.selection b.selection
    && (same_entered a.entered b.entered && (option_eq pair_eq a.wheel b.wheel && (values_eq a.notes b.notes && (option_eq eqb a.pressure b.pressure && values_eq a.polys b.polys)))))))

-- All parts of both states are equal. The order in which parameters were entered doesn't count.
unfoldable pub same_states : State → State → Bool
same_states s t =
    option_eq eqb s.song t.song && (option_eq sequencer_eq s.sequencer t.sequencer && (option_eq time_eq s.time_code t.time_code && (eqb s.sysex_count t.sysex_count
    && all_below 16 (λ channel. channel_eq (channel_of s channel) (channel_of t channel)))))

-- ## Equality

beq_self : (a : Bool) → beq a a ≡ true
beq_self true = refl
beq_self false = refl

eqb_self : (a : ℕ) → eqb a a ≡ true
eqb_self a = eq-eqb a a refl

option_true : {A : Type 0} → (eq : A → A → Bool) → ((x y : A) → eq x y ≡ true → x ≡ y) → (a b : Option A) → option_eq eq a b ≡ true → a ≡ b
option_true eq h None None e = refl
option_true eq h None (Some y) e = absurd cc
option_true eq h (Some x) None e = absurd cc
option_true eq h (Some x) (Some y) e = ap Some (h x y e)

option_self : {A : Type 0} → (eq : A → A → Bool) → ((x : A) → eq x x ≡ true) → (a : Option A) → option_eq eq a a ≡ true
option_self eq h None = refl
option_self eq h (Some x) = h x

number_true : (a b : Option ℕ) → option_eq eqb a b ≡ true → a ≡ b
number_true = option_true eqb eqb-true

number_self : (a : Option ℕ) → option_eq eqb a a ≡ true
number_self = option_self eqb eqb_self

pair : ℕ → ℕ → ℕ × ℕ
pair a b = (a, b)

pair_of_equals : (a b c d : ℕ) → a ≡ b → c ≡ d → pair a c ≡ pair b d
pair_of_equals a b c d p q = cc

pair_true : (a b : ℕ × ℕ) → pair_eq a b ≡ true → a ≡ b
unfolding pair
pair_true a b e =
    let both = and_parts (eqb a.0 b.0) (eqb a.1 b.1) e in
    pair_of_equals a.0 b.0 a.1 b.1 (eqb-true a.0 b.0 both.0) (eqb-true a.1 b.1 both.1)

pair_self : (a : ℕ × ℕ) → pair_eq a a ≡ true
pair_self a = rw (eqb_self a.0, eqb_self a.1) refl

program : ℕ → Option (ℕ × ℕ) → ProgramPart
program number bank = record { program = number; bank = bank }

program_of_equals : (a b : ℕ) (c d : Option (ℕ × ℕ)) → a ≡ b → c ≡ d → program a c ≡ program b d
program_of_equals a b c d p q = cc

program_true : (a b : ProgramPart) → program_eq a b ≡ true → a ≡ b
unfolding program
program_true a b e =
    let both = and_parts (eqb a.program b.program) (option_eq pair_eq a.bank b.bank) e in
    program_of_equals a.program b.program a.bank b.bank (eqb-true a.program b.program both.0) (option_true pair_eq pair_true a.bank b.bank both.1)

program_self : (a : ProgramPart) → program_eq a a ≡ true
program_self a = rw (eqb_self a.program, option_self pair_eq pair_self a.bank) refl

selection_true : (a b : Selection) → selection_eq a b ≡ true → a ≡ b
selection_true a b e =
    let p = and_parts (beq a.nrpn b.nrpn) (option_eq eqb a.rpn_high b.rpn_high && (option_eq eqb a.rpn_low b.rpn_low && (option_eq eqb a.nrpn_high b.nrpn_high && option_eq eqb a.nrpn_low b.nrpn_low))) e in
    let q = and_parts (option_eq eqb a.rpn_high b.rpn_high) (option_eq eqb a.rpn_low b.rpn_low && (option_eq eqb a.nrpn_high b.nrpn_high && option_eq eqb a.nrpn_low b.nrpn_low)) p.1 in
    let r = and_parts (option_eq eqb a.rpn_low b.rpn_low) (option_eq eqb a.nrpn_high b.nrpn_high && option_eq eqb a.nrpn_low b.nrpn_low) q.1 in
    let s = and_parts (option_eq eqb a.nrpn_high b.nrpn_high) (option_eq eqb a.nrpn_low b.nrpn_low) r.1 in
    selection_equal a b (beq-true a.nrpn b.nrpn p.0) (number_true a.rpn_high b.rpn_high q.0) (number_true a.rpn_low b.rpn_low r.0) (number_true a.nrpn_high b.nrpn_high s.0) (number_true a.nrpn_low b.nrpn_low s.1)

selection_self : (a : Selection) → selection_eq a a ≡ true
selection_self a = rw (beq_self a.nrpn, number_self a.rpn_high, number_self a.rpn_low, number_self a.nrpn_high, number_self a.nrpn_low) refl

sequencer : Bool → Bool → ℕ → SequencerPart
sequencer running downbeat position = record { running = running; downbeat = downbeat; position = position }

sequencer_of_equals : (a b c d : Bool) (m n : ℕ) → a ≡ b → c ≡ d → m ≡ n → sequencer a c m ≡ sequencer b d n
sequencer_of_equals a b c d m n p q r = cc

sequencer_true : (a b : SequencerPart) → sequencer_eq a b ≡ true → a ≡ b
unfolding sequencer
sequencer_true a b e =
    let p = and_parts (beq a.running b.running) (beq a.downbeat b.downbeat && eqb a.position b.position) e in
    let q = and_parts (beq a.downbeat b.downbeat) (eqb a.position b.position) p.1 in
    sequencer_of_equals a.running b.running a.downbeat b.downbeat a.position b.position (beq-true a.running b.running p.0) (beq-true a.downbeat b.downbeat q.0) (eqb-true a.position b.position q.1)

sequencer_self : (a : SequencerPart) → sequencer_eq a a ≡ true
sequencer_self a = rw (beq_self a.running, beq_self a.downbeat, eqb_self a.position) refl

time : Option ℕ → Option ℕ → Bool → ℕ → TimePart
time complete partial backward point = record { complete = complete; partial = partial; backward = backward; point = point }

time_of_equals : (a b c d : Option ℕ) (k l : Bool) (m n : ℕ) → a ≡ b → c ≡ d → k ≡ l → m ≡ n → time a c k m ≡ time b d l n
time_of_equals a b c d k l m n p q r s = cc

time_true : (a b : TimePart) → time_eq a b ≡ true → a ≡ b
unfolding time
time_true a b e =
    let p = and_parts (option_eq eqb a.complete b.complete) (option_eq eqb a.partial b.partial && (beq a.backward b.backward && eqb a.point b.point)) e in
    let q = and_parts (option_eq eqb a.partial b.partial) (beq a.backward b.backward && eqb a.point b.point) p.1 in
    let r = and_parts (beq a.backward b.backward) (eqb a.point b.point) q.1 in
    time_of_equals a.complete b.complete a.partial b.partial a.backward b.backward a.point b.point (number_true a.complete b.complete p.0) (number_true a.partial b.partial q.0) (beq-true a.backward b.backward r.0) (eqb-true a.point b.point r.1)

time_self : (a : TimePart) → time_eq a a ≡ true
time_self a = rw (number_self a.complete, number_self a.partial, beq_self a.backward, eqb_self a.point) refl

less_by : (k n : ℕ) → eqb k n ≡ false → k < suc n → k < n
less_by k n f h = elim (cases_lt k n) [
  | inl less ↦ less
  | inr more ↦ absurd (false≢true (sym f ∙ eq-eqb k n (omega (arith, more, h))))
]

below_true : (n : ℕ) (p : ℕ → Bool) → all_below n p ≡ true → (k : ℕ) → k < n → p k ≡ true
below_true zero p e k h = absurd (omega (arith, h))
below_true (suc n) p e k h =
    let both = and_parts (p n) (all_below n p) e in
    elim (cases_Bool (eqb k n)) [
      | inl t ↦ rw (eqb-true k n t) both.0
      | inr f ↦ below_true n p both.1 k (less_by k n f h)
    ]

below_all : (n : ℕ) (p : ℕ → Bool) → ((k : ℕ) → k < n → p k ≡ true) → all_below n p ≡ true
below_all zero p h = refl
below_all (suc n) p h = rw (h n (omega arith), below_all n p (λ k less. h k (omega (arith, less)))) refl

-- ## The test is right

-- all parts of two channels are equal where the test says so
channel_parts : (a b : ChannelState) → channel_eq a b ≡ true → SameChannel a b
unfolding channel_eq
channel_parts a b e =
    let o = and_parts (eqb a.toggles b.toggles) (option_eq program_eq a.program b.program && (controls_eq a b && (option_eq selection_eq a.selection b.selection && (same_entered a.entered b.entered && (option_eq pair_eq a.wheel b.wheel && (values_eq a.notes b.notes && (option_eq eqb a.pressure b.pressure && values_eq a.polys b.polys))))))) e in
    let p = and_parts (option_eq program_eq a.program b.program) (controls_eq a b && (option_eq selection_eq a.selection b.selection && (same_entered a.entered b.entered && (option_eq pair_eq a.wheel b.wheel && (values_eq a.notes b.notes && (option_eq eqb a.pressure b.pressure && values_eq a.polys b.polys)))))) o.1 in
    let q = and_parts (controls_eq a b) (option_eq selection_eq a.selection b.selection && (same_entered a.entered b.entered && (option_eq pair_eq a.wheel b.wheel && (values_eq a.notes b.notes && (option_eq eqb a.pressure b.pressure && values_eq a.polys b.polys))))) p.1 in
    let r = and_parts (option_eq selection_eq a.selection b.selection) (same_entered a.entered b.entered && (option_eq pair_eq a.wheel b.wheel && (values_eq a.notes b.notes && (option_eq eqb a.pressure b.pressure && values_eq a.polys b.polys)))) q.1 in
    let s = and_parts (same_entered a.entered b.entered) (option_eq pair_eq a.wheel b.wheel && (values_eq a.notes b.notes && (option_eq eqb a.pressure b.pressure && values_eq a.polys b.polys))) r.1 in
    let t = and_parts (option_eq pair_eq a.wheel b.wheel) (values_eq a.notes b.notes && (option_eq eqb a.pressure b.pressure && values_eq a.polys b.polys)) s.1 in
    let u = and_parts (values_eq a.notes b.notes) (option_eq eqb a.pressure b.pressure && values_eq a.polys b.polys) t.1 in
    let v = and_parts (option_eq eqb a.pressure b.pressure) (values_eq a.polys b.polys) u.1 in
    record {
      program = option_true program_eq program_true a.program b.program p.0;
      control = λ number h. number_true (control_at a number) (control_at b number) (below_true 128 (λ n. option_eq eqb (control_at a n) (control_at b n)) q.0 number h);
      toggles = eqb-true a.toggles b.toggles o.0;
      selection = option_true selection_eq selection_true a.selection b.selection r.0;
      param = entered_equal a.entered b.entered s.0;
      wheel = option_true pair_eq pair_true a.wheel b.wheel t.0;
      note = λ note h. number_true (value_at a.notes note) (value_at b.notes note) (below_true 128 (λ n. option_eq eqb (value_at a.notes n) (value_at b.notes n)) u.0 note h);
      pressure = number_true a.pressure b.pressure v.0;
      poly = λ note h. number_true (value_at a.polys note) (value_at b.polys note) (below_true 128 (λ n. option_eq eqb (value_at a.polys n) (value_at b.polys n)) v.1 note h);
    }

equal_number : (a b : Option ℕ) → a ≡ b → option_eq eqb a b ≡ true
equal_number a b e = rw e (number_self b)

parts_channel : (a b : ChannelState) → SameChannel a b → channel_eq a b ≡ true
unfolding channel_eq
parts_channel a b h =
    let controls : controls_eq a b ≡ true = below_all 128 (λ n. option_eq eqb (control_at a n) (control_at b n)) (λ n less. equal_number (control_at a n) (control_at b n) (h.control n less)) in
    let notes : values_eq a.notes b.notes ≡ true = below_all 128 (λ n. option_eq eqb (value_at a.notes n) (value_at b.notes n)) (λ n less. equal_number (value_at a.notes n) (value_at b.notes n) (h.note n less)) in
    let polys : values_eq a.polys b.polys ≡ true = below_all 128 (λ n. option_eq eqb (value_at a.polys n) (value_at b.polys n)) (λ n less. equal_number (value_at a.polys n) (value_at b.polys n) (h.poly n less)) in
    rw (controls, notes, polys, equal_entered a.entered b.entered h.param, h.toggles, h.program, h.selection, h.wheel, h.pressure, eqb_self b.toggles, option_self program_eq program_self b.program, option_self selection_eq selection_self b.selection, option_self pair_eq pair_self b.wheel, number_self b.pressure) refl

-- what two states have apart from their channels
record SameSession (s t : State) : Type 0 where
  song : s.song ≡ t.song
  sequencer : s.sequencer ≡ t.sequencer
  time_code : s.time_code ≡ t.time_code
  sysex_count : s.sysex_count ≡ t.sysex_count
  channel : (channel : ℕ) → channel < 16 → SameChannel (channel_of s channel) (channel_of t channel)

session_parts : (s t : State) → same_states s t ≡ true → SameSession s t
unfolding same_states
session_parts s t e =
    let p = and_parts (option_eq eqb s.song t.song) (option_eq sequencer_eq s.sequencer t.sequencer && (option_eq time_eq s.time_code t.time_code && (eqb s.sysex_count t.sysex_count && all_below 16 (λ channel. channel_eq (channel_of s channel) (channel_of t channel))))) e in
    let q = and_parts (option_eq sequencer_eq s.sequencer t.sequencer) (option_eq time_eq s.time_code t.time_code && (eqb s.sysex_count t.sysex_count && all_below 16 (λ channel. channel_eq (channel_of s channel) (channel_of t channel)))) p.1 in
    let r = and_parts (option_eq time_eq s.time_code t.time_code) (eqb s.sysex_count t.sysex_count && all_below 16 (λ channel. channel_eq (channel_of s channel) (channel_of t channel))) q.1 in
    let u = and_parts (eqb s.sysex_count t.sysex_count) (all_below 16 (λ channel. channel_eq (channel_of s channel) (channel_of t channel))) r.1 in
    record {
      song = number_true s.song t.song p.0;
      sequencer = option_true sequencer_eq sequencer_true s.sequencer t.sequencer q.0;
      time_code = option_true time_eq time_true s.time_code t.time_code r.0;
      sysex_count = eqb-true s.sysex_count t.sysex_count u.0;
      channel = λ channel h. channel_parts (channel_of s channel) (channel_of t channel) (below_true 16 (λ channel. channel_eq (channel_of s channel) (channel_of t channel)) u.1 channel h);
    }

-- where the test says so, all parts are equal
pub states_parts : (s t : State) → same_states s t ≡ true → AreSame s t
states_parts s t e =
    let all = session_parts s t e in
    record {
      song = all.song;
      sequencer = all.sequencer;
      time_code = all.time_code;
      sysex_count = all.sysex_count;
      program = λ channel h. (all.channel channel h).program;
      control = λ channel number h. (all.channel channel h).control number;
      toggles = λ channel h. (all.channel channel h).toggles;
      selection = λ channel h. (all.channel channel h).selection;
      param = λ channel nrpn high low h. (all.channel channel h).param (record { nrpn = nrpn; high = high; low = low });
      wheel = λ channel h. (all.channel channel h).wheel;
      note = λ channel note h. (all.channel channel h).note note;
      pressure = λ channel h. (all.channel channel h).pressure;
      poly = λ channel note h. (all.channel channel h).poly note;
    }

parts_of : (s t : State) → AreSame s t → (channel : ℕ) → channel < 16 → SameChannel (channel_of s channel) (channel_of t channel)
parts_of s t h channel less = record {
  program = h.program channel less;
  control = λ number. h.control channel number less;
  toggles = h.toggles channel less;
  selection = h.selection channel less;
  param = λ p. h.param channel p.nrpn p.high p.low less;
  wheel = h.wheel channel less;
  note = λ note. h.note channel note less;
  pressure = h.pressure channel less;
  poly = λ note. h.poly channel note less;
}

-- where all parts are equal, the test says so
pub parts_states : (s t : State) → AreSame s t → same_states s t ≡ true
unfolding same_states
parts_states s t h =
    let channels : all_below 16 (λ channel. channel_eq (channel_of s channel) (channel_of t channel)) ≡ true =
    below_all 16 (λ channel. channel_eq (channel_of s channel) (channel_of t channel)) (λ channel less. parts_channel (channel_of s channel) (channel_of t channel) (parts_of s t h channel less)) in
    rw (channels, h.song, h.sequencer, h.time_code, h.sysex_count, number_self t.song, option_self sequencer_eq sequencer_self t.sequencer, option_self time_eq time_self t.time_code, eqb_self t.sysex_count) refl

decided : {A : Type 0} → (r s : Bool) → (IsTrue r → A) → (A → IsTrue r) → (s ≡ true → A) → (A → s ≡ true) → r ≡ s
decided true true h k p q = refl
decided true false h k p q = absurd (false≢true (q (h refl)))
decided false true h k p q = absurd (false≢true (k (p refl)))
decided false false h k p q = refl

-- an answer that is true exactly where all parts are equal is that of the test
pub same_decided : (r : Bool) (s t : State) → (IsTrue r → AreSame s t) → (AreSame s t → IsTrue r) → r ≡ same_states s t
same_decided r s t h k = decided r (same_states s t) h k (states_parts s t) (parts_states s t)
