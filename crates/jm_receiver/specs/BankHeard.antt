-- A listener hears the programs with their banks, and Controls 0 and 32.
use Rattle.std.proofs.Common.{◌≡◌, ◌⊎◌, ℕ, ◌<◌, ◌≤◌, Bool, true, false, cond, ◌&&◌, ◌||◌, eqb, List, [], ◌∷◌, length, Option, Some, None, fold, refl, sym, ap, subst, ◌∙◌, inl, inr, arith}
use Rattle.jm_cmds.specs.declared.history.Sent.{Sent}
use Rattle.jm_cmds.specs.History.{below, InOrder}
use Rattle.jm_cmds.specs.Sent.{packet_of}
use Rattle.jm_reader.specs.WrittenP.{p_said}
use Rattle.std.proofs.lemmas.Bool.{cases_Bool, eqb-true, eq-eqb, and_parts}
use Rattle.jm_cmds.specs.declared.commands.Command.{Command}
use Rattle.jm_cmds.specs.declared.commands.Command.TheVariants as commands
use Rattle.jm_cmds.specs.Control.{control_kind}
use Rattle.jm_state.specs.declared.channel.ProgramPart.{ProgramPart}
use Rattle.jm_state.specs.declared.state.State.{State}
use Rattle.jm_state.specs.Apply.{applied, bank_by}
use Rattle.jm_state.specs.Final.{final, speaks, fold-part}
use Rattle.jm_state.specs.Kept.{IsState}
use Rattle.jm_state.specs.KeptLaws.{state_after_is}
use Rattle.jm_state.specs.Parts.{program_of, control_of, selection_of}
use Rattle.jm_state.specs.PartLaws.{by_part}
use Rattle.jm_state.specs.Sameness.{same_states, states_parts}
use Rattle.jm_state.specs.Replay.{said-over}
use Rattle.jm_state.specs.Says.{said, control_says}
use Rattle.jm_reader.specs.declared.logs.Log.{Log}
use Rattle.jm_reader.specs.declared.logs.LogKind.{LogKind}
use Rattle.jm_reader.specs.declared.logs.LogKind.TheVariants as kinds
use Rattle.jm_receiver.specs.declared.group.Group.{Group}
use Rattle.jm_receiver.specs.declared.group.Group.TheVariants.{Programs, Params, Controls}
use Rattle.jm_receiver.specs.declared.heard.HeardKind.{HeardKind}
use Rattle.jm_receiver.specs.declared.heard.Hearing.{Hearing}
use Rattle.jm_receiver.specs.declared.heard.HeardKind.TheVariants.{Repaired}
use Rattle.jm_receiver.specs.Agreement.{Agrees}
use Rattle.jm_receiver.specs.ControlLaw.{control_is, control_log_says}
use Rattle.jm_receiver.specs.Follows.{Follows, Allows, group_follows, other_follows, behind_follows, after_params}
use Rattle.jm_receiver.specs.Group.{is_of, all_groups}
use Rattle.jm_receiver.specs.HandedOn.{handed_on_if_new, handed_on, bank_handed_on, program_handed_on_if_new, program_is, bank_is, value_or_zero, log_handed_on, log_handed_on_of, group_handed_on, controls_handed_on, selection_handed_on_after_params, channel_handed_on}
use Rattle.jm_receiver.specs.Order.{of_group, log_says, with_log, group-fold, channel_log_is}
use Rattle.jm_receiver.specs.ProgramHeard.{HasOwn, OneProgram, one_program, program_told, control_logs, high_held, low_held, none_told}
use Rattle.jm_receiver.specs.ProgramLaw.{program_is as program_part_is}
use Rattle.jm_receiver.specs.Repair.{cleared, group_repaired, channel_repaired, repaired, with_channel_log}

-- ## A program's log

-- What it sets of the listener: the program with its bank; and Controls 0 and 32 of its channel are what they were, where these were the bank's.
pub record Tells (channel : ℕ) (t u : State) (program : ℕ) (bank : Option (ℕ × ℕ)) : Type 0 where
  pub part : program_of u channel ≡ Some (record { program = program; bank = bank })
  pub high : ((b : ℕ × ℕ) → bank ≡ Some b → control_of t channel 0 ≡ Some b.0) → control_of u channel 0 ≡ control_of t channel 0
  pub low : ((b : ℕ × ℕ) → bank ≡ Some b → value_or_zero (control_of t channel 32) ≡ b.1) → control_of u channel 32 ≡ control_of t channel 32

bank_pair : ℕ → ℕ → ℕ × ℕ
bank_pair high low = (high, low)

pairs_same : (a b c d : ℕ) → a ≡ b → c ≡ d → bank_pair a c ≡ bank_pair b d
pairs_same a b c d p q = cc

bank_same : (a b : Option (ℕ × ℕ)) → bank_is a b ≡ true → a ≡ b
unfolding bank_pair
bank_same None None h = refl
bank_same (Some a) (Some b) h =
    let both = and_parts (eqb a.0 b.0) (eqb a.1 b.1) h in
    ap (λ (p : ℕ × ℕ). Some p) (pairs_same a.0 b.0 a.1 b.1 (eqb-true a.0 b.0 both.0) (eqb-true a.1 b.1 both.1))
bank_same None (Some b) h = absurd (let f : false ≡ true = h in cc)
bank_same (Some a) None h = absurd (let f : false ≡ true = h in cc)

part_of : ℕ → Option (ℕ × ℕ) → ProgramPart
part_of program bank = record { program = program; bank = bank }

parts_same : (p q : ℕ) (a b : Option (ℕ × ℕ)) → p ≡ q → a ≡ b → part_of p a ≡ part_of q b
parts_same p q a b e f = cc

held_same : (held : Option ProgramPart) (program : ℕ) (bank : Option (ℕ × ℕ)) → program_is held program bank ≡ true → held ≡ Some (record { program = program; bank = bank })
unfolding part_of
held_same None program bank h = absurd (let f : false ≡ true = h in cc)
held_same (Some part) program bank h =
    let both = and_parts (eqb part.program program) (bank_is part.bank bank) h in
    ap Some (parts_same part.program program part.bank bank (eqb-true part.program program both.0) (bank_same part.bank bank both.1))

bank_of : (high : ℕ) (low : Option ℕ) → bank_by (Some high) low ≡ Some (high, value_or_zero low)
bank_of high None = refl
bank_of high (Some low) = refl

self : (n : ℕ) → eqb n n ≡ true
self n = eq-eqb n n refl

control_after : (t : State) (channel number : ℕ) (command : Command) → channel < 16 → number < 128 → IsState t → control_of (applied t command) channel number ≡ said (control_says channel number command) (control_of t channel number)
control_after t channel number command l m is = (by_part t command is).control channel number l m

-- what the two controls of a bank are behind them
record Banked (channel : ℕ) (t u : State) (b : ℕ × ℕ) : Type 0 where
  is : IsState u
  high : control_of u channel 0 ≡ Some b.0
  low : value_or_zero (control_of u channel 32) ≡ b.1
  same : value_or_zero (control_of t channel 32) ≡ b.1 → control_of u channel 32 ≡ control_of t channel 32

high_set : (t : State) (channel value : ℕ) → channel < 16 → IsState t → control_of (applied t (commands.Control channel 0 value)) channel 0 ≡ Some value
unfolding control_kind
high_set t channel value l is = control_after t channel 0 (commands.Control channel 0 value) l (omega arith) is ∙ rw (self channel) refl

high_left : (t : State) (channel value : ℕ) → channel < 16 → IsState t → control_of (applied t (commands.Control channel 0 value)) channel 32 ≡ control_of t channel 32
unfolding control_kind
high_left t channel value l is = control_after t channel 32 (commands.Control channel 0 value) l (omega arith) is ∙ rw (self channel) refl

low_set : (t : State) (channel value : ℕ) → channel < 16 → IsState t → control_of (applied t (commands.Control channel 32 value)) channel 32 ≡ Some value
unfolding control_kind
low_set t channel value l is = control_after t channel 32 (commands.Control channel 32 value) l (omega arith) is ∙ rw (self channel) refl

low_left : (t : State) (channel value : ℕ) → channel < 16 → IsState t → control_of (applied t (commands.Control channel 32 value)) channel 0 ≡ control_of t channel 0
unfolding control_kind
low_left t channel value l is = control_after t channel 0 (commands.Control channel 32 value) l (omega arith) is ∙ rw (self channel) refl

banked : (h : Hearing) (channel : ℕ) (b : ℕ × ℕ) → channel < 16 → IsState h.state → Banked channel h.state (bank_handed_on h channel (Some b)).state b
unfolding handed_on
banked h channel b l is =
    let one = applied h.state (commands.Control channel 0 b.0) in
    let one_is : IsState one = state_after_is h.state (commands.Control channel 0 b.0) is in
    let left : control_of one channel 32 ≡ control_of h.state channel 32 = high_left h.state channel b.0 l is in
    elim (cases_Bool (eqb (value_or_zero (control_of one channel 32)) b.1)) [
      | inl t ↦ rw t (record {
        is = one_is;
        high = high_set h.state channel b.0 l is;
        low = eqb-true (value_or_zero (control_of one channel 32)) b.1 t;
        same = λ _. left;
      })
      | inr f ↦ rw f (record {
        is = state_after_is one (commands.Control channel 32 b.1) one_is;
        high = low_left one channel b.1 l one_is ∙ high_set h.state channel b.0 l is;
        low = ap value_or_zero (low_set one channel b.1 l one_is);
        same = λ e. absurd (let t : true ≡ false = sym (eq-eqb (value_or_zero (control_of one channel 32)) b.1 (ap value_or_zero left ∙ e)) ∙ f in cc);
      })
    ]

program_set : (t : State) (channel program : ℕ) → channel < 16 → IsState t → program_of (applied t (commands.Program channel program)) channel ≡ Some (record { program = program; bank = bank_by (control_of t channel 0) (control_of t channel 32) })
program_set t channel program l is = (by_part t (commands.Program channel program) is).program channel l ∙ rw (self channel) refl

some_pair : (b : ℕ × ℕ) → ◌≡◌ {A = Option (ℕ × ℕ)} (Some (b.0, b.1)) (Some b)
some_pair b = refl

whole_bank : (high low : Option ℕ) (b : ℕ × ℕ) → high ≡ Some b.0 → value_or_zero low ≡ b.1 → bank_by high low ≡ Some b
whole_bank high low b e f = rw e (bank_of b.0 low ∙ ap (λ (n : ℕ). Some (b.0, n)) f ∙ some_pair b)

same_bank : (program : ℕ) (a b : Option (ℕ × ℕ)) → a ≡ b → ◌≡◌ {A = Option ProgramPart} (Some (record { program = program; bank = a })) (Some (record { program = program; bank = b }))
same_bank program a b e = rw e refl

-- A program is handed on with its bank: one without a bank to a listener that has it or has no Control 0.
pub program_tells : (h : Hearing) (channel program : ℕ) (bank : Option (ℕ × ℕ)) → channel < 16 → IsState h.state → (bank ≡ None → program_is (program_of h.state channel) program None ≡ false → control_of h.state channel 0 ≡ None) →
    Tells channel h.state (program_handed_on_if_new h channel program bank).state program bank
unfolding program_handed_on_if_new handed_on
program_tells h channel program bank l is bare =
    elim (cases_Bool (program_is (program_of h.state channel) program bank)) [
      | inl t ↦ rw t (record { part = held_same (program_of h.state channel) program bank t; high = λ _. refl; low = λ _. refl })
      | inr f ↦ rw f (by_bank bank bare f)
    ]
  where
    by_bank : (bank : Option (ℕ × ℕ)) → (bank ≡ None → program_is (program_of h.state channel) program None ≡ false → control_of h.state channel 0 ≡ None) → program_is (program_of h.state channel) program bank ≡ false →
        Tells channel h.state (applied (bank_handed_on h channel bank).state (commands.Program channel program)) program bank
    by_bank None bare f = record {
      part = program_set h.state channel program l is ∙ same_bank program (bank_by (control_of h.state channel 0) (control_of h.state channel 32)) None (rw (bare refl f) refl);
      high = λ _. control_after h.state channel 0 (commands.Program channel program) l (omega arith) is;
      low = λ _. control_after h.state channel 32 (commands.Program channel program) l (omega arith) is;
    }
    by_bank (Some b) bare f =
        let k = banked h channel b l is in
        let two = (bank_handed_on h channel (Some b)).state in
        record {
          part = program_set two channel program l k.is ∙ same_bank program (bank_by (control_of two channel 0) (control_of two channel 32)) (Some b) (whole_bank (control_of two channel 0) (control_of two channel 32) b k.high k.low);
          high = λ e. control_after two channel 0 (commands.Program channel program) l (omega arith) k.is ∙ k.high ∙ sym (e b refl);
          low = λ e. control_after two channel 32 (commands.Program channel program) l (omega arith) k.is ∙ k.same (e b refl);
        }

-- ## The logs of controls

if_new_said : (h : Hearing) (channel number : ℕ) (command : Command) (kind : HeardKind) → channel < 16 → number < 128 → IsState h.state →
    control_of (handed_on_if_new h command kind).state channel number ≡ said (control_says channel number command) (control_of h.state channel number)
unfolding handed_on_if_new
if_new_said h channel number command kind l m is =
    let after = control_after h.state channel number command l m is in
    elim (cases_Bool (same_states (applied h.state command) h.state)) [
      | inl t ↦ rw t (sym ((states_parts (applied h.state command) h.state t).control channel number l m) ∙ after)
      | inr f ↦ rw f after
    ]

if_new_is : (h : Hearing) (command : Command) (kind : HeardKind) → IsState h.state → IsState (handed_on_if_new h command kind).state
unfolding handed_on_if_new
if_new_is h command kind is = elim (cases_Bool (same_states (applied h.state command) h.state)) [ inl t ↦ rw t is | inr f ↦ rw f (state_after_is h.state command is) ]

log_said : (h : Hearing) (channel number : ℕ) (log : LogKind) → channel < 16 → number < 128 → IsState h.state → is_of Controls channel log ≡ true →
    control_of (log_handed_on h log).state channel number ≡ said (control_log_says channel number log) (control_of h.state channel number)
log_said h channel number (kinds.Control at other value) l m is own = if_new_said h channel number (commands.Control at other value) Repaired l m is
log_said h channel number (kinds.Count at other count) l m is own = if_new_said h channel number (commands.Control at other 0) Repaired l m is
log_said h channel number (kinds.Toggle at count) l m is own = refl
log_said h channel number log l m is own = absurd (let f : false ≡ true = own in cc)

-- the control behind the logs of its channel's controls, of any listener
controls_said : (h : Hearing) (channel number : ℕ) (logs : List Log) → channel < 16 → number < 128 → IsState h.state →
    control_of (fold (log_handed_on_of Controls channel) h logs).state channel number ≡ said (final (log_says (control_log_says channel number)) (of_group Controls channel logs)) (control_of h.state channel number)
controls_said h channel number [] l m is = refl
controls_said h channel number (log ∷ logs) l m is =
    let one = log_handed_on_of Controls channel h log in
    controls_said one channel number logs l m (kept_is (is_of Controls channel log.what) refl)
    ∙ elim (cases_Bool (is_of Controls channel log.what)) [
      | inl t ↦ rw t
          (ap (said (final (log_says (control_log_says channel number)) (of_group Controls channel logs))) (log_said h channel number log.what l m is t)
          ∙ said-over (final (log_says (control_log_says channel number)) (of_group Controls channel logs)) (control_log_says channel number log.what) (control_of h.state channel number))
      | inr f ↦ rw f refl
    ]
  where
    log_is : (what : LogKind) → is_of Controls channel what ≡ true → IsState (log_handed_on h what).state
    log_is (kinds.Control at other value) own = if_new_is h (commands.Control at other value) Repaired is
    log_is (kinds.Count at other count) own = if_new_is h (commands.Control at other 0) Repaired is
    log_is (kinds.Toggle at count) own = is
    log_is what own = absurd (let f : false ≡ true = own in cc)

    kept_is : (b : Bool) → is_of Controls channel log.what ≡ b → IsState (cond b (log_handed_on h log.what) h).state
    kept_is true own = log_is log.what own
    kept_is false own = is

-- ## Channels

abbrev pub no_programs : ℕ → Bool
no_programs channel = false

abbrev pub no_controls : (channel number : ℕ) → Bool
no_controls channel number = false

abbrev only : (channel at : ℕ) → Bool
only channel at = eqb at channel

abbrev only_bank : (channel at number : ℕ) → Bool
only_bank channel at number = eqb at channel && (eqb number 0 || eqb number 32)

weaker : (programs : ℕ → Bool) (controls : (channel number : ℕ) → Bool) (t s : State) → Follows no_programs no_controls t s → Follows programs controls t s
weaker programs controls t s f = record {
  left = f.left;
  right = f.right;
  song = f.song;
  sysex_count = f.sysex_count;
  program = λ channel l n. f.program channel l refl;
  control = λ channel number l k n. f.control channel number l k refl;
  wheel = f.wheel;
  note = f.note;
  pressure = f.pressure;
  poly = f.poly;
}

-- the parts that weren't compared are equal, but those that still aren't
stronger : (programs : ℕ → Bool) (controls fewer : (channel number : ℕ) → Bool) (t s : State) → ((channel : ℕ) → channel < 16 → programs channel ≡ true → program_of t channel ≡ program_of s channel) →
    ((channel number : ℕ) → channel < 16 → number < 128 → controls channel number ≡ true → fewer channel number ≡ false → control_of t channel number ≡ control_of s channel number) →
    Follows programs controls t s → Follows no_programs fewer t s
stronger programs controls fewer t s program control f = record {
  left = f.left;
  right = f.right;
  song = f.song;
  sysex_count = f.sysex_count;
  program = λ channel l n. elim (cases_Bool (programs channel)) [ inl e ↦ program channel l e | inr e ↦ f.program channel l e ];
  control = λ channel number l k n. elim (cases_Bool (controls channel number)) [ inl e ↦ control channel number l k e n | inr e ↦ f.control channel number l k e ];
  wheel = f.wheel;
  note = f.note;
  pressure = f.pressure;
  poly = f.poly;
}

abbrev pub log_handed : Hearing → Log → Hearing
log_handed h log = log_handed_on h log.what

pub handed_of : (group : Group) (channel : ℕ) (h : Hearing) (logs : List Log) → fold (log_handed_on_of group channel) h logs ≡ fold log_handed h (of_group group channel logs)
handed_of group channel h [] = refl
handed_of group channel h (log ∷ logs) =
    handed_of group channel (log_handed_on_of group channel h log) logs
    ∙ elim (cases_Bool (is_of group channel log.what)) [ inl t ↦ rw t refl | inr f ↦ rw f refl ]

only_allows : (channel : ℕ) (log : LogKind) → is_of Programs channel log ≡ true → Allows (only channel) (only_bank channel) log
only_allows channel (kinds.Program at program bank) own = (own, rw own refl, rw own refl)
only_allows channel (kinds.Param at nrpn high low entry_high entry_low) own = tt
only_allows channel log own = tt

said_spoken : {V : Type 0} (w : Option (Option V)) (a b : Option V) → speaks w ≡ true → said w a ≡ said w b
said_spoken None a b h = absurd (let f : false ≡ true = h in cc)
said_spoken (Some w) a b h = refl

-- what the programs of a channel left
record ProgramsTold (channel : ℕ) (of_high of_low : Option (Option ℕ)) (t u : State) : Type 0 where
  part : program_of t channel ≡ program_of u channel
  high : of_high ≡ None → control_of t channel 0 ≡ control_of u channel 0
  low : of_low ≡ None → control_of t channel 32 ≡ control_of u channel 32

-- what isn't repaired yet of a channel
pub record IsBefore (channel : ℕ) (u s : State) : Type 0 where
  pub program : program_of u channel ≡ program_of s channel
  pub high : control_of u channel 0 ≡ control_of s channel 0
  pub low : control_of u channel 32 ≡ control_of s channel 32

module _ (channel : ℕ) (l : channel < 16) (checkpoint next packet : ℕ) (sent : List Sent) (s : State) (logs : List Log) (o : InOrder packet_of sent) (early : checkpoint ≤ next) (late : next ≤ packet) (is : IsState s)
    (has : HasOwn channel checkpoint packet sent logs) (agrees : Agrees s (below packet_of next sent)) (whole : Agrees (repaired s logs) (below packet_of packet sent)) where
  abbrev own_logs : ℕ → Option (Option ℕ)
  own_logs number = control_logs channel l checkpoint next packet sent s logs o early late is has agrees whole number

  one_told : (h : Hearing) (u : State) → Follows no_programs no_controls h.state u → IsBefore channel u (cleared logs s) → (one : OneProgram channel (p_said channel checkpoint packet sent)) →
      ProgramsTold channel (own_logs 0) (own_logs 32) (program_handed_on_if_new h channel one.part.program one.part.bank).state (with_channel_log u (kinds.Program channel one.part.program one.part.bank))
  one_told h u f b one =
      let log = kinds.Program channel one.part.program one.part.bank in
      let told = program_told channel l checkpoint next packet sent s logs o early late is has agrees whole one in
      let same : program_of h.state channel ≡ program_of (cleared logs s) channel = f.program channel l refl ∙ b.program in
      let bare : one.part.bank ≡ None → program_is (program_of h.state channel) one.part.program None ≡ false → control_of h.state channel 0 ≡ None = λ none other.
      f.control channel 0 l (omega arith) refl ∙ b.high
      ∙ none_told channel l checkpoint next packet sent s logs o early late is has agrees whole one.part told none (subst (λ p. program_is p one.part.program None ≡ false) same other) in
      let k = program_tells h channel one.part.program one.part.bank l f.left bare in
      record {
        part = k.part ∙ sym ((program_part_is channel l).set u log f.right ∙ rw (self channel) refl);
        high = λ none.
            k.high (λ bank e. f.control channel 0 l (omega arith) refl ∙ b.high ∙ high_held channel l checkpoint next packet sent s logs o early late is has agrees whole one.part told none bank e)
            ∙ f.control channel 0 l (omega arith) refl
            ∙ sym ((control_is channel 0 l (omega arith)).set u log f.right);
        low = λ none.
            k.low (λ bank e. ap value_or_zero (f.control channel 32 l (omega arith) refl ∙ b.low) ∙ low_held channel l checkpoint next packet sent s logs o early late is has agrees whole one.part told none bank e)
            ∙ f.control channel 32 l (omega arith) refl
            ∙ sym ((control_is channel 32 l (omega arith)).set u log f.right);
      }

  logs_told : (h : Hearing) (u : State) → Follows no_programs no_controls h.state u → IsBefore channel u (cleared logs s) → (p_said channel checkpoint packet sent ≡ []) ⊎ OneProgram channel (p_said channel checkpoint packet sent) →
      ProgramsTold channel (own_logs 0) (own_logs 32) (fold log_handed h (p_said channel checkpoint packet sent)).state (fold with_log u (p_said channel checkpoint packet sent))
  logs_told h u f b (inl none) = rw none (record { part = f.program channel l refl; high = λ _. f.control channel 0 l (omega arith) refl; low = λ _. f.control channel 32 l (omega arith) refl })
  logs_told h u f b (inr one) = rw one.same (one_told h u f b one)

  programs_told : (h : Hearing) (u : State) → Follows no_programs no_controls h.state u → IsBefore channel u (cleared logs s) →
      ProgramsTold channel (own_logs 0) (own_logs 32) (group_handed_on logs channel h Programs).state (group_repaired logs channel u Programs)
  unfolding group_handed_on
  programs_told h u f b =
      let own : of_group Programs channel logs ≡ p_said channel checkpoint packet sent = has.programs in
      let t : fold (log_handed_on_of Programs channel) h logs ≡ fold log_handed h (p_said channel checkpoint packet sent) = handed_of Programs channel h logs ∙ ap (fold log_handed h) own in
      let v : group_repaired logs channel u Programs ≡ fold with_log u (p_said channel checkpoint packet sent) = group-fold logs channel u Programs ∙ ap (fold with_log u) own in
      rw (t, v) (logs_told h u f b (one_program channel checkpoint packet sent))

  -- ## Its controls

  own_said : (number : ℕ) → final (log_says (control_log_says channel number)) (of_group Controls channel logs) ≡ own_logs number
  own_said number = ap (final (log_says (control_log_says channel number))) has.controls

  both_said : (h : Hearing) (u : State) (number : ℕ) → number < 128 → IsState h.state → IsState u → speaks (own_logs number) ≡ true →
      control_of (group_handed_on logs channel h Controls).state channel number ≡ control_of (group_repaired logs channel u Controls) channel number
  unfolding group_handed_on
  both_said h u number m left right spoken =
      let says = final (log_says (control_log_says channel number)) (of_group Controls channel logs) in
      controls_said h channel number logs l m left
      ∙ said_spoken says (control_of h.state channel number) (control_of u channel number) (ap speaks (own_said number) ∙ spoken)
      ∙ sym (ap (λ t. control_of t channel number) (group-fold logs channel u Controls)
      ∙ fold-part IsState with_log (λ t. control_of t channel number) (log_says (control_log_says channel number)) (λ t log w. channel_log_is t log.what w) (λ t log w. (control_is channel number l m).set t log.what w) u (of_group Controls channel logs) right)

  -- those of the bank of which logs speak
  abbrev later : (at number : ℕ) → Bool
  later at number = only_bank channel at number && speaks (own_logs number)

  by_number : (P : ℕ → Type 0) (number : ℕ) → (eqb number 0 || eqb number 32) ≡ true → P 0 → P 32 → P number
  by_number P number h zero_case other =
      elim (cases_Bool (eqb number 0)) [
        | inl t ↦ subst P (sym (eqb-true number 0 t)) zero_case
        | inr f ↦ subst P (sym (eqb-true number 32 (rw f at h))) other
      ]

  quiet_logs : (a : Bool) (w : Option (Option ℕ)) → a ≡ true → (a && speaks w) ≡ false → w ≡ None
  quiet_logs a None t h = refl
  quiet_logs true (Some w) t h = absurd (let f : true ≡ false = h in cc)
  quiet_logs false (Some w) t h = absurd (let f : false ≡ true = t in cc)

  pub channel_heard : (h : Hearing) (u : State) → Follows no_programs no_controls h.state u → IsBefore channel u (cleared logs s) →
      Follows no_programs no_controls (channel_handed_on logs (repaired s logs) h channel).state (channel_repaired logs u channel)
  unfolding channel_handed_on controls_handed_on channel_repaired all_groups
  channel_heard h u f b =
      let p = group_handed_on logs channel h Programs in
      let ps = group_repaired logs channel u Programs in
      let e = group_handed_on logs channel p Params in
      let es = group_repaired logs channel ps Params in
      let c = group_handed_on logs channel e Controls in
      let cs = group_repaired logs channel es Controls in
      let told = programs_told h u f b in
      let one = group_follows (only channel) (only_bank channel) logs Programs channel h u (only_allows channel) (weaker (only channel) (only_bank channel) h.state u f) in
      let two : Follows no_programs later p.state ps = stronger (only channel) (only_bank channel) later p.state ps
      (λ at k own. subst (λ n. program_of p.state n ≡ program_of ps n) (sym (eqb-true at channel own)) told.part)
      (λ at number k m own none. let both = and_parts (eqb at channel) (eqb number 0 || eqb number 32) own in
      subst (λ n. control_of p.state n number ≡ control_of ps n number) (sym (eqb-true at channel both.0))
      (by_number (λ n. own_logs n ≡ None → control_of p.state channel n ≡ control_of ps channel n) number both.1 told.high told.low (quiet_logs (only_bank channel at number) (own_logs number) own none))) one in
      let three = other_follows no_programs later logs Params channel p ps refl two in
      let four = other_follows no_programs later logs Controls channel e es refl three in
      let five : Follows no_programs no_controls c.state cs = stronger no_programs later no_controls c.state cs
      (λ at k own. absurd (let x : false ≡ true = own in cc))
      (λ at number k m own none. let both = and_parts (only_bank channel at number) (speaks (own_logs number)) own in
      subst (λ n. control_of c.state n number ≡ control_of cs n number) (sym (eqb-true at channel (and_parts (eqb at channel) (eqb number 0 || eqb number 32) both.0).0))
      (both_said e es number m three.left three.right both.1)) four in
      let chosen = selection_of (repaired s logs) channel in
      behind_follows no_programs no_controls logs channel (selection_handed_on_after_params (length p.heard) (length e.heard) c channel chosen) cs
      (after_params no_programs no_controls (length p.heard) (length e.heard) c cs channel chosen five)
