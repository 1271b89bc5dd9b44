-- The law of repair for a channel's program, with the bank that it was chosen with.
use Rattle.std.proofs.Common.{◌≡◌, ℕ, ◌<◌, ◌≤◌, Bool, true, false, cond, ◌&&◌, ◌||◌, eqb, ltb, leb, List, [], ◌∷◌, Option, Some, None, refl, sym, ap, ◌∙◌, subst, inl, inr, arith}
use Rattle.std.specs.Prelude.{option_map}
use Rattle.std.specs.List.{list_any, AllByRecursion}
use Rattle.std.proofs.lemmas.Bool.{cases_Bool, eq-eqb, eqb-true, ltb-true, ltb-false, le-ltb, ne_eqb}
use Rattle.jm_cmds.specs.declared.commands.Command.{Command}
use Rattle.jm_cmds.specs.declared.commands.Command.TheVariants as commands
use Rattle.jm_cmds.specs.declared.controls.ControlKind.{ControlKind}
use Rattle.jm_cmds.specs.declared.controls.ControlKind.TheVariants as numbers
use Rattle.jm_cmds.specs.declared.history.Sent.{Sent}
use Rattle.jm_cmds.specs.Control.{control_kind, is_reset}
use Rattle.jm_cmds.specs.History.{below, since, scanned, InOrder}
use Rattle.jm_cmds.specs.HistoryLaws.{InOrder-filter, InOrder-scanned, AllByRecursion-weaker, AllByRecursion-scanned, filter_none}
use Rattle.jm_cmds.specs.Sent.{packet_of, is_fresh}
use Rattle.ch_voice.specs.declared.events.ProgramEvent.{ProgramEvent}
use Rattle.ch_voice.specs.declared.events.ProgramEvent.TheVariants.{Chosen, BankHigh, BankLow, SetBack, Reset, Other}
use Rattle.ch_voice.specs.Bank.{no_bank, bank_after, bank_step, half_of}
use Rattle.ch_voice.specs.ProgramEvent.{bank_event, program_event, is_chosen, ends_program}
use Rattle.ch_voice.specs.ChapterP.{Banked, banked_packet, banked_event, program_ends, coded_program}
use Rattle.ch_sysex.specs.SysexEvent.{resets}
use Rattle.jm_state.specs.declared.channel.ProgramPart.{ProgramPart}
use Rattle.jm_state.specs.declared.state.State.{State}
use Rattle.jm_state.specs.Apply.{applied, bank_by}
use Rattle.jm_state.specs.Parts.{no_state, nth_channel, program_of, control_of, control_at, control_by, pair_of, with_program}
use Rattle.jm_state.specs.Says.{said, ended, is_dropped, controller_says, control_says, program_says}
use Rattle.jm_state.specs.Kept.{IsState, no_channel_at, no_value}
use Rattle.jm_state.specs.KeptLaws.{no_state_is, state_after_is}
use Rattle.jm_state.specs.ControlLaws.{control_none}
use Rattle.jm_state.specs.PartLaws.{by_part}
use Rattle.jm_state.specs.Replay.{over, said-over}
use Rattle.jm_state.specs.ReplayLaws.{state_behind, behind_is}
use Rattle.jm_state.specs.SettingLaws.{program_alone, toggles_alone, param_high_alone, param_low_alone, reads_as_set}
use Rattle.jm_state.specs.Final.{final, speaks, final-flat_map, final-same, final-coded, final-ended, repaired_by}
use Rattle.jm_reader.specs.declared.logs.LogKind.{LogKind}
use Rattle.jm_reader.specs.declared.logs.LogKind.TheVariants as kinds
use Rattle.jm_reader.specs.WrittenJournal.{journal_logs}
use Rattle.jm_reader.specs.WrittenP.{Bank, bank_said, p_said, program_said, place_said}
use Rattle.jm_receiver.specs.declared.group.Group.{Group}
use Rattle.jm_receiver.specs.declared.group.Group.TheVariants.{Programs}
use Rattle.jm_receiver.specs.Group.{all_groups}
use Rattle.jm_receiver.specs.Repair.{has_reset, high_entered, low_entered, with_channel_log}
use Rattle.jm_receiver.specs.Order.{IsPart, concerns, log_says, part_repaired, high_is}
use Rattle.jm_receiver.specs.Repairs.{Repairs, groups_heard, below_next, journal_says, session_channels}
use Rattle.jm_receiver.specs.Resets.{reset_of_journal}

-- what a log says of the program: its own
abbrev pub program_log_says : (channel : ℕ) → LogKind → Option (Option ProgramPart)
program_log_says channel (kinds.Program at program bank) = cond (eqb at channel) (Some (Some (record { program = program; bank = bank }))) None
program_log_says channel log = None

abbrev pub program_groups : Group → Bool
program_groups Programs = true
program_groups group = false

program_silent : (channel : ℕ) (log : LogKind) → concerns program_groups channel log ≡ false → program_log_says channel log ≡ None
program_silent channel (kinds.Program at program bank) h = rw h refl
program_silent channel log h = refl

high_left : (s : State) (channel at : ℕ) (nrpn : Bool) (high low : ℕ) (value : Option ℕ) → channel < 16 → IsState s → program_of (high_entered s at nrpn high low value) channel ≡ program_of s channel
high_left s channel at nrpn high low None l is = refl
high_left s channel at nrpn high low (Some value) l is = (param_high_alone s at nrpn high low (Some value) is).program channel l refl

low_left : (s : State) (channel at : ℕ) (nrpn : Bool) (high low : ℕ) (value : Option ℕ) → channel < 16 → IsState s → program_of (low_entered s at nrpn high low value) channel ≡ program_of s channel
low_left s channel at nrpn high low None l is = refl
low_left s channel at nrpn high low (Some value) l is = (param_low_alone s at nrpn high low (Some value) is).program channel l refl

chosen_set : (channel : ℕ) (s : State) (at : ℕ) (value : ProgramPart) → channel < 16 → IsState s → program_of (with_program s at (Some value)) channel ≡ said (cond (eqb at channel) (Some (Some value)) None) (program_of s channel)
chosen_set channel s at value l is =
    elim (cases_Bool (eqb at channel)) [
      | inl t ↦
          let same : channel ≡ at = sym (eqb-true at channel t) in
          rw t (subst (λ k. program_of (with_program s k (Some value)) channel ≡ Some value) same ((reads_as_set s is).program channel (Some value) l))
      | inr f ↦ rw f ((program_alone s at (Some value) is).program channel l f)
    ]

program_set : (channel : ℕ) → channel < 16 → (s : State) (log : LogKind) → IsState s → program_of (with_channel_log s log) channel ≡ said (program_log_says channel log) (program_of s channel)
program_set channel l s (kinds.Program at program bank) is = chosen_set channel s at (record { program = program; bank = bank }) l is
program_set channel l s (kinds.Param at nrpn high low entry_high entry_low) is =
    low_left (high_entered s at nrpn high low entry_high) channel at nrpn high low entry_low l (high_is s at nrpn high low entry_high is)
    ∙ high_left s channel at nrpn high low entry_high l is
program_set channel l s (kinds.Toggle at count) is = (toggles_alone s at _ is).program channel l refl
program_set channel l s (kinds.Control at number value) is = (by_part s (commands.Control at number value) is).program channel l
program_set channel l s (kinds.Count at number count) is = (by_part s (commands.Control at number 0) is).program channel l
program_set channel l s (kinds.Wheel at first second) is = (by_part s (commands.Wheel at first second) is).program channel l
program_set channel l s (kinds.NoteOff at note) is = (by_part s (commands.NoteOff at note 64) is).program channel l
program_set channel l s (kinds.NoteOn at note velocity soon) is = (by_part s (commands.NoteOn at note velocity) is).program channel l
program_set channel l s (kinds.Pressure at value) is = (by_part s (commands.Pressure at value) is).program channel l
program_set channel l s (kinds.Poly at note value) is = (by_part s (commands.PolyPressure at note value) is).program channel l
program_set channel l s log is = refl

pub program_is : (channel : ℕ) → channel < 16 → IsPart channel program_groups (λ s. program_of s channel) (program_log_says channel)
program_is channel l = record {
  absent = ap (λ c. c.program) (no_channel_at channel l);
  counted = λ s count. refl;
  session = λ s log. ap (λ channels. (nth_channel channels channel).program) (session_channels s log);
  set = program_set channel l;
  silent = program_silent channel;
}

-- ## The bank

-- Controls 0 and 32 of the state are the bank that the session told
pub record IsBank (channel : ℕ) (s : State) (bank : Bank) : Type 0 where
  pub high : control_of s channel 0 ≡ bank.high
  pub low : control_of s channel 32 ≡ bank.low

no_pair : (number k : ℕ) → ltb k 124 ≡ true → eqb (pair_of number) k ≡ false
no_pair number k h =
    elim (cases_Bool (eqb number 124)) [
      | inl t ↦ rw t (apart 125 k h (omega arith))
      | inr f ↦ elim (cases_Bool (eqb number 125)) [
        | inl t ↦ rw (f, t) (apart 124 k h (omega arith))
        | inr g ↦ elim (cases_Bool (eqb number 126)) [
          | inl t ↦ rw (f, g, t) (apart 127 k h (omega arith))
          | inr n ↦ rw (f, g, n) (apart 126 k h (omega arith))
        ]
      ]
    ]
  where
    apart : (n k : ℕ) → ltb k 124 ≡ true → 124 ≤ n → eqb n k ≡ false
    apart n k h l = let under : k < 124 = ltb-true k 124 h in ne_eqb n k (λ e. omega (arith, e, l, under))

-- another controller says nothing of a kept one below the modes
pub not_told : (kind other : ControlKind) (number k value : ℕ) → ltb k 124 ≡ true → is_dropped other ≡ false → eqb number k ≡ false → controller_says kind other number k value ≡ None
not_told (numbers.Mode n) other number k value h d f = rw (f, no_pair number k h) refl
not_told (numbers.Kept n) other number k value h d f = rw f refl
not_told numbers.Pedal other number k value h d f = rw f refl
not_told (numbers.Plain n) other number k value h d f = rw f refl
not_told numbers.ResetControllers other number k value h d f = rw d refl
not_told kind other number k value h d f = refl

kept_high : (number value : ℕ) (bank : Bank) → said (controller_says (control_kind number) (control_kind 0) number 0 value) bank.high ≡ (bank_after bank (bank_event number value)).high
unfolding control_kind
kept_high number value bank =
    elim (cases_Bool (eqb number 0)) [
      | inl t ↦ subst (λ n. said (controller_says (control_kind n) (control_kind 0) n 0 value) bank.high ≡ (bank_after bank (bank_event n value)).high) (sym (eqb-true number 0 t)) refl
      | inr f ↦
          let silent : controller_says (control_kind number) (control_kind 0) number 0 value ≡ None = not_told (control_kind number) (control_kind 0) number 0 value refl refl f in
          ap (λ (o : Option (Option ℕ)). said o bank.high) silent
          ∙ elim (cases_Bool (eqb number 32)) [
            | inl t ↦ rw (f, t) refl
            | inr g ↦ elim (cases_Bool (eqb number 121)) [ inl t ↦ rw (f, g, t) refl | inr n ↦ rw (f, g, n) refl ]
          ]
    ]

kept_low : (number value : ℕ) (bank : Bank) → said (controller_says (control_kind number) (control_kind 32) number 32 value) bank.low ≡ (bank_after bank (bank_event number value)).low
unfolding control_kind
kept_low number value bank =
    elim (cases_Bool (eqb number 32)) [
      | inl t ↦ subst (λ n. said (controller_says (control_kind n) (control_kind 32) n 32 value) bank.low ≡ (bank_after bank (bank_event n value)).low) (sym (eqb-true number 32 t)) refl
      | inr f ↦
          let silent : controller_says (control_kind number) (control_kind 32) number 32 value ≡ None = not_told (control_kind number) (control_kind 32) number 32 value refl refl f in
          ap (λ (o : Option (Option ℕ)). said o bank.low) silent
          ∙ elim (cases_Bool (eqb number 0)) [
            | inl t ↦ rw t refl
            | inr g ↦ elim (cases_Bool (eqb number 121)) [ inl t ↦ rw (g, f, t) refl | inr n ↦ rw (g, f, n) refl ]
          ]
    ]

high_by : (b : Bool) (bank : Bank) → said (ended b) bank.high ≡ (bank_after bank (cond b Reset Other)).high
high_by true bank = refl
high_by false bank = refl

low_by : (b : Bool) (bank : Bank) → said (ended b) bank.low ≡ (bank_after bank (cond b Reset Other)).low
low_by true bank = refl
low_by false bank = refl

pub high_after : (channel : ℕ) (command : Command) (bank : Bank) → said (control_says channel 0 command) bank.high ≡ (bank_after bank (program_event channel command)).high
high_after channel (commands.Control at number value) bank = elim (cases_Bool (eqb at channel)) [ inl t ↦ rw t (kept_high number value bank) | inr f ↦ rw f refl ]
high_after channel (commands.Program at program) bank = elim (cases_Bool (eqb at channel)) [ inl t ↦ rw t refl | inr f ↦ rw f refl ]
high_after channel command bank = high_by (is_reset command) bank

pub low_after : (channel : ℕ) (command : Command) (bank : Bank) → said (control_says channel 32 command) bank.low ≡ (bank_after bank (program_event channel command)).low
low_after channel (commands.Control at number value) bank = elim (cases_Bool (eqb at channel)) [ inl t ↦ rw t (kept_low number value bank) | inr f ↦ rw f refl ]
low_after channel (commands.Program at program) bank = elim (cases_Bool (eqb at channel)) [ inl t ↦ rw t refl | inr f ↦ rw f refl ]
low_after channel command bank = low_by (is_reset command) bank

pub bank_along : (channel : ℕ) (s : State) (bank : Bank) (x : Sent) → channel < 16 → IsState s → IsBank channel s bank → IsBank channel (applied s x.command) (bank_step channel bank x)
bank_along channel s bank x l is b = record {
  high = (by_part s x.command is).control channel 0 l (omega arith) ∙ ap (said (control_says channel 0 x.command)) b.high ∙ high_after channel x.command bank;
  low = (by_part s x.command is).control channel 32 l (omega arith) ∙ ap (said (control_says channel 32 x.command)) b.low ∙ low_after channel x.command bank;
}

pub no_bank_is : (channel : ℕ) → channel < 16 → IsBank channel no_state no_bank
no_bank_is channel l = record {
  high = ap (λ c. control_at c 0) (no_channel_at channel l) ∙ ap (control_by (control_kind 0)) (no_value 0 (omega arith)) ∙ control_none (control_kind 0);
  low = ap (λ c. control_at c 32) (no_channel_at channel l) ∙ ap (control_by (control_kind 32)) (no_value 32 (omega arith)) ∙ control_none (control_kind 32);
}

-- what a place says of the program, with the bank before it
abbrev pub banked_says : (channel : ℕ) → Banked → Option (Option ProgramPart)
banked_says channel place = program_says channel place.0.high place.0.low place.1.command

pub program_behind : (channel : ℕ) (s : State) (bank : Bank) (xs : List Sent) → channel < 16 → IsState s → IsBank channel s bank → program_of (state_behind s xs) channel ≡ said (final (banked_says channel) (scanned (bank_step channel) bank xs)) (program_of s channel)
program_behind channel s bank [] l is b = refl
program_behind channel s bank (x ∷ xs) l is b =
    let later = final (banked_says channel) (scanned (bank_step channel) (bank_step channel bank x) xs) in
    program_behind channel (applied s x.command) (bank_step channel bank x) xs l (state_after_is s x.command is) (bank_along channel s bank x l is b)
    ∙ ap (said later) ((by_part s x.command is).program channel l ∙ rw (b.high, b.low) refl)
    ∙ said-over later (banked_says channel (bank, x)) (program_of s channel)

-- ## The program's chapter

abbrev chooses : Bank → ProgramEvent → Option (Option ProgramPart)
chooses bank (Chosen program) = Some (Some (record { program = program; bank = bank_said bank }))
chooses bank (BankHigh value) = None
chooses bank (BankLow value) = None
chooses bank SetBack = None
chooses bank Reset = None
chooses bank Other = None

self : (n : ℕ) → eqb n n ≡ true
self n = eq-eqb n n refl

event_heard : (channel : ℕ) (fresh : Bool) (bank : Bank) (event : ProgramEvent) → final (log_says (program_log_says channel)) (program_said channel fresh bank event) ≡ chooses bank event
event_heard channel fresh bank (Chosen program) = rw (self channel) refl
event_heard channel fresh bank (BankHigh value) = refl
event_heard channel fresh bank (BankLow value) = refl
event_heard channel fresh bank SetBack = refl
event_heard channel fresh bank Reset = refl
event_heard channel fresh bank Other = refl

abbrev place_chooses : (channel : ℕ) → Banked → Option (Option ProgramPart)
place_chooses channel place = chooses place.0 (banked_event channel place)

chapter_heard : (channel checkpoint packet : ℕ) (sent : List Sent) → final (log_says (program_log_says channel)) (p_said channel checkpoint packet sent) ≡ final (place_chooses channel) (coded_program channel checkpoint packet sent)
unfolding p_said
chapter_heard channel checkpoint packet sent =
    final-flat_map (log_says (program_log_says channel)) (place_said channel packet) (coded_program channel checkpoint packet sent)
    ∙ final-same (λ place. final (log_says (program_log_says channel)) (place_said channel packet place)) (place_chooses channel)
    (λ place. event_heard channel (is_fresh packet place.1) place.0 (banked_event channel place)) (coded_program channel checkpoint packet sent)

is_choice : (bank : Bank) (event : ProgramEvent) → speaks (chooses bank event) ≡ true → is_chosen event ≡ true
is_choice bank (Chosen program) h = refl
is_choice bank (BankHigh value) h = cc
is_choice bank (BankLow value) h = cc
is_choice bank SetBack h = cc
is_choice bank Reset h = cc
is_choice bank Other h = cc

spoken_end : (b : Bool) → speaks (ended {X = ProgramPart} b) ≡ true → b ≡ true
spoken_end true h = refl
spoken_end false h = cc

no_end : (number value : ℕ) → ends_program (bank_event number value) ≡ false
no_end number value =
    elim (cases_Bool (eqb number 0)) [
      | inl t ↦ rw t refl
      | inr f ↦ elim (cases_Bool (eqb number 32)) [
        | inl t ↦ rw (f, t) refl
        | inr g ↦ elim (cases_Bool (eqb number 121)) [ inl t ↦ rw (f, g, t) refl | inr n ↦ rw (f, g, n) refl ]
      ]
    ]

no_choice : (bank : Bank) (number value : ℕ) → chooses bank (bank_event number value) ≡ None
no_choice bank number value =
    elim (cases_Bool (eqb number 0)) [
      | inl t ↦ rw t refl
      | inr f ↦ elim (cases_Bool (eqb number 32)) [
        | inl t ↦ rw (f, t) refl
        | inr g ↦ elim (cases_Bool (eqb number 121)) [ inl t ↦ rw (f, g, t) refl | inr n ↦ rw (f, g, n) refl ]
      ]
    ]

covered : (channel : ℕ) (bank : Bank) (command : Command) → ends_program (program_event channel command) ≡ true → speaks (over (chooses bank (program_event channel command)) (ended (is_reset command))) ≡ true
covered channel bank (commands.Program at program) h =
    elim (cases_Bool (eqb at channel)) [ inl t ↦ rw t refl | inr f ↦ absurd (let f : false ≡ true = (rw f at h) in cc) ]
covered channel bank (commands.Control at number value) h =
    elim (cases_Bool (eqb at channel)) [
      | inl t ↦
          let e : ends_program (bank_event number value) ≡ true = rw t at h in
          absurd (let f : false ≡ true = sym (no_end number value) ∙ e in cc)
      | inr f ↦ absurd (let f : false ≡ true = (rw f at h) in cc)
    ]
covered channel bank command h = by_end (is_reset command) h
  where
    by_end : (b : Bool) → ends_program (cond b Reset Other) ≡ true → speaks (over (chooses bank (cond b Reset Other)) (ended b)) ≡ true
    by_end true h = refl
    by_end false h = cc

cleared : (channel : ℕ) (command : Command) → is_reset command ≡ true → ends_program (program_event channel command) ≡ true
cleared channel (commands.Program at program) h = absurd (let f : false ≡ true = h in cc)
cleared channel (commands.Control at number value) h = absurd (let f : false ≡ true = h in cc)
cleared channel command h = by_end (is_reset command) h
  where
    by_end : (b : Bool) → b ≡ true → ends_program (cond b Reset Other) ≡ true
    by_end true h = refl
    by_end false h = cc

bank_same : (high low : Option ℕ) → option_map (λ h. (h, half_of low)) high ≡ bank_by high low
bank_same None low = refl
bank_same (Some high) None = refl
bank_same (Some high) (Some low) = refl

part_same : (program : ℕ) (a b : Option (ℕ × ℕ)) → a ≡ b → ◌≡◌ {A = ProgramPart} (record { program = program; bank = a }) (record { program = program; bank = b })
part_same program a b e = cc

said_so : (channel : ℕ) (bank : Bank) (command : Command) → over (chooses bank (program_event channel command)) (ended (is_reset command)) ≡ program_says channel bank.high bank.low command
said_so channel bank (commands.Program at program) =
    elim (cases_Bool (eqb at channel)) [
      | inl t ↦ rw t (ap (λ (p : ProgramPart). Some (Some p)) (part_same program (bank_said bank) (bank_by bank.high bank.low) (bank_same bank.high bank.low)))
      | inr f ↦ rw f refl
    ]
said_so channel bank (commands.Control at number value) =
    elim (cases_Bool (eqb at channel)) [
      | inl t ↦ rw (t, no_choice bank number value) refl
      | inr f ↦ rw f refl
    ]
said_so channel bank command = by_end (is_reset command)
  where
    by_end : (b : Bool) → over (chooses bank (cond b Reset Other)) (ended b) ≡ ended b
    by_end true = refl
    by_end false = refl

both : (a b : Bool) → (a && b) ≡ true → b ≡ true
both true b h = h
both false b h = cc

-- ## Places with the bank before each

pub any-since_placed : {S X : Type 0} (step : S → X → S) (at : X → ℕ) (checkpoint : ℕ) (test : X → Bool) (s : S) (xs : List X) →
    list_any (λ p. test p.1) (since (λ p. at p.1) checkpoint (scanned step s xs)) ≡ list_any test (since at checkpoint xs)
any-since_placed step at checkpoint test s [] = refl
any-since_placed step at checkpoint test s (x ∷ xs) =
    elim (cases_Bool (leb checkpoint (at x))) [
      | inl t ↦ rw t (ap (λ b. test x || b) (any-since_placed step at checkpoint test (step s x) xs))
      | inr f ↦ rw f (any-since_placed step at checkpoint test (step s x) xs)
    ]

pub below-scanned : {S X : Type 0} (step : S → X → S) (at : X → ℕ) (packet : ℕ) (s : S) (xs : List X) → InOrder at xs → below (λ p. at p.1) packet (scanned step s xs) ≡ scanned step s (below at packet xs)
below-scanned step at packet s [] o = refl
below-scanned step at packet s (x ∷ xs) o =
    elim (cases_Bool (ltb (at x) packet)) [
      | inl t ↦ rw t (ap (λ (l : List _). (s, x) ∷ l) (below-scanned step at packet (step s x) xs o.1))
      | inr f ↦
          let begins : packet ≤ at x = ltb-false (at x) packet f in
          let later : AllByRecursion (λ y. ltb (at y) packet ≡ false) xs = AllByRecursion-weaker (λ y. at x ≤ at y) (λ y. ltb (at y) packet ≡ false) (λ y h. le-ltb (at y) packet (omega (arith, h, begins))) xs o.0 in
          rw (f, filter_none (λ p. ltb (at p.1) packet) (scanned step (step s x) xs) (AllByRecursion-scanned (λ y. ltb (at y) packet ≡ false) step (step s x) xs later), filter_none (λ y. ltb (at y) packet) xs later) refl
    ]

-- The logs of a journal say of the program what the commands from the checkpoint on say, each with the bank before it.
pub program_heard : (channel : ℕ) → channel < 16 → (checkpoint packet tick : ℕ) (sent : List Sent) → InOrder packet_of sent →
    journal_says (program_log_says channel) channel checkpoint packet tick sent ≡ final (banked_says channel) (since banked_packet checkpoint (scanned (bank_step channel) no_bank (below packet_of packet sent)))
unfolding all_groups
program_heard channel l checkpoint packet tick sent o =
    let seen = below packet_of packet sent in
    let ordered : InOrder packet_of seen = InOrder-filter packet_of _ sent o in
    let placed : List Banked = scanned (bank_step channel) no_bank seen in
    let recent : List Banked = since banked_packet checkpoint placed in
    let reset : Banked → Option (Option ProgramPart) = λ place. ended (resets place.1) in
    let ended_too : ended {X = ProgramPart} (has_reset (journal_logs checkpoint packet tick sent)) ≡ final reset recent =
    ap (λ b. ended b) (reset_of_journal checkpoint packet tick sent o ∙ sym (any-since_placed (bank_step channel) packet_of checkpoint resets no_bank seen))
    ∙ sym (final-ended (λ (place : Banked). resets place.1) recent) in
    rw (groups_heard channel program_groups (λ s. program_of s channel) (program_log_says channel) l (program_is channel l) checkpoint packet tick sent, ended_too)
    (ap (λ (a : Option (Option ProgramPart)). over a (final reset recent)) (chapter_heard channel checkpoint packet sent)
    ∙ final-coded (program_ends channel) (place_chooses channel) reset
    (λ x y s e. covered channel y.0 y.1.command (both (is_chosen (banked_event channel x)) (ends_program (banked_event channel y)) e))
    (λ x y s r. rw (is_choice x.0 (banked_event channel x) s) (cleared channel y.1.command (spoken_end (resets y.1) r)))
    banked_packet checkpoint placed (InOrder-scanned packet_of (bank_step channel) no_bank seen ordered)
    ∙ final-same (λ place. over (place_chooses channel place) (reset place)) (banked_says channel) (λ place. said_so channel place.0 place.1.command) recent)

-- The program of each channel is repaired, with its bank.
pub program_repaired : (channel : ℕ) → channel < 16 → Repairs (λ s. program_of s channel)
program_repaired channel l checkpoint next packet tick sent o early late =
    let seen = below packet_of packet sent in
    let before = below packet_of next sent in
    let ordered : InOrder packet_of seen = InOrder-filter packet_of _ sent o in
    let placed : List Banked = scanned (bank_step channel) no_bank seen in
    let journal = journal_says (program_log_says channel) channel checkpoint packet tick sent in
    let none : Option ProgramPart = program_of no_state channel in
    let behind : (places : List Sent) → program_of (state_behind no_state places) channel ≡ said (final (banked_says channel) (scanned (bank_step channel) no_bank places)) none =
    λ places. program_behind channel no_state no_bank places l no_state_is (no_bank_is channel l) in
    let cut : scanned (bank_step channel) no_bank before ≡ below banked_packet next placed =
    ap (scanned (bank_step channel) no_bank) (sym (below_next next packet sent late)) ∙ sym (below-scanned (bank_step channel) packet_of next no_bank seen ordered) in
    part_repaired channel program_groups (λ s. program_of s channel) (program_log_says channel) (program_is channel l) (state_behind no_state before) (journal_logs checkpoint packet tick sent) l (behind_is no_state before no_state_is)
    ∙ ap (said journal) (behind before ∙ ap (λ (places : List Banked). said (final (banked_says channel) places) none) cut)
    ∙ repaired_by (banked_says channel) banked_packet checkpoint next none placed journal (InOrder-scanned packet_of (bank_step channel) no_bank seen ordered) early (program_heard channel l checkpoint packet tick sent o)
    ∙ sym (behind seen)
