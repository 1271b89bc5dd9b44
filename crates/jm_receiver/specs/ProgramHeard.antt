-- What the journal's program and the bank with it are to a listener.
use Rattle.std.proofs.Common.{◌≡◌, ◌⊎◌, ℕ, ◌<◌, ◌≤◌, Bool, true, false, eqb, leb, List, [], ◌∷◌, Option, Some, None, fold, refl, sym, ap, ◌∙◌, inl, inr, arith}
use Rattle.std.specs.List.{list_any, flat_map, filter, AllByRecursion}
use Rattle.std.proofs.lemmas.Bool.{cases_Bool, eq-eqb, eqb-true, and_parts, leb-true, le-leb}
use Rattle.std.proofs.lemmas.List.Sums.{fold-append}
use Rattle.jm_cmds.specs.declared.commands.Command.{Command}
use Rattle.jm_cmds.specs.declared.history.Sent.{Sent}
use Rattle.jm_cmds.specs.Control.{control_kind}
use Rattle.jm_cmds.specs.History.{below, since, scanned, Unended, InOrder}
use Rattle.jm_cmds.specs.HistoryLaws.{InOrder-filter, InOrder-scanned, Unended-coded, AllByRecursion-filter, all_unended, filter-filter}
use Rattle.jm_cmds.specs.Sent.{packet_of, is_fresh}
use Rattle.ch_voice.specs.declared.events.ProgramEvent.{ProgramEvent}
use Rattle.ch_voice.specs.declared.events.ProgramEvent.TheVariants as programs
use Rattle.ch_voice.specs.Bank.{no_bank, bank_step}
use Rattle.ch_voice.specs.ProgramEvent.{ends_program}
use Rattle.ch_voice.specs.ChapterP.{Banked, banked_packet, banked_event, program_ends, coded_program}
use Rattle.ch_sysex.specs.SysexEvent.{resets}
use Rattle.jm_state.specs.declared.channel.ProgramPart.{ProgramPart}
use Rattle.jm_state.specs.declared.state.State.{State}
use Rattle.jm_state.specs.Apply.{applied, bank_by}
use Rattle.jm_state.specs.Final.{final, speaks, final-append, final-flat_map, latest-final, over_none}
use Rattle.jm_state.specs.Kept.{IsState}
use Rattle.jm_state.specs.KeptLaws.{no_state_is, state_after_is}
use Rattle.jm_state.specs.Parts.{no_state, program_of, control_of}
use Rattle.jm_state.specs.Replay.{over, in_two}
use Rattle.jm_state.specs.PartLaws.{by_part}
use Rattle.jm_state.specs.ReplayLaws.{state_behind, behind_is, part_behind}
use Rattle.jm_state.specs.Says.{said, ended, control_says}
use Rattle.jm_reader.specs.declared.logs.Log.{Log}
use Rattle.jm_reader.specs.declared.logs.LogKind.TheVariants as kinds
use Rattle.jm_reader.specs.WrittenC.{c_said}
use Rattle.jm_reader.specs.WrittenJournal.{journal_logs}
use Rattle.jm_reader.specs.WrittenP.{Bank, p_said, program_said, bank_said, place_said}
use Rattle.jm_receiver.specs.declared.group.Group.{Group}
use Rattle.jm_receiver.specs.declared.group.Group.TheVariants.{Programs, Params, Controls, Wheels, Released, Struck, Pressures, Polys}
use Rattle.jm_receiver.specs.Agreement.{Agrees}
use Rattle.jm_receiver.specs.BankPlaces.{bank_at, is_set, program_bank, told_before, none_before, spoken_over, unspoken}
use Rattle.jm_receiver.specs.ControlLaw.{control_is, control_log_says, control_groups, control_heard}
use Rattle.jm_receiver.specs.Group.{is_of, all_groups}
use Rattle.jm_receiver.specs.HandedOn.{program_is as is_program_of, value_or_zero}
use Rattle.jm_receiver.specs.MessageLaw.{since-scanned, scanned-append}
use Rattle.jm_receiver.specs.Order.{in_order, of_group, log_says, part_repaired, tag, rank, is_tagged, is_of-tag, concerns_tag, final-filter_none}
use Rattle.jm_receiver.specs.ProgramLaw.{IsBank, banked_says, bank_along, no_bank_is, high_after, low_after, program_log_says, program_groups, program_is, program_heard, program_behind}
use Rattle.jm_receiver.specs.Repair.{has_reset, cleared, repaired}
use Rattle.jm_receiver.specs.Repairs.{groups_heard, below_next, place_says}

-- ## One program

-- these logs are one of a program
pub record OneProgram (channel : ℕ) (logs : List Log) : Type 0 where
  pub fresh : Bool
  pub part : ProgramPart
  pub same : logs ≡ record { fresh = fresh; what = kinds.Program channel part.program part.bank } ∷ []

not_chosen : (channel : ℕ) (fresh : Bool) (bank : Bank) (event : ProgramEvent) → ends_program event ≡ false → program_said channel fresh bank event ≡ []
not_chosen channel fresh bank (programs.Chosen program) h = absurd (let f : true ≡ false = h in cc)
not_chosen channel fresh bank (programs.BankHigh value) h = refl
not_chosen channel fresh bank (programs.BankLow value) h = refl
not_chosen channel fresh bank programs.SetBack h = refl
not_chosen channel fresh bank programs.Reset h = absurd (let f : true ≡ false = h in cc)
not_chosen channel fresh bank programs.Other h = refl

none_chosen : (channel packet : ℕ) (ys : List Banked) → AllByRecursion (λ y. ends_program (banked_event channel y) ≡ false) ys → flat_map (place_said channel packet) ys ≡ []
none_chosen channel packet [] h = refl
none_chosen channel packet (y ∷ ys) h = rw (not_chosen channel (is_fresh packet y.1) y.0 (banked_event channel y) h.0) (none_chosen channel packet ys h.1)

one_chosen : (channel packet : ℕ) (ys : List Banked) → Unended (program_ends channel) ys → (flat_map (place_said channel packet) ys ≡ []) ⊎ OneProgram channel (flat_map (place_said channel packet) ys)
one_chosen channel packet [] u = inl refl
one_chosen channel packet (y ∷ ys) u = by_event (banked_event channel y) refl (one_chosen channel packet ys u.1)
  where
    rest : List Log
    rest = flat_map (place_said channel packet) ys

    passed : (event : ProgramEvent) → banked_event channel y ≡ event → program_said channel (is_fresh packet y.1) y.0 event ≡ [] → (rest ≡ []) ⊎ OneProgram channel rest →
        (flat_map (place_said channel packet) (y ∷ ys) ≡ []) ⊎ OneProgram channel (flat_map (place_said channel packet) (y ∷ ys))
    passed event e none later = rw (e, none) later

    by_event : (event : ProgramEvent) → banked_event channel y ≡ event → (rest ≡ []) ⊎ OneProgram channel rest →
        (flat_map (place_said channel packet) (y ∷ ys) ≡ []) ⊎ OneProgram channel (flat_map (place_said channel packet) (y ∷ ys))
    by_event (programs.Chosen program) e later =
        let own : AllByRecursion (λ z. ends_program (banked_event channel z) ≡ false) ys = rw e at u.0 in
        inr (record {
          fresh = is_fresh packet y.1;
          part = record { program = program; bank = bank_said y.0 };
          same = rw (e, none_chosen channel packet ys own) refl;
        })
    by_event (programs.BankHigh value) e later = passed (programs.BankHigh value) e refl later
    by_event (programs.BankLow value) e later = passed (programs.BankLow value) e refl later
    by_event programs.SetBack e later = passed programs.SetBack e refl later
    by_event programs.Reset e later = passed programs.Reset e refl later
    by_event programs.Other e later = passed programs.Other e refl later

pub one_program : (channel checkpoint packet : ℕ) (sent : List Sent) → (p_said channel checkpoint packet sent ≡ []) ⊎ OneProgram channel (p_said channel checkpoint packet sent)
unfolding p_said
one_program channel checkpoint packet sent =
    one_chosen channel packet (coded_program channel checkpoint packet sent)
    (Unended-coded (program_ends channel) banked_packet checkpoint (scanned (bank_step channel) no_bank (below packet_of packet sent)))

-- ## The bank behind a list

banks_behind : (channel : ℕ) (s : State) (bank : Bank) (xs : List Sent) → channel < 16 → IsState s → IsBank channel s bank → IsBank channel (state_behind s xs) (fold (bank_step channel) bank xs)
banks_behind channel s bank [] l is b = b
banks_behind channel s bank (x ∷ xs) l is b = banks_behind channel (applied s x.command) (bank_step channel bank x) xs l (state_after_is s x.command is) (bank_along channel s bank x l is b)

unset_ended : (b : Bool) → is_set (ended b) ≡ false
unset_ended true = refl
unset_ended false = refl

program_unless : (part : ProgramPart) (held : Option ProgramPart) → held ≡ Some part → part.bank ≡ None → is_program_of held part.program None ≡ true
program_unless part held e none = rw (e, none, eq-eqb part.program part.program refl) refl

high_of : (high low : Option ℕ) → bank_by high low ≡ None → high ≡ None
high_of None low h = refl
high_of (Some high) None h = absurd (let f : Some (high, 0) ≡ None = h in cc)
high_of (Some high) (Some low) h = absurd (let f : Some (high, low) ≡ None = h in cc)

any_kept : {X : Type 0} (test p : X → Bool) (xs : List X) → list_any test xs ≡ false → list_any test (filter p xs) ≡ false
any_kept test p xs h = none (filter p xs) (AllByRecursion-filter (λ x. test x ≡ false) p xs (all_unended test xs h))
  where
    none : (ys : List _) → AllByRecursion (λ x. test x ≡ false) ys → list_any test ys ≡ false
    none [] a = refl
    none (y ∷ ys) a = rw (a.0) (none ys a.1)

pair_of : (a b : ℕ × ℕ) → ◌≡◌ {A = Option (ℕ × ℕ)} (Some a) (Some b) → a ≡ b
pair_of a b e = cc

-- ## A journal's program

-- Of programs and controls of a channel these logs are just those of a journal with this checkpoint, and they have a reset where one was
-- sent from the checkpoint on.
pub record HasOwn (channel checkpoint packet : ℕ) (sent : List Sent) (logs : List Log) : Type 0 where
  pub programs : of_group Programs channel logs ≡ p_said channel checkpoint packet sent
  pub controls : of_group Controls channel logs ≡ c_said channel checkpoint packet sent
  pub reset : has_reset logs ≡ list_any resets (since packet_of checkpoint (below packet_of packet sent))

control_rank : (group : Group) → control_groups group ≡ eqb (rank group) 2
control_rank Programs = refl
control_rank Params = refl
control_rank Controls = refl
control_rank Wheels = refl
control_rank Released = refl
control_rank Struck = refl
control_rank Pressures = refl
control_rank Polys = refl

apart_tag : (group : Group) (channel : ℕ) (t : Option (Group × ℕ)) → control_groups group ≡ false → is_tagged group channel t ≡ true → concerns_tag control_groups channel t ≡ false
apart_tag group channel None f h = refl
apart_tag group channel (Some t) f h =
    let both = and_parts (eqb (rank group) (rank t.0)) (eqb t.1 channel) h in
    let other : control_groups t.0 ≡ false = control_rank t.0 ∙ ap (λ n. eqb n 2) (sym (eqb-true (rank group) (rank t.0) both.0)) ∙ sym (control_rank group) ∙ f in
    rw other refl

-- of a channel's logs those of controls alone speak of a control
controls_alone : (channel number : ℕ) (logs : List Log) → channel < 16 → number < 128 → final (log_says (control_log_says channel number)) (in_order channel logs) ≡ final (log_says (control_log_says channel number)) (of_group Controls channel logs)
unfolding in_order all_groups
controls_alone channel number logs l m =
    let says = log_says (control_log_says channel number) in
    let own = final says (of_group Controls channel logs) in
    let none : (group : Group) → control_groups group ≡ false → final says (of_group group channel logs) ≡ None = λ group f.
    final-filter_none says (λ log. is_of group channel log.what) (λ log h. (control_is channel number l m).silent log.what (apart_tag group channel (tag log.what) f (sym (is_of-tag group channel log.what) ∙ h))) logs in
    final-flat_map says (λ group. of_group group channel logs) all_groups
    ∙ rw (none Programs refl, none Params refl, none Wheels refl, none Released refl, none Struck refl, none Pressures refl, none Polys refl) (over_none (over own None) ∙ over_none own)

module _ (channel : ℕ) (l : channel < 16) (checkpoint next packet : ℕ) (sent : List Sent) (s : State) (logs : List Log) (o : InOrder packet_of sent) (early : checkpoint ≤ next) (late : next ≤ packet) (is : IsState s)
    (own : HasOwn channel checkpoint packet sent logs) (agrees : Agrees s (below packet_of next sent)) (whole : Agrees (repaired s logs) (below packet_of packet sent)) where
  abbrev seen : List Sent
  seen = below packet_of packet sent

  abbrev recent : List Sent
  recent = since packet_of checkpoint seen

  abbrev first_bank : Bank
  first_bank = fold (bank_step channel) no_bank (below packet_of checkpoint seen)

  ordered : InOrder packet_of seen
  ordered = InOrder-filter packet_of _ sent o

  -- what is said last of the program
  abbrev pub program_said_last : Option (Option ProgramPart)
  program_said_last = final (banked_says channel) (scanned (bank_step channel) first_bank recent)

  placed_recent : since banked_packet checkpoint (scanned (bank_step channel) no_bank seen) ≡ scanned (bank_step channel) first_bank recent
  placed_recent = since-scanned (bank_step channel) packet_of checkpoint no_bank seen ordered

  -- the program of its chapter is what is said last
  pub program_told : (one : OneProgram channel (p_said channel checkpoint packet sent)) → program_said_last ≡ Some (Some one.part)
  unfolding all_groups
  program_told one =
      ap (final (banked_says channel)) (sym placed_recent)
      ∙ sym (program_heard channel l checkpoint packet 0 sent o)
      ∙ rw (groups_heard channel program_groups (λ s. program_of s channel) (program_log_says channel) l (program_is channel l) checkpoint packet 0 sent, one.same, eq-eqb channel channel refl) refl

  -- what the logs say of a control
  abbrev pub control_logs : ℕ → Option (Option ℕ)
  control_logs number = final (log_says (control_log_says channel number)) (c_said channel checkpoint packet sent)

  bank_of_first : IsBank channel (state_behind no_state (below packet_of checkpoint seen)) first_bank
  bank_of_first = banks_behind channel no_state no_bank (below packet_of checkpoint seen) l no_state_is (no_bank_is channel l)

  cleared_control : (number : ℕ) → number < 128 → control_of (cleared logs s) channel number ≡ said (ended (has_reset logs)) (control_of s channel number)
  cleared_control number m = elim (cases_Bool (has_reset logs)) [ inl t ↦ rw t ((control_is channel number l m).absent) | inr f ↦ rw f refl ]

  journal_controls : (number : ℕ) → number < 128 → final (log_says (control_log_says channel number)) (in_order channel (journal_logs checkpoint packet 0 sent)) ≡ control_logs number
  unfolding all_groups
  journal_controls number m = groups_heard channel control_groups (λ t. control_of t channel number) (control_log_says channel number) l (control_is channel number l m) checkpoint packet 0 sent

  -- where no log speaks of the control, it is behind all what it was
  left_control : (number : ℕ) (m : number < 128) → control_logs number ≡ None → control_of (state_behind no_state seen) channel number ≡ control_of (cleared logs s) channel number
  left_control number m none =
      sym (whole.control channel number l m refl)
      ∙ part_repaired channel control_groups (λ t. control_of t channel number) (control_log_says channel number) (control_is channel number l m) s logs l is
      ∙ ap (λ (w : Option (Option ℕ)). said (over w (ended (has_reset logs))) (control_of s channel number)) (controls_alone channel number logs l m ∙ ap (final (log_says (control_log_says channel number))) own.controls ∙ none)
      ∙ sym (cleared_control number m)

  -- and no value was said since the checkpoint
  unset_recent : (number : ℕ) → number < 128 → control_logs number ≡ None → is_set (final (place_says (control_says channel number)) recent) ≡ false
  unset_recent number m none =
      let journal = journal_logs checkpoint packet 0 sent in
      ap is_set (sym (control_heard channel number l m checkpoint packet 0 sent o) ∙ ap (λ (w : Option (Option ℕ)). over w (ended (has_reset journal))) (journal_controls number m ∙ none)) ∙ unset_ended (has_reset journal)

  -- the control behind all, by what was said since the checkpoint
  said_recent : (number : ℕ) (m : number < 128) → said (final (place_says (control_says channel number)) recent) (control_of (state_behind no_state (below packet_of checkpoint seen)) channel number) ≡ control_of (state_behind no_state seen) channel number
  said_recent number m =
      let front = below packet_of checkpoint seen in
      let last : (t : State) (command : Command) → IsState t → control_of (applied t command) channel number ≡ said (control_says channel number command) (control_of t channel number) = λ t command is. (by_part t command is).control channel number l m in
      ap (λ (w : Option ℕ). w) (sym (latest-final (place_says (control_says channel number)) (control_of (state_behind no_state front) channel number) recent))
      ∙ sym (part_behind (λ t. control_of t channel number) (control_says channel number) last (state_behind no_state front) recent (behind_is no_state front no_state_is))
      ∙ ap (λ (t : State). control_of t channel number) (sym (fold-append (λ (t : State) (place : Sent). applied t place.command) no_state front recent) ∙ ap (state_behind no_state) (sym (in_two packet_of checkpoint seen ordered)))

  abbrev pub told_bank : Bank
  told_bank = bank_at channel first_bank recent

  pub high_told : (part : ProgramPart) → program_said_last ≡ Some (Some part) → control_logs 0 ≡ None → told_bank.high ≡ control_of (cleared logs s) channel 0
  unfolding control_kind
  high_told part h none =
      told_before channel 0 (λ b. b.high) refl refl (λ value. refl) (high_after channel) first_bank recent part h (unset_recent 0 (omega arith) none)
      ∙ ap (said (final (place_says (control_says channel 0)) recent)) (sym bank_of_first.high)
      ∙ said_recent 0 (omega arith)
      ∙ left_control 0 (omega arith) none

  pub low_told : (part : ProgramPart) → program_said_last ≡ Some (Some part) → control_logs 32 ≡ None → told_bank.low ≡ control_of (cleared logs s) channel 32
  unfolding control_kind
  low_told part h none =
      told_before channel 32 (λ b. b.low) refl refl (λ value. refl) (low_after channel) first_bank recent part h (unset_recent 32 (omega arith) none)
      ∙ ap (said (final (place_says (control_says channel 32)) recent)) (sym bank_of_first.low)
      ∙ said_recent 32 (omega arith)
      ∙ left_control 32 (omega arith) none

  -- ## A program without a bank

  before_none : (part : ProgramPart) → program_said_last ≡ Some (Some part) → part.bank ≡ None → list_any resets recent ≡ false → is_program_of (program_of s channel) part.program None ≡ false → control_of s channel 0 ≡ None
  unfolding control_kind
  before_none part h none clear other =
      let before = below packet_of next seen in
      let rest = since packet_of next seen in
      let all : List Banked = scanned (bank_step channel) no_bank seen in
      let second = fold (bank_step channel) no_bank before in
      let late_says = final (banked_says channel) (scanned (bank_step channel) second rest) in
      let early_says = final (banked_says channel) (scanned (bank_step channel) no_bank before) in
      let said_of_all : final (banked_says channel) all ≡ Some (Some part) =
      ap (final (banked_says channel)) (in_two banked_packet checkpoint all (InOrder-scanned packet_of (bank_step channel) no_bank seen ordered))
      ∙ final-append (banked_says channel) (below banked_packet checkpoint all) (since banked_packet checkpoint all)
      ∙ ap (λ (w : Option (Option ProgramPart)). over w (final (banked_says channel) (below banked_packet checkpoint all))) (ap (final (banked_says channel)) placed_recent ∙ h) in
      let in_parts : over late_says early_says ≡ Some (Some part) =
      sym (final-append (banked_says channel) (scanned (bank_step channel) no_bank before) (scanned (bank_step channel) second rest))
      ∙ ap (final (banked_says channel)) (sym (scanned-append (bank_step channel) no_bank before rest) ∙ ap (scanned (bank_step channel) no_bank) (sym (in_two packet_of next seen ordered)))
      ∙ said_of_all in
      let bank : IsBank channel (state_behind no_state before) second = banks_behind channel no_state no_bank before l no_state_is (no_bank_is channel l) in
      let same : before ≡ below packet_of next sent = below_next next packet sent late in
      elim (cases_Bool (speaks late_says)) [
        | inl t ↦
            let own : late_says ≡ Some (Some part) = sym (spoken_over late_says early_says t) ∙ in_parts in
            let at_place : (bank_at channel second rest).high ≡ None = high_of (bank_at channel second rest).high (bank_at channel second rest).low (sym (program_bank channel second rest part own) ∙ none) in
            let clear_rest : list_any resets rest ≡ false =
            ap (list_any resets) (sym (filter-filter (λ x. leb checkpoint (packet_of x)) (λ x. leb next (packet_of x)) (λ x e. let b = leb-true next (packet_of x) e in le-leb checkpoint (packet_of x) (omega (arith, b, early))) seen))
            ∙ any_kept resets (λ x. leb next (packet_of x)) recent clear in
            agrees.control channel 0 l (omega arith) refl
            ∙ ap (λ (xs : List Sent). control_of (state_behind no_state xs) channel 0) (sym same)
            ∙ bank.high
            ∙ none_before channel 0 (λ b. b.high) refl refl (λ value. refl) (high_after channel) second rest clear_rest at_place
        | inr f ↦
            let own : early_says ≡ Some (Some part) = rw (unspoken late_says f) at in_parts in
            let held : program_of s channel ≡ Some part =
            agrees.program channel l refl
            ∙ ap (λ (xs : List Sent). program_of (state_behind no_state xs) channel) (sym same)
            ∙ program_behind channel no_state no_bank before l no_state_is (no_bank_is channel l)
            ∙ ap (λ (w : Option (Option ProgramPart)). said w (program_of no_state channel)) own in
            absurd (let b : false ≡ true = sym other ∙ program_unless part (program_of s channel) held none in cc)
      ]

  pub none_told : (part : ProgramPart) → program_said_last ≡ Some (Some part) → part.bank ≡ None → is_program_of (program_of (cleared logs s) channel) part.program None ≡ false → control_of (cleared logs s) channel 0 ≡ None
  none_told part h none other =
      elim (cases_Bool (has_reset logs)) [
        | inl t ↦ cleared_control 0 (omega arith) ∙ rw t refl
        | inr f ↦
            let clear : list_any resets recent ≡ false = sym own.reset ∙ f in
            let held : is_program_of (program_of s channel) part.program None ≡ false = rw f at other in
            cleared_control 0 (omega arith) ∙ rw f (before_none part h none clear held)
      ]

  -- ## A program with its bank

  high_some : (high low : Option ℕ) (b : ℕ × ℕ) → bank_by high low ≡ Some b → high ≡ Some b.0
  high_some None low b h = absurd (let f : None ≡ Some b = h in cc)
  high_some (Some high) None b h = let e : (high, 0) ≡ b = pair_of (high, 0) b h in ap (λ (p : ℕ × ℕ). Some p.0) e
  high_some (Some high) (Some low) b h = let e : (high, low) ≡ b = pair_of (high, low) b h in ap (λ (p : ℕ × ℕ). Some p.0) e

  low_some : (high low : Option ℕ) (b : ℕ × ℕ) → bank_by high low ≡ Some b → value_or_zero low ≡ b.1
  low_some None low b h = absurd (let f : None ≡ Some b = h in cc)
  low_some (Some high) None b h = let e : (high, 0) ≡ b = pair_of (high, 0) b h in ap (λ (p : ℕ × ℕ). p.1) e
  low_some (Some high) (Some low) b h = let e : (high, low) ≡ b = pair_of (high, low) b h in ap (λ (p : ℕ × ℕ). p.1) e

  pub high_held : (part : ProgramPart) → program_said_last ≡ Some (Some part) → control_logs 0 ≡ None → (b : ℕ × ℕ) → part.bank ≡ Some b → control_of (cleared logs s) channel 0 ≡ Some b.0
  high_held part h none b e = sym (high_told part h none) ∙ high_some told_bank.high told_bank.low b (sym (program_bank channel first_bank recent part h) ∙ e)

  pub low_held : (part : ProgramPart) → program_said_last ≡ Some (Some part) → control_logs 32 ≡ None → (b : ℕ × ℕ) → part.bank ≡ Some b → value_or_zero (control_of (cleared logs s) channel 32) ≡ b.1
  low_held part h none b e = ap value_or_zero (sym (low_told part h none)) ∙ low_some told_bank.high told_bank.low b (sym (program_bank channel first_bank recent part h) ∙ e)
