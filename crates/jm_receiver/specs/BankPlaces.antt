-- The bank of the program that a list of commands chose last, and Controls 0 and 32 behind the list.
use Rattle.std.proofs.Common.{◌≡◌, ℕ, Bool, true, false, cond, eqb, ltb, List, [], ◌∷◌, Option, Some, None, refl, sym, ap, subst, ◌∙◌, inl, inr}
use Rattle.std.specs.List.{list_any}
use Rattle.std.proofs.lemmas.Bool.{cases_Bool, eqb-true, or_parts}
use Rattle.ch_sysex.specs.SysexEvent.{resets}
use Rattle.jm_cmds.specs.declared.commands.Command.{Command}
use Rattle.jm_cmds.specs.declared.commands.Command.TheVariants as commands
use Rattle.jm_cmds.specs.declared.history.Sent.{Sent}
use Rattle.jm_cmds.specs.Control.{control_kind, is_reset}
use Rattle.jm_cmds.specs.History.{scanned}
use Rattle.ch_voice.specs.Bank.{bank_after, bank_step}
use Rattle.ch_voice.specs.ProgramEvent.{program_event}
use Rattle.jm_state.specs.declared.channel.ProgramPart.{ProgramPart}
use Rattle.jm_state.specs.Apply.{bank_by}
use Rattle.jm_state.specs.Final.{final, speaks}
use Rattle.jm_state.specs.Replay.{over, said-over}
use Rattle.jm_state.specs.Says.{said, ended, is_dropped, controller_says, control_says, program_says}
use Rattle.jm_reader.specs.WrittenP.{Bank}
use Rattle.jm_receiver.specs.ProgramLaw.{banked_says, not_told}
use Rattle.jm_receiver.specs.Repairs.{place_says}

-- the bank before the last program of these commands, with this one before all
abbrev pub bank_at : (channel : ℕ) → Bank → List Sent → Bank
bank_at channel b [] = b
bank_at channel b (x ∷ xs) =
    cond (speaks (final (banked_says channel) (scanned (bank_step channel) (bank_step channel b x) xs))) (bank_at channel (bank_step channel b x) xs) b

-- ## What was said

-- a value was said
abbrev pub is_set : Option (Option ℕ) → Bool
is_set None = false
is_set (Some None) = false
is_set (Some (Some value)) = true

pub spoken_over : {V : Type 0} (a b : Option (Option V)) → speaks a ≡ true → over a b ≡ a
spoken_over None b h = absurd (let f : false ≡ true = h in cc)
spoken_over (Some a) b h = refl

pub unspoken : {V : Type 0} (a : Option (Option V)) → speaks a ≡ false → a ≡ None
unspoken None h = refl
unspoken (Some a) h = absurd (let f : true ≡ false = h in cc)

later_unset : (a b : Option (Option ℕ)) → is_set (over a b) ≡ false → is_set a ≡ false
later_unset None b h = refl
later_unset (Some a) b h = h

over_parts : {V : Type 0} (a b : Option (Option V)) → over a b ≡ None → (a ≡ None) × (b ≡ None)
over_parts None b h = (refl, h)
over_parts (Some a) b h = absurd (let f : Some a ≡ None = h in cc)

-- ## A command

ended_chosen : (b : Bool) (part : ProgramPart) → ended b ≡ Some (Some part) → ⊥
ended_chosen true part h = let f : Some None ≡ Some (Some part) = h in cc
ended_chosen false part h = let f : None ≡ Some (Some part) = h in cc

part_bank : ProgramPart → Option (ℕ × ℕ)
part_bank part = part.bank

same_part : (a b : ProgramPart) → ◌≡◌ {A = Option (Option ProgramPart)} (Some (Some a)) (Some (Some b)) → a ≡ b
same_part a b e = cc

chosen_bank : (channel : ℕ) (high low : Option ℕ) (command : Command) (part : ProgramPart) → program_says channel high low command ≡ Some (Some part) → part.bank ≡ bank_by high low
chosen_bank channel high low (commands.Program at program) part h =
    elim (cases_Bool (eqb at channel)) [
      | inl t ↦
          let own : ProgramPart = record { program = program; bank = bank_by high low } in
          let same : own ≡ part = same_part own part (rw t at h) in
          rw (← same) refl
      | inr f ↦ absurd (let none : None ≡ Some (Some part) = rw f at h in cc)
    ]
chosen_bank channel high low command part h = absurd (ended_chosen (is_reset command) part h)

-- a program says nothing of a control
chosen_silent : (channel number : ℕ) (high low : Option ℕ) (command : Command) (part : ProgramPart) → program_says channel high low command ≡ Some (Some part) → control_says channel number command ≡ None
chosen_silent channel number high low (commands.Program at program) part h = refl
chosen_silent channel number high low command part h = absurd (ended_chosen (is_reset command) part h)

ended_none : {V W : Type 0} (b : Bool) → ended {X = V} b ≡ None → ended {X = W} b ≡ None
ended_none true h = absurd (let f : Some None ≡ None = h in cc)
ended_none false h = refl

-- Where the last that is said of the program isn't a reset, its bank is that of the place.
pub program_bank : (channel : ℕ) (b : Bank) (xs : List Sent) (part : ProgramPart) → final (banked_says channel) (scanned (bank_step channel) b xs) ≡ Some (Some part) → part.bank ≡ bank_by (bank_at channel b xs).high (bank_at channel b xs).low
program_bank channel b [] part h = absurd (let f : None ≡ Some (Some part) = h in cc)
program_bank channel b (x ∷ xs) part h =
    let next = bank_step channel b x in
    let later = final (banked_says channel) (scanned (bank_step channel) next xs) in
    elim (cases_Bool (speaks later)) [
      | inl t ↦ rw t (program_bank channel next xs part (sym (spoken_over later (banked_says channel (b, x)) t) ∙ h))
      | inr f ↦
          let here : program_says channel b.high b.low x.command ≡ Some (Some part) = rw (unspoken later f) at h in
          rw f (chosen_bank channel b.high b.low x.command part here)
    ]

-- ## Control 0 or 32, as this bank's high or low number

module _ (channel number : ℕ) (read : Bank → Option ℕ) (under : ltb number 124 ≡ true) (kept : is_dropped (control_kind number) ≡ false)
    (told : (value : ℕ) → is_set (controller_says (control_kind number) (control_kind number) number number value) ≡ true)
    (after : (command : Command) (bank : Bank) → said (control_says channel number command) (read bank) ≡ read (bank_after bank (program_event channel command))) where
  quiet_value : (other value : ℕ) → is_set (controller_says (control_kind other) (control_kind number) other number value) ≡ false → controller_says (control_kind other) (control_kind number) other number value ≡ None
  quiet_value other value h =
      elim (cases_Bool (eqb other number)) [
        | inl t ↦
            let same : other ≡ number = eqb-true other number t in
            let own : is_set (controller_says (control_kind number) (control_kind number) number number value) ≡ false = subst (λ n. is_set (controller_says (control_kind n) (control_kind number) n number value) ≡ false) same h in
            absurd (let f : true ≡ false = sym (told value) ∙ own in cc)
        | inr f ↦ not_told (control_kind other) (control_kind number) other number value under kept f
      ]

  quiet_command : (high low : Option ℕ) (command : Command) → program_says channel high low command ≡ None → is_set (control_says channel number command) ≡ false → control_says channel number command ≡ None
  quiet_command high low (commands.Control at other value) none h =
      elim (cases_Bool (eqb at channel)) [
        | inl t ↦ rw t (quiet_value other value (rw t at h))
        | inr f ↦ rw f refl
      ]
  quiet_command high low (commands.Program at program) none h = refl
  quiet_command high low command none h = ended_none (is_reset command) none

  abbrev last_said : List Sent → Option (Option ℕ)
  last_said xs = final (place_says (control_says channel number)) xs

  -- where nothing is said of the program no reset is among them
  quiet : (b : Bank) (xs : List Sent) → final (banked_says channel) (scanned (bank_step channel) b xs) ≡ None → is_set (last_said xs) ≡ false → last_said xs ≡ None
  quiet b [] none h = refl
  quiet b (x ∷ xs) none h =
      let next = bank_step channel b x in
      let parts = over_parts (final (banked_says channel) (scanned (bank_step channel) next xs)) (banked_says channel (b, x)) none in
      let rest : last_said xs ≡ None = quiet next xs parts.0 (later_unset (last_said xs) (control_says channel number x.command) h) in
      let own : is_set (control_says channel number x.command) ≡ false = rw rest at h in
      rw rest (quiet_command b.high b.low x.command parts.1 own)

  -- The bank's number at the last program is the one behind all, where none was told behind the program.
  pub told_before : (b : Bank) (xs : List Sent) (part : ProgramPart) → final (banked_says channel) (scanned (bank_step channel) b xs) ≡ Some (Some part) → is_set (last_said xs) ≡ false →
      read (bank_at channel b xs) ≡ said (last_said xs) (read b)
  told_before b [] part h n = refl
  told_before b (x ∷ xs) part h n =
      let next = bank_step channel b x in
      let later = final (banked_says channel) (scanned (bank_step channel) next xs) in
      let unset : is_set (last_said xs) ≡ false = later_unset (last_said xs) (control_says channel number x.command) n in
      elim (cases_Bool (speaks later)) [
        | inl t ↦
            rw t
            (told_before next xs part (sym (spoken_over later (banked_says channel (b, x)) t) ∙ h) unset
            ∙ ap (said (last_said xs)) (sym (after x.command b))
            ∙ said-over (last_said xs) (control_says channel number x.command) (read b))
        | inr f ↦
            let none : later ≡ None = unspoken later f in
            let here : program_says channel b.high b.low x.command ≡ Some (Some part) = rw none at h in
            let silent : control_says channel number x.command ≡ None = chosen_silent channel number b.high b.low x.command part here in
            let rest : last_said xs ≡ None = quiet next xs none unset in
            rw (f, rest, silent) refl
      ]

  -- ## Without a reset

  ended_old : (b : Bool) (value : Option ℕ) → b ≡ false → said (ended b) value ≡ None → value ≡ None
  ended_old true value r h = absurd (let f : true ≡ false = r in cc)
  ended_old false value r h = h

  set_some : (o : Option (Option ℕ)) (value : Option ℕ) → is_set o ≡ true → said o value ≡ None → value ≡ None
  set_some None value t h = absurd (let f : false ≡ true = t in cc)
  set_some (Some None) value t h = absurd (let f : false ≡ true = t in cc)
  set_some (Some (Some n)) value t h = absurd (let f : Some n ≡ None = h in cc)

  unset_old : (o : Option (Option ℕ)) (value : Option ℕ) → o ≡ None → said o value ≡ None → value ≡ None
  unset_old o value e h = rw e at h

  value_old : (other value : ℕ) (old : Option ℕ) → said (controller_says (control_kind other) (control_kind number) other number value) old ≡ None → old ≡ None
  value_old other value old h =
      let o = controller_says (control_kind other) (control_kind number) other number value in
      elim (cases_Bool (is_set o)) [
        | inl t ↦ set_some o old t h
        | inr f ↦ unset_old o old (quiet_value other value f) h
      ]

  old_none : (command : Command) (old : Option ℕ) → is_reset command ≡ false → said (control_says channel number command) old ≡ None → old ≡ None
  old_none (commands.Control at other value) old r h =
      elim (cases_Bool (eqb at channel)) [
        | inl t ↦ value_old other value old (rw t at h)
        | inr f ↦ rw f at h
      ]
  old_none (commands.Program at program) old r h = h
  old_none command old r h = ended_old (is_reset command) old r h

  -- Without a reset the bank's number stays there.
  pub none_before : (b : Bank) (xs : List Sent) → list_any resets xs ≡ false → read (bank_at channel b xs) ≡ None → read b ≡ None
  none_before b [] r h = h
  none_before b (x ∷ xs) r h =
      let next = bank_step channel b x in
      let parts = or_parts (resets x) (list_any resets xs) r in
      elim (cases_Bool (speaks (final (banked_says channel) (scanned (bank_step channel) next xs)))) [
        | inl t ↦ old_none x.command (read b) parts.0 (after x.command b ∙ none_before next xs parts.1 (rw t at h))
        | inr f ↦ rw f at h
      ]
