-- The bank by the commands before a program.
use Rattle.std.proofs.Common.{◌≡◌, ℕ, ◌≤◌, Bool, true, false, cond, ◌||◌, eqb, leb, List, [], ◌∷◌, ◌++◌, Option, Some, None, fold, refl, sym, ap, ◌∙◌, inl, inr}
use Rattle.std.specs.List.{list_any}
use Rattle.std.specs.Option.{option_or, is_some}
use Rattle.std.proofs.Math.Bool.{or-true, or-false}
use Rattle.std.proofs.lemmas.Bool.{cases_Bool, eqb-true, eq-eqb, le-leb, or_parts}
use Rattle.std.proofs.lemmas.List.Sums.{fold-append}
use Rattle.jm_cmds.specs.declared.commands.Command.{Command}
use Rattle.jm_cmds.specs.declared.commands.Command.TheVariants.{Program, Control}
use Rattle.jm_cmds.specs.declared.history.Sent.{Sent}
use Rattle.jm_cmds.specs.Control.{is_reset}
use Rattle.jm_cmds.specs.History.{scanned}
use Rattle.jm_cmds.specs.Sent.{is_fresh, s_bit}
use Rattle.ch_voice.specs.declared.bank.Bank.{Bank}
use Rattle.ch_voice.specs.declared.events.ProgramEvent.{ProgramEvent}
use Rattle.ch_voice.specs.declared.events.ProgramEvent.TheVariants.{Chosen, BankHigh, BankLow, SetBack, Reset, Other}
use Rattle.ch_voice.specs.declared.program.ProgramLog.{ProgramLog}
use Rattle.ch_voice.specs.ProgramEvent.{program_event, program_at, bank_event, ends_program}
use Rattle.ch_voice.specs.Bank.{no_bank, bank_after, bank_step, half_of}
use Rattle.ch_voice.specs.BankTold.{control_value, is_control, last_control, behind_last, since_reset, is_program, IsLastProgram, BankTold}
use Rattle.ch_voice.specs.ChapterP.{Banked, chapter_p, program_octets}
use Rattle.ch_voice.specs.KeptProgram.{program_step, program_text}
use Rattle.ch_voice.specs.ProgramLaws.{passes, chapter_p-kept}

-- ## Events and commands

high_of : ProgramEvent → Option ℕ
high_of (BankHigh value) = Some value
high_of event = None

low_of : ProgramEvent → Option ℕ
low_of (BankLow value) = Some value
low_of event = None

sets_back : ProgramEvent → Bool
sets_back SetBack = true
sets_back event = false

resets : ProgramEvent → Bool
resets Reset = true
resets event = false

-- what an event tells of the command
abbrev Tells : (channel : ℕ) → Command → ProgramEvent → Type 0
Tells channel command event =
    (control_value channel 0 command ≡ high_of event) × (control_value channel 32 command ≡ low_of event) × (is_some (control_value channel 121 command) ≡ sets_back event)
    × (is_reset command ≡ resets event) × ((is_program channel command || is_reset command) ≡ ends_program event)

tells_other : (reset : Bool) → (None ≡ high_of (cond reset Reset Other)) × (None ≡ low_of (cond reset Reset Other)) × (false ≡ sets_back (cond reset Reset Other))
    × (reset ≡ resets (cond reset Reset Other)) × (reset ≡ ends_program (cond reset Reset Other))
unfolding high_of low_of sets_back resets
tells_other true = (refl, refl, refl, refl, refl)
tells_other false = (refl, refl, refl, refl, refl)

tells_control : (number value : ℕ) → (cond (eqb number 0) (Some value) None ≡ high_of (bank_event number value))
    × (cond (eqb number 32) (Some value) None ≡ low_of (bank_event number value))
    × (is_some (cond (eqb number 121) (Some value) None) ≡ sets_back (bank_event number value))
    × (false ≡ resets (bank_event number value))
    × (false ≡ ends_program (bank_event number value))
unfolding high_of low_of sets_back resets
tells_control number value =
    elim (cases_Bool (eqb number 0)) [
      | inl t ↦ rw (eqb-true number 0 t) (refl, refl, refl, refl, refl)
      | inr f ↦ elim (cases_Bool (eqb number 32)) [
        | inl t ↦ rw (eqb-true number 32 t) (refl, refl, refl, refl, refl)
        | inr g ↦ elim (cases_Bool (eqb number 121)) [
          | inl t ↦ rw (eqb-true number 121 t) (refl, refl, refl, refl, refl)
          | inr h ↦ rw (f, g, h) (refl, refl, refl, refl, refl)
        ]
      ]
    ]

tells : (channel : ℕ) (command : Command) → Tells channel command (program_event channel command)
unfolding high_of low_of sets_back resets
tells channel (Program at program) =
    elim (cases_Bool (eqb at channel)) [
      | inl t ↦ rw t (refl, refl, refl, refl, refl)
      | inr f ↦ rw f (refl, refl, refl, refl, refl)
    ]
tells channel (Control at number value) =
    elim (cases_Bool (eqb at channel)) [
      | inl t ↦ rw t (tells_control number value)
      | inr f ↦ rw f (refl, refl, refl, refl, refl)
    ]
tells channel command = tells_other (is_reset command)

-- ## The fold and what is found from the end

none_behind : (test : Sent → Bool) (places : List Sent) → list_any test places ≡ false → behind_last test places ≡ places
none_behind test [] e = refl
none_behind test (x ∷ xs) e =
    let parts = or_parts (test x) (list_any test xs) e in
    rw (parts.0, parts.1) refl

left_behind : (test : Sent → Bool) (places : List Sent) → list_any test (behind_last test places) ≡ false
left_behind test [] = refl
left_behind test (x ∷ xs) =
    elim (cases_Bool (list_any test xs)) [
      | inl t ↦ rw t (left_behind test xs)
      | inr f ↦ elim (cases_Bool (test x)) [ inl a ↦ rw (f, a) f | inr b ↦ rw (f, b) (rw (f, b) refl) ]
    ]

bank_reset : (bank : Bank) (event : ProgramEvent) → resets event ≡ true → bank_after bank event ≡ no_bank
unfolding resets
bank_reset bank Reset e = refl
bank_reset bank event e = absurd cc

-- a reset drops what stands before it
since-fold : (channel : ℕ) (bank : Bank) (places : List Sent) →
    fold (bank_step channel) bank places ≡ fold (bank_step channel) (cond (list_any (λ place. is_reset place.command) places) no_bank bank) (since_reset places)
since-fold channel bank [] = refl
since-fold channel bank (x ∷ xs) =
    let ih = since-fold channel (bank_step channel bank x) xs in
    let e = (tells channel x.command).3 in
    elim (cases_Bool (list_any (λ place. is_reset place.command) xs)) [
      | inl t ↦ rw (t, or-true (is_reset x.command)) (rw t at ih)
      | inr f ↦ elim (cases_Bool (is_reset x.command)) [
        | inl a ↦ rw (f, a) (ap (λ (b : Bank). fold (bank_step channel) b xs) (bank_reset bank (program_at channel x) (sym e ∙ a)))
        | inr b ↦ rw (f, b) refl
      ]
    ]

-- the bank that these commands leave of another one, where none of them is a Reset State command
told : (channel : ℕ) → Bank → List Sent → Bank
told channel bank places = record {
  high = option_or (last_control channel 0 places) bank.high;
  low = option_or (last_control channel 32 places) bank.low;
  set_back = cond (list_any (is_control channel 0) places) (list_any (is_control channel 121) (behind_last (is_control channel 0) places)) (bank.set_back || list_any (is_control channel 121) places);
}

bank_parts : (a b : Option ℕ) (c d : Option ℕ) (e f : Bool) → a ≡ b → c ≡ d → e ≡ f → (let left : Bank = record { high = a; low = c; set_back = e } in left) ≡ record { high = b; low = d; set_back = f }
bank_parts a b c d e f p q r = rw (p, q, r) refl

high_more : (bank : Bank) (event : ProgramEvent) (later : Option ℕ) → resets event ≡ false → option_or later (bank_after bank event).high ≡ option_or (option_or later (high_of event)) bank.high
unfolding resets high_of
high_more bank event (Some value) h = refl
high_more bank (BankHigh value) None h = refl
high_more bank Reset None h = absurd cc
high_more bank event None h = refl

low_more : (bank : Bank) (event : ProgramEvent) (later : Option ℕ) → resets event ≡ false → option_or later (bank_after bank event).low ≡ option_or (option_or later (low_of event)) bank.low
unfolding resets low_of
low_more bank event (Some value) h = refl
low_more bank (BankLow value) None h = refl
low_more bank Reset None h = absurd cc
low_more bank event None h = refl

-- a Control 121 behind this event, and among later places without a Control 0
back_more : (bank : Bank) (event : ProgramEvent) (later : Bool) → resets event ≡ false →
    ((bank_after bank event).set_back || later) ≡ cond (is_some (high_of event)) later (bank.set_back || (sets_back event || later))
unfolding resets high_of sets_back
back_more bank (BankHigh value) later h = refl
back_more bank SetBack later h = sym (or-true bank.set_back)
back_more bank Reset later h = absurd cc
back_more bank event later h = refl

back_step : (channel : ℕ) (bank : Bank) (x : Sent) (xs : List Sent) → resets (program_at channel x) ≡ false →
    cond (list_any (is_control channel 0) xs) (list_any (is_control channel 121) (behind_last (is_control channel 0) xs)) ((bank_step channel bank x).set_back || list_any (is_control channel 121) xs)
    ≡ cond (list_any (is_control channel 0) (x ∷ xs)) (list_any (is_control channel 121) (behind_last (is_control channel 0) (x ∷ xs))) (bank.set_back || list_any (is_control channel 121) (x ∷ xs))
back_step channel bank x xs h =
    let all = tells channel x.command in
    let more = back_more bank (program_at channel x) (list_any (is_control channel 121) xs) h in
    elim (cases_Bool (list_any (is_control channel 0) xs)) [
      | inl t ↦ rw (t, or-true (is_control channel 0 x)) refl
      | inr f ↦ rw (f, more, all.2) (one (is_control channel 0 x) (is_some (high_of (program_at channel x))) (ap (λ o. is_some o) all.0))
    ]
  where
    one : (a b : Bool) → a ≡ b →
        cond b (list_any (is_control channel 121) xs) (bank.set_back || (sets_back (program_at channel x) || list_any (is_control channel 121) xs))
        ≡ cond (a || false) (list_any (is_control channel 121) (cond a xs (x ∷ xs))) (bank.set_back || (sets_back (program_at channel x) || list_any (is_control channel 121) xs))
    one true true e = refl
    one true false e = absurd cc
    one false true e = absurd cc
    one false false e = refl

told-fold : (channel : ℕ) (bank : Bank) (places : List Sent) → list_any (λ place. is_reset place.command) places ≡ false → fold (bank_step channel) bank places ≡ told channel bank places
unfolding told
told-fold channel bank [] h = bank_parts bank.high bank.high bank.low bank.low bank.set_back (bank.set_back || false) refl refl (sym (or-false bank.set_back))
told-fold channel bank (x ∷ xs) h =
    let parts = or_parts (is_reset x.command) (list_any (λ place. is_reset place.command) xs) h in
    let all = tells channel x.command in
    let event = program_at channel x in
    let kept : resets event ≡ false = sym all.3 ∙ parts.0 in
    let before = bank_step channel bank x in
    told-fold channel before xs parts.1
    ∙ bank_parts (option_or (last_control channel 0 xs) before.high) (option_or (last_control channel 0 (x ∷ xs)) bank.high)
    (option_or (last_control channel 32 xs) before.low) (option_or (last_control channel 32 (x ∷ xs)) bank.low)
    (cond (list_any (is_control channel 0) xs) (list_any (is_control channel 121) (behind_last (is_control channel 0) xs)) (before.set_back || list_any (is_control channel 121) xs))
    (cond (list_any (is_control channel 0) (x ∷ xs)) (list_any (is_control channel 121) (behind_last (is_control channel 0) (x ∷ xs))) (bank.set_back || list_any (is_control channel 121) (x ∷ xs)))
    (rw all.0 (high_more bank event (last_control channel 0 xs) kept))
    (rw all.1 (low_more bank event (last_control channel 32 xs) kept))
    (back_step channel bank x xs kept)

has_last : (channel number : ℕ) (places : List Sent) → list_any (is_control channel number) places ≡ is_some (last_control channel number places)
has_last channel number [] = refl
has_last channel number (x ∷ xs) =
    one (last_control channel number xs) (control_value channel number x.command) (list_any (is_control channel number) xs) (has_last channel number xs)
  where
    one : (later here : Option ℕ) (any : Bool) → any ≡ is_some later → (is_some here || any) ≡ is_some (option_or later here)
    one None here any e = rw e (or-false (is_some here))
    one (Some value) here any e = rw e (or-true (is_some here))

-- the bank that stands behind these commands is found among those since the last reset
bank_before : (channel : ℕ) (before : List Sent) → fold (bank_step channel) no_bank before ≡ told channel no_bank (since_reset before)
bank_before channel before =
    since-fold channel no_bank before
    ∙ ap (λ (b : Bank). fold (bank_step channel) b (since_reset before)) (same (list_any (λ (place : Sent). is_reset place.command) before))
    ∙ told-fold channel no_bank (since_reset before) (left_behind (λ place. is_reset place.command) before)
  where
    same : (b : Bool) → cond b no_bank no_bank ≡ no_bank
    same true = refl
    same false = refl

-- ## The program

scanned-append : (channel : ℕ) (bank : Bank) (xs ys : List Sent) → scanned (bank_step channel) bank (xs ++ ys) ≡ scanned (bank_step channel) bank xs ++ scanned (bank_step channel) (fold (bank_step channel) bank xs) ys
scanned-append channel bank [] ys = refl
scanned-append channel bank (x ∷ xs) ys = ap (λ (l : List Banked). (bank, x) ∷ l) (scanned-append channel (bank_step channel bank x) xs ys)

-- what stands is kept by later commands that are no Program of the channel and no Reset State command
kept-later : (channel checkpoint packet : ℕ) (kept : Option ProgramLog) (bank : Bank) (later : List Sent) →
    list_any (λ after. is_program channel after.command || is_reset after.command) later ≡ false →
    fold (program_step channel checkpoint packet) kept (scanned (bank_step channel) bank later) ≡ kept
kept-later channel checkpoint packet kept bank [] h = refl
kept-later channel checkpoint packet kept bank (x ∷ xs) h =
    let parts = or_parts (is_program channel x.command || is_reset x.command) (list_any (λ after. is_program channel after.command || is_reset after.command) xs) h in
    let passed = passes kept (program_at channel x) bank (is_fresh packet x) (leb checkpoint x.packet) (sym (tells channel x.command).4 ∙ parts.0) in
    ap (λ k. fold (program_step channel checkpoint packet) k (scanned (bank_step channel) (bank_step channel bank x) xs)) passed
    ∙ kept-later channel checkpoint packet kept (bank_step channel bank x) xs parts.1

chosen : (channel program : ℕ) (command : Command) → command ≡ Program channel program → program_event channel command ≡ Chosen program
chosen channel program command e = rw (e, eq-eqb channel channel refl) refl

taken : (channel checkpoint packet program : ℕ) (kept : Option ProgramLog) (bank : Bank) (place : Sent) → place.command ≡ Program channel program → checkpoint ≤ place.packet →
    program_text (program_step channel checkpoint packet kept (bank, place)) ≡ program_octets (s_bit packet place) bank (Chosen program)
taken channel checkpoint packet program kept bank place e l =
    rw (chosen channel program place.command e, le-leb checkpoint place.packet l) refl

text_of : (channel checkpoint packet program : ℕ) (sent before : List Sent) (place : Sent) (later : List Sent) →
    IsLastProgram channel checkpoint packet program sent before place later →
    chapter_p channel checkpoint packet sent ≡ program_octets (s_bit packet place) (told channel no_bank (since_reset before)) (Chosen program)
text_of channel checkpoint packet program sent before place later h =
    let step = program_step channel checkpoint packet in
    let bank = fold (bank_step channel) no_bank before in
    let kept = fold step None (scanned (bank_step channel) no_bank before) in
    let start : List Banked = scanned (bank_step channel) no_bank before in
    sym (chapter_p-kept channel checkpoint packet sent)
    ∙ ap (λ (l : List Sent). program_text (fold step None (scanned (bank_step channel) no_bank l))) h.history
    ∙ ap (λ (l : List Banked). program_text (fold step None l)) (scanned-append channel no_bank before (place ∷ later))
    ∙ ap program_text (fold-append step None start (scanned (bank_step channel) bank (place ∷ later)))
    ∙ ap program_text (kept-later channel checkpoint packet (step kept (bank, place)) (bank_step channel bank place) later h.last)
    ∙ taken channel checkpoint packet program kept bank place h.command h.recent
    ∙ ap (λ (b : Bank). program_octets (s_bit packet place) b (Chosen program)) (bank_before channel before)

half_found : (half : Option ℕ) → half_of (option_or half None) ≡ half_of half
half_found None = refl
half_found (Some value) = refl

pub bank_told : BankTold
unfolding told
bank_told = record {
  untold = λ channel checkpoint packet program sent before place later h none.
      text_of channel checkpoint packet program sent before place later h ∙ rw none refl;
  told = λ channel checkpoint packet program msb sent before place later h some.
      let since = since_reset before in
      let there : list_any (is_control channel 0) since ≡ true = has_last channel 0 since ∙ ap (λ o. is_some o) some in
      text_of channel checkpoint packet program sent before place later h ∙ rw (some, there, half_found (last_control channel 32 since)) refl;
}
