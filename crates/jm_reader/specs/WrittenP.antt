-- Chapter P: what is written is read.
use Rattle.std.proofs.Common.{◌≡◌, ℕ, ◌+◌, ◌<◌, ◌%◌, Bool, true, false, cond, eqb, ltb, List, [], ◌∷◌, ◌++◌, length, Option, Some, None, option_map, refl, arith, inl, inr}
use Rattle.std.specs.List.{flat_map, AllByRecursion}
use Rattle.std.proofs.lemmas.Bool.{cases_Bool, le-ltb}
use Rattle.jm_cmds.specs.declared.commands.Command.{Command}
use Rattle.jm_cmds.specs.declared.commands.Command.TheVariants as commands
use Rattle.jm_cmds.specs.declared.history.Sent.{Sent}
use Rattle.jm_cmds.specs.Command.{IsCommand}
use Rattle.jm_cmds.specs.Control.{is_reset}
use Rattle.jm_cmds.specs.History.{below, scanned}
use Rattle.jm_cmds.specs.HistoryLaws.{Unended-coded, AllByRecursion-weaker}
use Rattle.jm_cmds.specs.Sent.{packet_of, is_fresh, s_of}
use Rattle.ch_voice.specs.declared.events.ProgramEvent.{ProgramEvent}
use Rattle.ch_voice.specs.declared.events.ProgramEvent.TheVariants.{Chosen, BankHigh, BankLow, SetBack, Reset, Other}
use Rattle.ch_voice.specs.ProgramEvent.{program_event, program_at, bank_event, is_chosen, ends_program}
use Rattle.ch_voice.specs.Bank.{no_bank, bank_after, bank_step, half_of, high_field, low_field}
use Rattle.ch_voice.specs.ChapterP.{Banked, banked_packet, banked_event, program_ends, chapter_p, coded_program, program_octets, program_log}
use Rattle.jm_journal.specs.Channel.{is_there}
use Rattle.jm_reader.specs.declared.logs.Log.{Log}
use Rattle.jm_reader.specs.declared.logs.LogKind.TheVariants.{Program}
use Rattle.jm_reader.specs.Octets.{shows, low_bits}
use Rattle.jm_reader.specs.ChapterP.{p_read, bank_read}
use Rattle.jm_reader.specs.Written.{AreCommands, ChapterIsRead}
use Rattle.jm_reader.specs.WrittenOne.{SaysOne, one_again, one_none, all_coded, all_below}

-- the type of a bank, whose name its crate keeps to itself
abbrev type_of : {A : Type 0} → A → Type 0
type_of {A} value = A

abbrev pub Bank : Type 0
Bank = type_of no_bank

-- a bank's halves, where its high half was told
abbrev pub bank_said : Bank → Option (ℕ × ℕ)
bank_said bank = option_map (λ high. (high, half_of bank.low)) bank.high

-- what an event says, where it chooses a program
abbrev pub program_said : ℕ → Bool → Bank → ProgramEvent → List Log
program_said channel fresh bank (Chosen program) = record { fresh = fresh; what = Program channel program (bank_said bank) } ∷ []
program_said channel fresh bank (BankHigh value) = []
program_said channel fresh bank (BankLow value) = []
program_said channel fresh bank SetBack = []
program_said channel fresh bank Reset = []
program_said channel fresh bank Other = []

abbrev pub place_said : (channel packet : ℕ) → Banked → List Log
place_said channel packet place = program_said channel (is_fresh packet place.1) place.0 (banked_event channel place)

-- the logs of Chapter P of this channel in the journal of this packet
unfoldable pub p_said : (channel checkpoint packet : ℕ) → List Sent → List Log
p_said channel checkpoint packet sent = flat_map (place_said channel packet) (coded_program channel checkpoint packet sent)

-- ## Events and banks within their bounds

abbrev Fits : ProgramEvent → Type 0
Fits (Chosen program) = program < 128
Fits (BankHigh value) = value < 128
Fits (BankLow value) = value < 128
Fits SetBack = Unit {0}
Fits Reset = Unit {0}
Fits Other = Unit {0}

abbrev FitsHalf : Option ℕ → Type 0
FitsHalf None = Unit {0}
FitsHalf (Some half) = half < 128

abbrev FitsBank : Bank → Type 0
FitsBank bank = FitsHalf bank.high × FitsHalf bank.low

bank_fits : (number value : ℕ) → value < 128 → Fits (bank_event number value)
bank_fits number value h =
    elim (cases_Bool (eqb number 0)) [
      | inl t ↦ rw t h
      | inr f ↦ elim (cases_Bool (eqb number 32)) [
        | inl t ↦ rw (f, t) h
        | inr g ↦ elim (cases_Bool (eqb number 121)) [ inl t ↦ rw (f, g, t) tt | inr k ↦ rw (f, g, k) tt ]
      ]
    ]

reset_fits : (b : Bool) → Fits (cond b Reset Other)
reset_fits true = tt
reset_fits false = tt

fits_event : (channel : ℕ) (command : Command) → IsCommand command → Fits (program_event channel command)
fits_event channel (commands.Program at program) h = elim (cases_Bool (eqb at channel)) [ inl t ↦ rw t h.1 | inr f ↦ rw f tt ]
fits_event channel (commands.Control at number value) h = elim (cases_Bool (eqb at channel)) [ inl t ↦ rw t (bank_fits number value h.2) | inr f ↦ rw f tt ]
fits_event channel command h = reset_fits (is_reset command)

fits_after : (bank : Bank) (event : ProgramEvent) → FitsBank bank → Fits event → FitsBank (bank_after bank event)
fits_after bank (Chosen program) b h = b
fits_after bank (BankHigh value) b h = (h, b.1)
fits_after bank (BankLow value) b h = (b.0, h)
fits_after bank SetBack b h = b
fits_after bank Reset b h = (tt, tt)
fits_after bank Other b h = b

abbrev fits_at : ℕ → Banked → Type 0
fits_at channel place = FitsBank place.0 × Fits (banked_event channel place)

fits_scanned : (channel : ℕ) (bank : Bank) (places : List Sent) → FitsBank bank → AllByRecursion (λ place. Fits (program_at channel place)) places →
    AllByRecursion (fits_at channel) (scanned (bank_step channel) bank places)
fits_scanned channel bank [] b h = tt
fits_scanned channel bank (x ∷ xs) b h = ((b, h.0), fits_scanned channel (bank_step channel bank x) xs (fits_after bank (program_at channel x) b h.0) h.1)

-- ## The bank is read again

high_again : (high : ℕ) → ltb (128 + high) 128 ≡ false
high_again high = le-ltb (128 + high) 128 (omega arith)

low_again : (set_back : Bool) (low : Option ℕ) → FitsHalf low → (cond set_back 128 0 + half_of low) % 128 ≡ half_of low
low_again true None h = refl
low_again false None h = refl
low_again true (Some low) h = omega (arith, h)
low_again false (Some low) h = omega (arith, h)

bank_again : (high low : Option ℕ) (set_back : Bool) → FitsHalf high → FitsHalf low →
    bank_read (high_field high) (low_field high low set_back) ≡ option_map (λ half. (half, half_of low)) high
bank_again None low set_back h l = refl
bank_again (Some high) low set_back h l =
    let number : (128 + high) % 128 ≡ high = omega (arith, h) in
    rw (high_again high, number, low_again set_back low l) refl

-- ## What is written is read

silent : (s : ℕ) (bank : Bank) (event : ProgramEvent) → is_chosen event ≡ false → program_octets s bank event ≡ []
silent s bank (Chosen program) h = cc
silent s bank (BankHigh value) h = refl
silent s bank (BankLow value) h = refl
silent s bank SetBack h = refl
silent s bank Reset h = refl
silent s bank Other h = refl

unsaid : (channel : ℕ) (fresh : Bool) (bank : Bank) (event : ProgramEvent) → is_chosen event ≡ false → program_said channel fresh bank event ≡ []
unsaid channel fresh bank (Chosen program) h = cc
unsaid channel fresh bank (BankHigh value) h = refl
unsaid channel fresh bank (BankLow value) h = refl
unsaid channel fresh bank SetBack h = refl
unsaid channel fresh bank Reset h = refl
unsaid channel fresh bank Other h = refl

told : (s : ℕ) (bank : Bank) (event : ProgramEvent) → is_chosen event ≡ true → 0 < length (program_octets s bank event)
told s bank (Chosen program) h = omega arith
told s bank (BankHigh value) h = absurd (let f : false ≡ true = h in cc)
told s bank (BankLow value) h = absurd (let f : false ≡ true = h in cc)
told s bank SetBack h = absurd (let f : false ≡ true = h in cc)
told s bank Reset h = absurd (let f : false ≡ true = h in cc)
told s bank Other h = absurd (let f : false ≡ true = h in cc)

again : (channel : ℕ) (fresh : Bool) (bank : Bank) (event : ProgramEvent) (rest : List ℕ) → FitsBank bank → Fits event → is_chosen event ≡ true →
    p_read channel (program_octets (s_of fresh) bank event ++ rest) ≡ Some (program_said channel fresh bank event, length (program_octets (s_of fresh) bank event))
again channel fresh bank (Chosen program) rest b w h =
    rw (shows fresh program w, low_bits fresh program w, bank_again bank.high bank.low bank.set_back b.0 b.1) refl
again channel fresh bank (BankHigh value) rest b w h = absurd (let f : false ≡ true = h in cc)
again channel fresh bank (BankLow value) rest b w h = absurd (let f : false ≡ true = h in cc)
again channel fresh bank SetBack rest b w h = absurd (let f : false ≡ true = h in cc)
again channel fresh bank Reset rest b w h = absurd (let f : false ≡ true = h in cc)
again channel fresh bank Other rest b w h = absurd (let f : false ≡ true = h in cc)

touching : (event : ProgramEvent) → ends_program event ≡ false → is_chosen event ≡ false
touching (Chosen program) h = cc
touching (BankHigh value) h = refl
touching (BankLow value) h = refl
touching SetBack h = refl
touching Reset h = refl
touching Other h = refl

abbrev item_at : ℕ → Banked → Bool
item_at channel place = is_chosen (banked_event channel place)

abbrev touches_at : ℕ → Banked → Bool
touches_at channel place = ends_program (banked_event channel place)

says : (channel packet : ℕ) → SaysOne (fits_at channel) (item_at channel) (touches_at channel) (program_log channel packet) (place_said channel packet) (p_read channel)
says channel packet = record {
  silent = λ x h. silent (s_of (is_fresh packet x.1)) x.0 (banked_event channel x) h;
  unsaid = λ x h. unsaid channel (is_fresh packet x.1) x.0 (banked_event channel x) h;
  told = λ x h. told (s_of (is_fresh packet x.1)) x.0 (banked_event channel x) h;
  again = λ x rest w h. again channel (is_fresh packet x.1) x.0 (banked_event channel x) rest w.0 w.1 h;
  touching = λ x h. touching (banked_event channel x) h;
}

pub p_again : (channel checkpoint packet : ℕ) (sent : List Sent) → AreCommands sent → is_there (chapter_p channel checkpoint packet sent) ≡ true → (rest : List ℕ) →
    p_read channel (chapter_p channel checkpoint packet sent ++ rest) ≡ Some (p_said channel checkpoint packet sent, length (chapter_p channel checkpoint packet sent))
unfolding chapter_p p_said
p_again channel checkpoint packet sent h there rest =
    let seen = below packet_of packet sent in
    let places = scanned (bank_step channel) no_bank seen in
    let fits = AllByRecursion-weaker (λ (place : Sent). IsCommand place.command) (λ place. Fits (program_at channel place)) (λ place b. fits_event channel place.command b) sent h in
    let fits_seen = all_below (λ place. Fits (program_at channel place)) packet sent fits in
    one_again (fits_at channel) (item_at channel) (touches_at channel) (program_log channel packet) (place_said channel packet) (p_read channel) (says channel packet)
    (coded_program channel checkpoint packet sent) (Unended-coded (program_ends channel) banked_packet checkpoint places)
    (all_coded (fits_at channel) (program_ends channel) banked_packet checkpoint places (fits_scanned channel no_bank seen (tt, tt) fits_seen)) there rest

pub p_none : (channel checkpoint packet : ℕ) (sent : List Sent) → AreCommands sent → is_there (chapter_p channel checkpoint packet sent) ≡ false → p_said channel checkpoint packet sent ≡ []
unfolding chapter_p p_said
p_none channel checkpoint packet sent h none =
    one_none (fits_at channel) (item_at channel) (touches_at channel) (program_log channel packet) (place_said channel packet) (p_read channel) (says channel packet) (coded_program channel checkpoint packet sent) none

pub p_is_read : ChapterIsRead chapter_p p_said (λ channel octets. p_read channel octets)
p_is_read = record { again = p_again; none = p_none }
