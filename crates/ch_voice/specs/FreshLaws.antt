-- A chapter of one item shows by its S whether it is fresh.
use Rattle.std.proofs.Common.{◌≡◌, ℕ, Bool, true, false, cond, ◌&&◌, ◌||◌, ltb, leb, eqb, List, [], ◌∷◌, ◌++◌, refl, sym, ap, ◌∙◌, inl, inr}
use Rattle.std.proofs.Math.Bool.{or-false}
use Rattle.std.specs.List.{flat_map, list_any, AllByRecursion}
use Rattle.std.proofs.lemmas.Bool.{cases_Bool}
use Rattle.jm_cmds.specs.declared.commands.Command.{Command}
use Rattle.jm_cmds.specs.declared.commands.Command.TheVariants.{Program, Control, Pressure, Wheel}
use Rattle.jm_cmds.specs.declared.history.Sent.{Sent}
use Rattle.jm_cmds.specs.Command.{IsCommand}
use Rattle.jm_cmds.specs.Control.{ends_notes, ends_controllers, is_reset}
use Rattle.jm_cmds.specs.History.{Unended, standing, coded, below, scanned}
use Rattle.jm_cmds.specs.HistoryLaws.{Unended-coded, AllByRecursion-filter, AllByRecursion-scanned, AllByRecursion-standing}
use Rattle.jm_cmds.specs.SentLaws.{s-shows}
use Rattle.jm_cmds.specs.OneItem.{replaced}
use Rattle.jm_cmds.specs.OnePlace.{Touching, none-behind, any-told}
use Rattle.jm_cmds.specs.Sent.{packet_of, is_fresh, s_of, s_bit, shows_fresh}
use Rattle.ch_voice.specs.declared.bank.Bank.{Bank}
use Rattle.ch_voice.specs.declared.events.WheelEvent.TheVariants as wheels
use Rattle.ch_voice.specs.declared.events.PressureEvent.TheVariants as pressures
use Rattle.ch_voice.specs.declared.events.ProgramEvent.{ProgramEvent}
use Rattle.ch_voice.specs.declared.events.ProgramEvent.TheVariants as programs
use Rattle.ch_voice.specs.declared.item.VoiceItem.{VoiceItem}
use Rattle.ch_voice.specs.declared.item.VoiceItem.TheVariants as items
use Rattle.ch_voice.specs.WheelEvent.{wheel_event, wheel_at, is_moved}
use Rattle.ch_voice.specs.PressureEvent.{pressure_event, pressure_at, is_pressed}
use Rattle.ch_voice.specs.ProgramEvent.{program_event, bank_event, is_chosen, ends_program}
use Rattle.ch_voice.specs.VoiceItem.{tells_at, touches_at, item_ends, item_coded, item_chapter, fresh_chapter}
use Rattle.ch_voice.specs.ItemLaws.{touching, wheel_silent, pressure_silent}
use Rattle.ch_voice.specs.Bank.{no_bank, bank_step}
use Rattle.ch_voice.specs.ChapterW.{chapter_w, fresh_w, wheel_octets, wheel_log}
use Rattle.ch_voice.specs.ChapterT.{chapter_t, fresh_t, pressure_octets, pressure_log}
use Rattle.ch_voice.specs.ChapterP.{Banked, banked_event, banked_packet, program_ends, chapter_p, fresh_p, coded_program, program_octets, program_log}
use Rattle.ch_voice.specs.Fresh.{FreshShows}

-- ## One item

-- what each place of a chapter with one item says by its octets, where it is of a command
record ShowsOne {X : Type 0} (command_of : X → Command) (item touches fresh : X → Bool) (log : X → List ℕ) : Type 0 where
  silent : (x : X) → item x ≡ false → log x ≡ []
  shows : (x : X) (rest : List ℕ) → IsCommand (command_of x) → item x ≡ true → shows_fresh (log x ++ rest) ≡ fresh x
  touching : Touching item touches

one_shows : {X : Type 0} (command_of : X → Command) (item touches fresh : X → Bool) (log : X → List ℕ) → ShowsOne command_of item touches fresh log →
    (xs : List X) → Unended (replaced item touches) xs → AllByRecursion (λ x. IsCommand (command_of x)) xs → list_any (λ x. item x && fresh x) xs ≡ shows_fresh (flat_map log xs)
one_shows command_of item touches fresh log s [] u h = refl
one_shows command_of item touches fresh log s (x ∷ xs) u h =
    elim (cases_Bool (item x)) [
      | inl i ↦
          let none : list_any (λ y. item y && fresh y) xs ≡ false = any-told item fresh xs ∙ ap (list_any fresh) (none-behind item touches s.touching x xs i u.0) in
          rw (i, none, or-false (fresh x)) (sym (s.shows x (flat_map log xs) h.0 i))
      | inr n ↦ rw (n, s.silent x n) (one_shows command_of item touches fresh log s xs u.1 h.1)
    ]

-- what holds of all places holds of the coded ones
all_coded : {X : Type 0} (P : X → Type 0) (ends : X → X → Bool) (at : X → ℕ) (checkpoint : ℕ) (xs : List X) → AllByRecursion P xs → AllByRecursion P (coded ends at checkpoint xs)
all_coded P ends at checkpoint xs h = AllByRecursion-filter P (λ x. leb checkpoint (at x)) (standing ends xs) (AllByRecursion-standing P ends xs h)

all_below : (P : Sent → Type 0) (packet : ℕ) (sent : List Sent) → AllByRecursion P sent → AllByRecursion P (below packet_of packet sent)
all_below P packet sent h = AllByRecursion-filter P (λ x. ltb (packet_of x) packet) sent h

-- ## The wheel and the pressure

item_shows : (log : Sent → List ℕ) (item : VoiceItem) (channel checkpoint packet : ℕ) (sent : List Sent) →
    ((x : Sent) → tells_at item channel x ≡ false → log x ≡ []) →
    ((x : Sent) (rest : List ℕ) → IsCommand x.command → tells_at item channel x ≡ true → shows_fresh (log x ++ rest) ≡ is_fresh packet x) →
    AllByRecursion (λ place. IsCommand place.command) sent →
    fresh_chapter item channel checkpoint packet sent ≡ shows_fresh (item_chapter log item channel checkpoint packet sent)
item_shows log item channel checkpoint packet sent silent shows h =
    let seen = below packet_of packet sent in
    one_shows (λ (x : Sent). x.command) (tells_at item channel) (touches_at item channel) (is_fresh packet) log
    (record { silent = silent; shows = shows; touching = touching item channel })
    (item_coded item channel checkpoint packet sent)
    (Unended-coded (item_ends item channel) packet_of checkpoint seen)
    (all_coded (λ x. IsCommand x.command) (item_ends item channel) packet_of checkpoint seen (all_below (λ x. IsCommand x.command) packet sent h))

no_move : (b : Bool) → is_moved (cond b wheels.Cleared wheels.Other) ≡ true → ⊥
no_move true h = cc
no_move false h = cc

wheel_shows : (channel : ℕ) (fresh : Bool) (command : Command) (rest : List ℕ) → IsCommand command → is_moved (wheel_event channel command) ≡ true → shows_fresh (wheel_octets (s_of fresh) (wheel_event channel command) ++ rest) ≡ fresh
wheel_shows channel fresh (Wheel at first second) rest k h =
    elim (cases_Bool (eqb at channel)) [ inl t ↦ rw t (s-shows fresh first k.1) | inr f ↦ absurd (no_move false (rw f at h)) ]
wheel_shows channel fresh command rest k h = absurd (no_move (ends_controllers channel command) h)

pub fresh_w-shows : FreshShows chapter_w fresh_w
unfolding chapter_w fresh_w
fresh_w-shows = λ channel checkpoint packet sent h.
    item_shows (wheel_log channel packet) items.Wheel channel checkpoint packet sent
    (λ x e. wheel_silent (s_bit packet x) (wheel_at channel x) e) (λ x rest k e. wheel_shows channel (is_fresh packet x) x.command rest k e) h

no_press : (b : Bool) → is_pressed (cond b pressures.Cleared pressures.Other) ≡ true → ⊥
no_press true h = cc
no_press false h = cc

pressure_shows : (channel : ℕ) (fresh : Bool) (command : Command) (rest : List ℕ) → IsCommand command → is_pressed (pressure_event channel command) ≡ true → shows_fresh (pressure_octets (s_of fresh) (pressure_event channel command) ++ rest) ≡ fresh
pressure_shows channel fresh (Pressure at value) rest k h =
    elim (cases_Bool (eqb at channel)) [ inl t ↦ rw t (s-shows fresh value k.1) | inr f ↦ absurd (no_press false (rw f at h)) ]
pressure_shows channel fresh command rest k h = absurd (no_press (ends_notes channel command || ends_controllers channel command) h)

pub fresh_t-shows : FreshShows chapter_t fresh_t
unfolding chapter_t fresh_t
fresh_t-shows = λ channel checkpoint packet sent h.
    item_shows (pressure_log channel packet) items.Pressure channel checkpoint packet sent
    (λ x e. pressure_silent (s_bit packet x) (pressure_at channel x) e) (λ x rest k e. pressure_shows channel (is_fresh packet x) x.command rest k e) h

-- ## The program

no_choice : (number value : ℕ) → is_chosen (bank_event number value) ≡ true → ⊥
no_choice number value h =
    elim (cases_Bool (eqb number 0)) [
      | inl t ↦ let e : false ≡ true = rw t at h in cc
      | inr f ↦ elim (cases_Bool (eqb number 32)) [
        | inl t ↦ let e : false ≡ true = rw (f, t) at h in cc
        | inr g ↦ elim (cases_Bool (eqb number 121)) [
          | inl t ↦ let e : false ≡ true = rw (f, g, t) at h in cc
          | inr o ↦ let e : false ≡ true = rw (f, g, o) at h in cc
        ]
      ]
    ]

no_reset : (b : Bool) → is_chosen (cond b programs.Reset programs.Other) ≡ true → ⊥
no_reset true h = cc
no_reset false h = cc

program_silent : (s : ℕ) (bank : Bank) (event : ProgramEvent) → is_chosen event ≡ false → program_octets s bank event ≡ []
program_silent s bank (programs.Chosen program) h = cc
program_silent s bank event h = refl

program_shows : (channel : ℕ) (fresh : Bool) (bank : Bank) (command : Command) (rest : List ℕ) → IsCommand command → is_chosen (program_event channel command) ≡ true → shows_fresh (program_octets (s_of fresh) bank (program_event channel command) ++ rest) ≡ fresh
program_shows channel fresh bank (Program at program) rest k h =
    elim (cases_Bool (eqb at channel)) [ inl t ↦ rw t (s-shows fresh program k.1) | inr f ↦ absurd (no_reset false (rw f at h)) ]
program_shows channel fresh bank (Control at number value) rest k h =
    elim (cases_Bool (eqb at channel)) [ inl t ↦ absurd (no_choice number value (rw t at h)) | inr f ↦ absurd (no_reset false (rw f at h)) ]
program_shows channel fresh bank command rest k h = absurd (no_reset (is_reset command) h)

program_touching : (event : ProgramEvent) → is_chosen event ≡ true → ends_program event ≡ true
program_touching (programs.Chosen program) h = refl
program_touching event h = cc

program_says : (channel packet : ℕ) → ShowsOne (λ (x : Banked). x.1.command) (λ x. is_chosen (banked_event channel x)) (λ x. ends_program (banked_event channel x)) (λ x. is_fresh packet x.1) (program_log channel packet)
program_says channel packet = record {
  silent = λ x h. program_silent (s_bit packet x.1) x.0 (banked_event channel x) h;
  shows = λ x rest k h. program_shows channel (is_fresh packet x.1) x.0 x.1.command rest k h;
  touching = λ x h. program_touching (banked_event channel x) h;
}

pub fresh_p-shows : FreshShows chapter_p fresh_p
unfolding chapter_p fresh_p
fresh_p-shows = λ channel checkpoint packet sent h.
    let seen = below packet_of packet sent in
    let places = scanned (bank_step channel) no_bank seen in
    let commands = AllByRecursion-scanned (λ (x : Sent). IsCommand x.command) (bank_step channel) no_bank seen (all_below (λ x. IsCommand x.command) packet sent h) in
    one_shows (λ (x : Banked). x.1.command) (λ x. is_chosen (banked_event channel x)) (λ x. ends_program (banked_event channel x)) (λ x. is_fresh packet x.1) (program_log channel packet)
    (program_says channel packet) (coded_program channel checkpoint packet sent)
    (Unended-coded (program_ends channel) banked_packet checkpoint places)
    (all_coded (λ x. IsCommand x.1.command) (program_ends channel) banked_packet checkpoint places commands)
