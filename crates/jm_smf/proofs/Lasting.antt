-- What reading tells at the end stays told, whatever follows the octets: all but that they end too early.
use Rattle.std.proofs.Common.{◌≡◌, ◌≢◌, ℕ, ◌+◌, ◌-◌, ◌%◌, ◌≤◌, ◌<◌, false, eqb, ltb, List, [], ◌∷◌, ◌++◌, drop, take, length, Option, Some, None, Result, Ok, Err, refl, sym, ap, ◌∙◌, append_assoc, length-append, length-drop, arith, inl, inr, IfOk}
use Rattle.std.proofs.lemmas.Bool.{lt-ltb, le-ltb, ltb-false, eqb-true, eqb-false, cases_Bool}
use Rattle.std.proofs.lemmas.Bool.Decides.{nat_tests}
use Rattle.std.proofs.lemmas.List.{take-append-drop, length-take-le, take-append-le, drop-append-le}
use Rattle.jm_wire.specs.Readers.{◌>>=◌}
use Rattle.jm_wire.specs.declared.delta.DeltaFault.{DeltaFault}
use Rattle.jm_wire.specs.declared.delta.DeltaFault.TheVariants as fields
use Rattle.jm_wire.specs.Delta.{value, high_run, delta_at, IsReadAs}
use Rattle.jm_wire.specs.DeltaReading.{read_as, field_is_read, too_long_is}
use Rattle.jm_cmds.specs.declared.commands.Command.{Command}
use Rattle.jm_cmds.specs.declared.commands.Command.TheVariants.{NoteOff, NoteOn, PolyPressure, Control, Program, Pressure, Wheel}
use Rattle.jm_cmds.specs.declared.reading.CmdFault.{CmdFault}
use Rattle.jm_cmds.specs.declared.reading.CmdFault.TheVariants as commands
use Rattle.jm_cmds.specs.Data.{is_data}
use Rattle.jm_cmds.specs.Reading.{with_one, with_two, channel_read, after_status, command_read}
use Rattle.jm_smf.specs.declared.before.Before.{Before}
use Rattle.jm_smf.specs.declared.event.Heard.{Heard}
use Rattle.jm_smf.specs.declared.fault.FileFault.{FileFault}
use Rattle.jm_smf.specs.declared.fault.FileFault.TheVariants.{Short}
use Rattle.jm_smf.specs.Reading.{field_read, block_within, block_read, block_at, silent, meta_read, message_of, message_read, escape_of, escape_read, channel_heard, running_read, what_read, behind_field, event_read}
use Rattle.jm_smf.proofs.ReadEvents.{HasRunning, BlockStands, block_stands}

-- ---- what is told at the end

abbrev pub LastsFault : FileFault → Type 0
LastsFault (Short place) = ⊥
LastsFault _ = Unit {0}

abbrev pub Lasts : {A : Type 0} → Result A FileFault → Type 0
Lasts (Ok x) = Unit {0}
Lasts (Err f) = LastsFault f

-- where each of two steps tells the same, both tell the same
lasts_then : {A B : Type 0} (r later : Result A FileFault) (g next : A → Result B FileFault) → (Lasts r → later ≡ r) → ((x : A) → r ≡ Ok x → Lasts (g x) → next x ≡ g x) → Lasts (r >>= g) → (later >>= next) ≡ (r >>= g)
lasts_then {A} {B} (Ok x) later g next h then_next l = ap (λ (one : Result A FileFault). one >>= next) (h tt) ∙ then_next x refl l
lasts_then {A} {B} (Err f) later g next h then_next l = ap (λ (one : Result A FileFault). one >>= next) (h l)

-- ---- fields and blocks

more_high : (octets more : List ℕ) → high_run octets ≤ high_run (octets ++ more)
more_high [] more = omega arith
more_high (o ∷ octets) more = grind (arith, nat_tests, more_high octets more)

pub field_stays : (octets more : List ℕ) (v n : ℕ) → IsReadAs octets v n → delta_at (octets ++ more) ≡ Ok (v, n)
field_stays octets more v n r =
    let field = take n octets in
    let split : octets ++ more ≡ field ++ (drop n octets ++ more) = ap (λ (t : List ℕ). t ++ more) (sym (take-append-drop n octets)) ∙ append_assoc field (drop n octets) more in
    field_is_read (octets ++ more) field (drop n octets ++ more) split r.field ∙ rw (length-take-le n octets r.inside, r.value_is) refl

pub field_lasts : (place : ℕ) (octets more : List ℕ) → Lasts (field_read place (delta_at octets)) → field_read place (delta_at (octets ++ more)) ≡ field_read place (delta_at octets)
field_lasts place octets more = by_read (delta_at octets) refl (read_as octets (delta_at octets) refl)
  where
    by_read : (read : Result (ℕ × ℕ) DeltaFault) → delta_at octets ≡ read → IfOk read (λ x. IsReadAs octets x.0 x.1) → Lasts (field_read place read) → field_read place (delta_at (octets ++ more)) ≡ field_read place read
    by_read (Ok (v, n)) e r l = ap (field_read place) (field_stays octets more v n r)
    by_read (Err fields.Short) e r l = absurd l
    by_read (Err fields.TooLong) e r l =
        let high = (too_long_is octets).0 e in
        let longer = more_high octets more in
        ap (field_read place) ((too_long_is (octets ++ more)).1 (omega (arith, high, longer)))

within_lasts : (place : ℕ) (octets more : List ℕ) (size : ℕ × ℕ) → Lasts (block_within place octets size) → block_within place (octets ++ more) size ≡ block_within place octets size
within_lasts place octets more size l =
    elim (cases_Bool (ltb (length octets) (size.1 + size.0))) [
      | inl t ↦ absurd (rw t at l)
      | inr f ↦
          let fits = ltb-false (length octets) (size.1 + size.0) f in
          let len = length-append octets more in
          let longer : ltb (length (octets ++ more)) (size.1 + size.0) ≡ false = le-ltb (length (octets ++ more)) (size.1 + size.0) (omega (arith, fits, len)) in
          rw (f, longer) refl
    ]

pub block_lasts : (place : ℕ) (octets more : List ℕ) → Lasts (block_read place octets) → block_read place (octets ++ more) ≡ block_read place octets
unfolding block_read
block_lasts place octets more =
    lasts_then (field_read place (delta_at octets)) (field_read place (delta_at (octets ++ more))) (block_within place octets) (block_within place (octets ++ more)) (field_lasts place octets more)
    (λ size e l. within_lasts place octets more size l)

-- what stands in a block stays there
block_stays : (place : ℕ) (octets more : List ℕ) (block : ℕ × ℕ) → block_read place octets ≡ Ok block → block_at block (octets ++ more) ≡ block_at block octets
block_stays place octets more block e =
    let b : BlockStands octets block = rw e at (block_stands place octets) in
    let len : length octets ≡ length (b.text ++ b.rest) = ap (λ (t : List ℕ). length t) b.split in
    let whole = length-append b.text b.rest in
    let size = b.size_is in
    let inside : block.0 ≤ length octets = omega (arith, len, whole, size) in
    let gone : length (drop block.0 octets) ≡ length octets - block.0 = length-drop block.0 octets in
    ap (λ (t : List ℕ). take block.1 t) (drop-append-le block.0 octets more inside)
    ∙ take-append-le block.1 (drop block.0 octets) more (omega (arith, gone, len, whole, size))

-- ---- channel commands

-- What holds of the commands with one data octet and with two holds of each channel command.
pub channel_by : (P : Result (Command × ℕ) CmdFault → Result (Command × ℕ) CmdFault → Type 0) (rest later : List ℕ) → ((made : ℕ → Command) → P (with_one made rest) (with_one made later)) → ((made : ℕ → ℕ → Command) → P (with_two made rest) (with_two made later))
    → (status : ℕ) → P (channel_read status rest) (channel_read status later)
channel_by P rest later one two status =
    elim (cases_Bool (ltb status 144)) [
      | inl t ↦ rw t (two (NoteOff (status % 16)))
      | inr f0 ↦ elim (cases_Bool (ltb status 160)) [
        | inl t ↦ rw (f0, t) (two (NoteOn (status % 16)))
        | inr f1 ↦ elim (cases_Bool (ltb status 176)) [
          | inl t ↦ rw (f0, f1, t) (two (PolyPressure (status % 16)))
          | inr f2 ↦ elim (cases_Bool (ltb status 192)) [
            | inl t ↦ rw (f0, f1, f2, t) (two (Control (status % 16)))
            | inr f3 ↦ elim (cases_Bool (ltb status 208)) [
              | inl t ↦ rw (f0, f1, f2, f3, t) (one (Program (status % 16)))
              | inr f4 ↦ elim (cases_Bool (ltb status 224)) [
                | inl t ↦ rw (f0, f1, f2, f3, f4, t) (one (Pressure (status % 16)))
                | inr f5 ↦ rw (f0, f1, f2, f3, f4, f5) (two (Wheel (status % 16)))
              ]
            ]
          ]
        ]
      ]
    ]

abbrev pub LastsCommand : Result (Command × ℕ) CmdFault → Type 0
LastsCommand (Ok read) = Unit {0}
LastsCommand (Err commands.Short) = ⊥
LastsCommand (Err _) = Unit {0}

abbrev LastCommand : Result (Command × ℕ) CmdFault → Result (Command × ℕ) CmdFault → Type 0
LastCommand read later = LastsCommand read → later ≡ read

one_lasts : (made : ℕ → Command) (rest more : List ℕ) → LastCommand (with_one made rest) (with_one made (rest ++ more))
one_lasts made [] more l = absurd l
one_lasts made (value ∷ rest) more l = refl

two_last : (made : ℕ → ℕ → Command) (rest more : List ℕ) → LastCommand (with_two made rest) (with_two made (rest ++ more))
two_last made [] more l = absurd l
two_last made (value ∷ []) more l =
    elim (cases_Bool (is_data value)) [
      | inl t ↦ absurd (rw t at l)
      | inr f ↦ rw f refl
    ]
two_last made (value ∷ next ∷ rest) more l = refl

channel_lasts : (status : ℕ) (rest more : List ℕ) → LastCommand (channel_read status rest) (channel_read status (rest ++ more))
channel_lasts status rest more = channel_by LastCommand rest (rest ++ more) (λ made. one_lasts made rest more) (λ made. two_last made rest more) status

pub command_lasts : (status : ℕ) (rest more : List ℕ) → status < 240 → LastsCommand (command_read (status ∷ rest)) → command_read (status ∷ (rest ++ more)) ≡ command_read (status ∷ rest)
unfolding command_read after_status
command_lasts status rest more low =
    elim (cases_Bool (ltb status 128)) [
      | inl t ↦ rw t (λ l. refl)
      | inr f ↦ rw (f, lt-ltb status 240 low) (channel_lasts status rest more)
    ]

heard_lasts : (place : ℕ) (before : Before) (status elsewhere : ℕ) (read : Result (Command × ℕ) CmdFault) → Lasts (channel_heard place before status elsewhere read) → LastsCommand read
heard_lasts place before status elsewhere (Ok read) l = tt
heard_lasts place before status elsewhere (Err commands.Short) l = absurd l
heard_lasts place before status elsewhere (Err commands.Empty) l = tt
heard_lasts place before status elsewhere (Err commands.DataOctet) l = tt
heard_lasts place before status elsewhere (Err (commands.BadStatus s)) l = tt
heard_lasts place before status elsewhere (Err (commands.BadData k)) l = tt
heard_lasts place before status elsewhere (Err commands.TooLong) l = tt

-- ---- what stands behind a delta

meta_lasts : (place : ℕ) (before : Before) (rest more : List ℕ) → Lasts (meta_read place before rest) → meta_read place before (rest ++ more) ≡ meta_read place before rest
meta_lasts place before [] more = λ l. absurd l
meta_lasts place before (kind ∷ rest) more =
    elim (cases_Bool (eqb kind 0x2f)) [
      | inl t ↦ rw t (λ l. refl)
      | inr f ↦
          let told : ℕ × ℕ → Result (Option Heard) FileFault = λ block. Ok (Some (silent (2 + (block.0 + block.1)) before.unfinished)) in
          rw f (lasts_then (block_read place rest) (block_read place (rest ++ more)) told told (block_lasts place rest more) (λ block e l. refl))
    ]

message_lasts : (place : ℕ) (before : Before) (rest more : List ℕ) → Lasts (message_read place before rest) → message_read place before (rest ++ more) ≡ message_read place before rest
unfolding message_read
message_lasts place before rest more =
    lasts_then (block_read place rest) (block_read place (rest ++ more)) (λ block. message_of place before (1 + (block.0 + block.1)) (block_at block rest)) (λ block. message_of place before (1 + (block.0 + block.1)) (block_at block (rest ++ more))) (block_lasts place rest more)
    (λ block e l. ap (λ (t : List ℕ). message_of place before (1 + (block.0 + block.1)) t) (block_stays place rest more block e))

abbrev heard_told : Heard → Result (Option Heard) FileFault
heard_told heard = Ok (Some heard)

escape_lasts : (place : ℕ) (before : Before) (rest more : List ℕ) → Lasts (escape_read place before rest) → escape_read place before (rest ++ more) ≡ escape_read place before rest
unfolding escape_read
escape_lasts place before rest more =
    lasts_then (block_read place rest) (block_read place (rest ++ more)) (λ block. heard_told (escape_of before (1 + (block.0 + block.1)) (block_at block rest))) (λ block. heard_told (escape_of before (1 + (block.0 + block.1)) (block_at block (rest ++ more)))) (block_lasts place rest more)
    (λ block e l. ap (λ (t : List ℕ). heard_told (escape_of before (1 + (block.0 + block.1)) t)) (block_stays place rest more block e))

running_lasts : (place : ℕ) (before : Before) (running : Option ℕ) (first : ℕ) (rest more : List ℕ) → ((status : ℕ) → running ≡ Some status → status < 240)
    → Lasts (running_read place before running (first ∷ rest)) → running_read place before running (first ∷ (rest ++ more)) ≡ running_read place before running (first ∷ rest)
running_lasts place before None first rest more h l = refl
running_lasts place before (Some status) first [] more h l =
    ap (channel_heard place before status 1) (command_lasts status (first ∷ []) (take 1 more) (h status refl) (heard_lasts place before status 1 (command_read (status ∷ first ∷ [])) l))
running_lasts place before (Some status) first (second ∷ rest) more h l = refl

-- What is told behind a delta stays told, whatever follows.
pub what_lasts : (place : ℕ) (before : Before) (octets more : List ℕ) → HasRunning before → Lasts (what_read place before octets) → what_read place before (octets ++ more) ≡ what_read place before octets
unfolding what_read HasRunning
what_lasts place before [] more h = λ l. absurd l
what_lasts place before (first ∷ rest) more h =
    elim (cases_Bool (eqb first 0xff)) [
      | inl t ↦ rw (eqb-true first 0xff t) (meta_lasts place before rest more)
      | inr ff ↦ elim (cases_Bool (eqb first 0xf0)) [
        | inl t ↦ rw (eqb-true first 0xf0 t) (message_lasts place before rest more)
        | inr f0 ↦ elim (cases_Bool (eqb first 0xf7)) [
          | inl t ↦ rw (eqb-true first 0xf7 t) (escape_lasts place before rest more)
          | inr f7 ↦ elim (cases_Bool (ltb 0xf0 first)) [
            | inl t ↦ rw (ff, f0, f7, t) (λ l. refl)
            | inr low ↦ elim (cases_Bool (ltb first 0x80)) [
              | inl t ↦ rw (ff, f0, f7, low, t) (running_lasts place before before.running first rest more h)
              | inr high ↦
                  let at_most = ltb-false 0xf0 first low in
                  let other = eqb-false first 0xf0 f0 in
                  rw (ff, f0, f7, low, high)
                  (λ l. ap (channel_heard place before first 0) (command_lasts first rest more (less first at_most other) (heard_lasts place before first 0 (command_read (first ∷ rest)) l)))
            ]
          ]
        ]
      ]
    ]
  where
    less : (n : ℕ) → n ≤ 0xf0 → n ≢ 0xf0 → n < 0xf0
    less n at_most other = grind arith

-- ---- events with their deltas

abbrev event_told : ℕ × ℕ → Option Heard → Result (Option (ℕ × Heard)) FileFault
event_told field what = Ok (behind_field field what)

-- What is told of an event stays told, whatever follows.
pub event_lasts : (place : ℕ) (before : Before) (octets more : List ℕ) → HasRunning before → Lasts (event_read place before octets) → event_read place before (octets ++ more) ≡ event_read place before octets
unfolding event_read
event_lasts place before octets more h =
    lasts_then (field_read place (delta_at octets)) (field_read place (delta_at (octets ++ more))) (λ field. (what_read place before (drop field.1 octets) >>= λ what. event_told field what)) (λ field. (what_read place before (drop field.1 (octets ++ more)) >>= λ what. event_told field what)) (field_lasts place octets more)
    (λ field e. lasts_then (what_read place before (drop field.1 octets)) (what_read place before (drop field.1 (octets ++ more))) (event_told field) (event_told field) (what_there field e) (λ what e l. refl))
  where
    inside : (field : ℕ × ℕ) (read : Result (ℕ × ℕ) DeltaFault) → IfOk read (λ x. IsReadAs octets x.0 x.1) → field_read place read ≡ Ok field → field.1 ≤ length octets
    inside field (Ok (v, n)) r e = let same : n ≡ field.1 = cc in rw same at r.inside
    inside field (Err fields.Short) r e = absurd cc
    inside field (Err fields.TooLong) r e = absurd cc

    what_there : (field : ℕ × ℕ) → field_read place (delta_at octets) ≡ Ok field → Lasts (what_read place before (drop field.1 octets)) → what_read place before (drop field.1 (octets ++ more)) ≡ what_read place before (drop field.1 octets)
    what_there field e l =
        ap (what_read place before) (drop-append-le field.1 octets more (inside field (delta_at octets) (read_as octets (delta_at octets) refl) e))
        ∙ what_lasts place before (drop field.1 octets) more h l
