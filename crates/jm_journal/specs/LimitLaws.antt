-- What fits keeps the limits, and a later checkpoint does too.
use Rattle.std.proofs.Common.{◌≡◌, ℕ, ◌+◌, ◌-◌, ◌^◌, ◌≤◌, ◌<◌, min, Bool, true, false, not, ◌||◌, ◌&&◌, List, [], ◌∷◌, ◌++◌, Option, Some, None, length, refl, ap, arith, inl, inr}
use Rattle.std.specs.Prelude.{nat_lt, nat_le, ◌==◌, if◌then◌else◌}
use Rattle.std.proofs.lemmas.Bool.{cases_Bool, eqb-true, or_cases, ltb-true, leb-true, le-leb}
use Rattle.jm_cmds.specs.Keys.{none_some}
use Rattle.jm_cmds.specs.declared.commands.Command.{Command}
use Rattle.jm_cmds.specs.declared.commands.Command.TheVariants.{Control, PolyPressure, Sysex, SystemReset}
use Rattle.jm_cmds.specs.declared.history.Sent.{Sent}
use Rattle.jm_cmds.specs.Control.{is_entry, is_reset, is_reset_message, ends_controllers}
use Rattle.jm_cmds.specs.Data.{is_kept_message}
use Rattle.jm_cmds.specs.Selection.{is_data_entry}
use Rattle.ch_param.specs.ChapterM.{param_count, has_param, selected}
use Rattle.ch_param.specs.Limits.{param_count-push, param_count-other, param_count-unselected, param_count-met, param_count-later, param_count-none}
use Rattle.ch_notes.specs.ChapterA.{poly_count, has_poly}
use Rattle.ch_notes.specs.PolyEvent.{poly_key, pressed_note}
use Rattle.ch_notes.specs.declared.presses.PolyEvent.TheVariants.{Dropped, Other as Unpressed}
use Rattle.ch_notes.specs.PolyLimits.{poly_count-push, poly_count-other, poly_count-met, poly_count-later}
use Rattle.ch_sysex.specs.declared.events.SysexEvent.{SysexEvent}
use Rattle.ch_sysex.specs.declared.events.SysexEvent.TheVariants.{Kept, ResetMessage, Reset, Other}
use Rattle.ch_sysex.specs.SysexEvent.{sysex_event, data_of}
use Rattle.ch_sysex.specs.ChapterX.{sysex_logs, sysex_octets}
use Rattle.ch_sysex.specs.Limits.{sysex_logs-kept, sysex_octets-kept, sysex_logs-other, sysex_octets-other, sysex_logs-reset-le, sysex_octets-reset-le, sysex_logs-later, sysex_octets-later}
use Rattle.jm_journal.specs.declared.fits.Fit.{Fit}
use Rattle.jm_journal.specs.declared.fits.Fit.TheVariants.{Yes, ParamsFull, PolyFull, SysexFull}
use Rattle.jm_journal.specs.Limits.{KeepsLimits, entry_fit, control_fit, poly_fit, sysex_fit, fit_of, told}

-- a test came out true where all but one answer is Yes
yes_came : (test : Bool) (other : Fit) → (other ≡ Yes → ⊥) → (if test then Yes else other) ≡ Yes → test ≡ true
yes_came true other never h = refl
yes_came false other never h = absurd (never h)

params_apart : (channel kept : ℕ) → ParamsFull channel kept ≡ Yes → ⊥
params_apart channel kept h = cc

poly_apart : (channel kept : ℕ) → PolyFull channel kept ≡ Yes → ⊥
poly_apart channel kept h = cc

sysex_apart : (logs octets : ℕ) → SysexFull logs octets ≡ Yes → ⊥
sysex_apart logs octets h = cc

both_true : (a b : Bool) → (a && b) ≡ true → (a ≡ true) × (b ≡ true)
both_true true true h = (refl, refl)
both_true true false h = absurd cc
both_true false b h = absurd cc

-- ## Parameters

record IsEntry (channel : ℕ) (command : Command) : Type 0 where
  number : ℕ
  value : ℕ
  is : command ≡ Control channel number value
  entry : is_entry number ≡ true

entry_is : (channel : ℕ) (command : Command) → is_data_entry channel command ≡ true → IsEntry channel command
entry_is channel (Control at number value) h =
    let both = both_true (at == channel) (is_entry number) h in
    let same : at ≡ channel = eqb-true at channel both.0 in
    record { number = number; value = value; is = ap (λ (c : ℕ). Control c number value) same; entry = both.1 }
entry_is channel command h = cc

entry_keeps : (channel checkpoint : ℕ) (sent : List Sent) (x : Sent) (found : Option (Bool × ℕ × ℕ)) → checkpoint ≤ x.packet → selected channel sent ≡ found → entry_fit channel checkpoint sent found ≡ Yes
    → param_count channel checkpoint sent ≤ 16 → param_count channel checkpoint (sent ++ x ∷ []) ≤ 16
entry_keeps channel checkpoint sent x None l is fit few = let less = param_count-unselected channel checkpoint sent x l is in omega (arith, less, few)
entry_keeps channel checkpoint sent x (Some parameter) l is fit few =
    let count = param_count channel checkpoint sent in
    elim (or_cases (nat_lt count 16) (has_param channel checkpoint parameter.0 parameter.1 parameter.2 sent) (yes_came (nat_lt count 16 || has_param channel checkpoint parameter.0 parameter.1 parameter.2 sent) (ParamsFull channel count) (params_apart channel count) fit)) [
      | inl t ↦ let under : count < 16 = ltb-true count 16 t in let more = param_count-push channel checkpoint sent x l in omega (arith, under, more)
      | inr t ↦ let less = param_count-met channel checkpoint sent x parameter.0 parameter.1 parameter.2 l is t in omega (arith, less, few)
    ]

params_keep : (channel checkpoint : ℕ) (sent : List Sent) (x : Sent) → checkpoint ≤ x.packet → fit_of checkpoint sent x.command ≡ Yes → param_count channel checkpoint sent ≤ 16 → param_count channel checkpoint (sent ++ x ∷ []) ≤ 16
unfolding fit_of
params_keep channel checkpoint sent x l fit few =
    elim (cases_Bool (is_data_entry channel x.command)) [
      | inl t ↦
          let e = entry_is channel x.command t in
          let there : entry_fit channel checkpoint sent (selected channel sent) ≡ Yes = rw e.entry at (rw e.is at fit) in
          entry_keeps channel checkpoint sent x (selected channel sent) l refl there few
      | inr f ↦ let less = param_count-other channel checkpoint sent x l f in omega (arith, less, few)
    ]

-- ## Notes' pressures

record IsPressure (channel note : ℕ) (command : Command) : Type 0 where
  value : ℕ
  is : command ≡ PolyPressure channel note value

pressure_is : (channel note packet tick : ℕ) (command : Command) → poly_key channel (record { packet = packet; tick = tick; command = command }) ≡ Some note → IsPressure channel note command
pressure_is channel note packet tick (PolyPressure at other value) h =
    elim (cases_Bool (at == channel)) [
      | inl t ↦
          let same : at ≡ channel = eqb-true at channel t in
          let is : Some other ≡ Some note = rw t at h in
          let noted : other ≡ note = cc in
          record { value = value; is = rw (same, noted) refl }
      | inr f ↦ let none : None ≡ Some note = rw f at h in absurd cc
    ]
pressure_is channel note packet tick command h = unpressed (ends_controllers channel command) h
  where
    unpressed : (b : Bool) → pressed_note (if b then Dropped else Unpressed) ≡ Some note → IsPressure channel note command
    unpressed true e = absurd (none_some note e)
    unpressed false e = absurd (none_some note e)

notes_keep : (channel checkpoint : ℕ) (sent : List Sent) (x : Sent) (key : Option ℕ) → checkpoint ≤ x.packet → poly_key channel x ≡ key → fit_of checkpoint sent x.command ≡ Yes → poly_count channel checkpoint sent ≤ 64 → poly_count channel checkpoint (sent ++ x ∷ []) ≤ 64
unfolding fit_of
notes_keep channel checkpoint sent x None l is fit few = let less = poly_count-other channel checkpoint sent x l is in omega (arith, less, few)
notes_keep channel checkpoint sent x (Some note) l is fit few =
    let count = poly_count channel checkpoint sent in
    let e = pressure_is channel note x.packet x.tick x.command is in
    let there : poly_fit channel note checkpoint sent ≡ Yes = rw e.is at fit in
    elim (or_cases (nat_lt count 64) (has_poly channel checkpoint note sent) (yes_came (nat_lt count 64 || has_poly channel checkpoint note sent) (PolyFull channel count) (poly_apart channel count) there)) [
      | inl t ↦ let under : count < 64 = ltb-true count 64 t in let more = poly_count-push channel checkpoint sent x l in omega (arith, under, more)
      | inr t ↦ let less = poly_count-met channel checkpoint note sent x l is t in omega (arith, less, few)
    ]

-- ## System Exclusive messages

record IsKeptSysex (command : Command) : Type 0 where
  octets : List ℕ
  is : command ≡ Sysex octets
  plain : is_reset_message octets ≡ false
  short : length octets ≤ 254

kept_is : (command : Command) → sysex_event command ≡ Kept → IsKeptSysex command
kept_is (Sysex octets) h =
    elim (cases_Bool (is_reset_message octets)) [
      | inl t ↦ let wrong : ResetMessage ≡ Kept = rw t at h in absurd cc
      | inr f ↦ elim (cases_Bool (nat_le (length octets) 254)) [
        | inl s ↦ record { octets = octets; is = refl; plain = f; short = leb-true (length octets) 254 s }
        | inr n ↦ let wrong : Other ≡ Kept = rw (f, n) at h in absurd cc
      ]
    ]
kept_is command h = cc

reset_is : (command : Command) → sysex_event command ≡ ResetMessage → is_reset command ≡ true
reset_is (Sysex octets) h =
    elim (cases_Bool (is_reset_message octets)) [
      | inl t ↦ t
      | inr f ↦ elim (cases_Bool (nat_le (length octets) 254)) [
        | inl s ↦ let wrong : Kept ≡ ResetMessage = rw (f, s) at h in absurd cc
        | inr n ↦ let wrong : Other ≡ ResetMessage = rw (f, n) at h in absurd cc
      ]
    ]
reset_is command h = cc

system_reset_is : (command : Command) → sysex_event command ≡ Reset → is_reset command ≡ true
system_reset_is (Sysex octets) h =
    elim (cases_Bool (is_reset_message octets)) [
      | inl t ↦ t
      | inr f ↦ elim (cases_Bool (nat_le (length octets) 254)) [
        | inl s ↦ let wrong : Kept ≡ Reset = rw (f, s) at h in absurd cc
        | inr n ↦ let wrong : Other ≡ Reset = rw (f, n) at h in absurd cc
      ]
    ]
system_reset_is SystemReset h = refl
system_reset_is command h = cc

record HasRoom (checkpoint : ℕ) (sent : List Sent) : Type 0 where
  logs : sysex_logs checkpoint sent ≤ 128
  octets : sysex_octets checkpoint sent ≤ 1000

kept_keeps : (checkpoint : ℕ) (sent : List Sent) (x : Sent) → checkpoint ≤ x.packet → sysex_event x.command ≡ Kept → fit_of checkpoint sent x.command ≡ Yes → HasRoom checkpoint (sent ++ x ∷ [])
unfolding fit_of
kept_keeps checkpoint sent x l event fit =
    let e = kept_is x.command event in
    let short = e.short in
    let logs = sysex_logs checkpoint sent in
    let size = sysex_octets checkpoint sent in
    let test = nat_lt logs 128 && nat_le (size + (2 + length e.octets)) 1000 in
    let kept : is_kept_message e.octets ≡ true = le-leb (length e.octets) 254 short in
    let there : (if test then Yes else SysexFull logs size) ≡ Yes = rw (e.is, kept, e.plain) at fit in
    let both = both_true (nat_lt logs 128) (nat_le (size + (2 + length e.octets)) 1000) (yes_came test (SysexFull logs size) (sysex_apart logs size) there) in
    let under : logs < 128 = ltb-true logs 128 both.0 in
    let within : size + (2 + length e.octets) ≤ 1000 = leb-true (size + (2 + length e.octets)) 1000 both.1 in
    let told : length (data_of x.command) ≡ length e.octets = ap (λ (k : Command). length (data_of k)) e.is in
    let more_logs = sysex_logs-kept checkpoint sent x l event in
    let more_octets = sysex_octets-kept checkpoint sent x l event in
    record { logs = omega (arith, under, more_logs); octets = omega (arith, within, more_octets, told) }

reset_keeps : (checkpoint : ℕ) (sent : List Sent) (x : Sent) → checkpoint ≤ x.packet → is_reset x.command ≡ true → HasRoom checkpoint (sent ++ x ∷ [])
reset_keeps checkpoint sent x l r =
    let logs = sysex_logs-reset-le checkpoint sent x l r in
    let octets = sysex_octets-reset-le checkpoint sent x l r in
    record { logs = omega (arith, logs); octets = omega (arith, octets) }

room_keeps : (checkpoint : ℕ) (sent : List Sent) (x : Sent) (event : SysexEvent) → checkpoint ≤ x.packet → sysex_event x.command ≡ event → fit_of checkpoint sent x.command ≡ Yes → HasRoom checkpoint sent → HasRoom checkpoint (sent ++ x ∷ [])
room_keeps checkpoint sent x Kept l event fit room = kept_keeps checkpoint sent x l event fit
room_keeps checkpoint sent x ResetMessage l event fit room = reset_keeps checkpoint sent x l (reset_is x.command event)
room_keeps checkpoint sent x Reset l event fit room = reset_keeps checkpoint sent x l (system_reset_is x.command event)
room_keeps checkpoint sent x Other l event fit room =
    let logs = sysex_logs-other checkpoint sent x l (rw event refl) in
    let octets = sysex_octets-other checkpoint sent x l (rw event refl) in
    record { logs = omega (arith, logs, room.logs); octets = omega (arith, octets, room.octets) }

-- ## The answer in numbers of 64 bits

told_entry : (channel checkpoint : ℕ) (sent : List Sent) (found : Option (Bool × ℕ × ℕ)) → told (entry_fit channel checkpoint sent found) ≡ entry_fit channel checkpoint sent found
told_entry channel checkpoint sent None = refl
told_entry channel checkpoint sent (Some parameter) =
    elim (cases_Bool (nat_lt (param_count channel checkpoint sent) 16 || has_param channel checkpoint parameter.0 parameter.1 parameter.2 sent)) [ inl t ↦ rw t refl | inr f ↦ rw f refl ]

pub told_control : (channel number checkpoint : ℕ) (sent : List Sent) → told (control_fit channel number checkpoint sent) ≡ control_fit channel number checkpoint sent
told_control channel number checkpoint sent =
    elim (cases_Bool (is_entry number)) [ inl t ↦ rw t (told_entry channel checkpoint sent (selected channel sent)) | inr f ↦ rw f refl ]

pub told_poly : (channel note checkpoint : ℕ) (sent : List Sent) → told (poly_fit channel note checkpoint sent) ≡ poly_fit channel note checkpoint sent
told_poly channel note checkpoint sent =
    elim (cases_Bool (nat_lt (poly_count channel checkpoint sent) 64 || has_poly channel checkpoint note sent)) [ inl t ↦ rw t refl | inr f ↦ rw f refl ]

told_sysex : (octets : List ℕ) (checkpoint : ℕ) (sent : List Sent) → sysex_octets checkpoint sent < 2 ^ 64 → told (sysex_fit octets checkpoint sent) ≡ sysex_fit octets checkpoint sent
told_sysex octets checkpoint sent few =
    let size = sysex_octets checkpoint sent in
    let same : min size (2 ^ 64 - 1) ≡ size = omega (arith, few) in
    elim (cases_Bool (not (is_kept_message octets) || is_reset_message octets)) [
      | inl t ↦ rw t refl
      | inr f ↦ rw f (elim (cases_Bool (nat_lt (sysex_logs checkpoint sent) 128 && nat_le (size + (2 + length octets)) 1000)) [
        | inl t ↦ rw t refl
        | inr n ↦ rw n (ap (λ (o : ℕ). SysexFull (sysex_logs checkpoint sent) o) same)
      ])
    ]

-- Where Chapter X's octets are a number of 64 bits, as those within its limit are, the answer is whole.
pub told_whole : (checkpoint : ℕ) (sent : List Sent) (command : Command) → sysex_octets checkpoint sent < 2 ^ 64 → told (fit_of checkpoint sent command) ≡ fit_of checkpoint sent command
unfolding fit_of
told_whole checkpoint sent (Control channel number value) few = told_control channel number checkpoint sent
told_whole checkpoint sent (PolyPressure channel note value) few = told_poly channel note checkpoint sent
told_whole checkpoint sent (Sysex octets) few = told_sysex octets checkpoint sent few
told_whole checkpoint sent command few = refl

pub told_kept : (checkpoint : ℕ) (sent : List Sent) (command : Command) → KeepsLimits checkpoint sent → told (fit_of checkpoint sent command) ≡ fit_of checkpoint sent command
told_kept checkpoint sent command keeps = told_whole checkpoint sent command (omega (arith, keeps.octets))

-- ## All limits

-- One more command that fits keeps them.
pub limits_push : (checkpoint : ℕ) (sent : List Sent) (x : Sent) → checkpoint ≤ x.packet → fit_of checkpoint sent x.command ≡ Yes → KeepsLimits checkpoint sent → KeepsLimits checkpoint (sent ++ x ∷ [])
limits_push checkpoint sent x l fit keeps =
    let room = room_keeps checkpoint sent x (sysex_event x.command) l refl fit (record { logs = keeps.logs; octets = keeps.octets }) in
    record {
      params = λ channel c. params_keep channel checkpoint sent x l fit (keeps.params channel c);
      notes = λ channel c. notes_keep channel checkpoint sent x (poly_key channel x) l refl fit (keeps.notes channel c);
      logs = room.logs;
      octets = room.octets;
    }

-- A later checkpoint keeps them.
pub limits_later : (checkpoint later : ℕ) (sent : List Sent) → checkpoint ≤ later → KeepsLimits checkpoint sent → KeepsLimits later sent
limits_later checkpoint later sent l keeps = record {
  params = λ channel c. let less = param_count-later channel checkpoint later sent l in let few = keeps.params channel c in omega (arith, less, few);
  notes = λ channel c. let less = poly_count-later channel checkpoint later sent l in let few = keeps.notes channel c in omega (arith, less, few);
  logs = let less = sysex_logs-later checkpoint later sent l in omega (arith, less, keeps.logs);
  octets = let less = sysex_octets-later checkpoint later sent l in omega (arith, less, keeps.octets);
}

-- No commands keep them.
pub limits_none : (checkpoint : ℕ) → KeepsLimits checkpoint []
unfolding poly_count sysex_logs sysex_octets
limits_none checkpoint = record {
  params = λ channel c. let none = param_count-none channel checkpoint in omega (arith, none);
  notes = λ channel c. omega arith;
  logs = omega arith;
  octets = omega arith;
}
