-- A control is ended by its item and by its activity.
use Rattle.std.proofs.Common.{◌≡◌, ℕ, Bool, true, false, cond, not, ◌||◌, ◌&&◌, eqb, refl, sym, ap, ◌∙◌, inl, inr, arith}
use Rattle.std.proofs.lemmas.Bool.{cases_Bool, eqb-true, eqb-false}
use Rattle.std.proofs.lemmas.Bool.Decides.{nat_tests}
use Rattle.jm_cmds.specs.declared.commands.Command.{Command}
use Rattle.jm_cmds.specs.declared.commands.Command.TheVariants.{Control}
use Rattle.jm_cmds.specs.declared.controls.ControlKind.{ControlKind}
use Rattle.jm_cmds.specs.declared.controls.ControlKind.TheVariants.{DataEntry, Selection, Increment, Silence, ResetControllers, Mode, Kept, Pedal, Plain}
use Rattle.jm_cmds.specs.declared.history.Sent.{Sent}
use Rattle.jm_cmds.specs.Control.{is_entry, control_kind, control_number, clears_controllers, is_reset, ends_controllers}
use Rattle.jm_cmds.specs.ControlLaws.{control_number-control_kind}
use Rattle.ch_control.specs.declared.events.ControlEvent.{ControlEvent}
use Rattle.ch_control.specs.declared.events.ControlEvent.TheVariants.{Set, Dropped, Other}
use Rattle.ch_control.specs.ControlEvent.{item_of, is_kept, control_event, event_at, event_ends, concerns, control_ends}
use Rattle.ch_control.specs.Activity.{is_same}

-- Control 121 alone clears controllers
number-121 : (kind : ControlKind) → clears_controllers kind ≡ true → control_number kind ≡ 121
number-121 (DataEntry high) e = absurd (let f : false ≡ true = e in cc)
number-121 (Selection nrpn high) e = absurd (let f : false ≡ true = e in cc)
number-121 (Increment number) e = absurd (let f : false ≡ true = e in cc)
number-121 (Silence number) e = absurd (let f : false ≡ true = e in cc)
number-121 ResetControllers e = refl
number-121 (Mode number) e = absurd (let f : false ≡ true = e in cc)
number-121 (Kept number) e = absurd (let f : false ≡ true = e in cc)
number-121 Pedal e = absurd (let f : false ≡ true = e in cc)
number-121 (Plain number) e = absurd (let f : false ≡ true = e in cc)

clears-number : (number : ℕ) → clears_controllers (control_kind number) ≡ eqb number 121
unfolding control_kind
clears-number number =
    elim (cases_Bool (eqb number 121)) [
      | inl t ↦ rw (eqb-true number 121 t) refl
      | inr f ↦ elim (cases_Bool (clears_controllers (control_kind number))) [
        | inl c ↦ absurd (eqb-false number 121 f (sym (control_number-control_kind number) ∙ number-121 (control_kind number) c))
        | inr c ↦ c ∙ sym f
      ]
    ]

entry-apart : (number : ℕ) → is_entry number ≡ true → eqb number 121 ≡ false
unfolding is_entry
entry-apart number e = grind (arith, nat_tests, e)

and-not : (x k same : Bool) → (same || (x && not k)) ≡ (same || cond k false x)
and-not x true true = refl
and-not x false true = refl
and-not true true false = refl
and-not false true false = refl
and-not true false false = refl
and-not false false false = refl

none-left : (k : Bool) → false ≡ (false || cond k false false)
none-left true = refl
none-left false = refl

reset-left : (number : ℕ) (r k : Bool) → concerns number (cond r Dropped Other) ≡ (is_same number (cond r Dropped Other) || cond k r r)
reset-left number true true = refl
reset-left number true false = refl
reset-left number false true = refl
reset-left number false false = refl

concerns-activity : (channel number : ℕ) (command : Command) →
    concerns number (control_event channel command) ≡ (is_same number (control_event channel command) || cond (is_kept number) (is_reset command) (ends_controllers channel command))
concerns-activity channel number (Control at other next) =
    elim (cases_Bool (eqb at channel)) [
      | inr f ↦ rw f (none-left (is_kept number))
      | inl t ↦ elim (cases_Bool (is_entry other)) [
        | inl y ↦ rw (t, y, clears-number other, entry-apart other y) (none-left (is_kept number))
        | inr n ↦ rw (t, n, clears-number other) (and-not (eqb other 121) (is_kept number) (eqb (item_of number) (item_of other)))
      ]
    ]
concerns-activity channel number command = reset-left number (is_reset command) (is_kept number)

pub ends_by_activity : (channel number value : ℕ) (place later : Sent) → event_at channel place ≡ Set number value →
    control_ends channel place later ≡ (is_same number (event_at channel later) || cond (is_kept number) (is_reset later.command) (ends_controllers channel later.command))
ends_by_activity channel number value place later e =
    ap (λ (k : ControlEvent). event_ends k (event_at channel later)) e ∙ concerns-activity channel number later.command
