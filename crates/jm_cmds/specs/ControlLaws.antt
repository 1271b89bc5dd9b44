-- What holds of the kinds of controllers.
use Rattle.std.proofs.Common.{◌≡◌, ℕ, Bool, true, false, eqb, leb, ◌||◌, refl, sym, inl, inr, arith}
use Rattle.std.proofs.lemmas.Bool.{cases_Bool, eqb-true}
use Rattle.std.proofs.lemmas.Bool.Decides.{nat_tests}
use Rattle.jm_cmds.specs.declared.controls.ControlKind.{ControlKind}
use Rattle.jm_cmds.specs.declared.controls.ControlKind.TheVariants.{DataEntry, Selection, Increment, Silence, ResetControllers, Mode, Kept, Pedal, Plain}
use Rattle.jm_cmds.specs.Control.{control_kind, control_number, is_entry, is_counted}

-- a controller's kind tells its number
pub control_number-control_kind : (number : ℕ) → control_number (control_kind number) ≡ number
unfolding control_kind
control_number-control_kind number =
    elim (cases_Bool (eqb number 6)) [
      | inl t ↦ rw (t) (sym (eqb-true number 6 t))
      | inr f0 ↦ elim (cases_Bool (eqb number 38)) [
        | inl t ↦ rw (f0, t) (sym (eqb-true number 38 t))
        | inr f1 ↦ elim (cases_Bool (eqb number 96 || eqb number 97)) [
          | inl t ↦ rw (f0, f1, t) refl
          | inr f2 ↦ elim (cases_Bool (eqb number 98)) [
            | inl t ↦ rw (f0, f1, f2, t) (sym (eqb-true number 98 t))
            | inr f3 ↦ elim (cases_Bool (eqb number 99)) [
              | inl t ↦ rw (f0, f1, f2, f3, t) (sym (eqb-true number 99 t))
              | inr f4 ↦ elim (cases_Bool (eqb number 100)) [
                | inl t ↦ rw (f0, f1, f2, f3, f4, t) (sym (eqb-true number 100 t))
                | inr f5 ↦ elim (cases_Bool (eqb number 101)) [
                  | inl t ↦ rw (f0, f1, f2, f3, f4, f5, t) (sym (eqb-true number 101 t))
                  | inr f6 ↦ elim (cases_Bool (eqb number 120 || eqb number 123)) [
                    | inl t ↦ rw (f0, f1, f2, f3, f4, f5, f6, t) refl
                    | inr f7 ↦ elim (cases_Bool (eqb number 121)) [
                      | inl t ↦ rw (f0, f1, f2, f3, f4, f5, f6, f7, t) (sym (eqb-true number 121 t))
                      | inr f8 ↦ elim (cases_Bool (leb 124 number)) [
                        | inl t ↦ rw (f0, f1, f2, f3, f4, f5, f6, f7, f8, t) refl
                        | inr f9 ↦ elim (cases_Bool ((eqb number 0 || eqb number 32) || eqb number 122)) [
                          | inl t ↦ rw (f0, f1, f2, f3, f4, f5, f6, f7, f8, f9, t) refl
                          | inr f10 ↦ elim (cases_Bool (eqb number 64)) [
                            | inl t ↦ rw (f0, f1, f2, f3, f4, f5, f6, f7, f8, f9, f10, t) (sym (eqb-true number 64 t))
                            | inr f11 ↦ rw (f0, f1, f2, f3, f4, f5, f6, f7, f8, f9, f10, f11) refl
                          ]
                        ]
                      ]
                    ]
                  ]
                ]
              ]
            ]
          ]
        ]
      ]
    ]

-- the kinds of the controllers that set a half of a value
abbrev pub is_entry_kind : ControlKind → Bool
is_entry_kind (DataEntry high) = true
is_entry_kind (Selection nrpn high) = false
is_entry_kind (Increment number) = false
is_entry_kind (Silence number) = false
is_entry_kind ResetControllers = false
is_entry_kind (Mode number) = false
is_entry_kind (Kept number) = false
is_entry_kind Pedal = false
is_entry_kind (Plain number) = false

-- the kinds of the controllers whose commands are counted
abbrev pub is_counted_kind : ControlKind → Bool
is_counted_kind (DataEntry high) = false
is_counted_kind (Selection nrpn high) = false
is_counted_kind (Increment number) = true
is_counted_kind (Silence number) = true
is_counted_kind ResetControllers = true
is_counted_kind (Mode number) = false
is_counted_kind (Kept number) = false
is_counted_kind Pedal = false
is_counted_kind (Plain number) = false

pub is_entry-kind : (number : ℕ) → is_entry_kind (control_kind number) ≡ is_entry number
unfolding control_kind is_entry
is_entry-kind number = grind (arith, nat_tests)

pub is_counted-kind : (number : ℕ) → is_counted_kind (control_kind number) ≡ is_counted number
unfolding control_kind is_counted
is_counted-kind number = grind (arith, nat_tests)
