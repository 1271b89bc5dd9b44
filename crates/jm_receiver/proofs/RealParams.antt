-- No parameter that was entered is the one that stands for none.
use Rattle.std.proofs.Common.{◌≡◌, ℕ, Bool, true, false, ◌&&◌, ◌||◌, eqb, List, [], ◌∷◌, Option, Some, None, fold, refl, ap, ◌∙◌, inl, inr}
use Rattle.std.specs.List.{AllByRecursion}
use Rattle.std.proofs.lemmas.Bool.{cases_Bool}
use Rattle.jm_cmds.specs.declared.history.Sent.{Sent}
use Rattle.jm_cmds.specs.declared.param.Param.{Param}
use Rattle.jm_cmds.specs.declared.selection.ParamCommand.{ParamCommand}
use Rattle.jm_cmds.specs.declared.selection.ParamCommand.TheVariants.{Select, Enter, Unselect, Clear, Pass}
use Rattle.jm_cmds.specs.declared.selection.Selection.{Selection}
use Rattle.jm_cmds.specs.Param.{same_param, param_of}
use Rattle.jm_cmds.specs.ParamLaws.{same_param-equal}
use Rattle.jm_cmds.specs.Selection.{selected_param, param_command}
use Rattle.ch_param.specs.ChapterM.{session_places}
use Rattle.ch_param.specs.Event.{Place, entry, param_event}
use Rattle.jm_receiver.specs.ParamKeys.{is_known}
use Rattle.jm_receiver.specs.ParamPlaces.{params_on, params_step, params_entered}

-- its number is the one that selects no parameter
abbrev pub is_null : Param → Bool
is_null p = eqb p.high 127 && eqb p.low 127

abbrev pub AreReal : List Param → Type 0
AreReal known = AllByRecursion (λ p. is_null p ≡ false) known

abbrev null_in : Option Param → Bool
null_in None = false
null_in (Some p) = is_null p

no_null : (nrpn : Bool) (high low : Option ℕ) → null_in (param_of nrpn high low) ≡ false
no_null nrpn (Some high) (Some low) = elim (cases_Bool (eqb high 127 && eqb low 127)) [ inl t ↦ rw t refl | inr f ↦ rw f f ]
no_null nrpn (Some high) None = refl
no_null nrpn None low = refl

selected_real : (s : Selection) → null_in (selected_param s) ≡ false
selected_real s =
    elim (cases_Bool s.nrpn) [
      | inl t ↦ rw t (no_null true s.nrpn_high s.nrpn_low)
      | inr f ↦ rw f (no_null false s.rpn_high s.rpn_low)
    ]

entry_real : (high : Bool) (value : ℕ) (o : Option Param) (known : List Param) → null_in o ≡ false → AreReal known → AreReal (params_on known (entry high value o))
entry_real high value None known h a = a
entry_real high value (Some p) known h a = elim (cases_Bool (is_known known p)) [ inl t ↦ rw t a | inr f ↦ rw f (h, a) ]

event_real : (s : Selection) (command : ParamCommand) (known : List Param) → AreReal known → AreReal (params_on known (param_event s command))
event_real s (Enter high value) known a = entry_real high value (selected_param s) known (selected_real s) a
event_real s Clear known a = tt
event_real s (Select nrpn high value) known a = a
event_real s Unselect known a = a
event_real s Pass known a = a

places_real : (channel : ℕ) (known : List Param) (places : List Place) → AreReal known → AreReal (fold (params_step channel) known places)
places_real channel known [] a = a
places_real channel known (place ∷ places) a =
    places_real channel (params_step channel known place) places (event_real place.0 (param_command channel place.1.command) known a)

pub params_real : (channel : ℕ) (sent : List Sent) → AreReal (params_entered channel sent)
params_real channel sent = places_real channel [] (session_places channel sent) tt

first_or : (a b : Bool) → a ≡ false → (a || b) ≡ true → b ≡ true
first_or true b f h = absurd (let e : true ≡ false = f in cc)
first_or false b f h = h

pub known_real : (known : List Param) (p : Param) → AreReal known → is_known known p ≡ true → is_null p ≡ false
known_real [] p a h = absurd (let f : false ≡ true = h in cc)
known_real (k ∷ known) p a h =
    elim (cases_Bool (same_param p k)) [
      | inl t ↦ ap is_null (same_param-equal p k t) ∙ a.0
      | inr f ↦ known_real known p a.1 (first_or (same_param p k) (is_known known p) f h)
    ]
