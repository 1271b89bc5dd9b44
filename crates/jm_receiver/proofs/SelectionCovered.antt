-- Where a parameter is coded, each half of its kind is in the selection behind the session, or a coded controller speaks of it.
use Rattle.std.proofs.Common.{◌≡◌, ℕ, ◌≤◌, ◌<◌, Bool, true, false, cond, ◌&&◌, ◌||◌, eqb, leb, List, [], ◌∷◌, ◌++◌, Option, Some, None, fold, refl, sym, ap, subst, ◌∙◌, inl, inr, arith}
use Rattle.std.specs.Prelude.{is_some}
use Rattle.std.specs.List.{AllByRecursion, list_any, filter_map, cons_option}
use Rattle.std.proofs.lemmas.Bool.{cases_Bool, leb-true}
use Rattle.std.proofs.lemmas.List.{append_assoc}
use Rattle.std.proofs.lemmas.List.Sums.{fold-append}
use Rattle.jm_cmds.specs.declared.history.Sent.{Sent}
use Rattle.jm_cmds.specs.declared.param.Param.{Param}
use Rattle.jm_cmds.specs.declared.selection.ParamCommand.{ParamCommand}
use Rattle.jm_cmds.specs.declared.selection.ParamCommand.TheVariants.{Select, Enter, Unselect, Clear, Pass}
use Rattle.jm_cmds.specs.declared.selection.Selection.{Selection}
use Rattle.jm_cmds.specs.History.{since, standing, coded, scanned, InOrder}
use Rattle.jm_cmds.specs.HistoryLaws.{any_weaker, any-scanned, since_all, AllByRecursion-weaker}
use Rattle.jm_cmds.specs.Param.{param_of}
use Rattle.jm_cmds.specs.Selection.{no_selection, selected_param, selection_after, param_command}
use Rattle.jm_cmds.specs.Sent.{packet_of}
use Rattle.ch_control.specs.ControlEvent.{control_ends}
use Rattle.ch_param.specs.declared.events.ParamEvent.{ParamEvent}
use Rattle.ch_param.specs.declared.events.ParamEvent.TheVariants.{Entry as Entered, Cleared, Other}
use Rattle.ch_param.specs.ChapterM.{Entered as Coded, entered_by, entered_at, event_param, entered, session_places}
use Rattle.ch_param.specs.Event.{Place, entry, param_event, selection_step, packet_at, event_at, takes_param, param_event_ends, param_ends}
use Rattle.ch_sysex.specs.SysexEvent.{resets}
use Rattle.jm_state.specs.declared.state.State.{State}
use Rattle.jm_state.specs.Apply.{applied, selection_from, selected_by}
use Rattle.jm_state.specs.Final.{final, speaks, over_none, final-ended, latest-final}
use Rattle.jm_state.specs.Kept.{IsState, no_channel_at}
use Rattle.jm_state.specs.KeptLaws.{no_state_is, state_after_is}
use Rattle.jm_state.specs.PartLaws.{by_part}
use Rattle.jm_state.specs.Parts.{no_state, selection_of}
use Rattle.jm_state.specs.Replay.{over}
use Rattle.jm_state.specs.ReplayLaws.{state_behind, behind_is, part_behind}
use Rattle.jm_state.specs.Says.{said, ended, selection_behind}
use Rattle.jm_receiver.specs.ParamLaw.{clear_command}
use Rattle.jm_receiver.specs.ParamPlaces.{is_clear, selection_same, selected_same}
use Rattle.jm_receiver.specs.Repairs.{place_says}
use Rattle.jm_receiver.specs.SelectionLaw.{half_of, half_in, half_says, half_key, own, own_coded, commands_say, last_says}
use Rattle.jm_receiver.proofs.SelectionGiven.{AreChosen, chosen_behind}

-- ## Lists

speaks_over : {V : Type 0} (a b : Option (Option V)) → speaks a ≡ true → speaks (over a b) ≡ true
speaks_over None b h = absurd (let f : false ≡ true = h in cc)
speaks_over (Some a) b h = refl

-- what speaks among the coded places of a list speaks among those of one with more before it
suffix_speaks : {X V : Type 0} (ends : X → X → Bool) (at : X → ℕ) (c : ℕ) (says : X → Option (Option V)) (front ys : List X) → speaks (final says (coded ends at c ys)) ≡ true → speaks (final says (coded ends at c (front ++ ys))) ≡ true
suffix_speaks ends at c says [] ys h = h
suffix_speaks ends at c says (x ∷ front) ys h =
    let ih = suffix_speaks ends at c says front ys h in
    let rest = final says (coded ends at c (front ++ ys)) in
    elim (cases_Bool (list_any (ends x) (front ++ ys))) [
      | inl t ↦ rw t ih
      | inr f ↦ elim (cases_Bool (leb c (at x))) [ inl e ↦ rw (f, e) (speaks_over rest (says x) ih) | inr n ↦ rw (f, n) ih ]
    ]

ordered_behind : {X : Type 0} (at : X → ℕ) (front ys : List X) → InOrder at (front ++ ys) → InOrder at ys
ordered_behind at [] ys o = o
ordered_behind at (x ∷ front) ys o = ordered_behind at front ys o.1

or_left : (a b : Bool) → a ≡ true → (a || b) ≡ true
or_left true b h = refl
or_left false b h = absurd (let f : false ≡ true = h in cc)

or_right : (a b : Bool) → b ≡ true → (a || b) ≡ true
or_right true b h = refl
or_right false b h = h

unsaid : {V : Type 0} (o : Option (Option V)) (a : Option V) → speaks o ≡ false → said o a ≡ a
unsaid None a h = refl
unsaid (Some value) a h = absurd (let f : true ≡ false = h in cc)

-- ## The halves of a selected parameter

kind_of : Option Param → Bool
kind_of None = false
kind_of (Some p) = p.nrpn

record HasHalves (kind : Bool) (a b : Option ℕ) (p : Param) : Type 0 where
  same : p.nrpn ≡ kind
  high : is_some a ≡ true
  low : is_some b ≡ true

halves_of : (kind : Bool) (a b : Option ℕ) (p : Param) → param_of kind a b ≡ Some p → HasHalves kind a b p
unfolding kind_of
halves_of kind (Some a) (Some b) p e =
    elim (cases_Bool (eqb a 127 && eqb b 127)) [
      | inl t ↦ absurd (let no : ◌≡◌ {A = Option Param} None (Some p) = rw t at e in cc)
      | inr f ↦ record { same = ap kind_of (sym (rw f at e)); high = refl; low = refl }
    ]
halves_of kind (Some a) None p e = absurd (let no : ◌≡◌ {A = Option Param} None (Some p) = e in cc)
halves_of kind None b p e = absurd (let no : ◌≡◌ {A = Option Param} None (Some p) = e in cc)

selected_half : (s : Option Selection) (p : Param) → selected_by s ≡ Some p → (high : Bool) → is_some (half_in p.nrpn high s) ≡ true
selected_half None p e high = absurd (let no : ◌≡◌ {A = Option Param} None (Some p) = e in cc)
selected_half (Some r) p e high = by_kind r.nrpn e high
  where
    by_kind : (b : Bool) → cond b (param_of true r.nrpn_high r.nrpn_low) (param_of false r.rpn_high r.rpn_low) ≡ Some p → (high : Bool) → is_some (half_of p.nrpn high r) ≡ true
    by_kind true e true = let k = halves_of true r.nrpn_high r.nrpn_low p e in subst (λ n. is_some (half_of n true r) ≡ true) (sym k.same) k.high
    by_kind true e false = let k = halves_of true r.nrpn_high r.nrpn_low p e in subst (λ n. is_some (half_of n false r) ≡ true) (sym k.same) k.low
    by_kind false e true = let k = halves_of false r.rpn_high r.rpn_low p e in subst (λ n. is_some (half_of n true r) ≡ true) (sym k.same) k.high
    by_kind false e false = let k = halves_of false r.rpn_high r.rpn_low p e in subst (λ n. is_some (half_of n false r) ≡ true) (sym k.same) k.low

takes_clear : (p : Param) (event : ParamEvent) → is_clear event ≡ true → takes_param p event ≡ true
takes_clear p (Entered other high value) h = absurd (let f : false ≡ true = h in cc)
takes_clear p Cleared h = refl
takes_clear p Other h = absurd (let f : false ≡ true = h in cc)

module _ (channel : ℕ) (l : channel < 16) where
  -- ## The selection along a session

  pub session_chosen : (s : State) (xs : List Sent) → IsState s → AreChosen (selection_of s channel) → AreChosen (selection_of (state_behind s xs) channel)
  session_chosen s [] is h = h
  session_chosen s (x ∷ xs) is h =
      session_chosen (applied s x.command) xs (state_after_is s x.command is)
      (subst AreChosen (sym ((by_part s x.command is).selection channel l)) (chosen_behind (selection_of s channel) (param_command channel x.command) h))

  pub none_chosen : AreChosen (selection_of no_state channel)
  none_chosen = subst AreChosen (sym (ap (λ c. c.selection) (no_channel_at channel l))) tt

  selections_along : (s : State) (selection : Selection) (xs : List Sent) → IsState s → selection_from (selection_of s channel) ≡ selection → selection_from (selection_of (state_behind s xs) channel) ≡ fold (selection_step channel) selection xs
  selections_along s selection [] is e = e
  selections_along s selection (x ∷ xs) is e =
      let command = param_command channel x.command in
      selections_along (applied s x.command) (selection_step channel selection x) xs (state_after_is s x.command is)
      (ap selection_from ((by_part s x.command is).selection channel l) ∙ selection_same (selection_of s channel) command ∙ ap (λ (k : Selection). selection_after k command) e)

  module _ (c : ℕ) (seen : List Sent) (o : InOrder packet_of seen) where
    abbrev pub said_of : (nrpn high : Bool) → List Sent → Option (Option ℕ)
    said_of nrpn high places = final (λ place. own (half_in nrpn high) (half_says nrpn high) (half_key nrpn high) channel place.command) places

    -- A coded controller speaks of the half, or it is there behind all.
    abbrev pub IsCovered : (nrpn high : Bool) → Type 0
    IsCovered nrpn high = (speaks (said_of nrpn high (coded (control_ends channel) packet_of c seen)) || is_some (half_in nrpn high (selection_of (state_behind no_state seen) channel))) ≡ true

    module _ (front : List Sent) (x : Sent) (back : List Sent) (whole : front ++ x ∷ back ≡ seen) (late : c ≤ packet_of x) (none : list_any resets back ≡ false) where
      from_x : InOrder packet_of (x ∷ back)
      from_x = ordered_behind packet_of front (x ∷ back) (subst (InOrder packet_of) (sym whole) o)

      all_late : since packet_of c back ≡ back
      all_late = since_all packet_of c back (AllByRecursion-weaker (λ y. packet_of x ≤ packet_of y) (λ y. c ≤ packet_of y) (λ y h. omega (arith, h, late)) back from_x.0)

      -- what is said behind it the coded controllers say
      back_coded : (nrpn high : Bool) → said_of nrpn high (coded (control_ends channel) packet_of c back) ≡ final (place_says (commands_say (half_in nrpn high) (half_says nrpn high) (half_key nrpn high) channel)) back
      back_coded nrpn high =
          let says = place_says (commands_say (half_in nrpn high) (half_says nrpn high) (half_key nrpn high) channel) in
          let quiet : final {V = ℕ} (λ place. ended (resets place)) (since packet_of c back) ≡ None = ap (final {V = ℕ} (λ place. ended (resets place))) all_late ∙ final-ended resets back ∙ ap (λ b. ended b) none in
          let own_said = said_of nrpn high (coded (control_ends channel) packet_of c back) in
          sym (over_none own_said)
          ∙ ap (over own_said) (sym quiet)
          ∙ own_coded (half_in nrpn high) (half_says nrpn high) (half_key nrpn high) channel c back from_x.1
          ∙ ap (final says) all_late

      covered_behind : (nrpn high half : Bool) (value : ℕ) → param_command channel x.command ≡ Enter half value → is_some (half_in nrpn high (selection_of (state_behind no_state front) channel)) ≡ true → IsCovered nrpn high
      covered_behind nrpn high half value e h =
          let part : State → Option ℕ = λ t. half_in nrpn high (selection_of t channel) in
          let before = state_behind no_state front in
          let before_is = behind_is no_state front no_state_is in
          let at = applied before x.command in
          let speak = commands_say (half_in nrpn high) (half_says nrpn high) (half_key nrpn high) channel in
          let says = final (place_says speak) back in
          let coded_says = said_of nrpn high (coded (control_ends channel) packet_of c seen) in
          let kept : part at ≡ part before = ap (half_in nrpn high) ((by_part before x.command before_is).selection channel l ∙ ap (selection_behind (selection_of before channel)) e) in
          let reached : part (state_behind no_state seen) ≡ said says (part at) =
          ap (λ (places : List Sent). part (state_behind no_state places)) (sym whole)
          ∙ ap part (fold-append (λ (t : State) (place : Sent). applied t place.command) no_state front (x ∷ back))
          ∙ part_behind part speak (last_says (half_in nrpn high) (half_says nrpn high) (half_key nrpn high) channel l) at back (state_after_is before x.command before_is)
          ∙ latest-final (place_says speak) (part at) back in
          elim (cases_Bool (speaks says)) [
            | inl t ↦
                or_left (speaks coded_says) (is_some (part (state_behind no_state seen)))
                (subst (λ (places : List Sent). speaks (said_of nrpn high (coded (control_ends channel) packet_of c places)) ≡ true) (append_assoc front (x ∷ []) back ∙ whole)
                (suffix_speaks (control_ends channel) packet_of c (λ place. own (half_in nrpn high) (half_says nrpn high) (half_key nrpn high) channel place.command) (front ++ x ∷ []) back (ap speaks (back_coded nrpn high) ∙ t)))
            | inr f ↦ or_right (speaks coded_says) (is_some (part (state_behind no_state seen))) (ap is_some (reached ∙ unsaid says (part at) f ∙ kept) ∙ h)
          ]

    -- ## Coded places

    abbrev CoversEvent : ParamEvent → Type 0
    CoversEvent (Entered p high value) = (half : Bool) → IsCovered p.nrpn half
    CoversEvent event = Unit {0}

    module _ (front : List Sent) (x : Sent) (back : List Sent) (whole : front ++ x ∷ back ≡ seen) (late : c ≤ packet_of x) (selection next : Selection) (same : selection_from (selection_of (state_behind no_state front) channel) ≡ selection)
        (stands : list_any (param_ends channel (selection, x)) (scanned (selection_step channel) next back) ≡ false) where
      none_reset : (p : Param) (high : Bool) (value : ℕ) → param_event selection (param_command channel x.command) ≡ Entered p high value → list_any resets back ≡ false
      none_reset p high value e =
          elim (cases_Bool (list_any resets back)) [
            | inl t ↦
                let among : list_any (λ (y : Place). resets y.1) (scanned (selection_step channel) next back) ≡ true = any-scanned (selection_step channel) resets next back ∙ t in
                let ended_too : list_any (param_ends channel (selection, x)) (scanned (selection_step channel) next back) ≡ true =
                any_weaker (λ (y : Place). resets y.1) (param_ends channel (selection, x))
                (λ y r. ap (λ (event : ParamEvent). param_event_ends event (event_at channel y)) e ∙ takes_clear p (event_at channel y) (clear_command channel y.0 y.1.command ∙ r))
                (scanned (selection_step channel) next back) among in
                absurd (let b : true ≡ false = sym ended_too ∙ stands in cc)
            | inr f ↦ f
          ]

      by_selected : (o : Option Param) (high : Bool) (value : ℕ) → selected_param selection ≡ o → param_command channel x.command ≡ Enter high value → CoversEvent (entry high value o)
      by_selected None high value e f = tt
      by_selected (Some p) high value e f =
          let event : param_event selection (param_command channel x.command) ≡ Entered p high value = ap (param_event selection) f ∙ ap (entry high value) e in
          let chosen : selected_by (selection_of (state_behind no_state front) channel) ≡ Some p = selected_same (selection_of (state_behind no_state front) channel) ∙ ap selected_param same ∙ e in
          λ half. covered_behind front x back whole late (none_reset p high value event) p.nrpn half high value f (selected_half (selection_of (state_behind no_state front) channel) p chosen half)

      by_command : (command : ParamCommand) → param_command channel x.command ≡ command → CoversEvent (param_event selection command)
      by_command (Enter high value) e = by_selected (selected_param selection) high value refl e
      by_command (Select nrpn high value) e = tt
      by_command Unselect e = tt
      by_command Clear e = tt
      by_command Pass e = tt

      place_covered : CoversEvent (event_at channel (selection, x))
      place_covered = by_command (param_command channel x.command) refl

    abbrev begun : List Sent → Selection
    begun front = fold (selection_step channel) no_selection front

    none_begins : selection_from (selection_of no_state channel) ≡ no_selection
    none_begins = ap (λ c. selection_from c.selection) (no_channel_at channel l)

    coded_covered : (front ys : List Sent) → front ++ ys ≡ seen → AllByRecursion (λ place. CoversEvent (event_at channel place)) (since packet_at c (standing (param_ends channel) (scanned (selection_step channel) (begun front) ys)))
    coded_covered front [] e = tt
    coded_covered front (x ∷ back) e =
        let selection = begun front in
        let place : Place = (selection, x) in
        let later = scanned (selection_step channel) (selection_step channel selection x) back in
        let rest : AllByRecursion (λ y. CoversEvent (event_at channel y)) (since packet_at c (standing (param_ends channel) later)) =
        subst (λ (k : Selection). AllByRecursion (λ y. CoversEvent (event_at channel y)) (since packet_at c (standing (param_ends channel) (scanned (selection_step channel) k back))))
        (fold-append (selection_step channel) no_selection front (x ∷ [])) (coded_covered (front ++ x ∷ []) back (append_assoc front (x ∷ []) back ∙ e)) in
        elim (cases_Bool (list_any (param_ends channel place) later)) [
          | inl t ↦ rw t rest
          | inr f ↦ elim (cases_Bool (leb c (packet_at place))) [
            | inl late ↦ rw (f, late)
                (place_covered front x back e (leb-true c (packet_of x) late) selection (selection_step channel selection x) (selections_along no_state no_selection front no_state_is none_begins) f, rest)
            | inr n ↦ rw (f, n) rest
          ]
        ]

    one_covered : (latest : Sent) (event : ParamEvent) (more : List Coded) → CoversEvent event → AllByRecursion (λ (e : Coded). (half : Bool) → IsCovered e.param.nrpn half) more →
        AllByRecursion (λ (e : Coded). (half : Bool) → IsCovered e.param.nrpn half) (cons_option (entered_by latest (event_param event)) more)
    one_covered latest (Entered p high value) more k h = (k, h)
    one_covered latest Cleared more k h = h
    one_covered latest Other more k h = h

    all_covered : (places : List Place) → AllByRecursion (λ place. CoversEvent (event_at channel place)) places → AllByRecursion (λ (e : Coded). (half : Bool) → IsCovered e.param.nrpn half) (filter_map (entered_at channel) places)
    all_covered [] k = tt
    all_covered (place ∷ places) k = one_covered place.1 (event_at channel place) (filter_map (entered_at channel) places) k.0 (all_covered places k.1)

    -- Each coded parameter is covered by both halves of its kind.
    pub entered_covered : AllByRecursion (λ (e : Coded). (half : Bool) → IsCovered e.param.nrpn half) (entered channel c (session_places channel seen))
    entered_covered = all_covered (coded (param_ends channel) packet_at c (session_places channel seen)) (coded_covered [] seen refl)
