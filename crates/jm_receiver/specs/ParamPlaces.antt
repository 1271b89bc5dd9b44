-- The parameters that were entered in a channel since the last Reset State command, and what a session says of the halves of each.
use Rattle.std.proofs.Common.{◌≡◌, ℕ, ◌<◌, ◌≤◌, Bool, true, false, cond, ◌||◌, List, [], ◌∷◌, ◌++◌, Option, Some, None, fold, length, refl, ap, ◌∙◌, inl, inr, arith}
use Rattle.std.specs.List.{list_any}
use Rattle.std.proofs.lemmas.Bool.{cases_Bool, or_parts}
use Rattle.std.proofs.lemmas.List.Folds.{list_any-append}
use Rattle.jm_cmds.specs.declared.history.Sent.{Sent}
use Rattle.jm_cmds.specs.declared.param.Param.{Param}
use Rattle.jm_cmds.specs.declared.selection.ParamCommand.{ParamCommand}
use Rattle.jm_cmds.specs.declared.selection.ParamCommand.TheVariants.{Select, Enter, Unselect, Clear, Pass}
use Rattle.jm_cmds.specs.declared.selection.Selection.{Selection}
use Rattle.jm_cmds.specs.Param.{same_param}
use Rattle.jm_cmds.specs.Selection.{no_selection, selection_after, selected_param, param_command}
use Rattle.ch_param.specs.declared.events.ParamEvent.{ParamEvent}
use Rattle.ch_param.specs.declared.events.ParamEvent.TheVariants.{Entry as Entered, Cleared, Other}
use Rattle.ch_param.specs.Event.{Place, entry, param_event, placed, selection_step, event_at}
use Rattle.ch_param.specs.ChapterM.{session_places}
use Rattle.jm_state.specs.declared.entered.Entry.{Entry}
use Rattle.jm_state.specs.declared.state.State.{State}
use Rattle.jm_state.specs.Apply.{applied, selection_from, selected_by}
use Rattle.jm_state.specs.Entered.{halves_in, entered_with}
use Rattle.jm_state.specs.Parts.{no_state, selection_of, entered_of}
use Rattle.jm_state.specs.Says.{said, selection_behind, entered_if, entered_behind}
use Rattle.jm_state.specs.Kept.{IsState, no_channel_at}
use Rattle.jm_state.specs.KeptLaws.{no_state_is, state_after_is}
use Rattle.jm_state.specs.ParamLaws.{same_self}
use Rattle.jm_state.specs.PartLaws.{by_part}
use Rattle.jm_state.specs.Replay.{said-over}
use Rattle.jm_state.specs.ReplayLaws.{state_behind}
use Rattle.jm_state.specs.Final.{final, speaks, speaks-final}
use Rattle.jm_receiver.specs.ParamKeys.{is_known, Holds, holds_none, holds_entered, half_of, half_says, half_entered}

-- ## The parameters that were entered

-- the different parameters that were entered, the latest new one first, behind an event
abbrev pub params_on : List Param → ParamEvent → List Param
params_on known (Entered param high value) = cond (is_known known param) known (param ∷ known)
params_on known Cleared = []
params_on known Other = known

abbrev pub params_step : (channel : ℕ) → List Param → Place → List Param
params_step channel known place = params_on known (event_at channel place)

-- The different parameters that these commands entered in a channel since the last Reset State command.
abbrev pub params_entered : (channel : ℕ) → List Sent → List Param
params_entered channel sent = fold (params_step channel) [] (session_places channel sent)

-- a Reset State command
abbrev pub is_clear : ParamEvent → Bool
is_clear (Entered param high value) = false
is_clear Cleared = true
is_clear Other = false

abbrev pub clears : (channel : ℕ) → Place → Bool
clears channel place = is_clear (event_at channel place)

-- what is entered is known
abbrev pub IsOfKnown : List Param → ParamEvent → Type 0
IsOfKnown known (Entered param high value) = is_known known param ≡ true
IsOfKnown known Cleared = Unit {0}
IsOfKnown known Other = Unit {0}

-- what is entered, and no later place clears, is known
abbrev pub Knows : (channel : ℕ) → List Param → List Place → Type 0
Knows channel known [] = Unit {0}
Knows channel known (x ∷ xs) = (list_any (clears channel) xs ≡ false → IsOfKnown known (event_at channel x)) × Knows channel known xs

stays_by : (known : List Param) (param : Param) (event : ParamEvent) → is_clear event ≡ false → is_known known param ≡ true → is_known (params_on known event) param ≡ true
stays_by known param (Entered other high value) h k =
    elim (cases_Bool (is_known known other)) [
      | inl t ↦ rw t k
      | inr f ↦ rw f (or_last (same_param param other) (is_known known param) k)
    ]
  where
    or_last : (a b : Bool) → b ≡ true → (a || b) ≡ true
    or_last true b e = refl
    or_last false b e = e
stays_by known param Cleared h k = absurd (let f : true ≡ false = h in cc)
stays_by known param Other h k = k

-- what is known stays so
stays_known : (channel : ℕ) (known : List Param) (param : Param) (xs : List Place) → list_any (clears channel) xs ≡ false → is_known known param ≡ true → is_known (fold (params_step channel) known xs) param ≡ true
stays_known channel known param [] h k = k
stays_known channel known param (x ∷ xs) h k =
    let parts = or_parts (clears channel x) (list_any (clears channel) xs) h in
    stays_known channel (params_step channel known x) param xs parts.1 (stays_by known param (event_at channel x) parts.0 k)

known_by : (known : List Param) (event : ParamEvent) → IsOfKnown (params_on known event) event
known_by known (Entered param high value) =
    elim (cases_Bool (is_known known param)) [
      | inl t ↦ rw t t
      | inr f ↦ rw f (rw (same_self param) refl)
    ]
known_by known Cleared = tt
known_by known Other = tt

known_later : (channel : ℕ) (known : List Param) (event : ParamEvent) (xs : List Place) → list_any (clears channel) xs ≡ false → IsOfKnown known event → IsOfKnown (fold (params_step channel) known xs) event
known_later channel known (Entered param high value) xs h k = stays_known channel known param xs h k
known_later channel known Cleared xs h k = tt
known_later channel known Other xs h k = tt

-- The parameters that were entered are known.
pub knows_own : (channel : ℕ) (known : List Param) (xs : List Place) → Knows channel (fold (params_step channel) known xs) xs
knows_own channel known [] = tt
knows_own channel known (x ∷ xs) =
    (λ h. known_later channel (params_step channel known x) (event_at channel x) xs h (known_by known (event_at channel x)), knows_own channel (params_step channel known x) xs)

-- so they are of the places before some that clear nothing
pub knows_front : (channel : ℕ) (known : List Param) (xs ys : List Place) → list_any (clears channel) ys ≡ false → Knows channel known (xs ++ ys) → Knows channel known xs
knows_front channel known [] ys h k = tt
knows_front channel known (x ∷ xs) ys h k =
    (λ n. k.0 (list_any-append (clears channel) xs ys ∙ rw (n) h), knows_front channel known xs ys h k.1)

more_by : (known : List Param) (event : ParamEvent) → is_clear event ≡ false → length known ≤ length (params_on known event)
more_by known (Entered param high value) h = elim (cases_Bool (is_known known param)) [ inl t ↦ rw t (omega arith) | inr f ↦ rw f (omega arith) ]
more_by known Cleared h = absurd (let f : true ≡ false = h in cc)
more_by known Other h = omega arith

-- places that clear nothing make them no fewer
pub grows : (channel : ℕ) (known : List Param) (xs : List Place) → list_any (clears channel) xs ≡ false → length known ≤ length (fold (params_step channel) known xs)
grows channel known [] h = omega arith
grows channel known (x ∷ xs) h =
    let parts = or_parts (clears channel x) (list_any (clears channel) xs) h in
    let here = more_by known (event_at channel x) parts.0 in
    let later = grows channel (params_step channel known x) xs parts.1 in
    omega (arith, here, later)

-- ## What was entered

-- what is entered behind an event
abbrev pub entered_on : List Entry → ParamEvent → List Entry
entered_on es (Entered param high value) = entered_with high param (Some value) es
entered_on es Cleared = []
entered_on es Other = es

abbrev pub entered_step : (channel : ℕ) → List Entry → Place → List Entry
entered_step channel es place = entered_on es (event_at channel place)

-- what an event says of a half of a parameter
abbrev pub event_says : (param : Param) → (high : Bool) → ParamEvent → Option (Option ℕ)
event_says param high (Entered other half value) = half_says param high other half value
event_says param high Cleared = Some None
event_says param high Other = None

abbrev pub place_says : (channel : ℕ) → (param : Param) → (high : Bool) → Place → Option (Option ℕ)
place_says channel param high place = event_says param high (event_at channel place)

or_true : (b : Bool) → (b || true) ≡ true
or_true true = refl
or_true false = refl

module _ (channel : ℕ) (param : Param) (high : Bool) where
  clear_speaks : (event : ParamEvent) → is_clear event ≡ true → speaks (event_says param high event) ≡ true
  clear_speaks (Entered other other_high value) h = absurd (let f : false ≡ true = h in cc)
  clear_speaks Cleared h = refl
  clear_speaks Other h = absurd (let f : false ≡ true = h in cc)

  pub clears_speak : (xs : List Place) → list_any (clears channel) xs ≡ true → speaks (final (place_says channel param high) xs) ≡ true
  clears_speak xs h = speaks-final (place_says channel param high) xs ∙ weaker xs h
    where
      weaker : (xs : List Place) → list_any (clears channel) xs ≡ true → list_any (λ x. speaks (place_says channel param high x)) xs ≡ true
      weaker [] h = absurd (let f : false ≡ true = h in cc)
      weaker (x ∷ xs) h =
          elim (cases_Bool (clears channel x)) [
            | inl t ↦ rw (clear_speaks (event_at channel x) t) refl
            | inr f ↦ let later = weaker xs (rw f at h) in rw later (or_true (speaks (place_says channel param high x)))
          ]

-- what speaks doesn't ask what was before
pub anew : (w : Option (Option ℕ)) (a b : Option ℕ) → speaks w ≡ true → said w a ≡ said w b
anew None a b h = absurd (let f : false ≡ true = h in cc)
anew (Some w) a b h = refl

module _ (channel : ℕ) (known : List Param) (few : length known ≤ 16) where
  holds_on : (es : List Entry) (event : ParamEvent) → (is_clear event ≡ false → Holds known es) → IsOfKnown known event → Holds known (entered_on es event)
  holds_on es (Entered param high value) h k = holds_entered known es high param value few (h refl) k
  holds_on es Cleared h k = holds_none known
  holds_on es Other h k = h refl

  holds_next : (es : List Entry) (x : Place) (xs : List Place) → (list_any (clears channel) (x ∷ xs) ≡ false → Holds known es) → Knows channel known (x ∷ xs) → list_any (clears channel) xs ≡ false → Holds known (entered_step channel es x)
  holds_next es x xs h k n = holds_on es (event_at channel x) (λ c. h (rw c n)) (k.0 n)

  -- Where the parameters since the last Reset State command are known, what was entered is of them.
  pub holds_behind : (es : List Entry) (xs : List Place) → (list_any (clears channel) xs ≡ false → Holds known es) → Knows channel known xs → Holds known (fold (entered_step channel) es xs)
  holds_behind es [] h k = h refl
  holds_behind es (x ∷ xs) h k = holds_behind (entered_step channel es x) xs (λ n. holds_next es x xs h k n) k.1

  module _ (param : Param) (high : Bool) where
    abbrev half : List Entry → Option ℕ
    half es = half_of high (halves_in es param)

    half_on : (es : List Entry) (event : ParamEvent) → (is_clear event ≡ false → Holds known es) → IsOfKnown known event → half (entered_on es event) ≡ said (event_says param high event) (half es)
    half_on es (Entered other other_high value) h k = half_entered known es param high other other_high value few (h refl) k
    half_on es Cleared h k = none high
      where
        none : (b : Bool) → half_of b (halves_in [] param) ≡ None
        none true = refl
        none false = refl
    half_on es Other h k = refl

    -- A half is what the last place that speaks of it says.
    pub half_behind : (es : List Entry) (xs : List Place) → (list_any (clears channel) xs ≡ false → Holds known es) → Knows channel known xs →
        half (fold (entered_step channel) es xs) ≡ said (final (place_says channel param high) xs) (half es)
    half_behind es [] h k = refl
    half_behind es (x ∷ xs) h k =
        let later = final (place_says channel param high) xs in
        half_behind (entered_step channel es x) xs (λ n. holds_next es x xs h k n) k.1
        ∙ elim (cases_Bool (list_any (clears channel) xs)) [
          | inl t ↦ anew later (half (entered_step channel es x)) (said (place_says channel param high x) (half es)) (clears_speak channel param high xs t)
          | inr n ↦ ap (said later) (half_on es (event_at channel x) (λ c. h (rw c n)) (k.0 n))
        ]
        ∙ said-over later (place_says channel param high x) (half es)

-- ## The state of a channel

pub selection_same : (s : Option Selection) (command : ParamCommand) → selection_from (selection_behind s command) ≡ selection_after (selection_from s) command
selection_same s (Select nrpn high value) = refl
selection_same s (Enter high value) = refl
selection_same s Unselect = refl
selection_same s Clear = refl
selection_same s Pass = refl

pub selected_same : (s : Option Selection) → selected_by s ≡ selected_param (selection_from s)
selected_same None = refl
selected_same (Some s) = refl

entered_same : (o : Option Param) (high : Bool) (value : ℕ) (es : List Entry) → entered_if o high value es ≡ entered_on es (entry high value o)
entered_same None high value es = refl
entered_same (Some p) high value es = refl

event_same : (s : Selection) (command : ParamCommand) (es : List Entry) → entered_behind (selected_param s) command es ≡ entered_on es (param_event s command)
event_same s (Select nrpn high value) es = refl
event_same s (Enter high value) es = entered_same (selected_param s) high value es
event_same s Unselect es = refl
event_same s Clear es = refl
event_same s Pass es = refl

-- What is entered in a state is told by the places, each with the selection before it.
pub entered_places : (channel : ℕ) (s : State) (selection : Selection) (sent : List Sent) → channel < 16 → IsState s → selection_from (selection_of s channel) ≡ selection →
    entered_of (state_behind s sent) channel ≡ fold (entered_step channel) (entered_of s channel) (placed channel selection sent)
entered_places channel s selection [] l is e = refl
entered_places channel s selection (x ∷ xs) l is e =
    let command = param_command channel x.command in
    let parts = by_part s x.command is in
    let same : selection_from (selection_of (applied s x.command) channel) ≡ selection_step channel selection x =
    ap selection_from (parts.selection channel l) ∙ selection_same (selection_of s channel) command ∙ ap (λ (k : Selection). selection_after k command) e in
    let here : entered_of (applied s x.command) channel ≡ entered_step channel (entered_of s channel) (selection, x) =
    parts.entered channel l
    ∙ ap (λ (o : Option Param). entered_behind o command (entered_of s channel)) (selected_same (selection_of s channel) ∙ ap selected_param e)
    ∙ event_same selection command (entered_of s channel) in
    entered_places channel (applied s x.command) (selection_step channel selection x) xs l (state_after_is s x.command is) same
    ∙ ap (λ (es : List Entry). fold (entered_step channel) es (placed channel (selection_step channel selection x) xs)) here

-- the parameters of a session
pub entered_session : (channel : ℕ) (sent : List Sent) → channel < 16 → entered_of (state_behind no_state sent) channel ≡ fold (entered_step channel) [] (session_places channel sent)
entered_session channel sent l =
    let none : selection_from (selection_of no_state channel) ≡ no_selection = ap (λ c. selection_from c.selection) (no_channel_at channel l) in
    entered_places channel no_state no_selection sent l no_state_is none
    ∙ ap (λ (es : List Entry). fold (entered_step channel) es (session_places channel sent)) (ap (λ c. c.entered) (no_channel_at channel l))
