-- How many parameters are coded, when a command is sent or the checkpoint goes on.
use Rattle.std.proofs.Common.{◌≡◌, ℕ, ◌+◌, ◌≤◌, Bool, true, false, not, cond, eqb, leb, ◌⊎◌, List, [], ◌∷◌, ◌++◌, Option, Some, None, fold, length, refl, sym, ap, ◌∙◌, arith, inl, inr, length-append}
use Rattle.std.specs.List.{list_any, filter, filter_map, cons_option}
use Rattle.std.proofs.lemmas.Bool.{cases_Bool, or_cases, or_parts, eqb-false}
use Rattle.std.proofs.lemmas.List.Elements.{filter_map-append}
use Rattle.jm_cmds.specs.declared.commands.Command.{Command}
use Rattle.jm_cmds.specs.declared.commands.Command.TheVariants.{Control}
use Rattle.jm_cmds.specs.declared.controls.ControlKind.{ControlKind}
use Rattle.jm_cmds.specs.declared.controls.ControlKind.TheVariants.{DataEntry}
use Rattle.jm_cmds.specs.declared.history.Sent.{Sent}
use Rattle.jm_cmds.specs.Control.{is_entry, control_kind, control_number, is_reset}
use Rattle.jm_cmds.specs.ControlLaws.{control_number-control_kind}
use Rattle.jm_cmds.specs.History.{coded, below}
use Rattle.jm_cmds.specs.HistoryLaws.{coded-push, coded-later, scanned-push}
use Rattle.jm_cmds.specs.Sent.{packet_of}
use Rattle.jm_cmds.specs.declared.param.Param.{Param}
use Rattle.jm_cmds.specs.declared.selection.ParamCommand.{ParamCommand}
use Rattle.jm_cmds.specs.declared.selection.ParamCommand.TheVariants.{Enter, Clear, Pass}
use Rattle.jm_cmds.specs.declared.selection.Selection.{Selection}
use Rattle.ch_param.specs.declared.events.ParamEvent.{ParamEvent}
use Rattle.ch_param.specs.declared.events.ParamEvent.TheVariants.{Entry, Cleared, Other}
use Rattle.jm_cmds.specs.Param.{same_param}
use Rattle.jm_cmds.specs.Selection.{no_selection, param_command, control_command, selected_param, is_data_entry}
use Rattle.ch_param.specs.Event.{Place, selection_step, packet_at, event_at, param_event, param_event_ends, param_ends}
use Rattle.ch_param.specs.ChapterM.{Entered, entered, entered_at, entered_by, event_param, session_places, param_logs, fresh_among, chapter_of, chapter_m, param_count, has_param, param_parts, selected}
use Rattle.jm_cmds.specs.ParamLaws.{same_param-equal}
use Rattle.ch_param.specs.LogLaws.{logs_short}

-- ## Lists of which some items are kept

filter_shorter : {X Y : Type 0} (f : X → Option Y) (p : X → Bool) (xs : List X) → length (filter_map f (filter p xs)) ≤ length (filter_map f xs)
filter_shorter f p [] = omega arith
filter_shorter f p (x ∷ xs) =
    let ih = filter_shorter f p xs in
    elim (cases_Bool (p x)) [ inl t ↦ rw t (one (f x) ih) | inr n ↦ rw n (none (f x) ih) ]
  where
    one : (o : Option _) → length (filter_map f (filter p xs)) ≤ length (filter_map f xs) → length (cons_option o (filter_map f (filter p xs))) ≤ length (cons_option o (filter_map f xs))
    one None h = h
    one (Some y) h = omega (arith, h)

    none : (o : Option _) → length (filter_map f (filter p xs)) ≤ length (filter_map f xs) → length (filter_map f (filter p xs)) ≤ length (cons_option o (filter_map f xs))
    none None h = h
    none (Some y) h = omega (arith, h)

-- where an item that is kept by f and passes a test is among them, and a filter drops all such
filter_drops : {X Y : Type 0} (f : X → Option Y) (test : Y → Bool) (p : X → Bool) (drops : (x : X) (y : Y) → f x ≡ Some y → test y ≡ true → p x ≡ false) (xs : List X) →
    list_any test (filter_map f xs) ≡ true → length (filter_map f (filter p xs)) + 1 ≤ length (filter_map f xs)
filter_drops f test p drops [] h = cc
filter_drops f test p drops (x ∷ xs) h = one (f x) refl h (filter_drops f test p drops xs)
  where
    less : length (filter_map f (filter p xs)) ≤ length (filter_map f xs)
    less = filter_shorter f p xs

    more : (o : Option _) → f x ≡ o → length (filter_map f (filter p xs)) + 1 ≤ length (filter_map f xs) → length (filter_map f (filter p (x ∷ xs))) + 1 ≤ length (cons_option o (filter_map f xs))
    more None e ih = elim (cases_Bool (p x)) [ inl t ↦ rw (t, e) ih | inr n ↦ rw n ih ]
    more (Some y) e ih = elim (cases_Bool (p x)) [ inl t ↦ rw (t, e) (omega (arith, ih)) | inr n ↦ rw n (omega (arith, ih)) ]

    one : (o : Option _) → f x ≡ o → list_any test (cons_option o (filter_map f xs)) ≡ true →
        (list_any test (filter_map f xs) ≡ true → length (filter_map f (filter p xs)) + 1 ≤ length (filter_map f xs)) →
        length (filter_map f (filter p (x ∷ xs))) + 1 ≤ length (cons_option o (filter_map f xs))
    one None e t ih = more None e (ih t)
    one (Some y) e t ih =
        elim (or_cases (test y) (list_any test (filter_map f xs)) t) [
          | inl a ↦ rw (drops x y e a) (omega (arith, less))
          | inr b ↦ more (Some y) e (ih b)
        ]

-- ## One place more

-- the places that are coded, and that this one leaves
left : (channel checkpoint : ℕ) → List Place → Place → List Place
left channel checkpoint places place = filter (λ x. not (param_ends channel x place)) (coded (param_ends channel) packet_at checkpoint places)

entered-push : (channel checkpoint : ℕ) (places : List Place) (place : Place) → checkpoint ≤ packet_at place →
    length (entered channel checkpoint (places ++ place ∷ [])) ≡ length (filter_map (entered_at channel) (left channel checkpoint places place)) + length (cons_option (entered_at channel place) [])
unfolding left
entered-push channel checkpoint places place l =
    ap (λ (k : List Place). length (filter_map (entered_at channel) k)) (coded-push (param_ends channel) packet_at checkpoint places place l)
    ∙ ap length (filter_map-append (entered_at channel) (left channel checkpoint places place) (place ∷ []))
    ∙ length-append (filter_map (entered_at channel) (left channel checkpoint places place)) (cons_option (entered_at channel place) [])

left_shorter : (channel checkpoint : ℕ) (places : List Place) (place : Place) → length (filter_map (entered_at channel) (left channel checkpoint places place)) ≤ length (entered channel checkpoint places)
unfolding left
left_shorter channel checkpoint places place =
    filter_shorter (entered_at channel) (λ x. not (param_ends channel x place)) (coded (param_ends channel) packet_at checkpoint places)

at_most_one : {Y : Type 0} (o : Option Y) → length (cons_option o []) ≤ 1
at_most_one None = omega arith
at_most_one (Some y) = omega arith

-- one that enters nothing makes them no more
push-none : (channel checkpoint : ℕ) (places : List Place) (place : Place) → checkpoint ≤ packet_at place → event_param (event_at channel place) ≡ None →
    length (entered channel checkpoint (places ++ place ∷ [])) ≤ length (entered channel checkpoint places)
push-none channel checkpoint places place l e =
    let none : length (cons_option (entered_at channel place) []) ≡ 0 = ap (λ (o : Option Param). length (cons_option (entered_by place.1 o) [])) e in
    omega (arith, entered-push channel checkpoint places place l, left_shorter channel checkpoint places place, none)

same_turned : (a b : Param) → same_param a b ≡ true → same_param b a ≡ true
same_turned a b t = let p = same_param-equal a b t in rw (← p) (rw (← p) at t)

drops_event : (param : Param) (event later : ParamEvent) (sent : Sent) (e : Entered) → event_param later ≡ Some param → entered_by sent (event_param event) ≡ Some e → same_param param e.param ≡ true → param_event_ends event later ≡ true
drops_event param (Entry other high value) (Entry this half v) sent e l h t =
    let p : this ≡ param = cc in
    let q : record { param = other; latest = sent } ≡ e = cc in
    let r : other ≡ e.param = ap (λ (k : Entered). k.param) q in
    rw (p, r) (same_turned param e.param t)
drops_event param (Entry other high value) Cleared sent e l h t = refl
drops_event param (Entry other high value) Other sent e l h t = cc
drops_event param Cleared later sent e l h t = cc
drops_event param Other later sent e l h t = cc

-- nor does one that enters a parameter that is coded
push-met : (channel checkpoint : ℕ) (places : List Place) (place : Place) (param : Param) → checkpoint ≤ packet_at place → event_param (event_at channel place) ≡ Some param →
    list_any (λ (e : Entered). same_param param e.param) (entered channel checkpoint places) ≡ true →
    length (entered channel checkpoint (places ++ place ∷ [])) ≤ length (entered channel checkpoint places)
unfolding left
push-met channel checkpoint places place param l e h =
    let less = filter_drops (entered_at channel) (λ (k : Entered). same_param param k.param) (λ x. not (param_ends channel x place))
    (λ x k f t. ap not (drops_event param (event_at channel x) (event_at channel place) x.1 k e f t)) (coded (param_ends channel) packet_at checkpoint places) h in
    omega (arith, entered-push channel checkpoint places place l, less, at_most_one (entered_at channel place))

-- ## One command more

-- the place of a command that is sent behind all others
last_place : (channel : ℕ) → List Sent → Sent → Place
last_place channel sent x = (fold (selection_step channel) no_selection sent, x)

session-push : (channel : ℕ) (sent : List Sent) (x : Sent) → session_places channel (sent ++ x ∷ []) ≡ session_places channel sent ++ last_place channel sent x ∷ []
unfolding last_place
session-push channel sent x = scanned-push (selection_step channel) no_selection sent x

count-push : (channel checkpoint : ℕ) (sent : List Sent) (x : Sent) → param_count channel checkpoint (sent ++ x ∷ []) ≡ length (entered channel checkpoint (session_places channel sent ++ last_place channel sent x ∷ []))
unfolding param_count
count-push channel checkpoint sent x = ap (λ (k : List Place). length (entered channel checkpoint k)) (session-push channel sent x)

-- One more command makes the coded parameters at most one more.
pub param_count-push : (channel checkpoint : ℕ) (sent : List Sent) (x : Sent) → checkpoint ≤ x.packet → param_count channel checkpoint (sent ++ x ∷ []) ≤ param_count channel checkpoint sent + 1
unfolding param_count last_place
param_count-push channel checkpoint sent x l =
    let places = session_places channel sent in
    let place = last_place channel sent x in
    omega (arith, count-push channel checkpoint sent x, entered-push channel checkpoint places place l, left_shorter channel checkpoint places place, at_most_one (entered_at channel place))

no_entry : (s : Selection) (kind : ControlKind) (number value : ℕ) → control_number kind ≡ number → is_entry number ≡ false → event_param (param_event s (control_command kind value)) ≡ None
unfolding is_entry
no_entry s (DataEntry true) number value k n = absurd (eqb-false number 6 (or_parts (eqb number 6) (eqb number 38) n).0 (sym k))
no_entry s (DataEntry false) number value k n = absurd (eqb-false number 38 (or_parts (eqb number 6) (eqb number 38) n).1 (sym k))
no_entry s kind number value k n = refl

no_control : (s : Selection) (is_clear : Bool) → event_param (param_event s (cond is_clear Clear Pass)) ≡ None
no_control s true = refl
no_control s false = refl

no_data_entry : (channel : ℕ) (s : Selection) (command : Command) → is_data_entry channel command ≡ false → event_param (param_event s (param_command channel command)) ≡ None
no_data_entry channel s (Control at number value) n =
    elim (cases_Bool (eqb at channel)) [
      | inl t ↦ rw t (no_entry s (control_kind number) number value (control_number-control_kind number) (rw t at n))
      | inr f ↦ rw f refl
    ]
no_data_entry channel s command n = no_control s (is_reset command)

count-none : (channel checkpoint : ℕ) (sent : List Sent) (x : Sent) → checkpoint ≤ x.packet → event_param (event_at channel (last_place channel sent x)) ≡ None → param_count channel checkpoint (sent ++ x ∷ []) ≤ param_count channel checkpoint sent
unfolding param_count last_place
count-none channel checkpoint sent x l e =
    omega (arith, count-push channel checkpoint sent x, push-none channel checkpoint (session_places channel sent) (last_place channel sent x) l e)

-- One that isn't Control 6 or 38 of the channel makes them no more.
pub param_count-other : (channel checkpoint : ℕ) (sent : List Sent) (x : Sent) → checkpoint ≤ x.packet → is_data_entry channel x.command ≡ false → param_count channel checkpoint (sent ++ x ∷ []) ≤ param_count channel checkpoint sent
unfolding last_place
param_count-other channel checkpoint sent x l n =
    count-none channel checkpoint sent x l (no_data_entry channel (fold (selection_step channel) no_selection sent) x.command n)

no_parts : (o : Option Param) → param_parts o ≡ None → o ≡ None
no_parts None e = refl
no_parts (Some param) e = cc

unselected : (s : Selection) (command : ParamCommand) → selected_param s ≡ None → event_param (param_event s command) ≡ None
unselected s (Enter high value) e = rw e refl
unselected s command e = refl

-- Nor does one where no parameter is selected.
pub param_count-unselected : (channel checkpoint : ℕ) (sent : List Sent) (x : Sent) → checkpoint ≤ x.packet → selected channel sent ≡ None → param_count channel checkpoint (sent ++ x ∷ []) ≤ param_count channel checkpoint sent
unfolding last_place selected
param_count-unselected channel checkpoint sent x l n =
    let s = fold (selection_step channel) no_selection sent in
    count-none channel checkpoint sent x l (unselected s (param_command channel x.command) (no_parts (selected_param s) n))

its_parts : (o : Option Param) (nrpn : Bool) (high low : ℕ) → param_parts o ≡ Some (nrpn, high, low) → o ≡ Some (record { nrpn = nrpn; high = high; low = low })
its_parts None nrpn high low e = cc
its_parts (Some param) nrpn high low e =
    let parts : (param.nrpn, param.high, param.low) ≡ (nrpn, high, low) = cc in
    ap (λ (t : Bool × ℕ × ℕ). Some (let p : Param = record { nrpn = t.0; high = t.1; low = t.2 } in p)) parts

enters_selected : (s : Selection) (command : ParamCommand) (param : Param) → selected_param s ≡ Some param → (event_param (param_event s command) ≡ None) ⊎ (event_param (param_event s command) ≡ Some param)
enters_selected s (Enter high value) param e = inr (rw e refl)
enters_selected s command param e = inl refl

-- Nor does one where the selected parameter is coded.
pub param_count-met : (channel checkpoint : ℕ) (sent : List Sent) (x : Sent) (nrpn : Bool) (high low : ℕ) → checkpoint ≤ x.packet → selected channel sent ≡ Some (nrpn, high, low) → has_param channel checkpoint nrpn high low sent ≡ true →
    param_count channel checkpoint (sent ++ x ∷ []) ≤ param_count channel checkpoint sent
unfolding param_count last_place selected has_param
param_count-met channel checkpoint sent x nrpn high low l s h =
    let before = fold (selection_step channel) no_selection sent in
    let param : Param = record { nrpn = nrpn; high = high; low = low } in
    let place = last_place channel sent x in
    elim (enters_selected before (param_command channel x.command) param (its_parts (selected_param before) nrpn high low s)) [
      | inl none ↦ count-none channel checkpoint sent x l none
      | inr some ↦ omega (arith, count-push channel checkpoint sent x, push-met channel checkpoint (session_places channel sent) place param l some h)
    ]

-- A later checkpoint makes them no more.
pub param_count-later : (channel checkpoint later : ℕ) (sent : List Sent) → checkpoint ≤ later → param_count channel later sent ≤ param_count channel checkpoint sent
unfolding param_count
param_count-later channel checkpoint later sent l =
    let places = session_places channel sent in
    let less = filter_shorter (entered_at channel) (λ x. leb later (packet_at x)) (coded (param_ends channel) packet_at checkpoint places) in
    rw (coded-later (param_ends channel) packet_at checkpoint later places l) at less

pub param_count-none : (channel checkpoint : ℕ) → param_count channel checkpoint [] ≡ 0
unfolding param_count
param_count-none channel checkpoint = refl

-- How the number of coded parameters changes as commands are sent and the checkpoint grows.
pub record ParamLimits : Type 0 where
  -- One more command makes them at most one more.
  pub one_more : (channel checkpoint : ℕ) (sent : List Sent) (last : Sent) → checkpoint ≤ last.packet → param_count channel checkpoint (sent ++ last ∷ []) ≤ param_count channel checkpoint sent + 1
  -- One that is no Control 6 or 38 of the channel makes them no more.
  pub other : (channel checkpoint : ℕ) (sent : List Sent) (last : Sent) → checkpoint ≤ last.packet → is_data_entry channel last.command ≡ false
      → param_count channel checkpoint (sent ++ last ∷ []) ≤ param_count channel checkpoint sent
  -- Nor does one where no parameter is selected.
  pub unselected : (channel checkpoint : ℕ) (sent : List Sent) (last : Sent) → checkpoint ≤ last.packet → selected channel sent ≡ None
      → param_count channel checkpoint (sent ++ last ∷ []) ≤ param_count channel checkpoint sent
  -- Nor does one where the selected parameter is coded.
  pub met : (channel checkpoint : ℕ) (sent : List Sent) (last : Sent) (nrpn : Bool) (high low : ℕ) → checkpoint ≤ last.packet → selected channel sent ≡ Some (nrpn, high, low)
      → has_param channel checkpoint nrpn high low sent ≡ true → param_count channel checkpoint (sent ++ last ∷ []) ≤ param_count channel checkpoint sent
  -- A later checkpoint makes them no more.
  pub fewer : (channel checkpoint later : ℕ) (sent : List Sent) → checkpoint ≤ later → param_count channel later sent ≤ param_count channel checkpoint sent
  -- No command, no parameter.
  pub none : (channel checkpoint : ℕ) → param_count channel checkpoint [] ≡ 0

-- ## The chapter's length

-- two octets of the header, and five of each log
pub length-chapter_m-le : (channel checkpoint packet : ℕ) (sent : List Sent) → param_count channel checkpoint (below packet_of packet sent) ≤ 16 → length (chapter_m channel checkpoint packet sent) ≤ 82
unfolding param_count chapter_m
length-chapter_m-le channel checkpoint packet sent few =
    let places = session_places channel (below packet_of packet sent) in
    let params = entered channel checkpoint places in
    let short = logs_short channel checkpoint packet places params in
    short_chapter (fresh_among packet params) (param_logs channel checkpoint packet places) (omega (arith, short, few))
  where
    short_chapter : (fresh : Bool) (logs : List ℕ) → length logs ≤ 80 → length (chapter_of fresh logs) ≤ 82
    short_chapter fresh logs l = elim (cases_Bool (eqb (length logs) 0)) [ inl t ↦ rw t (omega arith) | inr f ↦ rw f (omega (arith, l)) ]
