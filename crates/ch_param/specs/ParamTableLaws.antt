-- The table of Chapter M stands for what the chapter codes.
use Rattle.std.proofs.Common.{◌≡◌, ℕ, ◌+◌, ◌<◌, ◌≤◌, Bool, true, false, cond, not, ◌||◌, ◌&&◌, eqb, leb, List, [], ◌∷◌, ◌++◌, Option, Some, None, length, fold, refl, sym, ap, ◌∙◌, arith, inl, inr}
use Rattle.std.specs.Prelude.{option_to_list}
use Rattle.std.proofs.Math.Bool.{beq}
use Rattle.std.specs.List.{list_any, flat_map, filter, filter_map, cons_option, AllByRecursion}
use Rattle.std.proofs.lemmas.Bool.{cases_Bool}
use Rattle.std.proofs.lemmas.List.Elements.{filter_map-append}
use Rattle.std.proofs.lemmas.List.Sums.{fold-append}
use Rattle.jm_cmds.specs.declared.commands.Command.{Command}
use Rattle.jm_cmds.specs.declared.commands.Command.TheVariants as commands
use Rattle.jm_cmds.specs.declared.history.Sent.{Sent}
use Rattle.jm_cmds.specs.declared.param.Param.{Param}
use Rattle.jm_cmds.specs.Channels.{own_channel, IsForChannel, SystemMeansOne, own-event}
use Rattle.jm_cmds.specs.History.{coded, standing, since, Unended, InOrder}
use Rattle.jm_cmds.specs.HistoryLaws.{coded-push, coded-later, scanned-push, Unended-coded, InOrder-scanned}
use Rattle.jm_cmds.specs.KeptItem.{all_below}
use Rattle.jm_cmds.specs.Param.{same_param}
use Rattle.jm_cmds.specs.Selection.{param_command, no_selection, selected_param}
use Rattle.jm_cmds.specs.Sent.{packet_of}
use Rattle.ch_param.specs.declared.events.ParamEvent.{ParamEvent}
use Rattle.ch_param.specs.declared.events.ParamEvent.TheVariants.{Entry, Cleared, Other}
use Rattle.ch_param.specs.declared.param_table.HalfRow.{HalfRow}
use Rattle.ch_param.specs.Event.{Place, param_event, selection_step, packet_at, event_at, takes_half, takes_param, param_event_ends, half_event_ends, param_ends, half_ends}
use Rattle.ch_param.specs.LaterLaws.{entered-halves}
use Rattle.ch_param.specs.ChapterM.{Entered, event_param, entered_by, entered_at, entered, is_half, event_value, half_among, param_log, entered_log, param_logs, fresh_among, chapter_of, session_places, chapter_m, fresh_m, param_count, has_param, param_parts, selected}
use Rattle.ch_param.specs.ParamTable.{half_row, half_row_at, params_kept, is_left, halves_noted, param_noted, rows_since, param_cut, last_halves, half_of, row_log, row_logs, rows_fresh, has_row, params_text}

-- ## What a command means for its own channel

param_system : SystemMeansOne param_command
param_system commands.TuneRequest h a b = refl
param_system commands.Clock h a b = refl
param_system commands.Start h a b = refl
param_system commands.Continue h a b = refl
param_system commands.Stop h a b = refl
param_system commands.ActiveSensing h a b = refl
param_system commands.SystemReset h a b = refl
param_system (commands.QuarterFrame value) h a b = refl
param_system (commands.SongPosition value) h a b = refl
param_system (commands.SongSelect song) h a b = refl
param_system (commands.Sysex octets) h a b = refl
param_system (commands.NoteOff channel note velocity) h a b = absurd cc
param_system (commands.NoteOn channel note velocity) h a b = absurd cc
param_system (commands.PolyPressure channel note value) h a b = absurd cc
param_system (commands.Control channel number value) h a b = absurd cc
param_system (commands.Program channel program) h a b = absurd cc
param_system (commands.Pressure channel value) h a b = absurd cc
param_system (commands.Wheel channel first second) h a b = absurd cc

-- ## One command more

-- the half of a place, where it isn't ended
left_one : (e event : ParamEvent) (packet : ℕ) (left rows : List HalfRow) → left ≡ filter (is_left e) rows →
    cond (not (half_event_ends event e)) (cons_option (half_row packet event) left) left ≡ filter (is_left e) (cons_option (half_row packet event) rows)
left_one e (Entry param high value) packet left rows h =
    ap (λ (l : List HalfRow). cond (not (takes_half param high e)) (record { packet = packet; param = param; high = high; value = value } ∷ l) l) h
left_one e Cleared packet left rows h = h
left_one e Other packet left rows h = h

map_cond : (f : Place → Option HalfRow) (x : Place) (xs : List Place) (b : Bool) → filter_map f (cond b (x ∷ xs) xs) ≡ cond b (cons_option (f x) (filter_map f xs)) (filter_map f xs)
map_cond f x xs true = refl
map_cond f x xs false = refl

left_all : (channel : ℕ) (e : ParamEvent) (xs : List Place) →
    filter_map (half_row_at channel) (filter (λ x. not (half_event_ends (event_at channel x) e)) xs) ≡ filter (is_left e) (filter_map (half_row_at channel) xs)
left_all channel e [] = refl
left_all channel e (x ∷ xs) =
    let rest = filter (λ x. not (half_event_ends (event_at channel x) e)) xs in
    map_cond (half_row_at channel) x rest (not (half_event_ends (event_at channel x) e))
    ∙ left_one e (event_at channel x) (packet_at x) (filter_map (half_row_at channel) rest) (filter_map (half_row_at channel) xs) (left_all channel e xs)

as_list : {X : Type 0} (o : Option X) → cons_option o [] ≡ option_to_list o
as_list None = refl
as_list (Some x) = refl

halves_push : (channel from : ℕ) (y : Sent) (sent : List Sent) → from ≤ y.packet →
    filter_map (half_row_at channel) (coded (half_ends channel) packet_at from (session_places channel (sent ++ y ∷ [])))
    ≡ halves_noted (param_event (fold (selection_step channel) no_selection sent) (param_command channel y.command)) y.packet
    (filter_map (half_row_at channel) (coded (half_ends channel) packet_at from (session_places channel sent)))
halves_push channel from y sent l =
    let s = fold (selection_step channel) no_selection sent in
    let last : Place = (s, y) in
    let e = event_at channel last in
    let places = session_places channel sent in
    let old = coded (half_ends channel) packet_at from places in
    let rest = filter (λ x. not (half_ends channel x last)) old in
    ap (λ (ps : List Place). filter_map (half_row_at channel) (coded (half_ends channel) packet_at from ps)) (scanned-push (selection_step channel) no_selection sent y)
    ∙ ap (filter_map (half_row_at channel)) (coded-push (half_ends channel) packet_at from places last l)
    ∙ filter_map-append (half_row_at channel) rest (last ∷ [])
    ∙ ap (λ (k : List HalfRow). k ++ cons_option (half_row_at channel last) []) (left_all channel e old)
    ∙ ap (λ (k : List HalfRow). filter (is_left e) (filter_map (half_row_at channel) old) ++ k) (as_list (half_row_at channel last))

pub params_push : (channel from packet tick : ℕ) (command : Command) (sent : List Sent) → IsForChannel channel command → from ≤ packet →
    param_noted (param_command (own_channel command) command) packet (params_kept channel from sent)
    ≡ params_kept channel from (sent ++ record { packet = packet; tick = tick; command = command } ∷ [])
unfolding params_kept
params_push channel from packet tick command sent h l =
    let y : Sent = record { packet = packet; tick = tick; command = command } in
    ap (λ c. param_noted c packet (params_kept channel from sent)) (own-event param_command param_system channel command h)
    ∙ sym (rw (fold-append (selection_step channel) no_selection sent (y ∷ []), halves_push channel from y sent l) refl)

since_one : (later packet : ℕ) (event : ParamEvent) (rows : List HalfRow) → leb later packet ≡ true → rows_since later (cons_option (half_row packet event) rows) ≡ cons_option (half_row packet event) (rows_since later rows)
since_one later packet (Entry param high value) rows t = rw t refl
since_one later packet Cleared rows t = refl
since_one later packet Other rows t = refl

since_none : (later packet : ℕ) (event : ParamEvent) (rows : List HalfRow) → leb later packet ≡ false → rows_since later (cons_option (half_row packet event) rows) ≡ rows_since later rows
since_none later packet (Entry param high value) rows t = rw t refl
since_none later packet Cleared rows t = refl
since_none later packet Other rows t = refl

halves_since : (channel later : ℕ) (xs : List Place) → filter_map (half_row_at channel) (since packet_at later xs) ≡ rows_since later (filter_map (half_row_at channel) xs)
halves_since channel later [] = refl
halves_since channel later (x ∷ xs) =
    let ih = halves_since channel later xs in
    elim (cases_Bool (leb later (packet_at x))) [
      | inl t ↦ rw t (ap (cons_option (half_row_at channel x)) ih) ∙ sym (since_one later (packet_at x) (event_at channel x) (filter_map (half_row_at channel) xs) t)
      | inr n ↦ rw n ih ∙ sym (since_none later (packet_at x) (event_at channel x) (filter_map (half_row_at channel) xs) n)
    ]

pub params_later : (channel from later : ℕ) (sent : List Sent) → from ≤ later → params_kept channel later sent ≡ param_cut later (params_kept channel from sent)
unfolding params_kept
params_later channel from later sent l =
    let places = session_places channel sent in
    let same = ap (filter_map (half_row_at channel)) (sym (coded-later (half_ends channel) packet_at from later places l)) ∙ halves_since channel later (coded (half_ends channel) packet_at from places) in
    rw same refl

pub params_none : (channel : ℕ) → params_kept channel 0 [] ≡ record { selection = no_selection; halves = [] }
unfolding params_kept
params_none channel = refl

pub params_selected : (channel from : ℕ) (sent : List Sent) → param_parts (selected_param (params_kept channel from sent).selection) ≡ selected channel sent
unfolding params_kept selected
params_selected channel from sent = refl

-- ## The parameters are those of the halves

any_none : {X : Type 0} (xs : List X) → list_any (λ x. false) xs ≡ false
any_none [] = refl
any_none (x ∷ xs) = any_none xs

again_one : (param : Param) (high : Bool) (packet : ℕ) (event : ParamEvent) (rows : List HalfRow) (b : Bool) → takes_half param high event ≡ false → b ≡ list_any (λ row. same_param param row.param) rows →
    (takes_param param event || b) ≡ list_any (λ row. same_param param row.param) (cons_option (half_row packet event) rows)
again_one param high packet (Entry other half value) rows b f e = ap (λ t. same_param param other || t) e
again_one param high packet Cleared rows b f e = absurd (let g : true ≡ false = f in cc)
again_one param high packet Other rows b f e = e

-- a later place ends a parameter where a later half is of it
again_all : (channel : ℕ) (param : Param) (high : Bool) (xs : List Place) → AllByRecursion (λ y. takes_half param high (event_at channel y) ≡ false) xs →
    list_any (λ y. takes_param param (event_at channel y)) xs ≡ list_any (λ row. same_param param row.param) (filter_map (half_row_at channel) xs)
again_all channel param high [] h = refl
again_all channel param high (x ∷ xs) h =
    again_one param high (packet_at x) (event_at channel x) (filter_map (half_row_at channel) xs) (list_any (λ y. takes_param param (event_at channel y)) xs) h.0 (again_all channel param high xs h.1)

-- what a place adds to a list by its parameter, and what its half adds
text_one : {Y : Type 0} (channel : ℕ) (f : Entered → List Y) (g : HalfRow → List Y) (agree : (param : Param) (high : Bool) (value : ℕ) (at : Sent) → f (record { param = param; latest = at }) ≡ g (record { packet = at.packet; param = param; high = high; value = value }))
    (event : ParamEvent) (sent : Sent) (xs : List Place) → AllByRecursion (λ y. half_event_ends event (event_at channel y) ≡ false) xs →
    flat_map f (filter_map (entered_at channel) (standing (param_ends channel) xs)) ≡ flat_map g (last_halves (filter_map (half_row_at channel) xs)) →
    cond (list_any (λ y. param_event_ends event (event_at channel y)) xs) (flat_map f (filter_map (entered_at channel) (standing (param_ends channel) xs)))
    (flat_map f (cons_option (entered_by sent (event_param event)) (filter_map (entered_at channel) (standing (param_ends channel) xs))))
    ≡ flat_map g (last_halves (cons_option (half_row sent.packet event) (filter_map (half_row_at channel) xs)))
text_one channel f g agree (Entry param high value) sent xs h ih =
    let row : HalfRow = record { packet = sent.packet; param = param; high = high; value = value } in
    let again = again_all channel param high xs h in
    let rows = filter_map (half_row_at channel) xs in
    elim (cases_Bool (list_any (λ row. same_param param row.param) rows)) [
      | inl t ↦ rw (again, t) ih
      | inr n ↦ rw (again, n, agree param high value sent) (ap (λ l. g row ++ l) ih)
    ]
text_one channel f g agree Cleared sent xs h ih =
    elim (cases_Bool (list_any (λ (y : Place). false) xs)) [ inl t ↦ rw t ih | inr n ↦ rw n ih ]
text_one channel f g agree Other sent xs h ih =
    elim (cases_Bool (list_any (λ (y : Place). false) xs)) [ inl t ↦ rw t ih | inr n ↦ rw n ih ]

standing_cond : {Y : Type 0} (channel : ℕ) (f : Entered → List Y) (x : Place) (xs : List Place) (b : Bool) →
    flat_map f (filter_map (entered_at channel) (cond b xs (x ∷ xs))) ≡ cond b (flat_map f (filter_map (entered_at channel) xs)) (flat_map f (cons_option (entered_at channel x) (filter_map (entered_at channel) xs)))
standing_cond channel f x xs true = refl
standing_cond channel f x xs false = refl

text_all : {Y : Type 0} (channel : ℕ) (f : Entered → List Y) (g : HalfRow → List Y) (agree : (param : Param) (high : Bool) (value : ℕ) (at : Sent) → f (record { param = param; latest = at }) ≡ g (record { packet = at.packet; param = param; high = high; value = value }))
    (xs : List Place) → Unended (half_ends channel) xs →
    flat_map f (filter_map (entered_at channel) (standing (param_ends channel) xs)) ≡ flat_map g (last_halves (filter_map (half_row_at channel) xs))
text_all channel f g agree [] h = refl
text_all channel f g agree (x ∷ xs) h =
    standing_cond channel f x (standing (param_ends channel) xs) (list_any (param_ends channel x) xs)
    ∙ text_one channel f g agree (event_at channel x) x.1 xs h.0 (text_all channel f g agree xs h.1)

-- the halves of a parameter
half_one : (param : Param) (high : Bool) (packet : ℕ) (event : ParamEvent) (a : Option ℕ) (rows : List HalfRow) → a ≡ half_of param high rows →
    cond (is_half param high event) (event_value event) a ≡ half_of param high (cons_option (half_row packet event) rows)
half_one param high packet (Entry other half value) a rows h = ap (λ (o : Option ℕ). cond (same_param param other && beq high half) (Some value) o) h
half_one param high packet Cleared a rows h = h
half_one param high packet Other a rows h = h

half_all : (channel : ℕ) (param : Param) (high : Bool) (xs : List Place) → half_among channel param high xs ≡ half_of param high (filter_map (half_row_at channel) xs)
half_all channel param high [] = refl
half_all channel param high (x ∷ xs) =
    half_one param high (packet_at x) (event_at channel x) (half_among channel param high xs) (filter_map (half_row_at channel) xs) (half_all channel param high xs)

-- ## The chapter

any_flat : {X Y : Type 0} (p : Y → Bool) (f : X → Y) (xs : List X) → list_any p (flat_map (λ x. f x ∷ []) xs) ≡ list_any (λ x. p (f x)) xs
any_flat p f [] = refl
any_flat p f (x ∷ xs) = ap (λ b. p (f x) || b) (any_flat p f xs)

length_flat : {X Y : Type 0} (f : X → Y) (xs : List X) → length (flat_map (λ x. f x ∷ []) xs) ≡ length xs
length_flat f [] = refl
length_flat f (x ∷ xs) = omega (arith, length_flat f xs)

-- the entered parameters tell what the latest halves tell
entered_text : {Y : Type 0} (channel from : ℕ) (f : Entered → List Y) (g : HalfRow → List Y) (agree : (param : Param) (high : Bool) (value : ℕ) (at : Sent) → f (record { param = param; latest = at }) ≡ g (record { packet = at.packet; param = param; high = high; value = value }))
    (sent : List Sent) → InOrder packet_of sent →
    flat_map f (entered channel from (session_places channel sent)) ≡ flat_map g (last_halves (filter_map (half_row_at channel) (coded (half_ends channel) packet_at from (session_places channel sent))))
entered_text channel from f g agree sent o =
    let places = session_places channel sent in
    ap (flat_map f) (entered-halves channel from places (InOrder-scanned packet_of (selection_step channel) no_selection sent o))
    ∙ text_all channel f g agree (coded (half_ends channel) packet_at from places) (Unended-coded (half_ends channel) packet_at from places)

logs_same : (channel from packet : ℕ) (sent : List Sent) → InOrder packet_of sent →
    param_logs channel from packet (session_places channel sent) ≡ row_logs packet (filter_map (half_row_at channel) (coded (half_ends channel) packet_at from (session_places channel sent)))
logs_same channel from packet sent o =
    let places = session_places channel sent in
    let halves = coded (half_ends channel) packet_at from places in
    entered_text channel from (entered_log channel from packet places) (row_log packet (filter_map (half_row_at channel) halves))
    (λ param high value at. rw (half_all channel param true halves, half_all channel param false halves) refl) sent o

fresh_same : (channel from packet : ℕ) (sent : List Sent) → InOrder packet_of sent →
    fresh_among packet (entered channel from (session_places channel sent)) ≡ rows_fresh packet (filter_map (half_row_at channel) (coded (half_ends channel) packet_at from (session_places channel sent)))
fresh_same channel from packet sent o =
    let places = session_places channel sent in
    let rows = filter_map (half_row_at channel) (coded (half_ends channel) packet_at from places) in
    sym (any_flat (λ n. eqb (n + 1) packet) (λ (e : Entered). e.latest.packet) (entered channel from places))
    ∙ ap (list_any (λ n. eqb (n + 1) packet)) (entered_text channel from (λ e. e.latest.packet ∷ []) (λ row. row.packet ∷ []) (λ param high value at. refl) sent o)
    ∙ any_flat (λ n. eqb (n + 1) packet) (λ (row : HalfRow). row.packet) (last_halves rows)

pub params_coded : (channel from packet : ℕ) (sent : List Sent) → InOrder packet_of sent → AllByRecursion (λ place. packet_of place < packet) sent →
    params_text packet (params_kept channel from sent).halves ≡ chapter_m channel from packet sent
unfolding params_kept chapter_m
params_coded channel from packet sent o h =
    let places = session_places channel sent in
    let rows = filter_map (half_row_at channel) (coded (half_ends channel) packet_at from places) in
    let text : List Sent → List ℕ = λ s. chapter_of (fresh_among packet (entered channel from (session_places channel s))) (param_logs channel from packet (session_places channel s)) in
    sym (
    ap text (all_below packet_of packet sent h)
    ∙ ap (λ (b : Bool). chapter_of b (param_logs channel from packet places)) (fresh_same channel from packet sent o)
    ∙ ap (λ (l : List ℕ). chapter_of (rows_fresh packet rows) l) (logs_same channel from packet sent o)
    )

pub params_fresh : (channel from packet : ℕ) (sent : List Sent) → InOrder packet_of sent → AllByRecursion (λ place. packet_of place < packet) sent →
    rows_fresh packet (params_kept channel from sent).halves ≡ fresh_m channel from packet sent
unfolding params_kept fresh_m
params_fresh channel from packet sent o h =
    sym (ap (λ (s : List Sent). fresh_among packet (entered channel from (session_places channel s))) (all_below packet_of packet sent h) ∙ fresh_same channel from packet sent o)

pub params_count : (channel from : ℕ) (sent : List Sent) → InOrder packet_of sent → length (last_halves (params_kept channel from sent).halves) ≡ param_count channel from sent
unfolding params_kept param_count
params_count channel from sent o =
    let places = session_places channel sent in
    let rows = filter_map (half_row_at channel) (coded (half_ends channel) packet_at from places) in
    sym (
    sym (length_flat (λ (e : Entered). e.latest.packet) (entered channel from places))
    ∙ ap length (entered_text channel from (λ e. e.latest.packet ∷ []) (λ row. row.packet ∷ []) (λ param high value at. refl) sent o)
    ∙ length_flat (λ (row : HalfRow). row.packet) (last_halves rows)
    )

pub params_has : (channel from : ℕ) (param : Param) (sent : List Sent) → InOrder packet_of sent → has_row param (params_kept channel from sent).halves ≡ has_param channel from param.nrpn param.high param.low sent
unfolding params_kept has_param
params_has channel from param sent o =
    let places = session_places channel sent in
    let rows = filter_map (half_row_at channel) (coded (half_ends channel) packet_at from places) in
    sym (
    sym (any_flat (λ (p : Param). same_param param p) (λ (e : Entered). e.param) (entered channel from places))
    ∙ ap (list_any (λ (p : Param). same_param param p)) (entered_text channel from (λ e. e.param ∷ []) (λ row. row.param ∷ []) (λ param high value at. refl) sent o)
    ∙ any_flat (λ (p : Param). same_param param p) (λ (row : HalfRow). row.param) (last_halves rows)
    )

-- ## The length

pub row_length : (param : Param) (high low : Option ℕ) (s t : ℕ) → length (param_log s param high low) ≡ length (param_log t param high low)
row_length param high low s t = refl
