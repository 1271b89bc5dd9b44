-- The table of Chapter C stands for what the chapter codes.
use Rattle.std.proofs.Common.{◌≡◌, ℕ, ◌+◌, ◌%◌, ◌<◌, ◌≤◌, Bool, true, false, not, cond, ◌||◌, eqb, leb, List, [], ◌∷◌, ◌++◌, length, refl, sym, ap, ◌∙◌, inl, inr, arith}
use Rattle.std.specs.List.{flat_map, list_any, AllByRecursion, filter}
use Rattle.std.proofs.lemmas.Bool.{cases_Bool, eqb-true}
use Rattle.std.proofs.lemmas.List.Sums.{fold-append, sum_by-append, sum_by-cons}
use Rattle.jm_cmds.specs.declared.commands.Command.{Command}
use Rattle.jm_cmds.specs.declared.commands.Command.TheVariants as commands
use Rattle.jm_cmds.specs.declared.history.Sent.{Sent}
use Rattle.jm_cmds.specs.Channels.{own_channel, IsForChannel, SystemMeansOne, own-event}
use Rattle.jm_cmds.specs.Control.{is_counted}
use Rattle.jm_cmds.specs.History.{coded, standing}
use Rattle.jm_cmds.specs.HistoryLaws.{coded-push, coded-later, AllByRecursion-filter, AllByRecursion-weaker, AllByRecursion-append, AllByRecursion-standing}
use Rattle.jm_cmds.specs.KeptItem.{kept_fresh, kept_since, all_below}
use Rattle.jm_cmds.specs.Pedal.{pedal_event, pedal_along, pedal_after, no_pedal}
use Rattle.jm_cmds.specs.Sent.{packet_of, is_fresh, s_of, s_bit}
use Rattle.jm_chapter.specs.declared.log.Log.{Log}
use Rattle.jm_chapter.specs.Logs.{logs_text, texts, has_log, has_fresh, with_header, listed}
use Rattle.ch_control.specs.declared.counts.Counts.{Counts}
use Rattle.ch_control.specs.declared.events.ControlEvent.{ControlEvent}
use Rattle.ch_control.specs.declared.events.ControlEvent.TheVariants.{Set, Dropped, Other}
use Rattle.ch_control.specs.ControlEvent.{control_event, event_at, event_ends, control_ends, is_control, control_count, value_field}
use Rattle.ch_control.specs.ChapterC.{event_logs, control_logs, chapter_c, fresh_c}
use Rattle.ch_control.specs.Counts.{no_counts, count_step, counts_after, count_in, session_counts}
use Rattle.ch_control.specs.ControlTable.{is_set, sets_of, controls_kept, AreKeptUpTo, kept_of, kept_noted, controls_noted, controls_cut, field_of, logs_of, logs_count, controls_text}

-- ## System commands

control_system : SystemMeansOne control_event
control_system commands.TuneRequest h a b = refl
control_system commands.Clock h a b = refl
control_system commands.Start h a b = refl
control_system commands.Continue h a b = refl
control_system commands.Stop h a b = refl
control_system commands.ActiveSensing h a b = refl
control_system commands.SystemReset h a b = refl
control_system (commands.QuarterFrame value) h a b = refl
control_system (commands.SongPosition value) h a b = refl
control_system (commands.SongSelect song) h a b = refl
control_system (commands.Sysex octets) h a b = refl
control_system (commands.NoteOff channel note velocity) h a b = absurd cc
control_system (commands.NoteOn channel note velocity) h a b = absurd cc
control_system (commands.PolyPressure channel note value) h a b = absurd cc
control_system (commands.Control channel number value) h a b = absurd cc
control_system (commands.Program channel program) h a b = absurd cc
control_system (commands.Pressure channel value) h a b = absurd cc
control_system (commands.Wheel channel first second) h a b = absurd cc

pedal_system : SystemMeansOne pedal_event
pedal_system commands.TuneRequest h a b = refl
pedal_system commands.Clock h a b = refl
pedal_system commands.Start h a b = refl
pedal_system commands.Continue h a b = refl
pedal_system commands.Stop h a b = refl
pedal_system commands.ActiveSensing h a b = refl
pedal_system commands.SystemReset h a b = refl
pedal_system (commands.QuarterFrame value) h a b = refl
pedal_system (commands.SongPosition value) h a b = refl
pedal_system (commands.SongSelect song) h a b = refl
pedal_system (commands.Sysex octets) h a b = refl
pedal_system (commands.NoteOff channel note velocity) h a b = absurd cc
pedal_system (commands.NoteOn channel note velocity) h a b = absurd cc
pedal_system (commands.PolyPressure channel note value) h a b = absurd cc
pedal_system (commands.Control channel number value) h a b = absurd cc
pedal_system (commands.Program channel program) h a b = absurd cc
pedal_system (commands.Pressure channel value) h a b = absurd cc
pedal_system (commands.Wheel channel first second) h a b = absurd cc

-- ## What is kept of places

sets-append : (channel : ℕ) (xs ys : List Sent) → sets_of channel (xs ++ ys) ≡ sets_of channel xs ++ sets_of channel ys
sets-append channel [] ys = refl
sets-append channel (x ∷ xs) ys =
    let ih = sets-append channel xs ys in
    elim (cases_Bool (is_set (event_at channel x))) [
      | inl t ↦ rw t (ap (λ (l : List (ℕ × ControlEvent)). (packet_of x, event_at channel x) ∷ l) ih)
      | inr f ↦ rw f ih
    ]

sets-left : (channel : ℕ) (y : Sent) (xs : List Sent) → sets_of channel (filter (λ x. not (control_ends channel x y)) xs) ≡ filter (λ k. not (event_ends k.1 (event_at channel y))) (sets_of channel xs)
sets-left channel y [] = refl
sets-left channel y (x ∷ xs) =
    let ih = sets-left channel y xs in
    elim (cases_Bool (is_set (event_at channel x))) [
      | inl t ↦ elim (cases_Bool (control_ends channel x y)) [
        | inl e ↦ rw (t, e) ih
        | inr n ↦ rw (t, n, t) (ap (λ (l : List (ℕ × ControlEvent)). (packet_of x, event_at channel x) ∷ l) ih)
      ]
      | inr f ↦ elim (cases_Bool (control_ends channel x y)) [
        | inl e ↦ rw (f, e) ih
        | inr n ↦ rw (f, n, f) ih
      ]
    ]

one_set : (channel : ℕ) (y : Sent) (event : ControlEvent) → event_at channel y ≡ event → sets_of channel (y ∷ []) ≡ kept_of (packet_of y) (event_at channel y)
one_set channel y (Set number value) e = rw (e, e) refl
one_set channel y Dropped e = rw e refl
one_set channel y Other e = rw e refl

-- one place more
sets-push : (channel from : ℕ) (sent : List Sent) (y : Sent) → from ≤ packet_of y →
    sets_of channel (coded (control_ends channel) packet_of from (sent ++ y ∷ [])) ≡ kept_noted (event_at channel y) (packet_of y) (sets_of channel (coded (control_ends channel) packet_of from sent))
sets-push channel from sent y l =
    let old = coded (control_ends channel) packet_of from sent in
    let left : Sent → Bool = λ x. not (control_ends channel x y) in
    let stay : List (ℕ × ControlEvent) = filter (λ k. not (event_ends k.1 (event_at channel y))) (sets_of channel old) in
    ap (sets_of channel) (coded-push (control_ends channel) packet_of from sent y l)
    ∙ sets-append channel (filter left old) (y ∷ [])
    ∙ ap (λ (k : List (ℕ × ControlEvent)). k ++ sets_of channel (y ∷ [])) (sets-left channel y old)
    ∙ ap (λ (k : List (ℕ × ControlEvent)). stay ++ k) (one_set channel y (event_at channel y) refl)

sets-since : (channel later : ℕ) (xs : List Sent) → sets_of channel (filter (λ x. leb later (packet_of x)) xs) ≡ kept_since later (sets_of channel xs)
sets-since channel later [] = refl
sets-since channel later (x ∷ xs) =
    let ih = sets-since channel later xs in
    elim (cases_Bool (is_set (event_at channel x))) [
      | inl t ↦ elim (cases_Bool (leb later (packet_of x))) [
        | inl e ↦ rw (t, e, t) (ap (λ (l : List (ℕ × ControlEvent)). (packet_of x, event_at channel x) ∷ l) ih)
        | inr n ↦ rw (t, n) ih
      ]
      | inr f ↦ elim (cases_Bool (leb later (packet_of x))) [
        | inl e ↦ rw (f, e, f) ih
        | inr n ↦ rw (f, n) ih
      ]
    ]

-- ## The counts

added : (number other count : ℕ) → (count + cond (eqb other number) 1 0) % 64 ≡ count_step number other (count % 64)
added number other count = elim (cases_Bool (eqb other number)) [ inl t ↦ rw t (omega arith) | inr f ↦ rw f (omega arith) ]

count-push : (channel number : ℕ) (sent : List Sent) (y : Sent) → control_count channel number (sent ++ y ∷ []) ≡ control_count channel number sent + cond (is_control number (event_at channel y)) 1 0
count-push channel number sent y =
    let weight : Sent → ℕ = λ place. cond (is_control number (event_at channel place)) 1 0 in
    sum_by-append weight sent (y ∷ []) ∙ omega (arith, sum_by-cons weight y [])

counts-same : (channel number : ℕ) (sent : List Sent) (y : Sent) → is_control number (event_at channel y) ≡ false → control_count channel number (sent ++ y ∷ []) % 64 ≡ control_count channel number sent % 64
counts-same channel number sent y e =
    let n : control_count channel number (sent ++ y ∷ []) ≡ control_count channel number sent + 0 = rw e at (count-push channel number sent y) in
    ap (λ (k : ℕ). k % 64) (n ∙ omega arith)

counts-push : (channel : ℕ) (sent : List Sent) (y : Sent) (event : ControlEvent) → event_at channel y ≡ event → session_counts channel (sent ++ y ∷ []) ≡ counts_after (session_counts channel sent) event
counts-push channel sent y (Set other value) e =
    let each : (number : ℕ) → control_count channel number (sent ++ y ∷ []) % 64 ≡ count_step number other (control_count channel number sent % 64) =
    λ number. ap (λ (k : ℕ). k % 64) (rw e at (count-push channel number sent y)) ∙ added number other (control_count channel number sent) in
    rw (each 96, each 97, each 120, each 121, each 123) refl
counts-push channel sent y Dropped e =
    let each : (number : ℕ) → control_count channel number (sent ++ y ∷ []) % 64 ≡ control_count channel number sent % 64 = λ number. counts-same channel number sent y (rw e refl) in
    rw (each 96, each 97, each 120, each 121, each 123) refl
counts-push channel sent y Other e =
    let each : (number : ℕ) → control_count channel number (sent ++ y ∷ []) % 64 ≡ control_count channel number sent % 64 = λ number. counts-same channel number sent y (rw e refl) in
    rw (each 96, each 97, each 120, each 121, each 123) refl

-- ## One command more, and a later checkpoint

pub controls_push : (channel from packet tick : ℕ) (command : Command) (sent : List Sent) → IsForChannel channel command → from ≤ packet →
    controls_noted (control_event (own_channel command) command) (pedal_event (own_channel command) command) packet (controls_kept channel from sent)
    ≡ controls_kept channel from (sent ++ record { packet = packet; tick = tick; command = command } ∷ [])
unfolding controls_kept pedal_after
controls_push channel from packet tick command sent h l =
    let y : Sent = record { packet = packet; tick = tick; command = command } in
    let old = controls_kept channel from sent in
    ap (λ event. controls_noted event (pedal_event (own_channel command) command) packet old) (own-event control_event control_system channel command h)
    ∙ ap (λ event. controls_noted (control_event channel command) event packet old) (own-event pedal_event pedal_system channel command h)
    ∙ sym (rw (sets-push channel from sent y l, fold-append (pedal_along channel) no_pedal sent (y ∷ []), counts-push channel sent y (event_at channel y) refl) refl)

pub controls_later : (channel from later : ℕ) (sent : List Sent) → from ≤ later → controls_kept channel later sent ≡ controls_cut later (controls_kept channel from sent)
unfolding controls_kept
controls_later channel from later sent l =
    let cut = ap (sets_of channel) (sym (coded-later (control_ends channel) packet_of from later sent l)) ∙ sets-since channel later (coded (control_ends channel) packet_of from sent) in
    rw cut refl

pub controls_none : (channel : ℕ) → controls_kept channel 0 [] ≡ record { counts = no_counts; pedal = no_pedal; kept = [] }
unfolding controls_kept pedal_after
controls_none channel = refl

-- ## Its octets

count_same : (channel : ℕ) (sent : List Sent) (number : ℕ) → is_counted number ≡ true → control_count channel number sent % 64 ≡ count_in (session_counts channel sent) number
unfolding is_counted
count_same channel sent number h =
    elim (cases_Bool (eqb number 96)) [
      | inl t ↦ rw (eqb-true number 96 t) refl
      | inr a ↦ elim (cases_Bool (eqb number 97)) [
        | inl t ↦ rw (eqb-true number 97 t) refl
        | inr b ↦ elim (cases_Bool (eqb number 120)) [
          | inl t ↦ rw (eqb-true number 120 t) refl
          | inr d ↦ elim (cases_Bool (eqb number 121)) [
            | inl t ↦ rw (eqb-true number 121 t) refl
            | inr e ↦ elim (cases_Bool (eqb number 123)) [
              | inl t ↦ rw (eqb-true number 123 t) refl
              | inr f ↦ absurd (let none : false ≡ true = rw (a, b, d, e, f) at h in cc)
            ]
          ]
        ]
      ]
    ]

field_same : (channel : ℕ) (sent : List Sent) (number value : ℕ) → value_field channel sent number value ≡ field_of (session_counts channel sent) number value
field_same channel sent number value =
    elim (cases_Bool (is_counted number)) [
      | inl t ↦ rw t (ap (λ (k : ℕ). 192 + k) (count_same channel sent number t))
      | inr f ↦ rw f refl
    ]

logs_same : (channel : ℕ) (sent : List Sent) (event : ControlEvent) → event_logs channel sent event ≡ logs_of (session_counts channel sent) (pedal_after channel sent).toggles event
logs_same channel sent (Set number value) =
    let more : List Log = cond (eqb number 64) (record { number = number; field = 128 + (pedal_after channel sent).toggles } ∷ []) [] in
    ap (λ (k : ℕ). record { number = number; field = k } ∷ more) (field_same channel sent number value)
logs_same channel sent Dropped = refl
logs_same channel sent Other = refl

logs_none : (counts : Counts) (toggles : ℕ) (event : ControlEvent) → is_set event ≡ false → logs_of counts toggles event ≡ []
logs_none counts toggles (Set number value) e = absurd (let none : true ≡ false = e in cc)
logs_none counts toggles Dropped e = refl
logs_none counts toggles Other e = refl

kept-flat : {Y : Type 0} (channel : ℕ) (log : Sent → List Y) (text : ℕ × ControlEvent → List Y) → ((x : Sent) → log x ≡ text (packet_of x, event_at channel x)) →
    ((k : ℕ × ControlEvent) → is_set k.1 ≡ false → text k ≡ []) → (xs : List Sent) → flat_map log xs ≡ flat_map text (sets_of channel xs)
kept-flat channel log text agrees silent [] = refl
kept-flat channel log text agrees silent (x ∷ xs) =
    let ih = kept-flat channel log text agrees silent xs in
    elim (cases_Bool (is_set (event_at channel x))) [
      | inl t ↦ rw (t, agrees x) (ap (λ (l : List _). text (packet_of x, event_at channel x) ++ l) ih)
      | inr f ↦ rw (f, agrees x, silent (packet_of x, event_at channel x) f) ih
    ]

logged : (channel : ℕ) (sent : List Sent) (event : ControlEvent) → has_log (event_logs channel sent event) ≡ is_set event
logged channel sent (Set number value) = refl
logged channel sent Dropped = refl
logged channel sent Other = refl

kept-any : (channel packet : ℕ) (sent xs : List Sent) → has_fresh (control_logs channel sent) packet xs ≡ list_any (kept_fresh packet) (sets_of channel xs)
kept-any channel packet sent [] = refl
kept-any channel packet sent (x ∷ xs) =
    let ih = kept-any channel packet sent xs in
    elim (cases_Bool (is_set (event_at channel x))) [
      | inl t ↦ rw (logged channel sent (event_at channel x), t) (ap (λ (b : Bool). is_fresh packet x || b) ih)
      | inr f ↦ rw (logged channel sent (event_at channel x), f) ih
    ]

coded_text : (channel from packet : ℕ) (sent : List Sent) → controls_text packet (controls_kept channel from sent) ≡ listed (control_logs channel sent) packet (coded (control_ends channel) packet_of from sent)
unfolding controls_kept
coded_text channel from packet sent =
    let places = coded (control_ends channel) packet_of from sent in
    let counts = session_counts channel sent in
    let toggles = (pedal_after channel sent).toggles in
    let counted = kept-flat channel (control_logs channel sent) (λ k. logs_of counts toggles k.1) (λ x. logs_same channel sent (event_at channel x)) (λ k e. logs_none counts toggles k.1 e) places in
    let written = kept-flat channel (λ place. logs_text (s_bit packet place) (control_logs channel sent place)) (λ k. logs_text (s_of (kept_fresh packet k)) (logs_of counts toggles k.1))
    (λ x. ap (logs_text (s_bit packet x)) (logs_same channel sent (event_at channel x))) (λ k e. ap (logs_text (s_of (kept_fresh packet k))) (logs_none counts toggles k.1 e)) places in
    let a = ap (λ (l : List Log). with_header (length l) (has_fresh (control_logs channel sent) packet places) (texts (control_logs channel sent) packet places)) counted in
    let b = ap (λ (f : Bool). with_header (logs_count counts toggles (sets_of channel places)) f (texts (control_logs channel sent) packet places)) (kept-any channel packet sent places) in
    let d = ap (λ (l : List ℕ). with_header (logs_count counts toggles (sets_of channel places)) (list_any (kept_fresh packet) (sets_of channel places)) l) written in
    sym (a ∙ b ∙ d)

pub controls_coded : (channel from packet : ℕ) (sent : List Sent) → AllByRecursion (λ place. packet_of place < packet) sent → controls_text packet (controls_kept channel from sent) ≡ chapter_c channel from packet sent
unfolding chapter_c
controls_coded channel from packet sent h =
    coded_text channel from packet sent
    ∙ sym (ap (λ (places : List Sent). listed (control_logs channel places) packet (coded (control_ends channel) packet_of from places)) (all_below packet_of packet sent h))

pub controls_fresh : (channel from packet : ℕ) (sent : List Sent) → AllByRecursion (λ place. packet_of place < packet) sent → list_any (kept_fresh packet) (controls_kept channel from sent).kept ≡ fresh_c channel from packet sent
unfolding controls_kept fresh_c
controls_fresh channel from packet sent h =
    sym (ap (λ (places : List Sent). has_fresh (control_logs channel places) packet (coded (control_ends channel) packet_of from places)) (all_below packet_of packet sent h)
    ∙ kept-any channel packet sent (coded (control_ends channel) packet_of from sent))

-- ## Packets that none is past

kept_of-up_to : (packet later : ℕ) (event : ControlEvent) → packet ≤ later → AreKeptUpTo later (kept_of packet event)
kept_of-up_to packet later (Set number value) l = (l, tt)
kept_of-up_to packet later Dropped l = tt
kept_of-up_to packet later Other l = tt

pub noted_up_to : (event : ControlEvent) (packet later : ℕ) (ks : List (ℕ × ControlEvent)) → AreKeptUpTo packet ks → packet ≤ later → AreKeptUpTo later (kept_noted event packet ks)
noted_up_to event packet later ks h l =
    let weaker = AllByRecursion-weaker (λ (k : ℕ × ControlEvent). k.0 ≤ packet) (λ k. k.0 ≤ later) (λ k m. omega (arith, m, l)) ks h in
    let left : ℕ × ControlEvent → Bool = λ k. not (event_ends k.1 event) in
    AllByRecursion-append (λ (k : ℕ × ControlEvent). k.0 ≤ later) (filter left ks) (kept_of packet event) (AllByRecursion-filter (λ (k : ℕ × ControlEvent). k.0 ≤ later) left ks weaker) (kept_of-up_to packet later event l)

pub cut_up_to : (packet later : ℕ) (ks : List (ℕ × ControlEvent)) → AreKeptUpTo later ks → AreKeptUpTo later (kept_since packet ks)
cut_up_to packet later ks h = AllByRecursion-filter (λ (k : ℕ × ControlEvent). k.0 ≤ later) (λ k. leb packet k.0) ks h

sets-up_to : (channel packet : ℕ) (xs : List Sent) → AllByRecursion (λ place. packet_of place ≤ packet) xs → AreKeptUpTo packet (sets_of channel xs)
sets-up_to channel packet [] h = tt
sets-up_to channel packet (x ∷ xs) h =
    let ih = sets-up_to channel packet xs h.1 in
    elim (cases_Bool (is_set (event_at channel x))) [ inl t ↦ rw t (h.0, ih) | inr f ↦ rw f ih ]

-- What `note` asks for holds where no command was noted of a packet past this one.
pub controls_up_to : (channel from packet : ℕ) (sent : List Sent) → AllByRecursion (λ place. packet_of place ≤ packet) sent → AreKeptUpTo packet (controls_kept channel from sent).kept
unfolding controls_kept
controls_up_to channel from packet sent h =
    let early : Sent → Type 0 = λ place. packet_of place ≤ packet in
    let stand = standing (control_ends channel) sent in
    sets-up_to channel packet (coded (control_ends channel) packet_of from sent) (AllByRecursion-filter early (λ x. leb from (packet_of x)) stand (AllByRecursion-standing early (control_ends channel) sent h))
