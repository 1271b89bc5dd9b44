-- Chapter C: what is written is read.
use Rattle.std.proofs.lemmas.Bool.{not-true}
use Rattle.std.proofs.Common.{◌≡◌, ℕ, ◌+◌, ◌<◌, ◌≤◌, ◌%◌, ◌&&◌, not, Bool, true, false, cond, eqb, ltb, List, ◌++◌, length, [], Option, Some, None, fold, refl, ◌∙◌, arith, inl, inr}
use Rattle.std.specs.Prelude.{◌==◌, ◌∷◌, if◌then◌else◌}
use Rattle.std.specs.List.{AllByRecursion}
use Rattle.std.proofs.lemmas.Bool.{cases_Bool, and_parts, lt-ltb, le-ltb}
use Rattle.jm_cmds.specs.declared.commands.Command.{Command}
use Rattle.jm_cmds.specs.declared.commands.Command.TheVariants as commands
use Rattle.jm_cmds.specs.declared.history.Sent.{Sent}
use Rattle.jm_cmds.specs.Command.{IsCommand}
use Rattle.jm_cmds.specs.Control.{is_entry, is_counted, is_reset}
use Rattle.jm_cmds.specs.History.{below}
use Rattle.jm_cmds.specs.HistoryLaws.{Unended-coded, AllByRecursion-weaker}
use Rattle.jm_chapter.specs.Logs.{log_count}
use Rattle.jm_cmds.specs.declared.pedal.Pedal.{Pedal}
use Rattle.jm_cmds.specs.declared.pedal.PedalEvent.{PedalEvent}
use Rattle.jm_cmds.specs.declared.pedal.PedalEvent.TheVariants.{Moved, Released, Other as Still}
use Rattle.jm_cmds.specs.Pedal.{IsPedal, no_pedal, pedal_event, pedal_step, pedal_along, pedal_after}
use Rattle.std.proofs.Math.Bool.{beq}
use Rattle.jm_cmds.specs.Sent.{packet_of}
use Rattle.ch_control.specs.declared.events.ControlEvent.{ControlEvent}
use Rattle.ch_control.specs.declared.events.ControlEvent.TheVariants.{Set, Dropped, Other}
use Rattle.ch_control.specs.ControlEvent.{control_event, event_at, control_ends, control_count, IsWithin}
use Rattle.ch_control.specs.ChapterC.{chapter_c, coded_controls, event_logs, control_logs}
use Rattle.ch_control.specs.CountBounds.{control-few}
use Rattle.jm_journal.specs.Channel.{is_there}
use Rattle.jm_reader.specs.declared.logs.Log.{Log}
use Rattle.jm_reader.specs.declared.logs.LogKind.{LogKind}
use Rattle.jm_reader.specs.declared.logs.LogKind.TheVariants.{Control, Toggle, Count}
use Rattle.jm_reader.specs.declared.pairs.PairKind.TheVariants.{Controllers}
use Rattle.jm_reader.specs.Pairs.{control_said, listed_read}
use Rattle.jm_reader.specs.Written.{AreCommands, ChapterIsRead}
use Rattle.jm_reader.specs.WrittenOne.{all_coded, all_below}
use Rattle.jm_reader.specs.WrittenListed.{logs_said, Says, listed_again, listed_silent}

-- what a controller's event says: its count in the session for those that are counted, else its value
abbrev pub value_said : (channel : ℕ) → (session : List Sent) → (number value : ℕ) → LogKind
value_said channel session number value =
    if is_counted number then Count channel number (control_count channel number session % 64) else Control channel number value

-- and the toggles of the sustain pedal behind its value
abbrev pub event_said : (channel : ℕ) → List Sent → ControlEvent → List LogKind
event_said channel session (Set number value) =
    value_said channel session number value ∷ (if number == 64 then Toggle channel (pedal_after channel session).toggles ∷ [] else [])
event_said channel session Dropped = []
event_said channel session Other = []

abbrev pub place_said : (channel : ℕ) → List Sent → Sent → List LogKind
place_said channel session place = event_said channel session (event_at channel place)

-- the logs of Chapter C of this channel in the journal of this packet
unfoldable pub c_said : (channel checkpoint packet : ℕ) → List Sent → List Log
c_said channel checkpoint packet sent = logs_said (place_said channel (below packet_of packet sent)) packet (coded_controls channel checkpoint packet sent)

-- ## What is written is read

abbrev Fits : ControlEvent → Type 0
Fits (Set number value) = (number < 128) × (is_entry number ≡ false) × (value < 128)
Fits Dropped = Unit {0}
Fits Other = Unit {0}

within : (event : ControlEvent) → Fits event → IsWithin event
within (Set number value) w = (w.0, w.1)
within Dropped w = tt
within Other w = tt

dropped : (b : Bool) → Fits (cond b Dropped Other)
dropped true = tt
dropped false = tt

fits_event : (channel : ℕ) (command : Command) → IsCommand command → Fits (control_event channel command)
fits_event channel (commands.Control at number value) h =
    elim (cases_Bool (eqb at channel && not (is_entry number))) [
      | inl t ↦ rw t (h.1, not-true (is_entry number) (and_parts (eqb at channel) (not (is_entry number)) t).1, h.2)
      | inr f ↦ rw f tt
    ]
fits_event channel command h = dropped (is_reset command)

-- toggles are counted modulo 64
few_toggles : (pedal : Pedal) (event : PedalEvent) → IsPedal pedal → IsPedal (pedal_step pedal event)
few_toggles pedal (Moved on) l = elim (cases_Bool (beq on pedal.on)) [ inl t ↦ rw t l | inr f ↦ rw f (omega arith) ]
few_toggles pedal Released l = omega arith
few_toggles pedal Still l = l

pub few_along : (channel : ℕ) (pedal : Pedal) (session : List Sent) → IsPedal pedal → IsPedal (fold (pedal_along channel) pedal session)
few_along channel pedal [] l = l
few_along channel pedal (x ∷ xs) l = few_along channel (pedal_along channel pedal x) xs (few_toggles pedal (pedal_event channel x.command) l)

pedal-few : (channel : ℕ) (session : List Sent) → (pedal_after channel session).toggles < 64
unfolding pedal_after
pedal-few channel session = few_along channel no_pedal session (omega arith)

value_again : (channel number value count : ℕ) (counted : Bool) → is_entry number ≡ false → is_counted number ≡ counted → value < 128 →
    control_said channel number (cond counted (192 + count % 64) value) ≡ Some (cond counted (Count channel number (count % 64)) (Control channel number value))
value_again channel number value count true e c l =
    let high : ltb (192 + count % 64) 128 ≡ false = le-ltb (192 + count % 64) 128 (omega arith) in
    let form : ltb (192 + count % 64) 192 ≡ false = le-ltb (192 + count % 64) 192 (omega arith) in
    let bits : (192 + count % 64) % 64 ≡ count % 64 = omega arith in
    rw (e, high, form, c, bits) refl
value_again channel number value count false e c l = rw (e, lt-ltb value 128 l) refl

toggles_again : (channel number toggles : ℕ) → is_entry number ≡ false → eqb number 64 ≡ true → toggles < 64 → control_said channel number (128 + toggles) ≡ Some (Toggle channel toggles)
toggles_again channel number toggles e pedal l =
    let high : ltb (128 + toggles) 128 ≡ false = le-ltb (128 + toggles) 128 (omega arith) in
    let form : ltb (128 + toggles) 192 ≡ true = lt-ltb (128 + toggles) 192 (omega (arith, l)) in
    let bits : (128 + toggles) % 64 ≡ toggles = omega (arith, l) in
    rw (e, high, form, pedal, bits) refl

says : (channel : ℕ) (session : List Sent) (event : ControlEvent) → Fits event → Says Controllers channel (event_logs channel session event) (event_said channel session event)
says channel session (Set number value) w =
    let count = control_count channel number session in
    let again = value_again channel number value count (is_counted number) w.1 refl w.2 in
    elim (cases_Bool (eqb number 64)) [
      | inl t ↦
          let toggles = toggles_again channel number (pedal_after channel session).toggles w.1 t (pedal-few channel session) in
          rw t (record { fit = (w.0, (w.0, tt)); what = rw (again, toggles) refl })
      | inr f ↦ rw f (record { fit = (w.0, tt); what = rw again refl })
    ]
says channel session Dropped w = record { fit = tt; what = refl }
says channel session Other w = record { fit = tt; what = refl }

abbrev fits_at : ℕ → Sent → Type 0
fits_at channel place = Fits (event_at channel place)

-- what is coded is within its bounds
coded_fits : (channel checkpoint packet : ℕ) (sent : List Sent) → AreCommands sent → AllByRecursion (fits_at channel) (coded_controls channel checkpoint packet sent)
coded_fits channel checkpoint packet sent h =
    all_coded (fits_at channel) (control_ends channel) packet_of checkpoint (below packet_of packet sent)
    (all_below (fits_at channel) packet sent (AllByRecursion-weaker (λ (place : Sent). IsCommand place.command) (fits_at channel) (λ place b. fits_event channel place.command b) sent h))

coded_says : (channel checkpoint packet : ℕ) (sent : List Sent) → AreCommands sent →
    AllByRecursion (λ place. Says Controllers channel (control_logs channel (below packet_of packet sent) place) (place_said channel (below packet_of packet sent) place)) (coded_controls channel checkpoint packet sent)
coded_says channel checkpoint packet sent h =
    let seen = below packet_of packet sent in
    AllByRecursion-weaker (fits_at channel) (λ place. Says Controllers channel (control_logs channel seen place) (place_said channel seen place))
    (λ place b. says channel seen (event_at channel place) b) (coded_controls channel checkpoint packet sent) (coded_fits channel checkpoint packet sent h)

coded_few : (channel checkpoint packet : ℕ) (sent : List Sent) → AreCommands sent → log_count (control_logs channel (below packet_of packet sent)) (coded_controls channel checkpoint packet sent) ≤ 128
coded_few channel checkpoint packet sent h =
    let seen = below packet_of packet sent in
    let places = coded_controls channel checkpoint packet sent in
    let w = AllByRecursion-weaker (fits_at channel) (λ place. IsWithin (event_at channel place)) (λ place b. within (event_at channel place) b) places (coded_fits channel checkpoint packet sent h) in
    omega (arith, control-few channel seen places (Unended-coded (control_ends channel) packet_of checkpoint seen) w)

pub c_again : (channel checkpoint packet : ℕ) (sent : List Sent) → AreCommands sent → is_there (chapter_c channel checkpoint packet sent) ≡ true → (rest : List ℕ) →
    listed_read Controllers channel (chapter_c channel checkpoint packet sent ++ rest) ≡ Some (c_said channel checkpoint packet sent, length (chapter_c channel checkpoint packet sent))
unfolding chapter_c c_said
c_again channel checkpoint packet sent h there rest =
    let seen = below packet_of packet sent in
    listed_again Controllers channel (control_logs channel seen) (place_said channel seen) packet (coded_controls channel checkpoint packet sent)
    (coded_says channel checkpoint packet sent h) (coded_few channel checkpoint packet sent h) there rest

pub c_none : (channel checkpoint packet : ℕ) (sent : List Sent) → AreCommands sent → is_there (chapter_c channel checkpoint packet sent) ≡ false → c_said channel checkpoint packet sent ≡ []
unfolding chapter_c c_said
c_none channel checkpoint packet sent h none =
    let seen = below packet_of packet sent in
    listed_silent Controllers channel (control_logs channel seen) (place_said channel seen) packet (coded_controls channel checkpoint packet sent) (coded_says channel checkpoint packet sent h) none

pub c_is_read : ChapterIsRead chapter_c c_said (λ channel octets. listed_read Controllers channel octets)
c_is_read = record { again = c_again; none = c_none }
