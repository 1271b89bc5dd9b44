-- Chapter E: what is written is read.
use Rattle.std.proofs.Common.{◌≡◌, ℕ, ◌+◌, ◌<◌, ◌≤◌, ◌%◌, Bool, true, false, cond, eqb, ltb, List, ◌∷◌, ◌++◌, length, [], Option, Some, None, fold, refl, arith, inl, inr}
use Rattle.std.specs.Prelude.{◌==◌, if◌then◌else◌}
use Rattle.std.specs.List.{AllByRecursion}
use Rattle.std.proofs.lemmas.Bool.{cases_Bool, lt-ltb, le-ltb}
use Rattle.jm_cmds.specs.declared.commands.Command.{Command}
use Rattle.jm_cmds.specs.declared.commands.Command.TheVariants as commands
use Rattle.jm_cmds.specs.declared.history.Sent.{Sent}
use Rattle.jm_cmds.specs.Command.{IsCommand}
use Rattle.jm_cmds.specs.Control.{ends_notes}
use Rattle.jm_cmds.specs.History.{below}
use Rattle.jm_cmds.specs.HistoryLaws.{Unended-coded, AllByRecursion-weaker}
use Rattle.jm_chapter.specs.Logs.{log_count}
use Rattle.jm_cmds.specs.Sent.{packet_of}
use Rattle.ch_notes.specs.declared.events.NoteEvent.{NoteEvent}
use Rattle.ch_notes.specs.declared.events.NoteEvent.TheVariants.{Struck, Released, Cleared, Other}
use Rattle.ch_notes.specs.NoteEvent.{note_event, event_at, note_ends, IsWithin}
use Rattle.ch_notes.specs.FreshLaws.{IsWithin-event}
use Rattle.ch_notes.specs.ChapterN.{coded_notes}
use Rattle.ch_notes.specs.ChapterE.{chapter_e, count_event, count_step, ref_count, struck_logs, released_logs, extra_logs, extra_at}
use Rattle.ch_notes.specs.ExtraLaws.{extra-few}
use Rattle.jm_journal.specs.Channel.{is_there}
use Rattle.jm_reader.specs.declared.logs.Log.{Log}
use Rattle.jm_reader.specs.declared.logs.LogKind.{LogKind}
use Rattle.jm_reader.specs.declared.logs.LogKind.TheVariants.{Extra}
use Rattle.jm_reader.specs.declared.pairs.PairKind.TheVariants.{Extras}
use Rattle.jm_reader.specs.Pairs.{listed_read}
use Rattle.jm_reader.specs.Written.{AreCommands, ChapterIsRead}
use Rattle.jm_reader.specs.WrittenOne.{all_coded, all_below}
use Rattle.jm_reader.specs.WrittenListed.{logs_said, Says, listed_again, listed_silent}

-- What a note says by its reference count: the count where it isn't what Chapter N alone says, else the release velocity
-- where it isn't 64.
abbrev pub struck_said : (channel note count : ℕ) → List LogKind
struck_said channel note count = if count == 1 then [] else Extra channel note false count ∷ []

abbrev pub released_said : (channel note velocity count : ℕ) → List LogKind
released_said channel note velocity count =
    if count == 0
    then (if velocity == 64 then [] else Extra channel note true velocity ∷ [])
    else Extra channel note false count ∷ []

abbrev pub event_said : (channel : ℕ) → List Sent → NoteEvent → List LogKind
event_said channel session (Struck note velocity) = struck_said channel note (ref_count channel note session)
event_said channel session (Released note velocity) = released_said channel note velocity (ref_count channel note session)
event_said channel session Cleared = []
event_said channel session Other = []

abbrev pub place_said : (channel : ℕ) → List Sent → Sent → List LogKind
place_said channel session place = event_said channel session (event_at channel place)

-- the logs of Chapter E of this channel in the journal of this packet
unfoldable pub e_said : (channel checkpoint packet : ℕ) → List Sent → List Log
e_said channel checkpoint packet sent = logs_said (place_said channel (below packet_of packet sent)) packet (coded_notes channel checkpoint packet sent)

-- ## What is written is read

abbrev Fits : NoteEvent → Type 0
Fits (Struck note velocity) = note < 128
Fits (Released note velocity) = (note < 128) × (velocity < 128)
Fits Cleared = Unit {0}
Fits Other = Unit {0}

cleared : (b : Bool) → Fits (cond b Cleared Other)
cleared true = tt
cleared false = tt

fits_event : (channel : ℕ) (command : Command) → IsCommand command → Fits (note_event channel command)
fits_event channel (commands.NoteOn at note velocity) h =
    elim (cases_Bool (eqb at channel)) [
      | inl t ↦ elim (cases_Bool (eqb velocity 0)) [ inl z ↦ rw (t, z) (h.1, omega arith) | inr n ↦ rw (t, n) h.1 ]
      | inr f ↦ rw f tt
    ]
fits_event channel (commands.NoteOff at note velocity) h = elim (cases_Bool (eqb at channel)) [ inl t ↦ rw t (h.1, h.2) | inr f ↦ rw f tt ]
fits_event channel command h = cleared (ends_notes channel command)

-- a reference count is at most 127
one_more : (note count : ℕ) (event : NoteEvent) → count ≤ 127 → count_event note count event ≤ 127
one_more note count (Struck other velocity) l = elim (cases_Bool (eqb other note)) [ inl t ↦ rw t (omega arith) | inr f ↦ rw f l ]
one_more note count (Released other velocity) l = elim (cases_Bool (eqb other note)) [ inl t ↦ rw t (omega arith) | inr f ↦ rw f l ]
one_more note count Cleared l = omega arith
one_more note count Other l = l

bounded : (channel note count : ℕ) (session : List Sent) → count ≤ 127 → fold (count_step channel note) count session ≤ 127
bounded channel note count [] l = l
bounded channel note count (x ∷ xs) l = bounded channel note (count_step channel note count x) xs (one_more note count (event_at channel x) l)

counted_again : (count : ℕ) → count ≤ 127 → (ltb count 128 ≡ true) × (count % 128 ≡ count)
counted_again count l = (lt-ltb count 128 (omega arith), omega arith)

velocity_again : (velocity : ℕ) → velocity < 128 → (ltb (128 + velocity) 128 ≡ false) × ((128 + velocity) % 128 ≡ velocity)
velocity_again velocity l = (le-ltb (128 + velocity) 128 (omega arith), omega arith)

struck_says : (channel note count : ℕ) → note < 128 → count ≤ 127 → Says Extras channel (struck_logs note count) (struck_said channel note count)
struck_says channel note count l c =
    let k = counted_again count c in
    elim (cases_Bool (eqb count 1)) [
      | inl t ↦ rw t (record { fit = tt; what = refl })
      | inr f ↦ rw f (record { fit = (l, tt); what = rw (k.0, k.1) refl })
    ]

released_says : (channel note velocity count : ℕ) → note < 128 → velocity < 128 → count ≤ 127 → Says Extras channel (released_logs note velocity count) (released_said channel note velocity count)
released_says channel note velocity count l v c =
    let k = counted_again count c in
    let r = velocity_again velocity v in
    elim (cases_Bool (eqb count 0)) [
      | inl t ↦ elim (cases_Bool (eqb velocity 64)) [
        | inl z ↦ rw (t, z) (record { fit = tt; what = refl })
        | inr n ↦ rw (t, n) (record { fit = (l, tt); what = rw (r.0, r.1) refl })
      ]
      | inr f ↦ rw f (record { fit = (l, tt); what = rw (k.0, k.1) refl })
    ]

says : (channel : ℕ) (session : List Sent) (event : NoteEvent) → Fits event → Says Extras channel (extra_logs channel session event) (event_said channel session event)
says channel session (Struck note velocity) w = struck_says channel note (ref_count channel note session) w (bounded channel note 0 session (omega arith))
says channel session (Released note velocity) w = released_says channel note velocity (ref_count channel note session) w.0 w.1 (bounded channel note 0 session (omega arith))
says channel session Cleared w = record { fit = tt; what = refl }
says channel session Other w = record { fit = tt; what = refl }

abbrev fits_at : ℕ → Sent → Type 0
fits_at channel place = Fits (event_at channel place)

abbrev within_at : ℕ → Sent → Type 0
within_at channel place = IsWithin (event_at channel place)

-- what holds of each place whose command is one holds of what is coded
coded_all : (P : Sent → Type 0) (channel checkpoint packet : ℕ) (sent : List Sent) → AllByRecursion P sent → AllByRecursion P (coded_notes channel checkpoint packet sent)
coded_all P channel checkpoint packet sent h = all_coded P (note_ends channel) packet_of checkpoint (below packet_of packet sent) (all_below P packet sent h)

coded_says : (channel checkpoint packet : ℕ) (sent : List Sent) → AreCommands sent →
    AllByRecursion (λ place. Says Extras channel (extra_at channel (below packet_of packet sent) place) (place_said channel (below packet_of packet sent) place)) (coded_notes channel checkpoint packet sent)
coded_says channel checkpoint packet sent h =
    let seen = below packet_of packet sent in
    let fits = AllByRecursion-weaker (λ (place : Sent). IsCommand place.command) (fits_at channel) (λ place b. fits_event channel place.command b) sent h in
    AllByRecursion-weaker (fits_at channel) (λ place. Says Extras channel (extra_at channel seen place) (place_said channel seen place))
    (λ place b. says channel seen (event_at channel place) b) (coded_notes channel checkpoint packet sent) (coded_all (fits_at channel) channel checkpoint packet sent fits)

coded_few : (channel checkpoint packet : ℕ) (sent : List Sent) → AreCommands sent → log_count (extra_at channel (below packet_of packet sent)) (coded_notes channel checkpoint packet sent) ≤ 128
coded_few channel checkpoint packet sent h =
    let seen = below packet_of packet sent in
    let within = AllByRecursion-weaker (λ (place : Sent). IsCommand place.command) (within_at channel) (λ place b. IsWithin-event channel place.command b) sent h in
    extra-few channel seen (coded_notes channel checkpoint packet sent) (Unended-coded (note_ends channel) packet_of checkpoint seen) (coded_all (within_at channel) channel checkpoint packet sent within)

pub e_again : (channel checkpoint packet : ℕ) (sent : List Sent) → AreCommands sent → is_there (chapter_e channel checkpoint packet sent) ≡ true → (rest : List ℕ) →
    listed_read Extras channel (chapter_e channel checkpoint packet sent ++ rest) ≡ Some (e_said channel checkpoint packet sent, length (chapter_e channel checkpoint packet sent))
unfolding chapter_e e_said
e_again channel checkpoint packet sent h there rest =
    let seen = below packet_of packet sent in
    listed_again Extras channel (extra_at channel seen) (place_said channel seen) packet (coded_notes channel checkpoint packet sent)
    (coded_says channel checkpoint packet sent h) (coded_few channel checkpoint packet sent h) there rest

pub e_none : (channel checkpoint packet : ℕ) (sent : List Sent) → AreCommands sent → is_there (chapter_e channel checkpoint packet sent) ≡ false → e_said channel checkpoint packet sent ≡ []
unfolding chapter_e e_said
e_none channel checkpoint packet sent h none =
    let seen = below packet_of packet sent in
    listed_silent Extras channel (extra_at channel seen) (place_said channel seen) packet (coded_notes channel checkpoint packet sent) (coded_says channel checkpoint packet sent h) none

pub e_is_read : ChapterIsRead chapter_e e_said (λ channel octets. listed_read Extras channel octets)
e_is_read = record { again = e_again; none = e_none }
