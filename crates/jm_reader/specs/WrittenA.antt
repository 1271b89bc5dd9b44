-- Chapter A: what is written is read.
use Rattle.std.proofs.Common.{◌≡◌, ℕ, ◌+◌, ◌<◌, ◌≤◌, ◌%◌, Bool, true, false, cond, eqb, List, ◌++◌, ◌∷◌, length, [], Some, refl, arith, inl, inr}
use Rattle.std.specs.List.{AllByRecursion}
use Rattle.std.proofs.lemmas.Bool.{cases_Bool}
use Rattle.jm_cmds.specs.declared.commands.Command.{Command}
use Rattle.jm_cmds.specs.declared.commands.Command.TheVariants as commands
use Rattle.jm_cmds.specs.declared.history.Sent.{Sent}
use Rattle.jm_cmds.specs.Command.{IsCommand}
use Rattle.jm_cmds.specs.Control.{ends_controllers}
use Rattle.jm_cmds.specs.History.{below}
use Rattle.jm_cmds.specs.HistoryLaws.{Unended-coded, AllByRecursion-weaker}
use Rattle.jm_chapter.specs.Logs.{log_count}
use Rattle.jm_cmds.specs.Sent.{packet_of}
use Rattle.ch_notes.specs.declared.presses.PolyEvent.{PolyEvent}
use Rattle.ch_notes.specs.declared.presses.PolyEvent.TheVariants.{Pressed, Dropped, Other}
use Rattle.ch_notes.specs.PolyEvent.{poly_event, poly_at, poly_ends, IsWithin}
use Rattle.ch_notes.specs.ChapterA.{chapter_a, coded_presses, is_muted, x_bit, press_logs, press_at}
use Rattle.ch_notes.specs.PressLaws.{logs-keys, presses-few}
use Rattle.jm_journal.specs.Channel.{is_there}
use Rattle.jm_reader.specs.declared.logs.Log.{Log}
use Rattle.jm_reader.specs.declared.logs.LogKind.{LogKind}
use Rattle.jm_reader.specs.declared.logs.LogKind.TheVariants.{Poly}
use Rattle.jm_reader.specs.declared.pairs.PairKind.TheVariants.{Pressures}
use Rattle.jm_reader.specs.Pairs.{listed_read}
use Rattle.jm_reader.specs.Written.{AreCommands, ChapterIsRead}
use Rattle.jm_reader.specs.WrittenOne.{all_coded, all_below}
use Rattle.jm_reader.specs.WrittenListed.{logs_said, Says, listed_again, listed_silent}

-- what an event says, where it is a pressure on a key; X isn't kept
abbrev pub event_said : (channel : ℕ) → PolyEvent → List LogKind
event_said channel (Pressed note value) = Poly channel note value ∷ []
event_said channel Dropped = []
event_said channel Other = []

abbrev pub place_said : (channel : ℕ) → Sent → List LogKind
place_said channel place = event_said channel (poly_at channel place)

-- the logs of Chapter A of this channel in the journal of this packet
unfoldable pub a_said : (channel checkpoint packet : ℕ) → List Sent → List Log
a_said channel checkpoint packet sent = logs_said (place_said channel) packet (coded_presses channel checkpoint (below packet_of packet sent))

-- ## What is written is read

abbrev Fits : PolyEvent → Type 0
Fits (Pressed note value) = (note < 128) × (value < 128)
Fits Dropped = Unit {0}
Fits Other = Unit {0}

within : (event : PolyEvent) → Fits event → IsWithin event
within (Pressed note value) w = w.0
within Dropped w = tt
within Other w = tt

dropped : (b : Bool) → Fits (cond b Dropped Other)
dropped true = tt
dropped false = tt

fits_event : (channel : ℕ) (command : Command) → IsCommand command → Fits (poly_event channel command)
fits_event channel (commands.PolyPressure at note value) h = elim (cases_Bool (eqb at channel)) [ inl t ↦ rw t (h.1, h.2) | inr f ↦ rw f tt ]
fits_event channel command h = dropped (ends_controllers channel command)

value_again : (muted : Bool) (value : ℕ) → value < 128 → (x_bit muted + value) % 128 ≡ value
value_again true value l = omega arith
value_again false value l = omega arith

says : (channel : ℕ) (session : List Sent) (event : PolyEvent) → Fits event → Says Pressures channel (press_logs channel session event) (event_said channel event)
says channel session (Pressed note value) w = record { fit = (w.0, tt); what = rw (value_again (is_muted channel note session) value w.1) refl }
says channel session Dropped w = record { fit = tt; what = refl }
says channel session Other w = record { fit = tt; what = refl }

abbrev fits_at : ℕ → Sent → Type 0
fits_at channel place = Fits (poly_at channel place)

-- what is coded is within its bounds
coded_fits : (channel checkpoint packet : ℕ) (sent : List Sent) → AreCommands sent → AllByRecursion (fits_at channel) (coded_presses channel checkpoint (below packet_of packet sent))
coded_fits channel checkpoint packet sent h =
    all_coded (fits_at channel) (poly_ends channel) packet_of checkpoint (below packet_of packet sent)
    (all_below (fits_at channel) packet sent (AllByRecursion-weaker (λ (place : Sent). IsCommand place.command) (fits_at channel) (λ place b. fits_event channel place.command b) sent h))

coded_says : (channel checkpoint packet : ℕ) (sent : List Sent) → AreCommands sent →
    AllByRecursion (λ place. Says Pressures channel (press_at channel (below packet_of packet sent) place) (place_said channel place)) (coded_presses channel checkpoint (below packet_of packet sent))
coded_says channel checkpoint packet sent h =
    let seen = below packet_of packet sent in
    AllByRecursion-weaker (fits_at channel) (λ place. Says Pressures channel (press_at channel seen place) (place_said channel place))
    (λ place b. says channel seen (poly_at channel place) b) (coded_presses channel checkpoint seen) (coded_fits channel checkpoint packet sent h)

coded_few : (channel checkpoint packet : ℕ) (sent : List Sent) → AreCommands sent → log_count (press_at channel (below packet_of packet sent)) (coded_presses channel checkpoint (below packet_of packet sent)) ≤ 128
coded_few channel checkpoint packet sent h =
    let seen = below packet_of packet sent in
    let places = coded_presses channel checkpoint seen in
    let w = AllByRecursion-weaker (fits_at channel) (λ place. IsWithin (poly_at channel place)) (λ place b. within (poly_at channel place) b) places (coded_fits channel checkpoint packet sent h) in
    omega (arith, logs-keys channel seen places, presses-few channel places (Unended-coded (poly_ends channel) packet_of checkpoint seen) w)

pub a_again : (channel checkpoint packet : ℕ) (sent : List Sent) → AreCommands sent → is_there (chapter_a channel checkpoint packet sent) ≡ true → (rest : List ℕ) →
    listed_read Pressures channel (chapter_a channel checkpoint packet sent ++ rest) ≡ Some (a_said channel checkpoint packet sent, length (chapter_a channel checkpoint packet sent))
unfolding chapter_a a_said
a_again channel checkpoint packet sent h there rest =
    let seen = below packet_of packet sent in
    listed_again Pressures channel (press_at channel seen) (place_said channel) packet (coded_presses channel checkpoint seen)
    (coded_says channel checkpoint packet sent h) (coded_few channel checkpoint packet sent h) there rest

pub a_none : (channel checkpoint packet : ℕ) (sent : List Sent) → AreCommands sent → is_there (chapter_a channel checkpoint packet sent) ≡ false → a_said channel checkpoint packet sent ≡ []
unfolding chapter_a a_said
a_none channel checkpoint packet sent h none =
    let seen = below packet_of packet sent in
    listed_silent Pressures channel (press_at channel seen) (place_said channel) packet (coded_presses channel checkpoint seen) (coded_says channel checkpoint packet sent h) none

pub a_is_read : ChapterIsRead chapter_a a_said (λ channel octets. listed_read Pressures channel octets)
a_is_read = record { again = a_again; none = a_none }
