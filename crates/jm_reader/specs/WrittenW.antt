-- Chapter W: what is written is read.
use Rattle.std.proofs.Common.{◌≡◌, ℕ, ◌<◌, ◌%◌, Bool, true, false, cond, eqb, List, [], ◌∷◌, ◌++◌, length, Some, refl, arith, inl, inr}
use Rattle.std.specs.List.{flat_map}
use Rattle.std.proofs.lemmas.Bool.{cases_Bool}
use Rattle.jm_cmds.specs.declared.commands.Command.{Command}
use Rattle.jm_cmds.specs.declared.commands.Command.TheVariants as commands
use Rattle.jm_cmds.specs.declared.history.Sent.{Sent}
use Rattle.jm_cmds.specs.Command.{IsCommand}
use Rattle.jm_cmds.specs.Control.{ends_controllers}
use Rattle.jm_cmds.specs.History.{below}
use Rattle.jm_cmds.specs.HistoryLaws.{Unended-coded, AllByRecursion-weaker}
use Rattle.jm_cmds.specs.Sent.{packet_of, is_fresh, s_of}
use Rattle.ch_voice.specs.declared.events.WheelEvent.{WheelEvent}
use Rattle.ch_voice.specs.declared.events.WheelEvent.TheVariants.{Moved, Cleared, Other}
use Rattle.ch_voice.specs.WheelEvent.{wheel_event, wheel_at, is_moved, ends_wheel, wheel_ends}
use Rattle.ch_voice.specs.ChapterW.{chapter_w, coded_wheel, wheel_octets, wheel_log}
use Rattle.jm_journal.specs.Channel.{is_there}
use Rattle.jm_reader.specs.declared.logs.Log.{Log}
use Rattle.jm_reader.specs.declared.logs.LogKind.TheVariants.{Wheel}
use Rattle.jm_reader.specs.Octets.{shows, low_bits}
use Rattle.jm_reader.specs.ChapterW.{w_read}
use Rattle.jm_reader.specs.Written.{AreCommands, ChapterIsRead}
use Rattle.jm_reader.specs.WrittenOne.{SaysOne, one_again, one_none, all_coded, all_below}

-- what an event says, where it moves the wheel
abbrev pub wheel_said : ℕ → Bool → WheelEvent → List Log
wheel_said channel fresh (Moved first second) = record { fresh = fresh; what = Wheel channel first second } ∷ []
wheel_said channel fresh Cleared = []
wheel_said channel fresh Other = []

abbrev pub place_said : (channel packet : ℕ) → Sent → List Log
place_said channel packet place = wheel_said channel (is_fresh packet place) (wheel_at channel place)

-- the logs of Chapter W of this channel in the journal of this packet
unfoldable pub w_said : (channel checkpoint packet : ℕ) → List Sent → List Log
w_said channel checkpoint packet sent = flat_map (place_said channel packet) (coded_wheel channel checkpoint packet sent)

-- ## What is written is read

abbrev Fits : WheelEvent → Type 0
Fits (Moved first second) = (first < 128) × (second < 128)
Fits Cleared = Unit {0}
Fits Other = Unit {0}

cleared : (b : Bool) → Fits (cond b Cleared Other)
cleared true = tt
cleared false = tt

fits_event : (channel : ℕ) (command : Command) → IsCommand command → Fits (wheel_event channel command)
fits_event channel (commands.Wheel at first second) h = elim (cases_Bool (eqb at channel)) [ inl t ↦ rw t (h.1, h.2) | inr f ↦ rw f tt ]
fits_event channel command h = cleared (ends_controllers channel command)

silent : (s : ℕ) (event : WheelEvent) → is_moved event ≡ false → wheel_octets s event ≡ []
silent s (Moved first second) h = cc
silent s Cleared h = refl
silent s Other h = refl

unsaid : (channel : ℕ) (fresh : Bool) (event : WheelEvent) → is_moved event ≡ false → wheel_said channel fresh event ≡ []
unsaid channel fresh (Moved first second) h = cc
unsaid channel fresh Cleared h = refl
unsaid channel fresh Other h = refl

told : (s : ℕ) (event : WheelEvent) → is_moved event ≡ true → 0 < length (wheel_octets s event)
told s (Moved first second) h = omega arith
told s Cleared h = absurd (let f : false ≡ true = h in cc)
told s Other h = absurd (let f : false ≡ true = h in cc)

again : (channel : ℕ) (fresh : Bool) (event : WheelEvent) (rest : List ℕ) → Fits event → is_moved event ≡ true →
    w_read channel (wheel_octets (s_of fresh) event ++ rest) ≡ Some (wheel_said channel fresh event, length (wheel_octets (s_of fresh) event))
again channel fresh (Moved first second) rest w h =
    let low : second % 128 ≡ second = omega (arith, w.1) in
    rw (shows fresh first w.0, low_bits fresh first w.0, low) refl
again channel fresh Cleared rest w h = absurd (let f : false ≡ true = h in cc)
again channel fresh Other rest w h = absurd (let f : false ≡ true = h in cc)

touching : (event : WheelEvent) → ends_wheel event ≡ false → is_moved event ≡ false
touching (Moved first second) h = cc
touching Cleared h = refl
touching Other h = refl

abbrev fits_at : ℕ → Sent → Type 0
fits_at channel place = Fits (wheel_at channel place)

abbrev item_at : ℕ → Sent → Bool
item_at channel place = is_moved (wheel_at channel place)

abbrev touches_at : ℕ → Sent → Bool
touches_at channel place = ends_wheel (wheel_at channel place)

says : (channel packet : ℕ) → SaysOne (fits_at channel) (item_at channel) (touches_at channel) (wheel_log channel packet) (place_said channel packet) (w_read channel)
says channel packet = record {
  silent = λ x h. silent (s_of (is_fresh packet x)) (wheel_at channel x) h;
  unsaid = λ x h. unsaid channel (is_fresh packet x) (wheel_at channel x) h;
  told = λ x h. told (s_of (is_fresh packet x)) (wheel_at channel x) h;
  again = λ x rest w h. again channel (is_fresh packet x) (wheel_at channel x) rest w h;
  touching = λ x h. touching (wheel_at channel x) h;
}

pub w_again : (channel checkpoint packet : ℕ) (sent : List Sent) → AreCommands sent → is_there (chapter_w channel checkpoint packet sent) ≡ true → (rest : List ℕ) →
    w_read channel (chapter_w channel checkpoint packet sent ++ rest) ≡ Some (w_said channel checkpoint packet sent, length (chapter_w channel checkpoint packet sent))
unfolding chapter_w w_said
w_again channel checkpoint packet sent h there rest =
    let seen = below packet_of packet sent in
    let fits = AllByRecursion-weaker (λ (place : Sent). IsCommand place.command) (fits_at channel) (λ place b. fits_event channel place.command b) sent h in
    one_again (fits_at channel) (item_at channel) (touches_at channel) (wheel_log channel packet) (place_said channel packet) (w_read channel) (says channel packet)
    (coded_wheel channel checkpoint packet sent) (Unended-coded (wheel_ends channel) packet_of checkpoint seen)
    (all_coded (fits_at channel) (wheel_ends channel) packet_of checkpoint seen (all_below (fits_at channel) packet sent fits)) there rest

pub w_none : (channel checkpoint packet : ℕ) (sent : List Sent) → AreCommands sent → is_there (chapter_w channel checkpoint packet sent) ≡ false → w_said channel checkpoint packet sent ≡ []
unfolding chapter_w w_said
w_none channel checkpoint packet sent h none =
    one_none (fits_at channel) (item_at channel) (touches_at channel) (wheel_log channel packet) (place_said channel packet) (w_read channel) (says channel packet) (coded_wheel channel checkpoint packet sent) none

pub w_is_read : ChapterIsRead chapter_w w_said (λ channel octets. w_read channel octets)
w_is_read = record { again = w_again; none = w_none }
