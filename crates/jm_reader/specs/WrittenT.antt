-- Chapter T: what is written is read.
use Rattle.std.proofs.Common.{◌≡◌, ℕ, ◌<◌, ◌||◌, Bool, true, false, cond, eqb, List, [], ◌∷◌, ◌++◌, length, Some, refl, arith, inl, inr}
use Rattle.std.specs.List.{flat_map}
use Rattle.std.proofs.lemmas.Bool.{cases_Bool}
use Rattle.jm_cmds.specs.declared.commands.Command.{Command}
use Rattle.jm_cmds.specs.declared.commands.Command.TheVariants as commands
use Rattle.jm_cmds.specs.declared.history.Sent.{Sent}
use Rattle.jm_cmds.specs.Command.{IsCommand}
use Rattle.jm_cmds.specs.Control.{ends_notes, ends_controllers}
use Rattle.jm_cmds.specs.History.{below}
use Rattle.jm_cmds.specs.HistoryLaws.{Unended-coded, AllByRecursion-weaker}
use Rattle.jm_cmds.specs.Sent.{packet_of, is_fresh, s_of}
use Rattle.ch_voice.specs.declared.events.PressureEvent.{PressureEvent}
use Rattle.ch_voice.specs.declared.events.PressureEvent.TheVariants.{Pressed, Cleared, Other}
use Rattle.ch_voice.specs.PressureEvent.{pressure_event, pressure_at, is_pressed, ends_pressure, pressure_ends}
use Rattle.ch_voice.specs.ChapterT.{chapter_t, coded_pressure, pressure_octets, pressure_log}
use Rattle.jm_journal.specs.Channel.{is_there}
use Rattle.jm_reader.specs.declared.logs.Log.{Log}
use Rattle.jm_reader.specs.declared.logs.LogKind.TheVariants.{Pressure}
use Rattle.jm_reader.specs.Octets.{shows, low_bits}
use Rattle.jm_reader.specs.ChapterT.{t_read}
use Rattle.jm_reader.specs.Written.{AreCommands, ChapterIsRead}
use Rattle.jm_reader.specs.WrittenOne.{SaysOne, one_again, one_none, all_coded, all_below}

-- what an event says, where it tells the pressure
abbrev pub pressure_said : ℕ → Bool → PressureEvent → List Log
pressure_said channel fresh (Pressed value) = record { fresh = fresh; what = Pressure channel value } ∷ []
pressure_said channel fresh Cleared = []
pressure_said channel fresh Other = []

abbrev pub place_said : (channel packet : ℕ) → Sent → List Log
place_said channel packet place = pressure_said channel (is_fresh packet place) (pressure_at channel place)

-- the logs of Chapter T of this channel in the journal of this packet
unfoldable pub t_said : (channel checkpoint packet : ℕ) → List Sent → List Log
t_said channel checkpoint packet sent = flat_map (place_said channel packet) (coded_pressure channel checkpoint packet sent)

-- ## What is written is read

abbrev Fits : PressureEvent → Type 0
Fits (Pressed value) = value < 128
Fits Cleared = Unit {0}
Fits Other = Unit {0}

cleared : (b : Bool) → Fits (cond b Cleared Other)
cleared true = tt
cleared false = tt

fits_event : (channel : ℕ) (command : Command) → IsCommand command → Fits (pressure_event channel command)
fits_event channel (commands.Pressure at value) h = elim (cases_Bool (eqb at channel)) [ inl t ↦ rw t h.1 | inr f ↦ rw f tt ]
fits_event channel command h = cleared (ends_notes channel command || ends_controllers channel command)

silent : (s : ℕ) (event : PressureEvent) → is_pressed event ≡ false → pressure_octets s event ≡ []
silent s (Pressed value) h = cc
silent s Cleared h = refl
silent s Other h = refl

unsaid : (channel : ℕ) (fresh : Bool) (event : PressureEvent) → is_pressed event ≡ false → pressure_said channel fresh event ≡ []
unsaid channel fresh (Pressed value) h = cc
unsaid channel fresh Cleared h = refl
unsaid channel fresh Other h = refl

told : (s : ℕ) (event : PressureEvent) → is_pressed event ≡ true → 0 < length (pressure_octets s event)
told s (Pressed value) h = omega arith
told s Cleared h = absurd (let f : false ≡ true = h in cc)
told s Other h = absurd (let f : false ≡ true = h in cc)

again : (channel : ℕ) (fresh : Bool) (event : PressureEvent) (rest : List ℕ) → Fits event → is_pressed event ≡ true →
    t_read channel (pressure_octets (s_of fresh) event ++ rest) ≡ Some (pressure_said channel fresh event, length (pressure_octets (s_of fresh) event))
again channel fresh (Pressed value) rest w h =
    rw (shows fresh value w, low_bits fresh value w) refl
again channel fresh Cleared rest w h = absurd (let f : false ≡ true = h in cc)
again channel fresh Other rest w h = absurd (let f : false ≡ true = h in cc)

touching : (event : PressureEvent) → ends_pressure event ≡ false → is_pressed event ≡ false
touching (Pressed value) h = cc
touching Cleared h = refl
touching Other h = refl

abbrev fits_at : ℕ → Sent → Type 0
fits_at channel place = Fits (pressure_at channel place)

abbrev item_at : ℕ → Sent → Bool
item_at channel place = is_pressed (pressure_at channel place)

abbrev touches_at : ℕ → Sent → Bool
touches_at channel place = ends_pressure (pressure_at channel place)

says : (channel packet : ℕ) → SaysOne (fits_at channel) (item_at channel) (touches_at channel) (pressure_log channel packet) (place_said channel packet) (t_read channel)
says channel packet = record {
  silent = λ x h. silent (s_of (is_fresh packet x)) (pressure_at channel x) h;
  unsaid = λ x h. unsaid channel (is_fresh packet x) (pressure_at channel x) h;
  told = λ x h. told (s_of (is_fresh packet x)) (pressure_at channel x) h;
  again = λ x rest w h. again channel (is_fresh packet x) (pressure_at channel x) rest w h;
  touching = λ x h. touching (pressure_at channel x) h;
}

pub t_again : (channel checkpoint packet : ℕ) (sent : List Sent) → AreCommands sent → is_there (chapter_t channel checkpoint packet sent) ≡ true → (rest : List ℕ) →
    t_read channel (chapter_t channel checkpoint packet sent ++ rest) ≡ Some (t_said channel checkpoint packet sent, length (chapter_t channel checkpoint packet sent))
unfolding chapter_t t_said
t_again channel checkpoint packet sent h there rest =
    let seen = below packet_of packet sent in
    let fits = AllByRecursion-weaker (λ (place : Sent). IsCommand place.command) (fits_at channel) (λ place b. fits_event channel place.command b) sent h in
    one_again (fits_at channel) (item_at channel) (touches_at channel) (pressure_log channel packet) (place_said channel packet) (t_read channel) (says channel packet)
    (coded_pressure channel checkpoint packet sent) (Unended-coded (pressure_ends channel) packet_of checkpoint seen)
    (all_coded (fits_at channel) (pressure_ends channel) packet_of checkpoint seen (all_below (fits_at channel) packet sent fits)) there rest

pub t_none : (channel checkpoint packet : ℕ) (sent : List Sent) → AreCommands sent → is_there (chapter_t channel checkpoint packet sent) ≡ false → t_said channel checkpoint packet sent ≡ []
unfolding chapter_t t_said
t_none channel checkpoint packet sent h none =
    one_none (fits_at channel) (item_at channel) (touches_at channel) (pressure_log channel packet) (place_said channel packet) (t_read channel) (says channel packet) (coded_pressure channel checkpoint packet sent) none

pub t_is_read : ChapterIsRead chapter_t t_said (λ channel octets. t_read channel octets)
t_is_read = record { again = t_again; none = t_none }
