-- A chapter shows what the packet before brought.
use Rattle.std.proofs.Common.{◌≡◌, ℕ, ◌<◌, Bool, true, false, cond, not, ◌&&◌, eqb, ltb, leb, List, arith, inl, inr}
use Rattle.std.specs.List.{AllByRecursion}
use Rattle.std.proofs.lemmas.Bool.{cases_Bool, and_parts}
use Rattle.jm_cmds.specs.declared.history.Sent.{Sent}
use Rattle.jm_cmds.specs.declared.commands.Command.{Command}
use Rattle.jm_cmds.specs.declared.commands.Command.TheVariants.{Control}
use Rattle.jm_cmds.specs.Command.{IsCommand}
use Rattle.jm_cmds.specs.Control.{is_entry, is_reset}
use Rattle.jm_cmds.specs.History.{standing, below}
use Rattle.jm_cmds.specs.HistoryLaws.{AllByRecursion-filter, AllByRecursion-standing, AllByRecursion-weaker, Unended-coded}
use Rattle.jm_chapter.specs.Logs.{log_shows_fresh}
use Rattle.jm_chapter.specs.LogsLaws.{FitLogs, listed-shows}
use Rattle.jm_cmds.specs.Sent.{packet_of, shows_fresh}
use Rattle.ch_control.specs.declared.events.ControlEvent.{ControlEvent}
use Rattle.ch_control.specs.declared.events.ControlEvent.TheVariants.{Set, Dropped, Other}
use Rattle.ch_control.specs.ControlEvent.{control_event, event_at, control_ends, IsWithin, AreWithin}
use Rattle.ch_control.specs.ChapterC.{set_logs, event_logs, control_logs, coded_controls, chapter_c, fresh_c}
use Rattle.ch_control.specs.CountBounds.{not-true, control-few}

dropped-within : (b : Bool) → IsWithin (cond b Dropped Other)
dropped-within true = tt
dropped-within false = tt

-- a command within its bounds means a controller within its bounds
IsWithin-event : (channel : ℕ) (command : Command) → IsCommand command → IsWithin (control_event channel command)
IsWithin-event channel (Control at number value) h =
    elim (cases_Bool (eqb at channel && not (is_entry number))) [
      | inl t ↦ rw t (h.1, not-true (is_entry number) (and_parts (eqb at channel) (not (is_entry number)) t).1)
      | inr f ↦ rw f tt
    ]
IsWithin-event channel command h = dropped-within (is_reset command)

-- ## The whole chapter

FitLogs-set : (channel : ℕ) (session : List Sent) (number value : ℕ) → number < 128 → FitLogs (set_logs channel session number value)
FitLogs-set channel session number value w = elim (cases_Bool (eqb number 64)) [ inl t ↦ rw t (w, (w, tt)) | inr f ↦ rw f (w, tt) ]

FitLogs-control : (channel : ℕ) (session : List Sent) (event : ControlEvent) → IsWithin event → FitLogs (event_logs channel session event)
FitLogs-control channel session (Set number value) w = FitLogs-set channel session number value w.0
FitLogs-control channel session Dropped w = tt
FitLogs-control channel session Other w = tt

pub fresh_c-shows : (channel checkpoint packet : ℕ) (sent : List Sent) → AllByRecursion (λ place. IsCommand place.command) sent →
    (fresh_c channel checkpoint packet sent ≡ shows_fresh (chapter_c channel checkpoint packet sent))
    × (fresh_c channel checkpoint packet sent ≡ log_shows_fresh (chapter_c channel checkpoint packet sent))
unfolding fresh_c chapter_c
fresh_c-shows channel checkpoint packet sent h =
    let places = coded_controls channel checkpoint packet sent in
    let within_all = AllByRecursion-weaker (λ (place : Sent). IsCommand place.command) (λ place. IsWithin (event_at channel place)) (λ place b. IsWithin-event channel place.command b) sent h in
    let seen = below packet_of packet sent in
    let within_seen = AllByRecursion-filter (λ place. IsWithin (event_at channel place)) (λ place. ltb (packet_of place) packet) sent within_all in
    let within_standing = AllByRecursion-standing (λ place. IsWithin (event_at channel place)) (control_ends channel) seen within_seen in
    let w : AreWithin channel places = AllByRecursion-filter (λ place. IsWithin (event_at channel place)) (λ place. leb checkpoint (packet_of place)) (standing (control_ends channel) seen) within_standing in
    let few = control-few channel seen places (Unended-coded (control_ends channel) packet_of checkpoint seen) w in
    let fits = AllByRecursion-weaker (λ (place : Sent). IsWithin (event_at channel place)) (λ place. FitLogs (control_logs channel seen place)) (λ place b. FitLogs-control channel seen (event_at channel place) b) places w in
    listed-shows (control_logs channel seen) packet places fits (omega (arith, few))
