-- Who takes part is followed along the steps so far, and the count of all steps is that of the rest behind what was counted.
use Rattle.std.proofs.Common.{◌≡◌, ◌≤◌, ℕ, drop}
use Rattle.std.specs.List.{fold}
use Rattle.jm_book.specs.Session.{Session}
use Rattle.midi_host.specs.Counts.{Tally, tallied, tally_at_first}
use Rattle.midi_host.specs.Attendance.{Attends}
use Rattle.midi_host.proofs.counting.counts_of.Given as goal

abbrev pub invariant-loop-step : goal.invariant-loop-step
invariant-loop-step l =
    (session : Session) × Attends session.members l.attendance
    × (fold tallied (record { session = session; counts = l.counts }) (drop l.step-index l.tape) ≡ fold tallied (tally_at_first l.config) l.tape)
    × (l.counts.packets ≤ l.step-index) × (l.counts.commands ≤ l.step-index) × (l.counts.joins ≤ l.step-index) × (l.counts.leaves ≤ l.step-index)
