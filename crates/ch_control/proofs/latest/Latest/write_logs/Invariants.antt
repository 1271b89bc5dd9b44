use Rattle.std.proofs.Common.{length}
use Rattle.jm_wire.specs.Octets.{Owes}
use Rattle.jm_recency.specs.Recency.{from_key, IsAtKey}
use Rattle.ch_control.specs.ControlTable.{controls_in, kept_texts}
use Rattle.ch_control.proofs.latest.Latest.write_logs.Given as goal

abbrev pub invariant-loop-at : goal.invariant-loop-at
invariant-loop-at l =
    let counts = l.session.counts in
    let toggles = l.session.pedal.toggles in
    IsAtKey l.self.order l.at
    × Owes l.initial.out l.out (kept_texts counts toggles l.packet (controls_in l.self.values l.self.order)) (kept_texts counts toggles l.packet (controls_in l.self.values (from_key l.self.order l.at)))

abbrev pub decreases-loop-at : goal.decreases-loop-at
decreases-loop-at l = length (from_key l.self.order l.at)
