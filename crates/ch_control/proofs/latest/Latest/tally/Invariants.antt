use Rattle.std.proofs.Common.{◌≡◌, ◌+◌, ◌≤◌, ◌||◌, length}
use Rattle.std.specs.List.{list_any}
use Rattle.jm_recency.specs.Recency.{from_key, IsAtKey}
use Rattle.jm_cmds.specs.KeptItem.{kept_fresh}
use Rattle.ch_control.specs.ControlTable.{controls_in, logs_count}
use Rattle.ch_control.proofs.latest.Latest.tally.Given as goal

abbrev pub invariant-loop-at : goal.invariant-loop-at
invariant-loop-at l =
    let counts = l.session.counts in
    let toggles = l.session.pedal.toggles in
    let all = controls_in l.self.values l.self.order in
    let rest = controls_in l.self.values (from_key l.self.order l.at) in
    IsAtKey l.self.order l.at
    × (l.logs + logs_count counts toggles rest ≡ logs_count counts toggles all)
    × ((l.fresh || list_any (kept_fresh l.packet) rest) ≡ list_any (kept_fresh l.packet) all)
    × (logs_count counts toggles all ≤ 128)

abbrev pub decreases-loop-at : goal.decreases-loop-at
decreases-loop-at l = length (from_key l.self.order l.at)
