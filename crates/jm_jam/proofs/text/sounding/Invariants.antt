use Rattle.std.proofs.Common.{◌≡◌, ◌≤◌}
use Rattle.jm_jam.specs.Summary.{sounding_below}
use Rattle.jm_jam.proofs.text.sounding.Given as goal

abbrev pub invariant-loop-note : goal.invariant-loop-note
invariant-loop-note l = (l.count ≡ sounding_below l.state l.channel l.note) × (l.count ≤ l.note)
