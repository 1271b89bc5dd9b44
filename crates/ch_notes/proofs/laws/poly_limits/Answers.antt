use Rattle.ch_notes.specs.PolyLimits.{poly_count-push, poly_count-other, poly_count-met, poly_count-later}
use Rattle.ch_notes.proofs.laws.poly_limits.Goals as goal

pub returns : goal.returns
returns c = record { one_more = poly_count-push; other = poly_count-other; met = poly_count-met; fewer = poly_count-later }
