-- How the pass of one group is lent.
use Rattle.std.specs.Prelude.{ℕ, List, slice_set}
use Rattle.std.specs.Borrow.{Lends, MutBor, Fml}
use Rattle.jm_desk.specs.Sharing.{PassView}
use Rattle.jm_desk.specs.contracts.pass.Pass as pass
use Rattle.jm_groups.specs.contracts.passes.Passes as passes

-- The pass of group g is lent: what is left behind the reference is its new value, and the others stay.
abbrev pub LendsPass : MutBor (List PassView) → ℕ → MutBor PassView → Fml
LendsPass of g r = Lends passes.the_row pass.the_row of r (slice_set of.now g)
