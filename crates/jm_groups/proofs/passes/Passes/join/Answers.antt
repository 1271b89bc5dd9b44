use Rattle.std.proofs.Common.{◌+◌, All, sym, subst}
use Rattle.jm_groups.specs.Sharing.{HasOut}
use Rattle.jm_groups.specs.SharingLaws.{joined_out}
use Rattle.jm_groups.proofs.passes.Passes.join.Goals as goal

pub returns-clause-out : goal.returns-clause-out
returns-clause-out c n before =
    joined_out n c.self.inside.passes.items c.other.inside.passes.items c.join_each.new.passes.items c.join_each.ensures.each (subst (All (HasOut (n + 1))) (sym c.self.view_is) before)
