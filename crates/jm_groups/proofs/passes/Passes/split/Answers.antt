use Rattle.std.proofs.Common.{◌+◌, All, sym, subst}
use Rattle.jm_groups.specs.Sharing.{HasOut}
use Rattle.jm_groups.specs.SharingLaws.{split_out}
use Rattle.jm_groups.proofs.passes.Passes.split.Goals as goal

pub returns-clause-out : goal.returns-clause-out
returns-clause-out c n before =
    subst (All (HasOut (n + 1))) (sym c.split_each.ensures.parted) (split_out n c.self.inside.passes.items (subst (All (HasOut n)) (sym c.self.view_is) before))
