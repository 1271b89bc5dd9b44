use Rattle.std.proofs.Common.{◌≡◌, ◌∷◌, [], List, subst}
use Rattle.std.specs.Option.{MatchOption}
use Rattle.jm_cmds.specs.declared.history.Sent.{Sent}
use Rattle.ch_system.specs.Items.{item_ends}
use Rattle.ch_system.specs.ItemLaws.{standing-coded}
use Rattle.ch_system.proofs.items.coded_place.Goals as goal

pub returns : goal.returns
returns c =
    let a = c.args in
    let coded = standing-coded a.item a.checkpoint a.packet a.list.now c.checkpoint_history.result.now (c.checkpoint_history.ensures.coded (item_ends a.item)) in
    subst (λ (l : List Sent). MatchOption c.standing_place.result (l ≡ []) (λ place. l ≡ place.now ∷ [])) coded c.standing_place.ensures
