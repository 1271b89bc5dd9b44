use Rattle.std.proofs.Common.{◌≡◌, ◌∷◌, [], List, subst}
use Rattle.std.specs.Option.{MatchOption}
use Rattle.jm_cmds.specs.declared.history.Sent.{Sent}
use Rattle.ch_voice.specs.ItemLaws.{told-coded}
use Rattle.ch_voice.specs.VoiceItem.{item_ends}
use Rattle.ch_voice.proofs.item.coded_place.Goals as goal

pub returns : goal.returns
returns c =
    let a = c.args in
    let coded = told-coded a.item a.channel a.checkpoint a.packet a.list.now c.checkpoint_history.result.now (c.checkpoint_history.ensures.coded (item_ends a.item a.channel)) in
    subst (λ (l : List Sent). MatchOption c.standing_place.result (l ≡ []) (λ place. l ≡ place.now ∷ [])) coded c.standing_place.ensures
