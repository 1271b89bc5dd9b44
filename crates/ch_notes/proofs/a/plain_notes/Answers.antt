use Rattle.std.proofs.Common.{ap, ◌∙◌}
use Rattle.jm_cmds.specs.History.{standing}
use Rattle.jm_cmds.specs.Keys.{key_count}
use Rattle.ch_notes.specs.PolyEvent.{poly_ends, poly_key}
use Rattle.ch_notes.specs.ChapterA.{poly_count}
use Rattle.ch_notes.specs.PressLaws.{logs-keys}
use Rattle.ch_notes.proofs.a.plain_notes.Goals as goal

pub returns : goal.returns
unfolding poly_count
returns c =
    let a = c.args in
    c.tally_of.ensures.logs
    ∙ logs-keys a.channel a.list.now (standing (poly_ends a.channel) c.places_from.result.now)
    ∙ ap (key_count (poly_key a.channel)) (c.places_from.ensures (poly_ends a.channel))
