use Rattle.std.proofs.Common.{ap, sym, ◌∙◌}
use Rattle.std.proofs.lemmas.List.{take_rest}
use Rattle.jm_cmds.specs.History.{standing}
use Rattle.jm_cmds.specs.HistoryLaws.{since-standing}
use Rattle.jm_cmds.specs.Sent.{packet_of}
use Rattle.jm_chapter.proofs.places.places_from.Goals as goal

pub returns : goal.returns
returns c = λ ends.
    let list = c.args.list.now in
    ap (standing ends) (take_rest list c.place_of.result ∙ c.place_of.ensures.from_on)
    ∙ sym (since-standing ends packet_of c.args.checkpoint list c.requires)
