use Rattle.std.proofs.Common.{ap, sym, ◌∙◌}
use Rattle.std.proofs.lemmas.List.{take_rest}
use Rattle.jm_cmds.specs.History.{standing, coded}
use Rattle.jm_cmds.specs.HistoryLaws.{since-standing}
use Rattle.jm_cmds.specs.Sent.{packet_of}
use Rattle.jm_cmds.proofs.history.checkpoint_history.Goals as goal

pub returns-clause-coded : goal.returns-clause-coded
returns-clause-coded c = λ ends.
    let session = c.session_history-session.result.now in
    ap (standing ends) (take_rest session c.place_of.result ∙ c.place_of.ensures.from_on)
    ∙ sym (since-standing ends packet_of c.args.checkpoint session c.session_history-session.ensures.order)
    ∙ ap (coded ends packet_of c.args.checkpoint) c.session_history-session.ensures.history
