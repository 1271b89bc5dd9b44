use Rattle.std.proofs.Common.{ap, sym, ◌∙◌, length, List}
use Rattle.jm_cmds.specs.History.{standing, coded, below}
use Rattle.jm_cmds.specs.Sent.{packet_of}
use Rattle.jm_cmds.specs.declared.history.Sent.{Sent}
use Rattle.jm_chapter.specs.Logs.{listed_size, log_count}
use Rattle.jm_chapter.specs.LogsLaws.{length-listed}
use Rattle.jm_chapter.proofs.listed.listed_len.Goals as goal

pub returns-clause-number : goal.returns-clause-number
returns-clause-number g c =
    let a = c.args in
    let session = below packet_of a.packet a.list.now in
    let ends = g.C.Items.ends a.chapter.now in
    let stand = standing ends c.checkpoint_history-places.result.now in
    let logs_at = g.C.Listed.logs a.chapter.now session in
    c.size.ensures.number
    ∙ ap
    listed_size
    (
    c.tally_of.ensures.logs
    ∙ ap (λ (k : List Sent). log_count (g.C.Listed.logs a.chapter.now k) stand) c.session_history-session.ensures.history
    ∙ ap (log_count logs_at) (c.checkpoint_history-places.ensures.coded ends)
    )
    ∙ sym (length-listed logs_at a.packet (coded ends packet_of a.checkpoint session))
