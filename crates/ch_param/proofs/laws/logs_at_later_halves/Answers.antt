use Rattle.jm_cmds.specs.HistoryLaws.{InOrder-scanned}
use Rattle.jm_cmds.specs.Selection.{no_selection}
use Rattle.jm_cmds.specs.Sent.{packet_of}
use Rattle.ch_param.specs.ChapterM.{session_places}
use Rattle.ch_param.specs.Event.{selection_step}
use Rattle.ch_param.specs.LaterLaws.{entered-halves}
use Rattle.ch_param.proofs.laws.logs_at_later_halves.Goals as goal

pub returns : goal.returns
returns c channel checkpoint sent order =
    entered-halves channel checkpoint (session_places channel sent) (InOrder-scanned packet_of (selection_step channel) no_selection sent order)
