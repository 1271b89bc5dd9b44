-- Where the logs stand (RFC 6295, A.1 and A.4.1).
use Rattle.std.specs.Prelude.{◌≡◌, ℕ, List}
use Rattle.std.specs.List.{filter_map}
use Rattle.jm_cmds.specs.declared.history.Sent.{Sent}
use Rattle.jm_cmds.specs.History.{InOrder, standing, coded}
use Rattle.jm_cmds.specs.Sent.{packet_of}
use Rattle.ch_param.specs.Event.{packet_at, param_ends, half_ends}
use Rattle.ch_param.specs.ChapterM.{entered, entered_at, session_places}

-- A parameter has a log exactly where one of its halves is coded, at the later of the coded ones.
abbrev pub LogsAtLaterHalves : Type 0
LogsAtLaterHalves = (channel checkpoint : ℕ) (sent : List Sent) → InOrder packet_of sent →
    let places = session_places channel sent in
    entered channel checkpoint places ≡ filter_map (entered_at channel) (standing (param_ends channel) (coded (half_ends channel) packet_at checkpoint places))
