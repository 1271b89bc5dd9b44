-- The order of what Chapter P codes (RFC 6295, A.1).
use Rattle.std.specs.Prelude.{ℕ, List}
use Rattle.jm_cmds.specs.declared.history.Sent.{Sent}
use Rattle.jm_cmds.specs.History.{InOrder}
use Rattle.jm_cmds.specs.HistoryLaws.{IsCodedWell}
use Rattle.ch_voice.specs.ChapterP.{coded_program, program_ends}

-- The coded places stand oldest first, in order of any number that never falls along the history, and none is ended by a later one.
abbrev pub CodedInOrder : Type 0
CodedInOrder = (number_of : Sent → ℕ) (channel checkpoint packet : ℕ) (sent : List Sent) → InOrder number_of sent →
    IsCodedWell (λ place. number_of place.1) (program_ends channel) (coded_program channel checkpoint packet sent)
