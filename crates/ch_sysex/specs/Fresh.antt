-- What Chapter X shows of the packet before, by its octets.
use Rattle.std.specs.Prelude.{◌≡◌, ℕ, Bool, List, map, filter}
use Rattle.std.specs.List.{list_any, flat_map}
use Rattle.jm_cmds.specs.declared.history.Sent.{Sent}
use Rattle.jm_cmds.specs.History.{InOrder, below}
use Rattle.jm_cmds.specs.HistoryLaws.{IsCodedWell}
use Rattle.jm_cmds.specs.Sent.{packet_of, is_fresh, shows_fresh}
use Rattle.ch_sysex.specs.ChapterX.{Counted, counted_ends, chapter_x, fresh_x, sysex_log, coded_counted, has_log}

abbrev pub counted_log : Counted → Bool
counted_log counted = has_log counted.1

-- the logs of the chapter, one after another
unfoldable pub logs_x : (checkpoint packet : ℕ) → List Sent → List (List ℕ)
logs_x checkpoint packet sent = map (sysex_log packet) (filter counted_log (coded_counted checkpoint 0 (below packet_of packet sent)))

-- the logs one after another are the chapter
abbrev pub IsOfLogs : Type 0
IsOfLogs = (checkpoint packet : ℕ) (sent : List Sent) → chapter_x checkpoint packet sent ≡ flat_map (λ log. log) (logs_x checkpoint packet sent)

-- The places of the logs, each with the number of kept messages before it.
unfoldable pub logged_x : (checkpoint packet : ℕ) → List Sent → List Counted
logged_x checkpoint packet sent = filter counted_log (coded_counted checkpoint 0 (below packet_of packet sent))

abbrev pub counted_fresh : (packet : ℕ) → Counted → Bool
counted_fresh packet counted = is_fresh packet counted.1

-- The S of each log is 0 exactly where the packet before brought its message.
abbrev pub EachShows : Type 0
EachShows = (checkpoint packet : ℕ) (sent : List Sent) → map shows_fresh (logs_x checkpoint packet sent) ≡ map (counted_fresh packet) (logged_x checkpoint packet sent)

-- What is coded stands oldest first, in order of any number that never falls along the history, and each message is an item of its own.
abbrev pub CodedInOrder : Type 0
CodedInOrder = (number_of : Sent → ℕ) (checkpoint packet : ℕ) (sent : List Sent) → InOrder number_of sent →
    IsCodedWell (λ counted. number_of counted.1) counted_ends (coded_counted checkpoint 0 (below packet_of packet sent))

-- The chapter is fresh exactly where the S of one of its logs is 0.
abbrev pub FreshShows : Type 0
FreshShows = (checkpoint packet : ℕ) (sent : List Sent) → fresh_x checkpoint packet sent ≡ list_any shows_fresh (logs_x checkpoint packet sent)
