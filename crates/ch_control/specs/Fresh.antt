-- What a chapter shows of the packet before, by its octets alone (RFC 6295, A.3).
use Rattle.std.specs.Prelude.{◌≡◌, ℕ, List}
use Rattle.std.specs.List.{AllByRecursion}
use Rattle.jm_cmds.specs.declared.history.Sent.{Sent}
use Rattle.jm_cmds.specs.Command.{IsCommand}
use Rattle.jm_chapter.specs.Logs.{log_shows_fresh}
use Rattle.jm_cmds.specs.Sent.{shows_fresh}
use Rattle.ch_control.specs.ChapterC.{chapter_c, fresh_c}

-- The chapter is fresh exactly where its header's S bit is 0, and exactly where that of one of its logs is.
abbrev pub FreshShows : Type 0
FreshShows = (channel checkpoint packet : ℕ) (sent : List Sent) → AllByRecursion (λ place. IsCommand place.command) sent →
    (fresh_c channel checkpoint packet sent ≡ shows_fresh (chapter_c channel checkpoint packet sent))
    × (fresh_c channel checkpoint packet sent ≡ log_shows_fresh (chapter_c channel checkpoint packet sent))
