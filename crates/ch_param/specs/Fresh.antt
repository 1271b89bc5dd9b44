-- What a chapter shows of the packet before, by its octets alone (RFC 6295, A.4, Figures A.4.1 and A.4.2).
use Rattle.std.specs.Prelude.{◌≡◌, ℕ, ◌≤◌, Bool, List, map}
use Rattle.std.specs.List.{flat_map, list_any, AllByRecursion}
use Rattle.jm_cmds.specs.declared.history.Sent.{Sent}
use Rattle.jm_cmds.specs.Command.{IsCommand}
use Rattle.jm_cmds.specs.History.{below}
use Rattle.jm_cmds.specs.Sent.{packet_of, is_fresh, shows_fresh}
use Rattle.ch_param.specs.ChapterM.{Entered, entered, entered_log, chapter_of, chapter_m, fresh_m, param_count, session_places}

-- the parameters that the chapter codes in this packet's journal
unfoldable pub entered_m : (channel checkpoint packet : ℕ) → List Sent → List Entered
entered_m channel checkpoint packet sent = entered channel checkpoint (session_places channel (below packet_of packet sent))

-- the log of each, one after another
unfoldable pub logs_m : (channel checkpoint packet : ℕ) → List Sent → List (List ℕ)
logs_m channel checkpoint packet sent =
    map (entered_log channel checkpoint packet (session_places channel (below packet_of packet sent))) (entered_m channel checkpoint packet sent)

-- whether the packet before entered a half of it
abbrev pub entered_fresh : (packet : ℕ) → Entered → Bool
entered_fresh packet e = is_fresh packet e.latest

pub record FreshShows : Type 0 where
  -- The chapter is its header and these logs.
  pub parts : (channel checkpoint packet : ℕ) (sent : List Sent)
      → chapter_m channel checkpoint packet sent ≡ chapter_of (fresh_m channel checkpoint packet sent) (flat_map (λ log. log) (logs_m channel checkpoint packet sent))
  -- It is fresh exactly where it is there and the S of its header is 0.
  pub header : (channel checkpoint packet : ℕ) (sent : List Sent) → param_count channel checkpoint (below packet_of packet sent) ≤ 16
      → fresh_m channel checkpoint packet sent ≡ shows_fresh (chapter_m channel checkpoint packet sent)
  -- It is fresh exactly where the S of one of its logs is 0.
  pub logs : (channel checkpoint packet : ℕ) (sent : List Sent) → AllByRecursion (λ place. IsCommand place.command) sent
      → fresh_m channel checkpoint packet sent ≡ list_any shows_fresh (logs_m channel checkpoint packet sent)
  -- The S of each log is 0 exactly where the packet before entered a half of its parameter.
  pub each : (channel checkpoint packet : ℕ) (sent : List Sent) → AllByRecursion (λ place. IsCommand place.command) sent
      → map shows_fresh (logs_m channel checkpoint packet sent) ≡ map (entered_fresh packet) (entered_m channel checkpoint packet sent)
