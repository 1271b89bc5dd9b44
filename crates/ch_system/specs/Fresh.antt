-- What a chapter shows of the packet before, by its octets alone.
use Rattle.std.specs.Prelude.{◌≡◌, ℕ, Bool, false, List, [], ◌∷◌, nat_lt}
use Rattle.std.specs.List.{list_any, AllByRecursion}
use Rattle.jm_cmds.specs.declared.history.Sent.{Sent}
use Rattle.jm_cmds.specs.Command.{IsCommand}
use Rattle.jm_cmds.specs.Sent.{shows_fresh}
use Rattle.ch_system.specs.declared.items.SystemItem.TheVariants.{Reset, Tune, Song}
use Rattle.ch_system.specs.Items.{item_fresh}
use Rattle.ch_system.specs.ChapterD.{chapter_d, fresh_d, count_logs, song_logs}
use Rattle.ch_system.specs.ChapterV.{chapter_v, fresh_v}
use Rattle.ch_system.specs.ChapterQ.{chapter_q, fresh_q}
use Rattle.ch_system.specs.ChapterF.{chapter_f, fresh_f}

abbrev pub AreCommands : List Sent → Type 0
AreCommands sent = AllByRecursion (λ place. IsCommand place.command) sent

-- whether the S of one of the logs of one octet is 0 that stand behind a header
abbrev pub logs_show_fresh : List ℕ → Bool
logs_show_fresh [] = false
logs_show_fresh (head ∷ logs) = list_any (λ log. nat_lt log 128) logs

pub record FreshShowsD : Type 0 where
  -- Chapter D is fresh exactly where it is there and the S of its header is 0.
  pub header : (checkpoint packet : ℕ) (sent : List Sent) → fresh_d checkpoint packet sent ≡ shows_fresh (chapter_d checkpoint packet sent)
  -- It is fresh exactly where the S of one of its logs is 0.
  pub logs : (checkpoint packet : ℕ) (sent : List Sent) → AreCommands sent → fresh_d checkpoint packet sent ≡ logs_show_fresh (chapter_d checkpoint packet sent)
  -- The S of each log is 0 exactly where the packet before brought it.
  pub reset : (checkpoint packet : ℕ) (sent : List Sent) → item_fresh Reset checkpoint packet sent ≡ shows_fresh (count_logs Reset checkpoint packet sent)
  pub tune : (checkpoint packet : ℕ) (sent : List Sent) → item_fresh Tune checkpoint packet sent ≡ shows_fresh (count_logs Tune checkpoint packet sent)
  pub song : (checkpoint packet : ℕ) (sent : List Sent) → AreCommands sent → item_fresh Song checkpoint packet sent ≡ shows_fresh (song_logs checkpoint packet sent)

-- Each chapter of one log is fresh exactly where it is there and its S is 0.
abbrev pub FreshShowsV : Type 0
FreshShowsV = (checkpoint packet : ℕ) (sent : List Sent) → fresh_v checkpoint packet sent ≡ shows_fresh (chapter_v checkpoint packet sent)

abbrev pub FreshShowsQ : Type 0
FreshShowsQ = (checkpoint packet : ℕ) (sent : List Sent) → AreCommands sent → fresh_q checkpoint packet sent ≡ shows_fresh (chapter_q checkpoint packet sent)

abbrev pub FreshShowsF : Type 0
FreshShowsF = (checkpoint packet : ℕ) (sent : List Sent) → AreCommands sent → fresh_f checkpoint packet sent ≡ shows_fresh (chapter_f checkpoint packet sent)
