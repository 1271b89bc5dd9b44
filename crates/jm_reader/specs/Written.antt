-- What is written is read again (RFC 6295, section 5, and Appendices A and B).
use Rattle.std.specs.Prelude.{◌≡◌, ℕ, true, false, List, [], ◌++◌, Some, length}
use Rattle.std.specs.List.{AllByRecursion}
use Rattle.jm_cmds.specs.declared.history.Sent.{Sent}
use Rattle.jm_cmds.specs.Command.{IsCommand}
use Rattle.jm_journal.specs.Channel.{is_there}
use Rattle.jm_reader.specs.declared.logs.Log.{Log}
use Rattle.jm_reader.specs.Chapter.{Chapter}

-- each is a command with its numbers within their bounds
abbrev pub AreCommands : List Sent → Type 0
AreCommands sent = AllByRecursion (λ place. IsCommand place.command) sent

-- A chapter of a channel: where it is there, its octets with any octets behind them are read as these logs, and as so
-- many octets; and where it isn't, there are no logs.
pub record ChapterIsRead (text : (channel checkpoint packet : ℕ) → List Sent → List ℕ) (logs : (channel checkpoint packet : ℕ) → List Sent → List Log) (read : ℕ → List ℕ → Chapter) : Type 0 where
  pub again : (channel checkpoint packet : ℕ) (sent : List Sent) → AreCommands sent → is_there (text channel checkpoint packet sent) ≡ true → (rest : List ℕ) →
      read channel (text channel checkpoint packet sent ++ rest) ≡ Some (logs channel checkpoint packet sent, length (text channel checkpoint packet sent))
  pub none : (channel checkpoint packet : ℕ) (sent : List Sent) → AreCommands sent → is_there (text channel checkpoint packet sent) ≡ false → logs channel checkpoint packet sent ≡ []
