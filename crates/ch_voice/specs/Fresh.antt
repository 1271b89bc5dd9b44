-- What a chapter of one log shows of the packet before, by its octets alone.
use Rattle.std.specs.Prelude.{◌≡◌, ℕ, Bool, List}
use Rattle.std.specs.List.{AllByRecursion}
use Rattle.jm_cmds.specs.declared.history.Sent.{Sent}
use Rattle.jm_cmds.specs.Command.{IsCommand}
use Rattle.jm_cmds.specs.Sent.{shows_fresh}

-- A chapter is fresh exactly where its S is 0.
abbrev pub FreshShows : ((channel checkpoint packet : ℕ) → List Sent → List ℕ) → ((channel checkpoint packet : ℕ) → List Sent → Bool) → Type 0
FreshShows chapter fresh = (channel checkpoint packet : ℕ) (sent : List Sent) → AllByRecursion (λ place. IsCommand place.command) sent → fresh channel checkpoint packet sent ≡ shows_fresh (chapter channel checkpoint packet sent)
