-- The players that entered by name.
use Rattle.std.specs.Prelude.{ℕ, List, [], ◌∷◌, Option, Some, None, if◌then◌else◌}
use Rattle.std.specs.Str.{bytes_eq}
use Rattle.midi_host.specs.declared.players.NamedPlayer.{NamedPlayer}

-- the number of the player of this name, if one entered
abbrev pub player_named : List ℕ → List NamedPlayer → Option ℕ
player_named name [] = None
player_named name (one ∷ others) = if bytes_eq one.name name then Some one.player else player_named name others
