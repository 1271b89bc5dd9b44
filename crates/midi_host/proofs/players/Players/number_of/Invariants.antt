-- None of those so far has the name.
use Rattle.std.proofs.Common.{◌≡◌, drop}
use Rattle.midi_host.specs.Players.{player_named}
use Rattle.midi_host.proofs.players.Players.number_of.Given as goal

abbrev pub invariant-loop-one : goal.invariant-loop-one
invariant-loop-one l = player_named l.name l.self ≡ player_named l.name (drop l.one-index l.self)
