-- The plays of a list of steps, told from the steps alone.
use Rattle.std.specs.Prelude.{ℕ, max, Bool, true, false, ◌==◌, if◌then◌else◌, List, [], ◌∷◌, ◌++◌}
use Rattle.std.specs.List.{flat_map, count_by}
use Rattle.jm_cmds.specs.declared.commands.Command.{Command}
use Rattle.jm_cmds.specs.declared.history.Sent.{Sent}
use Rattle.jm_book.specs.declared.steps.Step.{Step}
use Rattle.jm_book.specs.declared.steps.Step.TheVariants.{Play, Cut}
use Rattle.jm_book.specs.Stream.{Stream, Entry}

abbrev pub is_play : Step → Bool
is_play (Play player command tick) = true
is_play _ = false

abbrev pub play_count : List Step → ℕ
play_count steps = count_by is_play steps

-- the tick that a play or a cut was given
abbrev pub given_tick : Step → ℕ
given_tick (Play player command tick) = tick
given_tick (Cut tick) = tick
given_tick _ = 0

-- the greatest tick among plays and cuts
abbrev pub greatest_tick : List Step → ℕ
greatest_tick [] = 0
greatest_tick (step ∷ steps) = max (given_tick step) (greatest_tick steps)

-- A play after the steps before it: its serial is the number of plays before, and its tick the greatest
-- among it and all plays and cuts before.
abbrev pub play_at : List Step → Step → List Entry
play_at before (Play player command tick) =
    record { player = player; serial = play_count before; tick = greatest_tick (before ++ Play player command tick ∷ []); command = command } ∷ []
play_at before _ = []

abbrev pub plays_after : List Step → List Step → List Entry
plays_after before [] = []
plays_after before (step ∷ steps) = play_at before step ++ plays_after (before ++ step ∷ []) steps

-- all plays of a list of steps, in order
abbrev pub plays_of : List Step → List Entry
plays_of steps = plays_after [] steps

-- the commands that one player played, in order
abbrev pub played_by : ℕ → List Step → List Command
played_by player [] = []
played_by player (Play other command tick ∷ steps) =
    if other == player then command ∷ played_by player steps else played_by player steps
played_by player (_ ∷ steps) = played_by player steps

-- the entries of all packets, in order, and then those pending
abbrev pub entries_of : Stream → List Entry
entries_of stream = flat_map (λ packet. packet.entries) stream.packets ++ stream.pending

-- the tick and the command of an entry, and of a place of the plain list
abbrev pub entry_pair : Entry → ℕ × Command
entry_pair entry = (entry.tick, entry.command)

abbrev pub sent_pair : Sent → ℕ × Command
sent_pair sent = (sent.tick, sent.command)
