-- Commands of one packet as a MIDI list: each with the ticks since the one before it.
use Rattle.std.specs.Prelude.{ℕ, ◌-◌, ◌^◌, Bool, nat_lt, List, [], ◌∷◌}
use Rattle.std.specs.List.{list_all}
use Rattle.jm_cmds.specs.declared.history.Sent.{Sent}
use Rattle.jm_section.specs.Section.{Timed}

abbrev pub timed_after : ℕ → List Sent → List Timed
timed_after before [] = []
timed_after before (one ∷ others) = record { delta = one.tick - before; command = one.command } ∷ timed_after one.tick others

-- the first command's delta is 0
abbrev pub timed_of : List Sent → List Timed
timed_of [] = []
timed_of (first ∷ others) = timed_after first.tick (first ∷ others)

-- the tick of the first command, or another where there is none
abbrev pub first_tick : ℕ → List Sent → ℕ
first_tick other [] = other
first_tick other (first ∷ others) = first.tick

-- the tick of the last command, or another where there is none
abbrev pub last_tick : ℕ → List Sent → ℕ
last_tick other [] = other
last_tick other (one ∷ others) = last_tick one.tick others

-- each delta has a field of four octets at most
abbrev pub have_fields : List Timed → Bool
have_fields timed = list_all (λ one. nat_lt one.delta (2 ^ 28)) timed
