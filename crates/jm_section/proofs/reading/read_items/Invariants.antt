use Rattle.std.proofs.Common.{◌-◌, ◌+◌, length, None}
use Rattle.jm_section.specs.Reading.{items_read}
use Rattle.jm_section.proofs.Loop.{ReadsOn}
use Rattle.jm_section.proofs.reading.read_items.Given as goal

abbrev pub invariant-loop : goal.invariant-loop
invariant-loop l =
    ReadsOn (items_read (length l.list) l.place l.bare-2 None l.list) (l.place + length l.list) l.items.items (length l.list - l.counter) l.at l.bare l.running l.rest
