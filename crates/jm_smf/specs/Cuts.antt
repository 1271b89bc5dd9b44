-- The commands that a session sent, in time.
use Rattle.std.specs.Prelude.{List, map, flat_map}
use Rattle.jm_book.specs.declared.steps.Step.{Step}
use Rattle.jm_book.specs.Stream.{Entry, Stream, stream_of}
use Rattle.jm_smf.specs.declared.timed.Timed.{Timed}

-- a command with the tick that it has in its packet
abbrev pub in_time : Entry → Timed
in_time entry = record { tick = entry.tick; command = entry.command }

abbrev pub entries_list : List Entry → List Timed
entries_list entries = map in_time entries

-- the commands of all packets
abbrev pub sent_list : Stream → List Timed
sent_list stream = flat_map (λ packet. entries_list packet.entries) stream.packets

-- the commands of all packets that the steps made
abbrev pub cut_list : List Step → List Timed
cut_list steps = sent_list (stream_of steps)
