use Rattle.std.proofs.Common.{◌-◌, ◌+◌, length}
use Rattle.jm_smf.specs.Reading.{nothing_before, track_read}
use Rattle.jm_smf.proofs.Loops.{ReadsOn}
use Rattle.jm_smf.proofs.track.read_track.Given as goal

abbrev pub invariant-loop : goal.invariant-loop
invariant-loop l =
    ReadsOn (track_read (length l.b) l.place 0 nothing_before l.b) (l.place + length l.b) l.list.items (length l.b - l.counter) l.at l.tick l.before l.rest
