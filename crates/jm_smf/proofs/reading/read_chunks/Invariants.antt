use Rattle.std.proofs.Common.{◌-◌, ◌+◌, length}
use Rattle.jm_smf.specs.Reading.{chunks_read}
use Rattle.jm_smf.proofs.Loops.{SeeksOn}
use Rattle.jm_smf.proofs.reading.read_chunks.Given as goal

abbrev pub invariant-loop : goal.invariant-loop
invariant-loop l = SeeksOn (chunks_read l.most l.place l.b) (l.place + length l.b) (l.most - l.counter) l.at l.rest
