-- The mark is the one at that place, and all lie within the octets.
use Rattle.std.proofs.Common.{length}
use Rattle.jm_edge.specs.MarkLaws.{within_at}
use Rattle.jm_edge.proofs.memory_port.mark_at.Goals as goal

pub returns-clause-within : goal.returns-clause-within
returns-clause-within c = rw c.copied_at.ensures (within_at (length c.args.octets.now) c.args.marks.now c.args.k c.requires)
