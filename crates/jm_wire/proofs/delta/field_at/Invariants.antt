use Rattle.jm_wire.proofs.Fields.{ReadSoFar}
use Rattle.jm_wire.proofs.delta.field_at.Given as goal

abbrev pub invariant-loop-i : goal.invariant-loop-i
invariant-loop-i l = ReadSoFar l.b l.i l.value
