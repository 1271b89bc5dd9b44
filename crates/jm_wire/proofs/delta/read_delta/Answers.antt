use Rattle.std.proofs.Common.{◌∙◌}
use Rattle.jm_wire.specs.DeltaReading.{read_as, field_is_read, short_is, too_long_is}
use Rattle.jm_wire.proofs.delta.read_delta.Goals as goal

pub returns-clause-read : goal.returns-clause-read
returns-clause-read c = read_as c.args.b.now c.field_at.result c.field_at.ensures

pub returns-clause-only : goal.returns-clause-only
returns-clause-only c = λ text rest e field. c.field_at.ensures ∙ field_is_read c.args.b.now text rest e field

pub returns-clause-short : goal.returns-clause-short
returns-clause-short c = rw c.field_at.ensures (short_is c.args.b.now)

pub returns-clause-too_long : goal.returns-clause-too_long
returns-clause-too_long c = rw c.field_at.ensures (too_long_is c.args.b.now)
