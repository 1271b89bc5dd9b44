use Rattle.std.proofs.Common.{◌∙◌, sym}
use Rattle.jm_smf.proofs.Sent.{long_segments}
use Rattle.jm_smf.proofs.cuts.segment_count.Goals as goal

pub returns-then-is_long-clause-number : goal.returns-then-is_long-clause-number
returns-then-is_long-clause-number c =
    let count = rw c.len.ensures.number at c.div_ceil.ensures in
    rw c.in-Sysex.is (count ∙ long_segments c.in-Sysex.message (sym c.is_long.ensures ∙ c.if-is_long.true))
