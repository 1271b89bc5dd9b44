use Rattle.ch_sysex.proofs.KeptLaws.{second_short}
use Rattle.ch_sysex.proofs.table.Table.write_text.Goals as goal

pub write_messages-requires-2-clause-short : goal.write_messages-requires-2-clause-short
write_messages-requires-2-clause-short c =
    second_short c.as_slices.result.0.now c.as_slices.result.1.now c.self.inside.messages.items c.as_slices.ensures c.self.invariant.1
