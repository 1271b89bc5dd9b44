use Rattle.std.proofs.Common.{ap, ◌∙◌}
use Rattle.ch_system.specs.Tables.{sequencer_text}
use Rattle.ch_system.specs.TableLaws.{sequencer_coded}
use Rattle.ch_system.proofs.sequencer_table.SequencerTable.write.Goals as goal

pub returns-clause-stands : goal.returns-clause-stands
returns-clause-stands c = λ from sent e h.
    let same = ap (sequencer_text c.args.packet) e ∙ sequencer_coded from c.args.packet sent h in
    rw same at c.write_text.ensures
