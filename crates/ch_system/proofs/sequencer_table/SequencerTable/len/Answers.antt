use Rattle.std.proofs.Common.{length, ap, ◌∙◌}
use Rattle.ch_system.specs.Tables.{sequencer_text}
use Rattle.ch_system.specs.TableLaws.{sequencer_coded}
use Rattle.ch_system.proofs.sequencer_table.SequencerTable.len.Goals as goal

pub returns-clause-stands : goal.returns-clause-stands
returns-clause-stands c = λ from sent e h.
    c.text_len.ensures.number ∙ ap length (ap (sequencer_text c.args.packet) e ∙ sequencer_coded from c.args.packet sent h)
