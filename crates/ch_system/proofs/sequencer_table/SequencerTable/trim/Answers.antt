use Rattle.std.proofs.Common.{ap, sym, ◌∙◌}
use Rattle.ch_system.specs.Tables.{sequencer_cut}
use Rattle.ch_system.specs.TableLaws.{sequencer_later}
use Rattle.ch_system.proofs.sequencer_table.SequencerTable.trim.Goals as goal

pub returns-clause-stands : goal.returns-clause-stands
returns-clause-stands c = λ from sent e l.
    c.cut.ensures ∙ ap (sequencer_cut c.args.packet) e ∙ sym (sequencer_later from c.args.packet sent l)
