use Rattle.std.proofs.Common.{ap, ◌∙◌}
use Rattle.std.specs.List.{list_any}
use Rattle.jm_cmds.specs.KeptItem.{kept_fresh}
use Rattle.ch_system.specs.Tables.{SequencerKept}
use Rattle.ch_system.specs.TableLaws.{sequencer_any}
use Rattle.ch_system.proofs.sequencer_table.SequencerTable.fresh.Goals as goal

pub returns-clause-stands : goal.returns-clause-stands
returns-clause-stands c = λ from sent e h.
    c.is_fresh.ensures ∙ ap (λ (t : SequencerKept). list_any (kept_fresh c.args.packet) t.kept) e ∙ sequencer_any from c.args.packet sent h
