use Rattle.std.proofs.Common.{ap, ◌∙◌}
use Rattle.std.specs.List.{list_any}
use Rattle.jm_cmds.specs.KeptItem.{kept_fresh}
use Rattle.ch_system.specs.Tables.{CountedKept}
use Rattle.ch_system.specs.TableLaws.{sensing_any}
use Rattle.ch_system.proofs.sensing_table.SensingTable.fresh.Goals as goal

pub returns-clause-stands : goal.returns-clause-stands
returns-clause-stands c = λ from sent e h.
    c.is_fresh.ensures ∙ ap (λ (t : CountedKept). list_any (kept_fresh c.args.packet) t.kept) e ∙ sensing_any from c.args.packet sent h
