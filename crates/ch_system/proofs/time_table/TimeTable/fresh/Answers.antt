use Rattle.std.proofs.Common.{ap, ◌∙◌}
use Rattle.std.specs.List.{list_any}
use Rattle.jm_cmds.specs.KeptItem.{kept_fresh}
use Rattle.ch_system.specs.Tables.{TimeKept}
use Rattle.ch_system.specs.TableLaws.{time_any}
use Rattle.ch_system.proofs.time_table.TimeTable.fresh.Goals as goal

pub returns-clause-stands : goal.returns-clause-stands
returns-clause-stands c = λ from sent e h.
    c.is_fresh.ensures ∙ ap (λ (t : TimeKept). list_any (kept_fresh c.args.packet) t.kept) e ∙ time_any from c.args.packet sent h
