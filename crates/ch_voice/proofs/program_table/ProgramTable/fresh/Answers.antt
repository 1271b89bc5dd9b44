use Rattle.std.proofs.Common.{ap, ◌∙◌}
use Rattle.std.specs.List.{list_any}
use Rattle.ch_voice.specs.ProgramTable.{ProgramsKept}
use Rattle.jm_cmds.specs.KeptItem.{kept_fresh}
use Rattle.ch_voice.specs.TableLaws.{program_fresh_kept}
use Rattle.ch_voice.proofs.program_table.ProgramTable.fresh.Goals as goal

pub returns-clause-stands : goal.returns-clause-stands
returns-clause-stands c = λ channel from sent e h.
    c.is_fresh.ensures ∙ ap (λ (t : ProgramsKept). list_any (kept_fresh c.args.packet) t.kept) e ∙ program_fresh_kept channel from c.args.packet sent h
