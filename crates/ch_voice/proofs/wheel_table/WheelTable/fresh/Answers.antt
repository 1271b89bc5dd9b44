use Rattle.std.proofs.Common.{ℕ, List, ap, ◌∙◌}
use Rattle.std.specs.List.{list_any}
use Rattle.ch_voice.specs.declared.events.WheelEvent.{WheelEvent}
use Rattle.jm_cmds.specs.KeptItem.{kept_fresh}
use Rattle.ch_voice.specs.TableLaws.{wheel_fresh}
use Rattle.ch_voice.proofs.wheel_table.WheelTable.fresh.Goals as goal

pub returns-clause-stands : goal.returns-clause-stands
returns-clause-stands c = λ channel from sent e h.
    c.is_fresh.ensures ∙ ap (λ (t : List (ℕ × WheelEvent)). list_any (kept_fresh c.args.packet) t) e ∙ wheel_fresh channel from c.args.packet sent h
