use Rattle.std.proofs.Common.{ℕ, List, ap, sym, ◌∙◌}
use Rattle.ch_voice.specs.declared.events.PressureEvent.{PressureEvent}
use Rattle.jm_cmds.specs.KeptItem.{kept_since}
use Rattle.ch_voice.specs.TableLaws.{pressure_later}
use Rattle.ch_voice.proofs.pressure_table.PressureTable.trim.Goals as goal

pub returns-clause-stands : goal.returns-clause-stands
returns-clause-stands c = λ channel from sent e l.
    c.cut.ensures ∙ ap (λ (t : List (ℕ × PressureEvent)). kept_since c.args.packet t) e ∙ sym (pressure_later channel from c.args.packet sent l)
