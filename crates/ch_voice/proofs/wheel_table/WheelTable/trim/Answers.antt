use Rattle.std.proofs.Common.{ℕ, List, ap, sym, ◌∙◌}
use Rattle.ch_voice.specs.declared.events.WheelEvent.{WheelEvent}
use Rattle.jm_cmds.specs.KeptItem.{kept_since}
use Rattle.ch_voice.specs.TableLaws.{wheel_later}
use Rattle.ch_voice.proofs.wheel_table.WheelTable.trim.Goals as goal

pub returns-clause-stands : goal.returns-clause-stands
returns-clause-stands c = λ channel from sent e l.
    c.cut.ensures ∙ ap (λ (t : List (ℕ × WheelEvent)). kept_since c.args.packet t) e ∙ sym (wheel_later channel from c.args.packet sent l)
