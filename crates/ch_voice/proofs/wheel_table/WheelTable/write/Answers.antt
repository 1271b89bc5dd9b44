use Rattle.std.proofs.Common.{ℕ, List, ap, ◌∙◌}
use Rattle.ch_voice.specs.declared.events.WheelEvent.{WheelEvent}
use Rattle.ch_voice.specs.WheelTable.{wheel_text}
use Rattle.ch_voice.specs.TableLaws.{wheel_coded}
use Rattle.ch_voice.proofs.wheel_table.WheelTable.write.Goals as goal

pub returns-clause-stands : goal.returns-clause-stands
returns-clause-stands c = λ channel from sent e h.
    let same = ap (λ (t : List (ℕ × WheelEvent)). wheel_text c.args.packet t) e ∙ wheel_coded channel from c.args.packet sent h in
    rw same at c.write_text.ensures
