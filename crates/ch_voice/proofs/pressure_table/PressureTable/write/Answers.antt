use Rattle.std.proofs.Common.{ℕ, List, ap, ◌∙◌}
use Rattle.ch_voice.specs.declared.events.PressureEvent.{PressureEvent}
use Rattle.ch_voice.specs.PressureTable.{pressure_text}
use Rattle.ch_voice.specs.TableLaws.{pressure_coded}
use Rattle.ch_voice.proofs.pressure_table.PressureTable.write.Goals as goal

pub returns-clause-stands : goal.returns-clause-stands
returns-clause-stands c = λ channel from sent e h.
    let same = ap (λ (t : List (ℕ × PressureEvent)). pressure_text c.args.packet t) e ∙ pressure_coded channel from c.args.packet sent h in
    rw same at c.write_text.ensures
