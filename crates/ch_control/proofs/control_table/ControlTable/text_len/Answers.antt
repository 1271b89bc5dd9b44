use Rattle.std.proofs.Common.{length, ap, sym, ◌∙◌}
use Rattle.jm_chapter.specs.Logs.{listed_size}
use Rattle.ch_control.specs.ControlTable.{ControlsKept, controls_in, controls_text}
use Rattle.ch_control.proofs.LatestLaws.{length-controls_text}
use Rattle.ch_control.proofs.control_table.ControlTable.text_len.Goals as goal

pub returns-clause-number : goal.returns-clause-number
returns-clause-number c =
    let session = c.self.inside.session in
    let latest = c.self.inside.latest in
    let table : ControlsKept = record { counts = session.counts; pedal = session.pedal; kept = controls_in latest.values latest.order } in
    c.size.ensures.number
    ∙ ap listed_size c.tally.ensures.logs
    ∙ sym (length-controls_text c.args.packet table)
    ∙ ap (λ (t : ControlsKept). length (controls_text c.args.packet t)) c.self.view_is
