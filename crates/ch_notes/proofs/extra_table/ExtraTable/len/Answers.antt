use Rattle.std.proofs.Common.{length, ap, ◌∙◌}
use Rattle.ch_notes.specs.NoteTable.{RowsWithin}
use Rattle.ch_notes.specs.ExtraTable.{ExtraKept, extra_kept, extra_text}
use Rattle.ch_notes.specs.ExtraTableLaws.{extra_coded}
use Rattle.ch_notes.proofs.extra_table.ExtraTable.len.Goals as goal

pub returns-clause-stands : goal.returns-clause-stands
returns-clause-stands c = λ channel from sent e h.
    let w : RowsWithin (extra_kept channel from sent).notes = rw e at c.text_len.ensures.within in
    c.text_len.ensures.number ∙ ap length (ap (λ (t : ExtraKept). extra_text c.args.packet t) e ∙ extra_coded channel from c.args.packet sent w h)
