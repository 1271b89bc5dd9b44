use Rattle.std.proofs.Common.{ap, ◌∙◌}
use Rattle.ch_notes.specs.NoteTable.{RowsWithin}
use Rattle.ch_notes.specs.ExtraTable.{ExtraKept, extra_kept, extra_text}
use Rattle.ch_notes.specs.ExtraTableLaws.{extra_coded}
use Rattle.ch_notes.proofs.extra_table.ExtraTable.write.Goals as goal

pub returns-clause-stands : goal.returns-clause-stands
returns-clause-stands c = λ channel from sent e h.
    let w : RowsWithin (extra_kept channel from sent).notes = rw e at c.write_text.ensures.within in
    let same = ap (λ (t : ExtraKept). extra_text c.args.packet t) e ∙ extra_coded channel from c.args.packet sent w h in
    rw same at c.write_text.ensures.text
