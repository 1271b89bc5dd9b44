use Rattle.std.proofs.Common.{ap, ◌∙◌}
use Rattle.ch_notes.specs.NoteTable.{RowsWithin}
use Rattle.ch_notes.specs.ExtraTable.{ExtraKept, extra_kept, extra_fresh}
use Rattle.ch_notes.specs.ExtraTableLaws.{extra_freshness}
use Rattle.ch_notes.proofs.extra_table.ExtraTable.fresh.Goals as goal

pub returns-clause-stands : goal.returns-clause-stands
returns-clause-stands c = λ channel from sent e h.
    let w : RowsWithin (extra_kept channel from sent).notes = rw e at c.is_fresh.ensures.within in
    c.is_fresh.ensures.test ∙ ap (λ (t : ExtraKept). extra_fresh c.args.packet t) e ∙ extra_freshness channel from c.args.packet sent w h
