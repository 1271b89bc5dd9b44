use Rattle.std.proofs.Common.{◌∙◌}
use Rattle.ch_notes.specs.NoteEvent.{IsWithin}
use Rattle.ch_notes.specs.declared.events.NoteEvent.TheVariants.{Struck}
use Rattle.ch_notes.specs.NoteTableLaws.{noted_struck, noted_released, noted_cleared, noted_other}
use Rattle.ch_notes.proofs.note_rows.note_change.Goals as goal

pub returns-in-Struck : goal.returns-in-Struck
returns-in-Struck c =
    let within : IsWithin (Struck c.in-Struck.note c.in-Struck.velocity) = rw c.in-Struck.is at c.requires.within in
    rw c.in-Struck.is
    (c.note_put.ensures ∙ noted_struck c.args.rows.now c.args.recent.now c.in-Struck.note c.in-Struck.velocity c.args.packet c.args.tick within.2)

pub returns-in-Released : goal.returns-in-Released
returns-in-Released c =
    rw c.in-Released.is
    (c.note_put-in-Released.ensures ∙ noted_released c.args.rows.now c.args.recent.now c.in-Released.note c.in-Released.velocity c.args.packet c.args.tick)

pub returns-in-Cleared : goal.returns-in-Cleared
returns-in-Cleared c =
    rw (c.in-Cleared.is, c.clear.ensures) (noted_cleared c.args.rows.now c.args.recent.now c.args.packet c.args.tick)

pub returns-in-Other : goal.returns-in-Other
returns-in-Other c =
    rw c.in-Other.is (noted_other c.args.rows.now c.args.recent.now c.args.packet c.args.tick)
