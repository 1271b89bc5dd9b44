use Rattle.ch_notes.specs.RowLaws.{keys_since}
use Rattle.ch_notes.specs.NoteTable.{note_row_of}
use Rattle.ch_notes.proofs.note_table.NoteTable.cut.Goals as goal

pub returns : goal.returns
returns c =
    rw (← c.self.view_is, c.trim.ensures) (keys_since (note_row_of c.self.inside.rows) c.args.packet c.self.inside.recent)
