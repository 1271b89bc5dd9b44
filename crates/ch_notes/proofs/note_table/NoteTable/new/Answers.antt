use Rattle.std.proofs.Common.{sym}
use Rattle.ch_notes.specs.NoteTableLaws.{notes_none}
use Rattle.ch_notes.proofs.note_table.NoteTable.new.Goals as goal

pub returns-clause-stands : goal.returns-clause-stands
returns-clause-stands c = λ channel. rw c.new.ensures (sym (notes_none channel))
