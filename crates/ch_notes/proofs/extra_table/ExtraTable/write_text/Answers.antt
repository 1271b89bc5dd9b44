use Rattle.std.proofs.Common.{◌≤◌, ℕ, List, length, sym, subst}
use Rattle.std.specs.List.{AllByRecursion}
use Rattle.jm_wire.specs.Octets.{Appends}
use Rattle.ch_notes.specs.NoteEvent.{IsWithin}
use Rattle.ch_notes.specs.KeptRows.{rows_listed}
use Rattle.ch_notes.specs.RowLaws.{keys_listed}
use Rattle.ch_notes.specs.NoteTable.{note_row_of, note_rows}
use Rattle.ch_notes.specs.ExtraTable.{ExtraKept, extra_row_logs, extra_text}
use Rattle.ch_notes.specs.ExtraTableLaws.{rows_within}
use Rattle.ch_notes.proofs.extra_table.ExtraTable.write_text.Goals as goal

pub key_write-requires : goal.key_write-requires
key_write-requires c =
    let row = note_row_of c.self.inside.rows.notes in
    let logs = extra_row_logs c.self.inside.rows.counts in
    let room : length (rows_listed logs c.args.packet (note_rows c.self.inside.rows.notes c.self.inside.recent)) ≤ c.args.out.now.spare = subst (λ (t : ExtraKept). length (extra_text c.args.packet t) ≤ c.args.out.now.spare) (sym c.self.view_is) c.requires in
    subst (λ (t : List ℕ). length t ≤ c.args.out.now.spare) (sym (keys_listed logs row c.args.packet c.self.inside.recent)) room

pub returns-clause-text : goal.returns-clause-text
returns-clause-text c =
    let row = note_row_of c.self.inside.rows.notes in
    let logs = extra_row_logs c.self.inside.rows.counts in
    rw (← c.self.view_is)
    (subst (λ (t : List ℕ). Appends c.args.out.now c.key_write.new.out t) (keys_listed logs row c.args.packet c.self.inside.recent) c.key_write.ensures.text)

pub returns-clause-within : goal.returns-clause-within
returns-clause-within c =
    let all : AllByRecursion (λ (e : ℕ × ℕ). IsWithin (note_row_of c.self.inside.rows.notes e.0).event) c.self.inside.recent = c.key_write.ensures.within in
    rw (← c.self.view_is) (rows_within c.self.inside.rows.notes c.self.inside.recent all)
