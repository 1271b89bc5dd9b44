use Rattle.std.proofs.Common.{◌≤◌, ℕ, List, length, sym, subst}
use Rattle.jm_wire.specs.Octets.{Appends}
use Rattle.ch_notes.specs.KeptRows.{rows_listed}
use Rattle.ch_notes.specs.RowLaws.{keys_listed}
use Rattle.ch_notes.specs.PolyTable.{press_row_of, press_row_logs, press_rows}
use Rattle.ch_notes.proofs.poly_table.PolyTable.write_text.Goals as goal

pub key_write-requires : goal.key_write-requires
key_write-requires c =
    let row = press_row_of c.self.inside.rows in
    let room : length (rows_listed press_row_logs c.args.packet (press_rows c.self.inside.rows c.self.inside.recent)) ≤ c.args.out.now.spare = rw c.self.view_is c.requires in
    subst (λ (t : List ℕ). length t ≤ c.args.out.now.spare) (sym (keys_listed press_row_logs row c.args.packet c.self.inside.recent)) room

pub returns : goal.returns
returns c =
    let row = press_row_of c.self.inside.rows in
    rw (← c.self.view_is)
    (subst (λ (t : List ℕ). Appends c.args.out.now c.key_write.new.out t) (keys_listed press_row_logs row c.args.packet c.self.inside.recent) c.key_write.ensures.text)
