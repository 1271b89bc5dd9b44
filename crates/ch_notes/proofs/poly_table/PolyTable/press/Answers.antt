use Rattle.std.proofs.Common.{◌≡◌, ◌<◌, length, arith}
use Rattle.ch_notes.specs.KeptRows.{RowsUpTo}
use Rattle.ch_notes.specs.PolyTable.{press_rows}
use Rattle.ch_notes.specs.PolyTableLaws.{stamps_order, rows_pressed}
use Rattle.ch_notes.proofs.poly_table.PolyTable.press.Goals as goal

pub touch-requires : goal.touch-requires
touch-requires c =
    let k : c.from-key.result ≡ c.args.note = omega (arith, c.from-key.ensures, c.get.ensures.value) in
    let order : RowsUpTo c.args.packet (press_rows c.self.inside.rows c.self.inside.recent) = rw c.self.view_is c.requires.order in
    (omega arith, (rw k c.requires.within, stamps_order c.self.inside.rows c.args.packet c.self.inside.recent order))

pub returns : goal.returns
returns c =
    let k : c.from-key.result ≡ c.args.note = omega (arith, c.from-key.ensures, c.get.ensures.value) in
    let values : c.args.note < length c.self.inside.rows.values = omega (arith, c.requires.within) in
    let active : c.args.note < length c.self.inside.rows.active = omega (arith, c.requires.within) in
    rw (← c.self.view_is, c.touch.ensures, k)
    (rows_pressed c.self.inside.rows c.self.inside.recent c.args.note c.args.value c.args.packet values active)
