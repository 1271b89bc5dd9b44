use Rattle.std.proofs.Common.{◌≡◌, ◌<◌, length, arith}
use Rattle.ch_notes.specs.NoteTableLaws.{notes_stamps, notes_put}
use Rattle.ch_notes.proofs.note_rows.note_put.Goals as goal

pub touch-requires : goal.touch-requires
touch-requires c =
    let k : c.from-key.result ≡ c.args.note = omega (arith, c.from-key.ensures, c.get.ensures.value) in
    (omega arith, (rw k c.requires.within, notes_stamps c.args.rows.now c.args.packet c.args.recent.now c.requires.order))

pub returns : goal.returns
returns c =
    let rows = c.args.rows.now in
    let k : c.from-key.result ≡ c.args.note = omega (arith, c.from-key.ensures, c.get.ensures.value) in
    let velocities : c.args.note < length rows.velocities = omega (arith, c.requires.within) in
    let struck : c.args.note < length rows.struck = omega (arith, c.requires.within) in
    let ticks : c.args.note < length rows.ticks = omega (arith, c.requires.within) in
    rw (c.touch.ensures, k)
    (notes_put rows c.args.recent.now c.args.note c.args.velocity c.args.packet c.args.tick c.args.struck velocities struck ticks)
