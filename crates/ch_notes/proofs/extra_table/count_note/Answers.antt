use Rattle.std.proofs.Common.{◌≡◌, ◌<◌, length, arith}
use Rattle.ch_notes.specs.NoteEvent.{IsWithin}
use Rattle.ch_notes.specs.declared.events.NoteEvent.TheVariants.{Struck, Released}
use Rattle.ch_notes.specs.ExtraTableLaws.{counts_struck, counts_released, counts_cleared, counts_other}
use Rattle.ch_notes.proofs.extra_table.count_note.Goals as goal

pub returns-in-Struck : goal.returns-in-Struck
returns-in-Struck c =
    let counts = c.args.counts.now in
    let note = c.in-Struck.note in
    let within : IsWithin (Struck note c.in-Struck.velocity) = rw c.in-Struck.is at c.requires in
    let place : c.get-place.result ≡ note = c.get-place.ensures.value in
    let here : note < length counts = omega (arith, within.0) in
    rw (c.in-Struck.is, c.min.ensures, place) (counts_struck note c.in-Struck.velocity counts here)

pub returns-in-Released : goal.returns-in-Released
returns-in-Released c =
    let counts = c.args.counts.now in
    let note = c.in-Released.note in
    let within : IsWithin (Released note c.in-Released.velocity) = rw c.in-Released.is at c.requires in
    let place : c.get-place-in-Released.result ≡ note = c.get-place-in-Released.ensures.value in
    let here : note < length counts = omega (arith, within) in
    rw (c.in-Released.is, c.saturating_sub.ensures, place) (counts_released note c.in-Released.velocity counts here)

pub returns-in-Cleared : goal.returns-in-Cleared
returns-in-Cleared c =
    rw c.in-Cleared.is (counts_cleared c.args.counts.now (omega arith))

pub returns-in-Other : goal.returns-in-Other
returns-in-Other c = rw c.in-Other.is (counts_other c.args.counts.now)
