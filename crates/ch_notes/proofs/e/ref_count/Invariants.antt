use Rattle.std.proofs.Common.{◌≡◌, ◌≤◌, drop, fold}
use Rattle.ch_notes.specs.ChapterE.{count_step, ref_count}
use Rattle.ch_notes.proofs.e.ref_count.Given as goal

abbrev pub invariant-loop-place : goal.invariant-loop-place
invariant-loop-place l =
    (fold (count_step l.channel l.note) l.count (drop l.place-index l.session) ≡ ref_count l.channel l.note l.session)
    × (l.count ≤ 127)
