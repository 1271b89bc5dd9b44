use Rattle.std.proofs.Common.{◌≡◌, drop, fold}
use Rattle.ch_notes.specs.ChapterA.{muted_step, is_muted}
use Rattle.ch_notes.proofs.a.is_muted.Given as goal

abbrev pub invariant-loop-place : goal.invariant-loop-place
invariant-loop-place l =
    fold (muted_step l.channel l.note) l.muted (drop l.place-index l.session) ≡ is_muted l.channel l.note l.session
