use Rattle.std.proofs.Common.{ap, sym, ◌∙◌}
use Rattle.ch_notes.specs.declared.shape.Shape.{Shape}
use Rattle.ch_notes.specs.NoteEvent.{note_ends}
use Rattle.ch_notes.specs.ChapterLaws.{fresh_n-standing}
use Rattle.ch_notes.proofs.n.plain_fresh.Goals as goal

pub returns : goal.returns
returns c =
    let a = c.args in
    ap (λ (s : Shape). s.fresh) c.shape_of.ensures.notes
    ∙ sym (fresh_n-standing a.channel a.checkpoint a.packet a.list.now c.checkpoint_history.result.now (c.checkpoint_history.ensures.coded (note_ends a.channel)))
