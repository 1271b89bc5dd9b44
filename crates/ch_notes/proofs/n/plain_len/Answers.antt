use Rattle.std.proofs.Common.{ap, sym, ◌∙◌}
use Rattle.ch_notes.specs.NoteEvent.{note_ends}
use Rattle.ch_notes.specs.Shape.{shape_len}
use Rattle.ch_notes.specs.ChapterLaws.{length-chapter_n}
use Rattle.ch_notes.proofs.n.plain_len.Goals as goal

pub returns-clause-number : goal.returns-clause-number
returns-clause-number c =
    let a = c.args in
    c.len.ensures.number ∙ ap shape_len c.shape_of.ensures.notes
    ∙ sym (length-chapter_n a.channel a.checkpoint a.packet a.tick a.list.now c.checkpoint_history.result.now (c.checkpoint_history.ensures.coded (note_ends a.channel)) c.shape_of.ensures.within)
