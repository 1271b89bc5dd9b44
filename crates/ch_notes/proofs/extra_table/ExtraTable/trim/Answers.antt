use Rattle.std.proofs.Common.{leb, ℕ, ap, sym, ◌∙◌}
use Rattle.ch_notes.specs.NoteTable.{NoteRow}
use Rattle.ch_notes.specs.RowLaws.{up_to_filter}
use Rattle.ch_notes.specs.ExtraTable.{ExtraKept, extra_cut}
use Rattle.ch_notes.specs.ExtraTableLaws.{extra_later}
use Rattle.ch_notes.proofs.extra_table.ExtraTable.trim.Goals as goal

pub returns-clause-stands : goal.returns-clause-stands
returns-clause-stands c = λ channel from sent e l.
    c.cut.ensures ∙ ap (λ (t : ExtraKept). extra_cut c.args.packet t) e ∙ sym (extra_later channel from c.args.packet sent l)

pub returns-clause-order : goal.returns-clause-order
returns-clause-order c = λ later h.
    rw c.cut.ensures (up_to_filter later (λ (k : ℕ × NoteRow). leb c.args.packet k.0) c.args.self.now.notes h)
