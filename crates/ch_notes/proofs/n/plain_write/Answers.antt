use Rattle.std.proofs.Common.{◌≡◌, ◌≤◌, ◌+◌, List, ℕ, false, length, ap, sym, ◌∙◌, subst, arith}
use Rattle.jm_wire.specs.Octets.{Appends, unchanged}
use Rattle.jm_cmds.specs.declared.history.Sent.{Sent}
use Rattle.jm_cmds.specs.History.{standing, coded, below}
use Rattle.jm_cmds.specs.Sent.{packet_of}
use Rattle.ch_notes.specs.declared.shape.Shape.{Shape}
use Rattle.ch_notes.specs.NoteEvent.{note_ends, AreWithin}
use Rattle.ch_notes.specs.ChapterN.{chapter_n, logs_of}
use Rattle.ch_notes.specs.Shape.{counted, no_notes, shaped, span, is_bare}
use Rattle.ch_notes.specs.ChapterLaws.{chapter_n-standing, shaped-bare, shaped-full, length-shaped-full}
use Rattle.ch_notes.proofs.n.plain_write.Goals as goal

-- the chapter by the shape that was counted
chapter : (channel checkpoint packet tick : ℕ) (sent places : List Sent) (s : Shape) →
    standing (note_ends channel) places ≡ coded (note_ends channel) packet_of checkpoint (below packet_of packet sent) →
    AreWithin channel (standing (note_ends channel) places) →
    s ≡ counted channel packet no_notes (standing (note_ends channel) places) →
    chapter_n channel checkpoint packet tick sent ≡ shaped s (logs_of channel packet tick places)
chapter channel checkpoint packet tick sent places s e w n =
    chapter_n-standing channel checkpoint packet tick sent places e w
    ∙ ap (λ (k : Shape). shaped k (logs_of channel packet tick places)) (sym n)

room : (whole text : List ℕ) (s : Shape) (spare : ℕ) → whole ≡ shaped s text → is_bare s ≡ false → length whole ≤ spare → 2 + (length text + span s) ≤ spare
room whole text s spare e b l = omega (arith, ap length e, length-shaped-full s text b, l)

pub write_parts-requires-clause-spare : goal.write_parts-requires-clause-spare
write_parts-requires-clause-spare c =
    let a = c.args in
    let s = c.shape_of-shape.result in
    let places = c.checkpoint_history-places.result.now in
    let all = chapter a.channel a.checkpoint a.packet a.tick a.list.now places s (c.checkpoint_history-places.ensures.coded (note_ends a.channel)) c.shape_of-shape.ensures.within c.shape_of-shape.ensures.notes in
    let text = logs_of a.channel a.packet a.tick places in
    room (chapter_n a.channel a.checkpoint a.packet a.tick a.list.now) text s a.out.now.spare all (sym c.is_bare.ensures ∙ c.if-not-is_bare.true) c.requires.spare

pub returns-then-not-is_bare : goal.returns-then-not-is_bare
returns-then-not-is_bare c =
    let a = c.args in
    let s = c.shape_of-shape.result in
    let places = c.checkpoint_history-places.result.now in
    let all = chapter a.channel a.checkpoint a.packet a.tick a.list.now places s (c.checkpoint_history-places.ensures.coded (note_ends a.channel)) c.shape_of-shape.ensures.within c.shape_of-shape.ensures.notes in
    let text = logs_of a.channel a.packet a.tick places in
    subst (λ (t : List ℕ). Appends a.out.now c.write_parts.new.out t)
    (sym (all ∙ shaped-full s text (sym c.is_bare.ensures ∙ c.if-not-is_bare.true))) c.write_parts.ensures

pub returns-else-not-is_bare : goal.returns-else-not-is_bare
returns-else-not-is_bare c =
    let a = c.args in
    let s = c.shape_of-shape.result in
    let places = c.checkpoint_history-places.result.now in
    let all = chapter a.channel a.checkpoint a.packet a.tick a.list.now places s (c.checkpoint_history-places.ensures.coded (note_ends a.channel)) c.shape_of-shape.ensures.within c.shape_of-shape.ensures.notes in
    let text = logs_of a.channel a.packet a.tick places in
    subst (λ (t : List ℕ). Appends a.out.now a.out.now t)
    (sym (all ∙ shaped-bare s text (sym c.is_bare.ensures ∙ c.if-not-is_bare.false))) (unchanged a.out.now)
