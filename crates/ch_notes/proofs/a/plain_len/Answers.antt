use Rattle.std.proofs.Common.{◌≡◌, length, arith}
use Rattle.jm_cmds.specs.History.{below}
use Rattle.jm_cmds.specs.Sent.{packet_of}
use Rattle.ch_notes.specs.ChapterA.{poly_count, chapter_a}
use Rattle.ch_notes.specs.PressLaws.{listed_size-few, length-chapter_a}
use Rattle.ch_notes.proofs.a.plain_len.Goals as goal

pub returns-clause-few : goal.returns-clause-few
unfolding chapter_a
returns-clause-few c =
    let a = c.args in
    let number : c.listed_len.result ≡ length (chapter_a a.channel a.checkpoint a.packet a.list.now) = c.listed_len.ensures.number in
    λ few. omega (
      arith,
      number,
      length-chapter_a a.channel a.checkpoint a.packet a.list.now,
      listed_size-few (poly_count a.channel a.checkpoint (below packet_of a.packet a.list.now)) few,
    )
