use Rattle.std.proofs.Common.{ap, sym, ◌∙◌, arith}
use Rattle.std.specs.Prelude.{sum_by}
use Rattle.ch_sysex.specs.ChapterX.{sysex_octets, coded_sysex, log_len}
use Rattle.ch_sysex.specs.ChapterLaws.{length-chapter_x}
use Rattle.ch_sysex.proofs.x.plain_len.Goals as goal

pub returns-clause-octets : goal.returns-clause-octets
unfolding sysex_octets
returns-clause-octets c =
    let same = ap (λ places. sum_by log_len (coded_sysex c.args.checkpoint places)) c.session_history.ensures.history in
    omega (arith, c.room_of.ensures.octets, same, c.requires.limit)

pub returns-clause-number : goal.returns-clause-number
returns-clause-number c =
    returns-clause-octets c ∙ sym (length-chapter_x c.args.checkpoint c.args.packet c.args.list.now)
