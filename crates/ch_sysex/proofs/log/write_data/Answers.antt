use Rattle.std.proofs.Common.{List, ℕ, sym, subst}
use Rattle.jm_wire.specs.Octets.{Appends, joined}
use Rattle.ch_sysex.specs.ChapterLaws.{last_marked-split}
use Rattle.ch_sysex.proofs.log.write_data.Goals as goal

pub returns-in-len1-up : goal.returns-in-len1-up
returns-in-len1-up c =
    subst (λ (text : List ℕ). Appends c.args.out.now c.push.new.self text) (sym (last_marked-split c.args.octets.now c.in-len1-up.len_at_least)) (joined c.push_slice.ensures c.push.ensures)
