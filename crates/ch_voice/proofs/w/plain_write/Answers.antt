use Rattle.jm_wire.specs.Octets.{unchanged}
use Rattle.ch_voice.specs.ItemLaws.{w_none}
use Rattle.ch_voice.proofs.w.plain_write.Goals as goal

pub returns-in_default : goal.returns-in_default
returns-in_default c =
    let a = c.args in
    rw (w_none a.channel a.checkpoint a.packet a.list.now c.in_default.ensures) (unchanged a.out.now)
