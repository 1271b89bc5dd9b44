use Rattle.jm_cmds.specs.FrameLaws.{frames_spell}
use Rattle.jm_cmds.proofs.laws.frames_spell.Goals as goal

pub returns : goal.returns
returns c = frames_spell
