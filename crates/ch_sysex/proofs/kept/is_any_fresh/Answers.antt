use Rattle.std.proofs.Common.{◌∙◌}
use Rattle.ch_sysex.proofs.KeptLaws.{any_in}
use Rattle.ch_sysex.proofs.kept.is_any_fresh.Goals as goal

pub returns : goal.returns
returns c = c.is_any_before.ensures ∙ any_in c.args.packet c.args.messages.now
