use Rattle.std.proofs.Common.{sym, ◌∙◌}
use Rattle.ch_sysex.proofs.KeptLaws.{length-sysex_text}
use Rattle.ch_sysex.proofs.table.Table.text_len.Goals as goal

pub returns : goal.returns
returns c = c.total.ensures ∙ sym (length-sysex_text c.args.packet c.args.self.now.logs)
