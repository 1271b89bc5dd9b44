use Rattle.ch_voice.specs.BankLaws.{bank_told}
use Rattle.ch_voice.proofs.laws.bank_told.Goals as goal

pub returns : goal.returns
returns c = bank_told
