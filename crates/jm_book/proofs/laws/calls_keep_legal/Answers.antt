use Rattle.jm_book.specs.LegalLaws.{call_keeps_legal}
use Rattle.jm_book.proofs.laws.calls_keep_legal.Goals as goal

pub returns : goal.returns
returns c = call_keeps_legal
