use Rattle.jm_book.proofs.Fitting.{packets_fit}
use Rattle.jm_book.proofs.laws.stream.packets_fit.Goals as goal

pub returns : goal.returns
returns c = packets_fit
