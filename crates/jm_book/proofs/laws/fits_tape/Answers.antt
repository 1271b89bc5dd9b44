use Rattle.jm_book.specs.LegalJoined.{legal_fits}
use Rattle.jm_book.proofs.laws.fits_tape.Goals as goal

pub returns : goal.returns
returns c = legal_fits
