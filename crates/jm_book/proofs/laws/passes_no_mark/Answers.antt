use Rattle.jm_book.specs.MarkLaws.{checkpoint_at_most}
use Rattle.jm_book.specs.Session.{session_of, members_of}
use Rattle.std.proofs.Common.{length}
use Rattle.jm_book.proofs.laws.passes_no_mark.Goals as goal

pub returns : goal.returns
returns c = λ config steps. checkpoint_at_most (length (session_of config steps).stream.packets) (members_of config steps).joined
