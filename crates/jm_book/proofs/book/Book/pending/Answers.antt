use Rattle.std.proofs.Common.{◌∙◌, ap}
use Rattle.jm_book.specs.Stream.{unsent}
use Rattle.jm_book.specs.Session.{session_of, session_stream}
use Rattle.jm_book.proofs.OneMore.{unsent_is}
use Rattle.jm_book.proofs.book.Book.pending.Goals as goal

pub returns : goal.returns
returns c =
    let core = c.self.inside.core in
    let stream = (session_of core.config c.self.inside.tape.steps).stream in
    let same = session_stream core.config c.self.inside.tape.steps in
    rw (← c.self.view_is) (c.unsent_count.ensures ∙ unsent_is core stream c.self.invariant.stands.stream ∙ ap unsent same)
