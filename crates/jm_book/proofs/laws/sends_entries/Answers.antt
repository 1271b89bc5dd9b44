use Rattle.jm_book.specs.PlayLaws.{sent_are_entries}
use Rattle.jm_book.specs.Stream.{stream_of}
use Rattle.jm_book.proofs.laws.sends_entries.Goals as goal

pub returns : goal.returns
returns c = λ steps. sent_are_entries (stream_of steps)
