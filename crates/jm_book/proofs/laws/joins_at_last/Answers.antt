use Rattle.jm_book.specs.StepMarks.{join_enters}
use Rattle.jm_book.proofs.laws.joins_at_last.Goals as goal

pub returns : goal.returns
returns c = join_enters
