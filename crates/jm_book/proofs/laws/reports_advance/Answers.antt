use Rattle.jm_book.specs.StepMarks.{ack_advances}
use Rattle.jm_book.proofs.laws.reports_advance.Goals as goal

pub returns : goal.returns
returns c = ack_advances
