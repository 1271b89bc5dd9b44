use Rattle.std.proofs.Common.{[]}
use Rattle.jm_desk.specs.HistoryLaws.{steps_legal}
use Rattle.jm_desk.proofs.laws.steps_are_legal.Goals as goal

pub returns : goal.returns
returns c = λ config turns h. steps_legal config [] turns h
