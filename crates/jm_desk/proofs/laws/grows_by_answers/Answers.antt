use Rattle.std.proofs.Common.{[]}
use Rattle.jm_desk.specs.HistoryLaws.{answers_push, answers_pop}
use Rattle.jm_desk.proofs.laws.grows_by_answers.Goals as goal

pub returns : goal.returns
returns c = λ config. (tt, λ turns m. (λ next. answers_push config [] turns m next.0 next.1, λ legal. answers_pop config [] turns m legal))
