use Rattle.std.proofs.Common.{subst, sym, ◌∙◌, arith}
use Rattle.std.specs.Prelude.{MatchResult}
use Rattle.apple_msg.specs.Grammar.{Spells, IsFirstFault}
use Rattle.apple_msg.proofs.Whole.{read_cases, read_spelled, read_faulty}
use Rattle.apple_msg.proofs.reading.read_message.Goals as goal

pub returns-clause-reads : goal.returns-clause-reads
returns-clause-reads c = subst (λ r. MatchResult r (Spells c.args.b.now) (IsFirstFault c.args.b.now)) (sym c.whole.ensures) (read_cases c.args.b.now (λ k. omega (arith, c.type_inv.b k)))

pub returns-clause-only : goal.returns-clause-only
returns-clause-only c = λ m spells. c.whole.ensures ∙ read_spelled c.args.b.now m spells

pub returns-clause-only_fault : goal.returns-clause-only_fault
returns-clause-only_fault c = λ f first. c.whole.ensures ∙ read_faulty c.args.b.now f first
