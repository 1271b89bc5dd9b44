use Rattle.std.proofs.Common.{ℕ, Some, ap}
use Rattle.jm_serve.specs.Rounds.{letter_of}
use Rattle.jm_serve.proofs.Telling.{round_whole, round_full, round_starved}
use Rattle.jm_serve.proofs.control.control_round.Goals as goal

pub returns-in-Whole-clause-round : goal.returns-in-Whole-clause-round
returns-in-Whole-clause-round g c =
    round_whole c.args.desk.now (letter_of c.args.from c.args.octets.now) c.args.now c.args.reporter.now c.report_when_due.new.reporter c.report_when_due.result _ _ _ c.in-Whole.ensures.answers c.report_when_due.ensures.reports

pub returns-in-RecordFull-clause-round : goal.returns-in-RecordFull-clause-round
returns-in-RecordFull-clause-round g c =
    round_full c.args.desk.now (letter_of c.args.from c.args.octets.now) c.args.now c.args.reporter.now _ _ _ (ap (λ (k : ℕ). Some k) c.since-last.ensures) c.in-RecordFull.ensures.answers

pub returns-in-NoMemory-clause-round : goal.returns-in-NoMemory-clause-round
returns-in-NoMemory-clause-round g c =
    round_starved c.args.desk.now (letter_of c.args.from c.args.octets.now) c.args.now c.args.reporter.now _ _ _ (ap (λ (k : ℕ). Some k) c.since-last.ensures) c.in-NoMemory.ensures.answers
