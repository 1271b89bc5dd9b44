use Rattle.std.proofs.Common.{◌≡◌, drop}
use Rattle.jm_book.specs.Participants.{least_mark}
use Rattle.jm_book.proofs.participants.Participants.slowest.Given as goal

abbrev pub invariant-loop-one : goal.invariant-loop-one
invariant-loop-one l = least_mark l.best (drop l.one-index l.others) ≡ least_mark l.initial.best l.others
