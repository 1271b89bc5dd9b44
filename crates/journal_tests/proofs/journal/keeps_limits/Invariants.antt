use Rattle.std.proofs.Common.{ℕ, ◌≤◌, ◌<◌}
use Rattle.ch_param.specs.ChapterM.{param_count}
use Rattle.ch_notes.specs.ChapterA.{poly_count}
use Rattle.journal_tests.proofs.journal.keeps_limits.Given as goal

abbrev pub invariant-loop-number : goal.invariant-loop-number
invariant-loop-number l = record {
  params : (channel : ℕ) → channel < l.number → param_count channel l.checkpoint l.list ≤ 16;
  notes : (channel : ℕ) → channel < l.number → poly_count channel l.checkpoint l.list ≤ 64;
}
