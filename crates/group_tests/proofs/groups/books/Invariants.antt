use Rattle.std.proofs.Common.{◌≡◌, [], All}
use Rattle.jm_book.specs.Book.{Told}
use Rattle.group_tests.proofs.groups.books.Given as goal

abbrev pub invariant-loop-ssrc : goal.invariant-loop-ssrc
invariant-loop-ssrc l = All (λ (b : Told). b.steps ≡ []) l.books.items
