use Rattle.std.proofs.Common.{◌≡◌, ◌≤◌, ◌+◌, [], ◌++◌, length, map, vec_len, vec_capacity, All}
use Rattle.std.specs.List.{AllZip}
use Rattle.std.specs.Vec.Iter.{into_iter_items}
use Rattle.jm_book.specs.Book.{Told}
use Rattle.jm_desk.specs.Sharing.{IsOf}
use Rattle.jm_groups.specs.Sharing.{IsOpening, HasOut, book_of, first_view, view_of}
use Rattle.jm_groups.proofs.groups.open_each.Given as goal

abbrev pub invariant-loop-book : goal.invariant-loop-book
invariant-loop-book l = record {
  steps : All (λ (b : Told). b.steps ≡ []) (into_iter_items l.books);
  over : map book_of l.desks.items ++ into_iter_items l.books ≡ l.fn.books.items;
  own : AllZip IsOf l.desks.items l.passes.items;
  views : map view_of l.passes.items ≡ map first_view l.desks.items;
  opening : All IsOpening l.passes.items;
  alone : All (HasOut 0) l.passes.items;
  count : vec_len l.desks + length (into_iter_items l.books) ≡ vec_len l.fn.books;
  same : vec_len l.passes ≡ vec_len l.desks;
  desk_room : vec_len l.fn.books ≤ vec_capacity l.desks;
  pass_room : vec_len l.fn.books ≤ vec_capacity l.passes;
}

abbrev pub decreases-loop-book : goal.decreases-loop-book
decreases-loop-book l = length (into_iter_items l.books)
