use Rattle.rm_book.proofs.Common.{◌≡◌, map, take}
use Rattle.rm_book.specs.Books.{book_row_taken}
use Rattle.rm_book.proofs.leaving.run_each.Given as goal

abbrev pub invariant-taken : goal.invariant-taken
invariant-taken l = l.rows ≡ map (book_row_taken (take l.held-index l.taken)) l.initial.rows
