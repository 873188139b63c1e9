use Rattle.rm_book.proofs.Common.{◌≡◌, not, filter, take, list_any}
use Rattle.rm_book.specs.Books.{is_of}
use Rattle.rm_book.proofs.entering.entering.Given as goal

abbrev pub invariant-taken : goal.invariant-taken
invariant-taken l = l.list.items ≡ filter (λ held. not (list_any (is_of held.id) l.rows)) (take l.held-index l.taken)
