use Rattle.rm_book.proofs.Common.{◌≡◌, filter, take, list_any}
use Rattle.rm_book.specs.Books.{is_of}
use Rattle.rm_book.proofs.leaving.those_there.Given as goal

abbrev pub invariant-ids : goal.invariant-ids
invariant-ids l = l.list.items ≡ filter (λ id. list_any (is_of id) l.rows) (take l.id-index l.ids)
