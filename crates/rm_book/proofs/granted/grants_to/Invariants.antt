use Rattle.rm_book.proofs.Common.{◌≡◌, take, filter_map}
use Rattle.rm_book.specs.Granted.{grant_in}
use Rattle.rm_book.proofs.granted.grants_to.Given as goal

abbrev pub invariant-ids : goal.invariant-ids
invariant-ids l = l.grants ≡ filter_map (grant_in l.rows) (take l.id-index l.id-items)
