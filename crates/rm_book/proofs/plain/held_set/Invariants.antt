use Rattle.rm_book.proofs.Common.{◌≡◌, take, ContainerId, is_container, is_held}
use Rattle.indexmap.specs.IndexSet.{contains}
use Rattle.rm_book.proofs.plain.held_set.Given as goal

abbrev pub invariant-taken : goal.invariant-taken
invariant-taken l = (id : ContainerId) → contains is_container l.set id ≡ is_held (take l.held-index l.taken) id
