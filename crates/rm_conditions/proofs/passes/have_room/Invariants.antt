use Rattle.std.proofs.Common.{◌≡◌, true, take}
use Rattle.std.specs.List.{list_all}
use Rattle.rm_book.specs.Books.{capability_of}
use Rattle.rm_conditions.specs.Passes.{offers_few}
use Rattle.rm_conditions.proofs.passes.have_room.Given as goal

abbrev pub invariant-nodes : goal.invariant-nodes
invariant-nodes l = list_all (λ one. offers_few (capability_of l.book one.node)) (take l.place l.book.nodes) ≡ true
