use Rattle.std.proofs.Common.{refl, arith}
use Rattle.table_tests.proofs.book_tests.entered.Goals as goal

pub add_grants-requires-clause-new : goal.add_grants-requires-clause-new
add_grants-requires-clause-new g c =
    rw (c.push-2.ensures, c.push.ensures, c.new-grants.ensures, c.book_of-book.ensures, c.container.ensures, c.container-2.ensures)
    (refl, refl, (refl, refl, tt))

pub add_grants-requires-clause-fit : goal.add_grants-requires-clause-fit
add_grants-requires-clause-fit g c =
    rw (c.push-2.ensures, c.push.ensures, c.new-grants.ensures, c.book_of-book.ensures, c.text-node.ensures, c.size.ensures, c.size-2.ensures, c.size-3.ensures)
    (omega arith, omega arith)
