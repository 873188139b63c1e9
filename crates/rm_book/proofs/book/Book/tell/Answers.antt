use Rattle.rm_book.proofs.Common.{List, ap, BookRow}
use Rattle.rm_book.proofs.BookSteps.{told_kept, seen}
use Rattle.rm_book.proofs.book.Book.tell.Goals as goal

pub invariant_of-self : goal.invariant_of-self
invariant_of-self c = (told_kept c.args.id c.self.invariant (rw (← c.self.view_is) at c.requires) c.step.ensures.rows).0

pub returns-clause-state : goal.returns-clause-state
returns-clause-state c =
    rw (← c.self.view_is)
    (ap (λ (rows : List BookRow). seen c.self.inside.nodes.map.entries rows c.self.inside.added) (told_kept c.args.id c.self.invariant (rw (← c.self.view_is) at c.requires) c.step.ensures.rows).1)
