use Rattle.rm_book.proofs.Common.{not, list_any, is_container}
use Rattle.rm_book.proofs.BookSteps.{left_kept}
use Rattle.rm_book.proofs.book.Book.end_all.Goals as goal

pub invariant_of-self : goal.invariant_of-self
invariant_of-self c =
    left_kept (λ row. not (list_any (λ id. is_container id row.id) c.args.ids.now)) c.self.invariant c.end_each.ensures.shown c.end_each.ensures.rest c.end_each.ensures.used
