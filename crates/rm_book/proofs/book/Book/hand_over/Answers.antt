use Rattle.rm_book.proofs.Common.{List, sym, ap, ◌∙◌, BookRow}
use Rattle.rm_book.specs.Books.{BookOf, book_row}
use Rattle.rm_book.proofs.HandedOver.{new_handed, new_may, old_handed}
use Rattle.rm_book.proofs.book.Book.hand_over.Goals as goal

pub tell-requires : goal.tell-requires
tell-requires c = new_may (book_row c.args.self.now c.args.id) (sym c.is_new.ensures.answer ∙ c.if-is_new.true)

pub returns-then-is_new : goal.returns-then-is_new
returns-then-is_new c =
    c.tell.ensures.state
    ∙ ap (λ (rows : List BookRow). record c.args.self.now { rows = rows }) (new_handed c.args.id c.args.self.now.rows c.is_new.ensures.apart (sym c.is_new.ensures.answer ∙ c.if-is_new.true))

pub returns-else-is_new : goal.returns-else-is_new
returns-else-is_new c =
    ap (λ (rows : List BookRow). record c.args.self.now { rows = rows }) (old_handed c.args.id c.args.self.now.rows c.is_new.ensures.apart (sym c.is_new.ensures.answer ∙ c.if-is_new.false))
