use Rattle.std.proofs.Common.{◌≡◌, ◌∙◌, sym}
use Rattle.rm_book.specs.Books.{book_row}
use Rattle.rm_tracker.proofs.Rows.{untold_may}
use Rattle.rm_tracker.proofs.beating.acquire_one.Goals as goal

pub tell-requires : goal.tell-requires
tell-requires c = untold_may c.args.name.now (book_row c.args.book.now c.args.id) (sym c.is_untold.ensures ∙ c.if-is_untold.true)
