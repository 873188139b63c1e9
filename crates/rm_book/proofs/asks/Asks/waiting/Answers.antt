use Rattle.rm_book.proofs.AskViews.{waiting_view}
use Rattle.rm_book.proofs.asks.Asks.waiting.Goals as goal

pub returns : goal.returns
returns c = rw (← c.self.view_is) (rw (waiting_view c.self.inside.attempts) at c.waiting.ensures)
