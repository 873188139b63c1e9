use Rattle.rm_book.proofs.Common.{sym, ◌∙◌}
use Rattle.rm_book.proofs.AskViews.{none_view, some_view}
use Rattle.rm_book.proofs.asks.Asks.of.Goals as goal

pub returns-in_err-lines : goal.returns-in_err-lines
returns-in_err-lines c =
    rw (c.from_residual.ensures, ← c.self.view_is) (none_view c.self.inside.attempts c.args.attempt (sym c.in_err-lines.ensures))

pub returns-then-is_empty : goal.returns-then-is_empty
returns-then-is_empty c =
    rw (← c.self.view_is)
    (none_view c.self.inside.attempts c.args.attempt (sym c.in_ok-lines.ensures ∙ c.is_empty.ensures.nil.0 c.if-is_empty.true))

pub returns-else-is_empty : goal.returns-else-is_empty
returns-else-is_empty c =
    rw (← c.self.view_is)
    (some_view c.self.inside.asked c.self.inside.attempts c.args.attempt c.in_ok-lines.lines.now c.self.invariant (sym c.in_ok-lines.ensures)
    (sym c.is_empty.ensures.test ∙ c.if-is_empty.false))
