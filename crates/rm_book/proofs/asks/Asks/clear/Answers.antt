use Rattle.rm_book.proofs.Common.{refl, []}
use Rattle.rm_book.proofs.Entries.{cleared}
use Rattle.rm_book.proofs.AskViews.{changed_view, without_view}
use Rattle.rm_book.proofs.asks.Asks.clear.Goals as goal

pub invariant_of-self : goal.invariant_of-self
invariant_of-self c = rw c.clear.ensures (cleared c.self.inside.asked c.self.inside.attempts c.args.attempt c.self.invariant).lawful

pub returns-clause-asks : goal.returns-clause-asks
returns-clause-asks c =
    rw (← c.self.view_is, c.clear.ensures)
    (changed_view c.self.inside.asked _ _ c.args.attempt _ (λ asks. []) (cleared c.self.inside.asked c.self.inside.attempts c.args.attempt c.self.invariant) refl)

pub returns-clause-table : goal.returns-clause-table
returns-clause-table c = rw (← c.self.view_is, c.clear.ensures) (without_view c.args.attempt c.self.inside.attempts)
