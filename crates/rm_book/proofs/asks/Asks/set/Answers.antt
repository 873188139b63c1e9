use Rattle.rm_book.proofs.Common.{◌∙◌, ap, map}
use Rattle.rm_book.specs.AskLines.{asks_of_entry, lines_in}
use Rattle.rm_book.specs.AskTables.{asks_set}
use Rattle.rm_book.proofs.Entries.{set_leaves, lawful_lines}
use Rattle.rm_book.proofs.AskViews.{changed_view, set_table, set_view}
use Rattle.rm_book.proofs.asks.Asks.set.Goals as goal

pub invariant_of-self-2 : goal.invariant_of-self-2
invariant_of-self-2 c =
    (set_leaves c.self.inside.asked c.in-Some.order c.self.inside.attempts c.set.new.self c.args.attempt c.args.ask c.in-Some.ensures.1
    c.in_ok-set.ensures.ok c.self.invariant).lawful

pub returns-clause-ok : goal.returns-clause-ok
returns-clause-ok c =
    rw (← c.self.view_is)
    (changed_view c.in-Some.order _ _ c.args.attempt _ (asks_set c.args.ask)
    (set_leaves c.self.inside.asked c.in-Some.order c.self.inside.attempts c.set.new.self c.args.attempt c.args.ask c.in-Some.ensures.1
    c.in_ok-set.ensures.ok c.self.invariant)
    (set_view c.self.inside.asked c.args.ask (lines_in c.self.inside.attempts c.args.attempt) (lawful_lines c.self.inside.asked c.self.inside.attempts c.args.attempt c.self.invariant)))

pub returns-clause-table : goal.returns-clause-table
returns-clause-table c =
    rw (← c.self.view_is)
    (ap (map asks_of_entry) c.in_ok-set.ensures.ok
    ∙ rw c.in-Some.ensures.1 (set_table c.self.inside.asked c.args.ask c.args.attempt c.self.inside.attempts c.self.invariant))
