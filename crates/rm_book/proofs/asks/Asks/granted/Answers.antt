use Rattle.rm_book.proofs.Common.{sym, ◌∙◌, ap, map, list_any}
use Rattle.rm_book.specs.AskLines.{asks_of_entry, lines_in}
use Rattle.rm_book.specs.AskTables.{asks_granted, is_for}
use Rattle.rm_book.proofs.Entries.{granted_leaves}
use Rattle.rm_book.proofs.AskViews.{any_same, changed_view, granted_table, granted_view, view_of}
use Rattle.rm_book.proofs.asks.Asks.granted.Goals as goal

pub invariant_of-self : goal.invariant_of-self
invariant_of-self c =
    (granted_leaves c.self.inside.asked c.self.inside.attempts c.grant.new.self c.args.attempt c.args.priority c.args.size c.grant.ensures.entries c.self.invariant).lawful

pub returns-clause-found : goal.returns-clause-found
returns-clause-found c =
    rw (← c.self.view_is)
    (c.grant.ensures.found ∙ any_same c.args.priority c.args.size (lines_in c.self.inside.attempts c.args.attempt)
    ∙ ap (list_any (is_for c.args.priority c.args.size)) (sym (view_of c.self.inside.attempts c.args.attempt)))

pub returns-clause-asks : goal.returns-clause-asks
returns-clause-asks c =
    rw (← c.self.view_is)
    (changed_view c.self.inside.asked _ _ c.args.attempt _ (asks_granted c.args.priority c.args.size)
    (granted_leaves c.self.inside.asked c.self.inside.attempts c.grant.new.self c.args.attempt c.args.priority c.args.size c.grant.ensures.entries c.self.invariant)
    (granted_view c.args.priority c.args.size (lines_in c.self.inside.attempts c.args.attempt)))

pub returns-clause-table : goal.returns-clause-table
returns-clause-table c =
    rw (← c.self.view_is)
    (ap (map asks_of_entry) c.grant.ensures.entries ∙ granted_table c.args.priority c.args.size c.args.attempt c.self.inside.attempts)
