use Rattle.std.proofs.Common.{◌∙◌, sym}
use Rattle.rm_tree.proofs.Entries.{found, added, added_entries, not_added}
use Rattle.rm_tree.proofs.apps.Apps.add.Goals as goal

pub insert-requires : goal.insert-requires
insert-requires c = let none = rw (← c.self.view_is) at c.requires.none in sym (found c.args.app.id c.self.inside.records c.self.invariant) ∙ none

pub invariant_of-self : goal.invariant_of-self
invariant_of-self c = added c.self.inside.records c.insert.new.self c.args.app c.insert.result c.self.invariant c.requires.first c.insert.ensures.ok c.insert.ensures.err

pub returns-clause-ok : goal.returns-clause-ok
returns-clause-ok c = rw (← c.self.view_is) (added_entries c.self.inside.records c.insert.new.self c.args.app c.insert.result c.insert.ensures.ok)

pub returns-clause-err : goal.returns-clause-err
returns-clause-err c = rw (← c.self.view_is) (not_added c.self.inside.records c.insert.new.self c.insert.result c.insert.ensures.err)
