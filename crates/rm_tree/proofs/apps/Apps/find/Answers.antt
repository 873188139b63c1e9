use Rattle.std.proofs.Common.{sym, ◌∙◌}
use Rattle.rm_tree.proofs.Entries.{found, found_numbered}
use Rattle.rm_tree.proofs.apps.Apps.find.Goals as goal

pub returns-clause-record : goal.returns-clause-record
returns-clause-record c = rw (← c.self.view_is) (c.get.ensures.value ∙ sym (found c.args.id c.self.inside.records c.self.invariant))

pub returns-clause-numbered : goal.returns-clause-numbered
returns-clause-numbered c = rw c.get.ensures.value (found_numbered c.args.id c.self.inside.records c.self.invariant)
