use Rattle.rm_tree.proofs.Entries.{apart, numbered}
use Rattle.rm_tree.proofs.apps.Apps.len.Goals as goal

pub returns-clause-apart : goal.returns-clause-apart
returns-clause-apart c = rw (← c.self.view_is) (apart c.self.inside.records c.len.ensures.unique c.self.invariant)

pub returns-clause-numbered : goal.returns-clause-numbered
returns-clause-numbered c = rw (← c.self.view_is) (numbered c.self.inside.records c.self.invariant)
