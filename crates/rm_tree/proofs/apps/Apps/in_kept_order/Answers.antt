use Rattle.rm_tree.proofs.Entries.{ids_are}
use Rattle.rm_tree.proofs.apps.Apps.in_kept_order.Goals as goal

pub returns : goal.returns
returns c = rw (← c.self.view_is) (rw (ids_are c.self.inside.records c.self.invariant) at c.in_order.ensures)
