use Rattle.std.proofs.Common.{◌∙◌, ap}
use Rattle.std.specs.Map.{values_of}
use Rattle.rm_tree.proofs.Entries.{removed, own_removed}
use Rattle.rm_tree.proofs.apps.Apps.remove.Goals as goal

pub invariant_of-self : goal.invariant_of-self
invariant_of-self c = rw c.remove.ensures.rest (own_removed c.args.id c.self.inside.records c.self.invariant)

pub returns : goal.returns
returns c = rw (← c.self.view_is) (ap values_of c.remove.ensures.rest ∙ removed c.args.id c.self.inside.records c.remove.ensures.unique c.self.invariant)
