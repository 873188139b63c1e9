use Rattle.std.proofs.Common.{rules}
use Rattle.rm_tree.specs.Changes.{with_ending}
use Rattle.rm_tree.proofs.Changes.{own_with_ending}
use Rattle.rm_tree.proofs.Entries.{IsChanged, changed_by}
use Rattle.rm_tree.proofs.apps.Apps.set_ending.Goals as goal

kept : (c : goal.After-update) → IsChanged (with_ending c.args.how c.args.text c.args.order) c.args.id c.self.inside.records c.update.new.self
kept c =
    changed_by (with_ending c.args.how c.args.text c.args.order) c.args.id c.self.inside.records c.update.new.self c.update.result _ c.update.ensures.unique c.self.invariant c.update.ensures.there c.update.ensures.some c.update.ensures.none
    (λ app o. own_with_ending c.args.how c.args.text c.args.order c.args.id app o) (λ app x done p. search rules)

pub invariant_of-self : goal.invariant_of-self
invariant_of-self c = (kept c).own

pub returns : goal.returns
returns c = rw (← c.self.view_is) (kept c).records
