use Rattle.std.proofs.Common.{rules}
use Rattle.rm_tree.specs.Changes.{with_ended}
use Rattle.rm_tree.proofs.Changes.{own_with_ended}
use Rattle.rm_tree.proofs.Entries.{IsTried, tried_by, found}
use Rattle.rm_tree.proofs.apps.Apps.end_attempt.Goals as goal

kept : (c : goal.After-unwrap_or) → IsTried (with_ended c.args.id c.args.how c.args.text.now) c.args.id.app c.self.inside.records c.update-ended.new.self c.unwrap_or.result
kept c =
    let fits = rw (← c.self.view_is, found c.args.id.app c.self.inside.records c.self.invariant) at c.requires in
    rw c.unwrap_or.ensures
    (tried_by (with_ended c.args.id c.args.how c.args.text.now) c.args.id.app c.self.inside.records c.update-ended.new.self c.update-ended.result _ c.update-ended.ensures.unique c.self.invariant
    c.update-ended.ensures.there c.update-ended.ensures.some c.update-ended.ensures.none
    (λ app l o. own_with_ended c.args.id c.args.how c.args.text.now c.args.id.app app o) (λ app x done l o p. search rules))

pub invariant_of-self : goal.invariant_of-self
invariant_of-self c = (kept c).own

pub returns-clause-ok : goal.returns-clause-ok
returns-clause-ok c = rw (← c.self.view_is) (kept c).ok

pub returns-clause-err : goal.returns-clause-err
returns-clause-err c = rw (← c.self.view_is) (kept c).err
