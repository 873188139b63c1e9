use Rattle.std.proofs.Common.{rules}
use Rattle.rm_tree.specs.Changes.{is_next, with_attempt}
use Rattle.rm_tree.proofs.Changes.{own_with_attempt}
use Rattle.rm_tree.proofs.Entries.{IsTried, tried_by, found, passes_found}
use Rattle.rm_tree.proofs.apps.Apps.add_attempt.Goals as goal

kept : (c : goal.After-unwrap_or) → IsTried (with_attempt c.args.attempt) c.args.attempt.id.app c.self.inside.records c.update-pushed.new.self c.unwrap_or.result
kept c =
    let fits = rw (← c.self.view_is, found c.args.attempt.id.app c.self.inside.records c.self.invariant) at c.requires in
    rw c.unwrap_or.ensures
    (tried_by (with_attempt c.args.attempt) c.args.attempt.id.app c.self.inside.records c.update-pushed.new.self c.update-pushed.result _ c.update-pushed.ensures.unique c.self.invariant
    c.update-pushed.ensures.there c.update-pushed.ensures.some c.update-pushed.ensures.none
    (λ app l o. own_with_attempt c.args.attempt app (passes_found (is_next c.args.attempt.id.number) _ app fits l) o) (λ app x done l o p. search rules))

pub invariant_of-self : goal.invariant_of-self
invariant_of-self c = (kept c).own

pub returns-clause-ok : goal.returns-clause-ok
returns-clause-ok c = rw (← c.self.view_is) (kept c).ok

pub returns-clause-err : goal.returns-clause-err
returns-clause-err c = rw (← c.self.view_is) (kept c).err
