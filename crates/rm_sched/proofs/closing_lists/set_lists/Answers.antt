use Rattle.std.proofs.Common.{sym, ap, ◌∙◌}
use Rattle.rm_sched.specs.ClosingLists.{with_lists}
use Rattle.rm_sched.proofs.Listed.{lists_end}
use Rattle.rm_sched.proofs.closing_lists.set_lists.Goals as goal

pub lists-preserved : goal.lists-preserved
lists-preserved c =
    let was = c.in-Some.ensures.rest in
    rw c.set_closings.ensures (sym (lists_end c.pop.new.self c.lists.rows c.in-Some.id c.in-Some.list) ∙ ap (λ l. with_lists l c.lists.rows) (sym was) ∙ c.lists.invariant)

pub returns : goal.returns
returns c =
    let none = rw c.in_default.is at c.pop.ensures.none in
    sym (ap (λ l. with_lists l c.lists.rows) none) ∙ c.lists.invariant
