use Rattle.std.proofs.Common.{◌≡◌, true, sym, ◌∙◌}
use Rattle.rm_conditions.proofs.Fronts.{first_update}
use Rattle.rm_conditions.specs.Events.{makes_pass}
use Rattle.rm_conditions.proofs.queued.can_schedule.Goals as goal

pub returns-else-not-makes_pass : goal.returns-else-not-makes_pass
returns-else-not-makes_pass c =
    let first = rw c.in-Some.is at c.first.ensures.first in
    let makes : makes_pass c.in-Some.event.now ≡ true = sym c.makes_pass.ensures ∙ c.if-not-makes_pass.false in (
      λ yes name rest e. c.can_pass.ensures.0 yes,
      λ all. let update = first_update c.args.t.now.sched c.in-Some.event.now first makes in c.can_pass.ensures.1 (all update.0 update.1 update.2),
    )
