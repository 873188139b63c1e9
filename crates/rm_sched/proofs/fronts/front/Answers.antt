use Rattle.std.proofs.Common.{◌≡◌, ◌∙◌, ap, drop}
use Rattle.rm_tables.specs.declared.events.SchedEvent.TheVariants.{NodeUpdate}
use Rattle.rm_tables.specs.Actions.{sched_worked}
use Rattle.rm_sched.proofs.Fronted.{front_is}
use Rattle.rm_sched.proofs.fronts.front.Goals as goal

pub returns-clause-ok : goal.returns-clause-ok
returns-clause-ok c = λ event rest is.
    let first = rw (c.in-Some.is, is) at c.first.ensures.first in
    let own : c.in-Some.first.now ≡ event = cc in
    let same : c.in_ok-event.event ≡ event = c.in_ok-event.ensures ∙ own in
    let does = rw same at c.in_ok-entry.ensures.ok in
    (does.0, does.1, rw c.take_first.ensures.rest (ap sched_worked does.2))

pub work_off-requires : goal.work_off-requires
work_off-requires c = record {
  pass = λ name is.
      let first = rw c.in-Some.is at c.first.ensures.first in
      c.requires.pass name (drop 1 c.args.t.now.sched) (front_is c.args.t.now.sched c.in-Some.first.now (NodeUpdate name) first (c.in_ok-event.ensures) is);
}
