use Rattle.rm_lives.proofs.Common.{Result, inr, subst}
use Rattle.rm_core.specs.Words.{as_new}
use Rattle.rm_lives.specs.declared.halts.Stop.{Stop}
use Rattle.rm_model.specs.Place.{BySegment, script_grown}
use Rattle.rm_plain.specs.Feeding.{FedDown, FedLeft, FedStopped}
use Rattle.rm_plain.proofs.GrownRuns.{completes, same_run}
use Rattle.rm_plain.proofs.growing_run.GrowingRun.feed.Goals as goal

pub returns-in-Ok-clause-grows : goal.returns-in-Ok-clause-grows
returns-in-Ok-clause-grows g c =
    let up = c.in-Ok.ensures.up in
    record { same = up.same; runs = λ script first r. up.runs c.args.self.opening script first (rw c.in-Store.is at r) }

pub returns-in-Ok-ended-clause-grows : goal.returns-in-Ok-ended-clause-grows
returns-in-Ok-ended-clause-grows g c =
    let run = c.args.self in
    let down : FedDown g.D.Disk.view c.args.segment run.desk c.feed.new.d c.in-Store.store c.in-Err.field-0.disk =
    subst (λ (x : Result (Unit {0}) Stop). FedLeft g.D.Disk.view c.args.segment run.desk c.feed.new.d c.in-Store.store c.in-Err.field-0.disk x) c.in-Ok-ended.is c.in-Err.ensures.left in
    record { same = down.same; runs = λ script first r. inr (down.runs run.opening script first (rw c.in-Store.is at r)) }

pub returns-in-Err-ended-clause-stopped : goal.returns-in-Err-ended-clause-stopped
returns-in-Err-ended-clause-stopped g c =
    let view = g.D.Disk.view in
    let run = c.args.self in
    let left = c.end_run.result in
    let stopped : FedStopped view c.args.segment run.desk c.feed.new.d c.in-Store.store c.in-Err.field-0.disk c.in-Err-ended.stop =
    subst (λ (x : Result (Unit {0}) Stop). FedLeft view c.args.segment run.desk c.feed.new.d c.in-Store.store c.in-Err.field-0.disk x) c.in-Err-ended.is c.in-Err.ensures.left in
    record {
      ran = λ script first r.
          same_run view run.desk c.feed.new.d (script_grown (BySegment c.args.segment) script) first left.disk left.opening left.log left.ended stopped.same
          (c.end_run.ensures.ran (script_grown (BySegment c.args.segment) script) first (stopped.whole run.opening script first (rw c.in-Store.is at r)));
      complete = λ script first r.
          completes view (as_new run.desk.core) run.desk.core.settings (script_grown (BySegment c.args.segment) script) first left.disk left.opening left.log left.ended
          (same_run view run.desk c.feed.new.d (script_grown (BySegment c.args.segment) script) first left.disk left.opening left.log left.ended stopped.same
          (c.end_run.ensures.ran (script_grown (BySegment c.args.segment) script) first (stopped.whole run.opening script first (rw c.in-Store.is at r))));
    }
