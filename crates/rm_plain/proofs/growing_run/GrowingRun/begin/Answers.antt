use Rattle.rm_lives.proofs.Common.{[], Life}
use Rattle.std.proofs.Common.{◌≡◌}
use Rattle.rm_core.specs.Words.{as_new}
use Rattle.rm_model.specs.Place.{ByLife, script_grown}
use Rattle.rm_lives.proofs.Moving.{ok_holds}
use Rattle.rm_plain.proofs.GrownRuns.{completes, grown_due, grown_run, held_grown, made_ok, same_grown}
use Rattle.rm_plain.proofs.growing_run.GrowingRun.begin.Goals as goal

pub begin_due-requires-clause-due : goal.begin_due-requires-clause-due
begin_due-requires-clause-due g c =
    let grows = ok_holds c.add_life.result (made_ok c.add_life.result c.is_err.result c.is_err.ensures.negation c.if-is_err.false) c.add_life.ensures.grows in
    let waits = rw c.in-Disk.is at c.requires.growing in
    grown_due g.D.Disk.view c.args.stamp c.args.self.desk c.add_life.new.self grows waits.dead waits.lives

pub returns-in-Ok-clause-grows : goal.returns-in-Ok-clause-grows
returns-in-Ok-clause-grows g c =
    let view = g.D.Disk.view in
    let life : Life = record { stamp = c.args.stamp; segments = [] } in
    let run = c.args.self in
    let grown = c.add_life.new.self in
    let grows = ok_holds c.add_life.result (made_ok c.add_life.result c.is_err.result c.is_err.ensures.negation c.if-is_err.false) c.add_life.ensures.grows in
    record {
      same = same_grown view (ByLife life) run.desk grown c.in-Ok.run'.desk grows c.in-Ok.ensures.same;
      runs = λ script first r. c.in-Ok.ensures.runs (script_grown (ByLife life) script) first (held_grown view life script first c.in-Disk.disk run.opening run.desk grown grows (rw c.in-Disk.is at r));
    }

pub returns-in-Err-clause-fails : goal.returns-in-Err-clause-fails
returns-in-Err-clause-fails g c =
    let view = g.D.Disk.view in
    let life : Life = record { stamp = c.args.stamp; segments = [] } in
    let run = c.args.self in
    let grown = c.add_life.new.self in
    let left = c.in-Err.run' in
    let grows = ok_holds c.add_life.result (made_ok c.add_life.result c.is_err.result c.is_err.ensures.negation c.if-is_err.false) c.add_life.ensures.grows in (
      c.in-Err.ensures.err,
      record {
        ran = λ script first r.
            grown_run view (ByLife life) run.desk grown (script_grown (ByLife life) script) first left.disk left.opening left.log left.ended grows
            (c.in-Err.ensures.stopped (script_grown (ByLife life) script) first (held_grown view life script first c.in-Disk.disk run.opening run.desk grown grows (rw c.in-Disk.is at r)));
        complete = λ script first r.
            completes view (as_new run.desk.core) run.desk.core.settings (script_grown (ByLife life) script) first left.disk left.opening left.log left.ended
            (grown_run view (ByLife life) run.desk grown (script_grown (ByLife life) script) first left.disk left.opening left.log left.ended grows
            (c.in-Err.ensures.stopped (script_grown (ByLife life) script) first (held_grown view life script first c.in-Disk.disk run.opening run.desk grown grows (rw c.in-Disk.is at r))));
      },
    )
