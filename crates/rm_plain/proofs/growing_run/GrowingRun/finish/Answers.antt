use Rattle.rm_plain.proofs.GrownRuns.{completes, disk_whole}
use Rattle.rm_core.specs.Words.{as_new}
use Rattle.rm_plain.proofs.growing_run.GrowingRun.finish.Goals as goal

pub returns-in-Store : goal.returns-in-Store
returns-in-Store g c =
    let view = g.D.Disk.view in
    let run = c.finish_life.result in
    let d = c.args.self.desk in
    record {
      ends = record {
        ran = λ script first r. c.finish_life.ensures.ran script first (rw c.in-Store.is at r);
        complete = λ script first r. completes view (as_new d.core) d.core.settings script first run.disk run.opening run.log run.ended (c.finish_life.ensures.ran script first (rw c.in-Store.is at r));
      };
    }

pub returns-in-Disk : goal.returns-in-Disk
returns-in-Disk g c =
    let view = g.D.Disk.view in
    let run = c.end_run.result in
    let d = c.args.self.desk in
    let waits = rw c.in-Disk.is at c.requires.growing in
    record {
      ends = record {
        ran = λ script first r. c.end_run.ensures.ran script first (disk_whole view c.args.self.opening script first c.in-Disk.disk d waits (rw c.in-Disk.is at r));
        complete = λ script first r.
            completes view (as_new d.core) d.core.settings script first run.disk run.opening run.log run.ended
            (c.end_run.ensures.ran script first (disk_whole view c.args.self.opening script first c.in-Disk.disk d waits (rw c.in-Disk.is at r)));
      };
    }
