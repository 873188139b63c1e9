use Rattle.std.proofs.Common.{[], Ok, refl}
use Rattle.rm_core.specs.Words.{as_new}
use Rattle.rm_lives.proofs.Finishing.{has_run}
use Rattle.rm_plain.specs.GrowingRuns.{disk_held}
use Rattle.rm_plain.specs.Schedule.{by_letters}
use Rattle.rm_plain.proofs.GrownRuns.{settled_whole}
use Rattle.rm_plain.proofs.growing_run.GrowingRun.log.Goals as goal

pub returns-clause-ran : goal.returns-clause-ran
returns-clause-ran g c = λ settled script first r.
    let run = c.args.self.now in
    let d = run.desk in
    has_run (by_letters []) g.D.Disk.view run.opening script d first (disk_held run.held) (Ok tt) (settled_whole g.D.Disk.view run.opening script first d run.held c.requires.growing settled c.law.ensures.tells c.law.ensures.sound r) c.law.ensures.sound c.law.ensures.tells
    c.log.ensures.lawful (as_new d.core) refl d.core.settings refl
