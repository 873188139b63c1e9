use Rattle.std.proofs.Common.{[], refl}
use Rattle.rm_core.specs.Words.{as_new}
use Rattle.rm_lives.proofs.Finishing.{has_run}
use Rattle.rm_plain.specs.Schedule.{by_letters}
use Rattle.rm_plain.proofs.growing_run.end_run.Goals as goal

pub returns-clause-ran : goal.returns-clause-ran
returns-clause-ran g c = λ script first whole.
    let d = c.args.desk in
    rw c.into_log-log.ensures.log
    (has_run (by_letters []) g.D.Disk.view c.args.opening script d first c.args.disk c.args.ended whole c.law.ensures.sound c.law.ensures.tells c.into_log-log.ensures.lawful (as_new d.core) refl d.core.settings refl)
