use Rattle.rm_plain.specs.Feeding.{by_policy}
use Rattle.rm_lives.proofs.Ordering.{none_split}
use Rattle.rm_lives.proofs.Parts.{first_runs}
use Rattle.rm_plain.proofs.FedRuns.{begun_up, due_lives, due_may, first_halted, first_unfounded}
use Rattle.rm_plain.proofs.feeding.start_first.Goals as goal

pub begin_life-requires-clause-may : goal.begin_life-requires-clause-may
begin_life-requires-clause-may g c = due_may c.args.d.now c.requires.due (c.law.ensures.dead c.requires.due.dead)

pub returns-in-Ok-begin_life-clause-up : goal.returns-in-Ok-begin_life-clause-up
returns-in-Ok-begin_life-clause-up g c = begun_up g.D.Disk.view c.args.d.now c.begin_life.new.d c.in-Ok.opened.1 c.begin_life.new.store c.requires.due c.in-Ok-begin_life.ensures.takes_up c.in-Ok-begin_life.ensures.begun.serves

pub returns-in-Ok-begin_life-clause-runs : goal.returns-in-Ok-begin_life-clause-runs
returns-in-Ok-begin_life-clause-runs g c = λ script along.
    first_runs by_policy g.D.Disk.view c.in-Ok.opened.2 script c.args.disk c.args.d.now c.begin_life.new.d c.in-Ok.opened.0 c.begin_life.new.store c.in-Ok.opened.1 c.in-Ok.ensures.first c.requires.empty c.requires.due.dead c.begin_life.ensures.goes
    c.in-Ok-begin_life.ensures.begun c.begin_life.ensures.fuse along (λ past e more is. absurd (none_split past e more is), λ past e more is. absurd (none_split past e more is)) (due_lives c.in-Ok.opened.2 script c.args.d.now c.requires.empty c.requires.due along)
    c.in-Ok.ensures.read_back

pub returns-in-Err-clause-stopped : goal.returns-in-Err-clause-stopped
returns-in-Err-clause-stopped g c =
    let none = c.in-Err.ensures in
    first_unfounded g.D.Disk.view c.args.d.now c.requires.due c.requires.empty c.in-Err.none.opening none.read_back_yet c.args.disk c.in-Err.none.disk c.in-Err.none.why none.given_back none.found none.why

pub returns-in-Err-begin_life-clause-stopped : goal.returns-in-Err-begin_life-clause-stopped
returns-in-Err-begin_life-clause-stopped g c =
    let h = c.in-Err-begin_life.ensures in
    rw c.from.ensures
    (first_halted g.D.Disk.view c.args.d.now c.requires.due c.requires.empty c.in-Ok.opened.2 c.in-Ok.ensures.read_back c.begin_life.new.d c.args.disk c.leave.result.disk c.in-Ok.opened.0 c.begin_life.new.store c.in-Ok.opened.1 c.in-Err-begin_life.halt
    c.in-Ok.ensures.first h.halts h.inner h.refused h.fuse c.leave.ensures.0 h.memory)
