use Rattle.std.proofs.Common.{sym, ◌∙◌, subst}
use Rattle.rm_lives.specs.Later.{LaterTo}
use Rattle.rm_lives.proofs.Finishing.{none_after}
use Rattle.rm_lives.proofs.Onward.{lives_same, lives_trans, stops_after}
use Rattle.rm_workers.specs.AnyOrder.{any_order}
use Rattle.rm_workers.proofs.runs.later_lives.Goals as goal

pub lives-init : goal.lives-init
lives-init g c =
    record { some = c.requires.some; at_ease = c.requires.at_ease; lived = lives_same any_order g.D.Disk.view c.args.d c.args.disk c.requires.at_ease c.requires.ends c.requires.some }

-- a later life stopped the run
pub returns-in-Err-clause-later : goal.returns-in-Err-clause-later
returns-in-Err-clause-later g c =
    let next = c.next_life-lived.result in
    stops_after any_order g.D.Disk.view c.args.d c.lives.desk next.desk c.args.disk c.lives.disk next.disk c.lives.invariant.lived c.in-Err.stop
    (subst (LaterTo any_order g.D.Disk.view c.lives.desk next.desk c.lives.disk next.disk) c.in-Err.is c.next_life-lived.ensures.later)

pub lives-preserved : goal.lives-preserved
lives-preserved g c =
    let view = g.D.Disk.view in
    let next = c.next_life-lived.result in
    let later = subst (LaterTo any_order view c.lives.desk next.desk c.lives.disk next.disk) c.in_default.is c.next_life-lived.ensures.later in
    let all = lives_trans any_order view c.args.d c.lives.desk next.desk c.args.disk c.lives.disk next.disk c.lives.invariant.lived later in
    record { some = all.some; at_ease = all.at_ease; lived = all }

pub returns-clause-over : goal.returns-clause-over
returns-clause-over g c = none_after c.lives.desk c.lives.invariant.lived.ends (sym c.ready.ensures ∙ c.lives-test.false)
