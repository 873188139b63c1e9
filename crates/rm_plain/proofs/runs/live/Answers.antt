use Rattle.rm_lives.proofs.Common.{ℕ, List, [], ◌∷◌, ◌++◌, Result, Some, subst, sym, ◌∙◌, ap, IfErr, Entry, Lane, Begin, Op, lane_of_entry, seen, IsLeftAfter, DeskView}
use Rattle.std.proofs.Common.{◌≡◌}
use Rattle.std.specs.Prelude.{IfOk}
use Rattle.rm_lives.specs.Keeping.{HaltsBy, IsFoundOn}
use Rattle.rm_lives.specs.Lives.{EndsBy}
use Rattle.rm_lives.specs.Order.{May}
use Rattle.rm_plain.specs.Schedule.{Course, IsAt, by_letters, chosen, letters_left, course_left, order_of, steps_of, used_by}
use Rattle.rm_plain.specs.declared.schedule.Step.{Step}
use Rattle.rm_lives.specs.declared.halts.Stop.{Stop}
use Rattle.rm_lives.specs.Starts.{LivesTo}
use Rattle.rm_plain.proofs.Choosing.{left_push, letters_may}
use Rattle.rm_lives.proofs.Moving.{both_ok}
use Rattle.rm_lives.proofs.Starting.{left_ok, lived, rest_used, unbegun}
use Rattle.rm_plain.proofs.runs.live.Goals as goal

-- by the letters' order a life may begin
begin_may : (schedule : Course) (d : DeskView) → IsAt schedule d.core.log → chosen (course_left schedule) d ≡ Some Begin → May (order_of schedule) Begin d
begin_may schedule d at is = letters_may (steps_of schedule.whole) d Begin (ap (λ (left : List Step). chosen left d) (sym at) ∙ is)

-- after the letter by which a life begins the schedule has come one entry further
begun_at : (was is : Course) (log longer : List Entry) (e : Entry) → lane_of_entry e ≡ Begin → longer ≡ log ++ e ∷ [] → IsAt was log → is.whole ≡ was.whole → course_left is ≡ used_by Begin (course_left was) → IsAt is longer
begun_at was is log longer e of_lane added at whole left =
    left ∙ ap (λ (l : List Step). used_by Begin l) at ∙ ap (λ (lane : Lane). used_by lane (letters_left (steps_of was.whole) log)) (sym of_lane)
    ∙ sym (left_push (steps_of was.whole) log e) ∙ ap (λ (l : List Entry). letters_left (steps_of was.whole) l) (sym added) ∙ ap (λ (w : List ℕ). letters_left (steps_of w) longer) (sym whole)

pub begin_life-requires-clause-may : goal.begin_life-requires-clause-may
begin_life-requires-clause-may g c = begin_may c.args.schedule.now c.args.d.now c.requires.at c.requires.chosen

pub run_life-ended-requires-clause-at : goal.run_life-ended-requires-clause-at
run_life-ended-requires-clause-at g c =
    let one = c.in-Ok.ensures.one in
    begun_at c.args.schedule.now c.pass.new.self c.args.d.now.core.log c.begin_life.new.d.core.log one.0 one.1 one.2 c.requires.at c.pass.ensures.whole c.pass.ensures.left

pub returns-in-Ok-clause-lived : goal.returns-in-Ok-clause-lived
returns-in-Ok-clause-lived g c =
    let d = c.args.d.now in
    let begun = c.in-Ok.ensures in
    let run = c.run_life-ended.ensures in
    let mid = c.begin_life.new.d in
    let new = c.run_life-ended.new.d in
    let one = c.begin_life.new.store in
    let two = c.run_life-ended.new.store in
    let ends = subst (λ (w : List ℕ). IfOk c.run_life-ended.result (EndsBy (by_letters (steps_of w)) g.D.Disk.view mid new one two)) c.pass.ensures.whole run.ends in
    let halts = subst (λ (w : List ℕ). IfErr c.run_life-ended.result (HaltsBy (by_letters (steps_of w)) g.D.Disk.view mid new one.disk two.disk)) c.pass.ensures.whole run.halts in
    lived g.D.Disk.view (λ ops. IsLeftAfter c.args.tree ops d.core.log) (λ ops. IsFoundOn ops d.core c.args.tree (seen g.D.Disk.view c.args.store.disk)) d mid new c.args.store one two
    begun.goes begun.begun begun.fuse run.fuse g.D.Disk.falls_to c.leave.result.disk c.run_life-ended.result c.leave.result.ended ends halts c.leave.ensures

pub returns-in-Ok-clause-at : goal.returns-in-Ok-clause-at
returns-in-Ok-clause-at g c =
    left_ok _ g.D.Disk.view g.D.Disk.falls_to c.run_life-ended.new.store.disk c.leave.result.disk c.run_life-ended.result c.leave.result.ended c.leave.ensures c.run_life-ended.ensures.at

pub returns-in-Ok-clause-used : goal.returns-in-Ok-clause-used
returns-in-Ok-clause-used g c =
    let run = c.run_life-ended.ensures in
    let mid = c.begin_life.new.d in
    let new = c.run_life-ended.new.d in
    let rested = rest_used g.D.Disk.view (order_of c.pass.new.self) mid new c.begin_life.new.store c.run_life-ended.new.store c.run_life-ended.result run.ends in
    left_ok _ g.D.Disk.view g.D.Disk.falls_to c.run_life-ended.new.store.disk c.leave.result.disk c.run_life-ended.result c.leave.result.ended c.leave.ensures
    (both_ok c.run_life-ended.result (λ at used alive. at ∙ ap (λ (w : List ℕ). letters_left (steps_of w) new.core.log) run.whole ∙ used alive) run.at rested)

pub returns-in-Err-clause-lived : goal.returns-in-Err-clause-lived
returns-in-Err-clause-lived g c =
    let d = c.args.d.now in
    let begun = c.in-Err.ensures in
    let left = c.leave-in-Err.ensures in
    let over : List Op → Type 0 = λ ops. IsLeftAfter c.args.tree ops d.core.log in
    let found : List Op → Type 0 = λ ops. IsFoundOn ops d.core c.args.tree (seen g.D.Disk.view c.args.store.disk) in
    subst (λ (r : Result (Unit {0}) Stop). LivesTo (order_of c.args.schedule.now) g.D.Disk.view over found d c.begin_life.new.d c.args.store.disk c.leave-in-Err.result.disk r) (sym left.1)
    (unbegun g.D.Disk.view over found d c.begin_life.new.d c.args.store c.begin_life.new.store c.leave-in-Err.result.disk c.in-Err.halt begun.halts begun.inner begun.refused begun.fuse left.0 begun.memory)

pub returns-in-Err-clause-at : goal.returns-in-Err-clause-at
returns-in-Err-clause-at g c = rw c.leave-in-Err.ensures.1 tt

pub returns-in-Err-clause-used : goal.returns-in-Err-clause-used
returns-in-Err-clause-used g c = rw c.leave-in-Err.ensures.1 tt
