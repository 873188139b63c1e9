use Rattle.rm_lives.proofs.Common.{ℕ, List, [], None, Err, sym, ◌∙◌, ap, err_from_is_err_and, Entry, Lane}
use Rattle.std.proofs.Common.{◌≡◌}
use Rattle.rm_lives.specs.declared.halts.Halt.{Halt}
use Rattle.rm_plain.specs.declared.schedule.Step.{Step}
use Rattle.rm_plain.specs.Policy.{first_ready}
use Rattle.rm_plain.specs.Schedule.{by_letters, chosen, letters_left, course_left, steps_of, used_by}
use Rattle.rm_plain.proofs.Choosing.{at_end, chosen_ready, left_push, letters_halt, letters_may}
use Rattle.rm_lives.proofs.Ending.{comes_to_rest}
use Rattle.rm_lives.proofs.Halting.{halts_as, halts_here}
use Rattle.rm_plain.proofs.lives.tick.Goals as goal

pub advance-requires-clause-ready : goal.advance-requires-clause-ready
advance-requires-clause-ready g c = chosen_ready (course_left c.args.schedule.now) c.args.d.now c.in-Some.lane (sym c.in_ok-lane.ensures.chosen ∙ c.in-Some.is)

pub advance-requires-clause-chosen : goal.advance-requires-clause-chosen
advance-requires-clause-chosen g c =
    letters_may (steps_of c.args.schedule.now.whole) c.args.d.now c.in-Some.lane
    (ap (λ (left : List Step). chosen left c.args.d.now) (sym c.requires.at) ∙ sym c.in_ok-lane.ensures.chosen ∙ c.in-Some.is)

pub returns-in_err-lane-clause-halts : goal.returns-in_err-lane-clause-halts
returns-in_err-lane-clause-halts g c =
    let p = err_from_is_err_and c.from_residual.result c.from_residual.ensures.1 in
    rw (p.1 ∙ ap (λ (e : Halt). Err e) p.2)
    (halts_as g.D.Disk.view c.args.d.now c.args.store.now.disk c.in_err-lane.field-0.0
    (halts_here g.D.Disk.view (by_letters (steps_of c.args.schedule.now.whole)) c.args.d.now c.args.store.now.disk c.in_err-lane.field-0.0
    (letters_halt (steps_of c.args.schedule.now.whole) (course_left c.args.schedule.now) c.args.d.now c.requires.at c.in_err-lane.field-0.0 c.in_err-lane.ensures.stops)))

pub returns-in_ok-down-in-Some-clause-at : goal.returns-in_ok-down-in-Some-clause-at
returns-in_ok-down-in-Some-clause-at g c =
    let one = c.in_ok-down-in-Some.ensures.one in
    let steps = steps_of c.args.schedule.now.whole in
    c.pass.ensures.left ∙ ap (λ (left : List Step). used_by c.in-Some.lane left) c.requires.at
    ∙ ap (λ (lane : Lane). used_by lane (letters_left steps c.args.d.now.core.log)) (sym one.1)
    ∙ sym (left_push steps c.args.d.now.core.log one.0) ∙ ap (λ (log : List Entry). letters_left steps log) (sym one.2)
    ∙ ap (λ (w : List ℕ). letters_left (steps_of w) c.advance.new.d.core.log) (sym c.pass.ensures.whole)

pub prove-unreachable-requires : goal.prove-unreachable-requires
prove-unreachable-requires g c =
    let none : course_left c.args.schedule.now ≡ [] = rw c.in-None.is at c.in_ok-lane.ensures.over in
    let plain : first_ready c.args.d.now ≡ None = ap (λ (left : List Step). chosen left c.args.d.now) (sym none) ∙ sym c.in_ok-lane.ensures.chosen ∙ c.in-None.is in
    let end = at_end c.args.d.now plain c.is_at_end-end.result c.is_at_end-end.ensures.lane in
    let no = c.if-prove.true in
    cc

pub returns-in-None-clause-moves : goal.returns-in-None-clause-moves
returns-in-None-clause-moves g c =
    let none : course_left c.args.schedule.now ≡ [] = rw c.in-None.is at c.in_ok-lane.ensures.over in
    comes_to_rest g.D.Disk.view c.args.d.now c.args.store.now c.law.ensures.sound c.requires.serves c.requires.stands (c.is_at_end-end.ensures.over.0 c.if-prove.false) c.law.ensures.tells (sym c.requires.at ∙ none)
