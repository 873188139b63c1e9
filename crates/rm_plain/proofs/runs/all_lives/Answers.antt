use Rattle.rm_lives.proofs.Common.{ℕ, List, inr, subst, sym, ◌∙◌, OnOk}
use Rattle.rm_lives.specs.Later.{FirstTo, LaterTo}
use Rattle.rm_plain.specs.Schedule.{by_letters, course_left, order_of, steps_of}
use Rattle.rm_lives.proofs.Ordering.{dead_over}
use Rattle.rm_plain.proofs.Choosing.{all_used_up, chosen_begin, letters_halt, stops_as, used_as}
use Rattle.rm_lives.proofs.Finishing.{all_lived, first_stops, none_lived, none_left, refused_first, some_left}
use Rattle.rm_plain.proofs.runs.all_lives.Goals as goal

pub all_used-requires : goal.all_used-requires
all_used-requires g c = record { idle = inr (dead_over c.args.d.now (c.law.ensures.dead c.requires.dead) (sym c.ready.ensures ∙ c.if-not-ready.true)) }

pub returns-then-not-ready-clause-all : goal.returns-then-not-ready-clause-all
returns-then-not-ready-clause-all g c =
    let d = c.args.d.now in
    let steps = steps_of c.args.schedule.now.whole in
    let left = course_left c.args.schedule.now in
    none_lived _ g.D.Disk.view c.new.result d c.args.disk c.requires.dead c.requires.empty (none_left d c.requires.dead (sym c.ready.ensures ∙ c.if-not-ready.true)) c.requires.unarmed c.new.ensures c.all_used.result
    (used_as steps left d c.requires.at c.all_used.result c.all_used.ensures.used) (stops_as steps left d c.requires.at c.all_used.result c.all_used.ensures.stops)
    (all_used_up steps left d c.requires.at c.all_used.result c.all_used.ensures.stops)

pub returns-in-Err-clause-all : goal.returns-in-Err-clause-all
returns-in-Err-clause-all g c =
    rw c.from.ensures
    (refused_first (order_of c.args.schedule.now) g.D.Disk.view c.new-in-Err.result c.args.d.now c.args.disk c.in-Err.halt c.requires.empty (some_left c.args.d.now (sym c.ready.ensures ∙ c.if-not-ready.false)) c.requires.unarmed c.new-in-Err.ensures
    (letters_halt (steps_of c.args.schedule.now.whole) (course_left c.args.schedule.now) c.args.d.now c.requires.at c.in-Err.halt c.in-Err.ensures.stops))

pub first_life-opening-requires-clause-chosen : goal.first_life-opening-requires-clause-chosen
first_life-opening-requires-clause-chosen g c =
    let ready = sym c.ready.ensures ∙ c.if-not-ready.false in
    chosen_begin (course_left c.args.schedule.now) c.args.d.now c.in_default.field-0 c.in_default.ensures.chosen c.in_default.ensures.over c.requires.dead (some_left c.args.d.now ready) (c.law.ensures.dead c.requires.dead)

pub returns-in-Ok-clause-all : goal.returns-in-Ok-clause-all
returns-in-Ok-clause-all g c =
    let view = g.D.Disk.view in
    let a = c.args.d.now in
    let b = c.first_life-opening.new.d in
    let z = c.later_lives-disk.new.d in
    let opening = c.first_life-opening.result.opening in
    let first = subst (FirstTo (order_of c.args.schedule.now) view opening a b c.args.disk c.first_life-opening.result.disk) c.in-Ok.is c.first_life-opening.ensures.first in
    let whole = c.first_life-opening.ensures.whole in
    let later = subst (λ (w : List ℕ). LaterTo (by_letters (steps_of w)) view b z c.first_life-opening.result.disk c.later_lives-disk.result.disk c.later_lives-disk.result.ended) whole c.later_lives-disk.ensures.later in
    let ends = subst (λ (w : List ℕ). OnOk c.later_lives-disk.result.ended ((by_letters (steps_of w)).ends z.core.log)) whole c.later_lives-disk.ensures.ends in
    all_lived _ view opening a b z c.args.disk c.first_life-opening.result.disk c.later_lives-disk.result.disk (some_left a (sym c.ready.ensures ∙ c.if-not-ready.false)) first
    c.later_lives-disk.result.ended later c.later_lives-disk.ensures.over ends

pub returns-in-Err-ended-clause-all : goal.returns-in-Err-ended-clause-all
returns-in-Err-ended-clause-all g c =
    let opening = c.first_life-opening.result.opening in
    let first = subst (FirstTo (order_of c.args.schedule.now) g.D.Disk.view opening c.args.d.now c.first_life-opening.new.d c.args.disk c.first_life-opening.result.disk) c.in-Err-ended.is c.first_life-opening.ensures.first in
    first_stops _ g.D.Disk.view opening c.args.d.now c.first_life-opening.new.d c.args.disk c.first_life-opening.result.disk c.in-Err-ended.stop (some_left c.args.d.now (sym c.ready.ensures ∙ c.if-not-ready.false)) first
