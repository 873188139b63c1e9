use Rattle.rm_lives.proofs.Common.{◌⊎◌, ℕ, List, [], Bool, true, false, Err, Ok, inl, inr, refl, sym, ◌∙◌, ap, subst, Lane, Begin, stands, is_ready_at, DeskView}
use Rattle.std.proofs.Common.{◌≡◌}
use Rattle.rm_lives.specs.Later.{LaterTo}
use Rattle.rm_plain.specs.Schedule.{by_letters, letters_left, course_left, order_of, steps_of}
use Rattle.rm_plain.specs.declared.schedule.Step.{Step}
use Rattle.rm_lives.proofs.Ordering.{dead_over}
use Rattle.rm_plain.proofs.Choosing.{chosen_begin, letters_halt, stops_as}
use Rattle.rm_lives.proofs.Finishing.{none_stands, some_left}
use Rattle.rm_lives.proofs.Onward.{lives_end, lives_same, lives_trans, order_stops, stops_after}
use Rattle.rm_plain.proofs.runs.later_lives.Goals as goal

pub lives-init : goal.lives-init
lives-init g c =
    record {
      some = c.requires.some;
      at_ease = c.requires.at_ease;
      at = c.requires.at;
      used = c.requires.used;
      whole = refl;
      lived = lives_same _ g.D.Disk.view c.args.d.now c.args.disk c.requires.at_ease c.requires.ends c.requires.some;
    }

pub next_life-lived-requires-clause-chosen : goal.next_life-lived-requires-clause-chosen
next_life-lived-requires-clause-chosen g c =
    let ready = sym c.ready.ensures ∙ c.lives-test.true in
    let dead = none_stands c.lives.d ready in
    chosen_begin (course_left c.lives.schedule) c.lives.d c.in_default.field-0 c.in_default.ensures.chosen c.in_default.ensures.over dead (some_left c.lives.d ready) (c.law.ensures.dead dead)

-- the letters stopped the run
pub returns-in-Err-clause-later : goal.returns-in-Err-clause-later
returns-in-Err-clause-later g c =
    let m = c.lives.invariant in
    let steps = steps_of c.args.schedule.now.whole in
    rw c.from.ensures
    (order_stops (by_letters steps) g.D.Disk.view c.args.d.now c.lives.d c.args.disk c.lives.disk m.lived c.in-Err.halt
    (letters_halt steps (course_left c.lives.schedule) c.lives.d (m.at ∙ ap (λ (w : List ℕ). letters_left (steps_of w) c.lives.d.core.log) m.whole) c.in-Err.halt c.in-Err.ensures.stops))

-- or a later life did
pub returns-in-Err-ended-clause-later : goal.returns-in-Err-ended-clause-later
returns-in-Err-ended-clause-later g c =
    stops_after _ g.D.Disk.view c.args.d.now c.lives.d c.next_life-lived.new.d c.args.disk c.lives.disk c.next_life-lived.result.disk c.lives.invariant.lived c.in-Err-ended.stop
    (subst (λ (w : List ℕ). LaterTo (by_letters (steps_of w)) g.D.Disk.view c.lives.d c.next_life-lived.new.d c.lives.disk c.next_life-lived.result.disk (Err c.in-Err-ended.stop)) c.lives.invariant.whole
    (subst (LaterTo (order_of c.lives.schedule) g.D.Disk.view c.lives.d c.next_life-lived.new.d c.lives.disk c.next_life-lived.result.disk) c.in-Err-ended.is c.next_life-lived.ensures.later))

pub lives-preserved : goal.lives-preserved
lives-preserved g c =
    let view = g.D.Disk.view in
    let later = subst (LaterTo (order_of c.lives.schedule) view c.lives.d c.next_life-lived.new.d c.lives.disk c.next_life-lived.result.disk) c.in_default-ended.is c.next_life-lived.ensures.later in
    let lived = subst (λ (w : List ℕ). LaterTo (by_letters (steps_of w)) view c.lives.d c.next_life-lived.new.d c.lives.disk c.next_life-lived.result.disk (Ok tt)) c.lives.invariant.whole later in
    let all = lives_trans _ view c.args.d.now c.lives.d c.next_life-lived.new.d c.args.disk c.lives.disk c.next_life-lived.result.disk c.lives.invariant.lived lived in
    record {
      some = all.some;
      at_ease = all.at_ease;
      at = rw c.in_default-ended.is at c.next_life-lived.ensures.at;
      used = rw c.in_default-ended.is at c.next_life-lived.ensures.used;
      whole = c.next_life-lived.ensures.whole ∙ c.lives.invariant.whole;
      lived = all;
    }

-- no letter is left, or one is that no lane follows
idle : (left : List Step) (d : DeskView) (b : Bool) → stands d.core ≡ b → (stands d.core ≡ true → left ≡ []) → (stands d.core ≡ false → (lane : Lane) → is_ready_at d lane ≡ true → lane ≡ Begin) → is_ready_at d Begin ≡ false
    → (left ≡ []) ⊎ ((lane : Lane) → is_ready_at d lane ≡ false)
idle left d true alive used only none = inl (used alive)
idle left d false dead used only none = inr (dead_over d (only dead) none)

pub all_used-requires : goal.all_used-requires
all_used-requires g c = record { idle = idle (course_left c.lives.schedule) c.lives.d (stands c.lives.d.core) refl c.lives.invariant.used c.law-2.ensures.dead (sym c.ready.ensures ∙ c.lives-test.false) }

pub returns-clause-later : goal.returns-clause-later
returns-clause-later g c =
    let m = c.lives.invariant in
    let steps = steps_of c.args.schedule.now.whole in
    lives_end (by_letters steps) g.D.Disk.view c.args.d.now c.lives.d c.args.disk c.lives.disk m.lived c.all_used.result
    (stops_as steps (course_left c.lives.schedule) c.lives.d (m.at ∙ ap (λ (w : List ℕ). letters_left (steps_of w) c.lives.d.core.log) m.whole) c.all_used.result c.all_used.ensures.stops)
