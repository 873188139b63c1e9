use Rattle.rm_lives.proofs.Common.{◌⊎◌, inl, inr, List, [], ◌∷◌, false, refl, sym, ◌∙◌, subst, Lane, is_ready_at, DeskView}
use Rattle.std.proofs.Common.{◌≡◌}
use Rattle.rm_plain.specs.Schedule.{StopsAt, course_left}
use Rattle.rm_plain.specs.declared.schedule.Step.{Step}
use Rattle.rm_plain.proofs.Choosing.{none_moved, no_step}
use Rattle.rm_plain.proofs.runs.all_used.Goals as goal

-- a letter that is left where no lane is ready can move none
stops : (left more : List Step) (step : Step) (d : DeskView) → left ≡ step ∷ more → (left ≡ []) ⊎ ((lane : Lane) → is_ready_at d lane ≡ false) → StopsAt left d step.place
stops left more step d is (inl none) = absurd (no_step step more (sym is ∙ none))
stops left more step d is (inr idle) = subst (λ (l : List Step). StopsAt l d step.place) (sym is) (refl, none_moved d idle step.letter)

pub returns-in-Some-clause-stops : goal.returns-in-Some-clause-stops
returns-in-Some-clause-stops c =
    let some = c.in-Some.ensures.some in
    (c.in-Some.place, refl, subst (λ n. StopsAt (course_left c.args.schedule.now) c.args.d.now n) (sym some.3) (stops (course_left c.args.schedule.now) some.1 some.0 c.args.d.now some.2 c.requires.idle))
