use Rattle.std.proofs.Common.{◌≡◌}
use Rattle.rm_lives.proofs.Common.{[], sym, ap, subst, ◌∙◌, List, IfErr}
use Rattle.std.specs.Prelude.{IfOk}
use Rattle.rm_lives.specs.Keeping.{HaltsBy}
use Rattle.rm_lives.specs.Lives.{EndsBy}
use Rattle.rm_plain.specs.declared.schedule.Step.{Step}
use Rattle.rm_plain.specs.Schedule.{by_letters, letters_left, steps_of}
use Rattle.rm_plain.proofs.Choosing.{left_none}
use Rattle.rm_plain.proofs.GrownRuns.{finished, life_same, no_steps, same_run}
use Rattle.rm_plain.proofs.growing_run.finish_life.Goals as goal

pub run_life-ended-requires-clause-at : goal.run_life-ended-requires-clause-at
run_life-ended-requires-clause-at g c =
    let log = c.args.desk.core.log in
    let whole : steps_of c.new-schedule.result.whole ≡ [] = ap steps_of c.new-schedule.ensures.whole ∙ no_steps in
    c.new-schedule.ensures.left ∙ no_steps ∙ sym (ap (λ (steps : List Step). letters_left steps log) whole ∙ left_none log)

pub returns : goal.returns
returns g c =
    let d = c.args.desk in
    let e = c.run_life-ended.new.d in
    let one = c.args.store in
    let two = c.run_life-ended.new.store in
    let view = g.D.Disk.view in
    let run = c.end_run.result in
    let steps : steps_of c.new-schedule.result.whole ≡ [] = ap steps_of c.new-schedule.ensures.whole ∙ no_steps in
    let ends = subst (λ (s : List Step). IfOk c.run_life-ended.result (EndsBy (by_letters s) view d e one two)) steps c.run_life-ended.ensures.ends in
    let halts = subst (λ (s : List Step). IfErr c.run_life-ended.result (HaltsBy (by_letters s) view d e one.disk two.disk)) steps c.run_life-ended.ensures.halts in
    record {
      ran = λ script first r.
          same_run view d e script first run.disk run.opening run.log run.ended (life_same view d e one two c.run_life-ended.result ends halts)
          (c.end_run.ensures.ran script first (finished view c.args.opening script first g.D.Disk.falls_to d e one two c.leave-disk.result.disk r c.requires.up.lives c.run_life-ended.ensures.fuse c.run_life-ended.result c.leave-disk.result.ended ends halts c.leave-disk.ensures));
    }
