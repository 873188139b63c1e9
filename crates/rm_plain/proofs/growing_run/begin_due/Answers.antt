use Rattle.rm_lives.proofs.Common.{◌≢◌, [], refl, sym, subst, ◌∙◌, Err, Fused}
use Rattle.rm_lives.specs.Parts.{RunsOn}
use Rattle.rm_lives.specs.Whole.{IsWholeRun}
use Rattle.rm_plain.specs.Feeding.{by_policy}
use Rattle.rm_plain.specs.Schedule.{by_letters}
use Rattle.rm_plain.proofs.GrownRuns.{after_first, before_first, same_run}
use Rattle.rm_plain.proofs.growing_run.begin_due.Goals as goal

pub returns-in-Ok-clause-runs : goal.returns-in-Ok-clause-runs
returns-in-Ok-clause-runs g c = λ script first r.
    let view = g.D.Disk.view in
    let u = before_first view script first c.args.disk c.args.opening c.args.desk (sym c.log.ensures.log ∙ c.if-is_empty.ensures.nil.0 refl) r in
    subst (λ (f : Fused _). RunsOn by_policy view c.in-Ok.opening script f c.in-Ok.store.disk c.start_first.new.d) u.same (c.in-Ok.ensures.runs script (u.along c.in-Ok.opening))

pub returns-then-is_empty-clause-stopped : goal.returns-then-is_empty-clause-stopped
returns-then-is_empty-clause-stopped g c = λ script first r.
    let view = g.D.Disk.view in
    let run = c.end_run.result in
    let none = c.in-Err.field-0 in
    let u = before_first view script first c.args.disk c.args.opening c.args.desk (sym c.log.ensures.log ∙ c.if-is_empty.ensures.nil.0 refl) r in
    same_run view c.args.desk c.start_first.new.d script first run.disk run.opening run.log run.ended c.start_first.ensures.same
    (c.end_run.ensures.ran script first
    (subst (λ (f : Fused _). IsWholeRun (by_letters []) view none.opening script c.start_first.new.d f none.disk (Err none.why)) u.same (c.in-Err.ensures.stopped script (u.along none.opening))))

pub returns-in-Ok-start_again-clause-runs : goal.returns-in-Ok-start_again-clause-runs
returns-in-Ok-start_again-clause-runs g c = λ script first r.
    let some : c.args.desk.core.log ≢ [] = λ empty. (let never = c.if-is_empty.ensures.nil.1 (c.log.ensures.log ∙ empty) in cc) in
    c.in-Ok-start_again.ensures.runs c.args.opening script first (after_first g.D.Disk.view script first c.args.disk c.args.opening c.args.desk some r)

pub returns-clause-stopped : goal.returns-clause-stopped
returns-clause-stopped g c = λ script first r.
    let some : c.args.desk.core.log ≢ [] = λ empty. (let never = c.if-is_empty.ensures.nil.1 (c.log.ensures.log ∙ empty) in cc) in
    let view = g.D.Disk.view in
    let run = c.end_run-in-Err-start_again.result in
    same_run view c.args.desk c.start_again.new.d script first run.disk run.opening run.log run.ended c.start_again.ensures.same
    (c.end_run-in-Err-start_again.ensures.ran script first (c.in-Err-start_again.ensures.stopped c.args.opening script first (after_first view script first c.args.disk c.args.opening c.args.desk some r)))
