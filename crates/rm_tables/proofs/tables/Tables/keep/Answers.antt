use Rattle.std.proofs.Common.{◌≡◌}
use Rattle.std.proofs.Common.{subst}
use Rattle.rm_types.specs.declared.entries.Entry.TheVariants.{Kept}
use Rattle.rm_types.specs.declared.operations.Op.{Op}
use Rattle.rm_types.specs.declared.operations.Op.TheVariants.{App, Attempt, AttemptEnd, AppEnd}
use Rattle.rm_tables.specs.KeptOps.{kept}
use Rattle.rm_tables.proofs.FirstOp.{first_is}
use Rattle.rm_tables.proofs.tables.Tables.keep.Goals as goal

pub returns-in_ok-keep_app-in-App-clause-ok : goal.returns-in_ok-keep_app-in-App-clause-ok
returns-in_ok-keep_app-in-App-clause-ok c = λ op rest e.
    let f = first_is c.args.self.now.awaiting rest c.in-Some.first.now op (App c.in-App.id c.in-App.submission) c.in-Some.ensures.first e c.in-App.is in
    subst (λ (o : Op). (c.in_ok-keep_app-in-App.field-0 ≡ Kept o) × (c.keep_app.new.t ≡ kept o c.args.self.now)) f.shape_is (c.in_ok-keep_app-in-App.ensures.ok c.in-App.submission rest f.list)

pub returns-in_ok-keep_attempt-in-Attempt-clause-ok : goal.returns-in_ok-keep_attempt-in-Attempt-clause-ok
returns-in_ok-keep_attempt-in-Attempt-clause-ok c = λ op rest e.
    let f = first_is c.args.self.now.awaiting rest c.in-Some.first.now op (Attempt c.in-Attempt.id c.in-Attempt.master c.in-Attempt.node) c.in-Some.ensures.first e c.in-Attempt.is in
    subst (λ (o : Op). (c.in_ok-keep_attempt-in-Attempt.field-0 ≡ Kept o) × (c.keep_attempt.new.t ≡ kept o c.args.self.now)) f.shape_is (c.in_ok-keep_attempt-in-Attempt.ensures.ok c.in-Attempt.master c.in-Attempt.node rest f.list)

pub returns-in_ok-keep_attempt_end-in-AttemptEnd-clause-ok : goal.returns-in_ok-keep_attempt_end-in-AttemptEnd-clause-ok
returns-in_ok-keep_attempt_end-in-AttemptEnd-clause-ok c = λ op rest e.
    let f = first_is c.args.self.now.awaiting rest c.in-Some.first.now op (AttemptEnd c.in-AttemptEnd.id c.in-AttemptEnd.how c.in-AttemptEnd.text) c.in-Some.ensures.first e c.in-AttemptEnd.is in
    subst (λ (o : Op). (c.in_ok-keep_attempt_end-in-AttemptEnd.field-0 ≡ Kept o) × (c.keep_attempt_end.new.t ≡ kept o c.args.self.now)) f.shape_is (c.in_ok-keep_attempt_end-in-AttemptEnd.ensures.ok c.in-AttemptEnd.text rest f.list)

pub returns-in_ok-keep_app_end-in-AppEnd-clause-ok : goal.returns-in_ok-keep_app_end-in-AppEnd-clause-ok
returns-in_ok-keep_app_end-in-AppEnd-clause-ok c = λ op rest e.
    let f = first_is c.args.self.now.awaiting rest c.in-Some.first.now op (AppEnd c.in-AppEnd.id c.in-AppEnd.how c.in-AppEnd.text) c.in-Some.ensures.first e c.in-AppEnd.is in
    subst (λ (o : Op). (c.in_ok-keep_app_end-in-AppEnd.field-0 ≡ Kept o) × (c.keep_app_end.new.t ≡ kept o c.args.self.now)) f.shape_is (c.in_ok-keep_app_end-in-AppEnd.ensures.ok c.in-AppEnd.text rest f.list)
