-- What a list of store operations amounts to: the epoch of the next life, the stamp of the last one, and a record of
-- each application. After YARN's documentation: an application is saved when it is submitted, and its end when it ends;
-- which operations there are, and which of them are stray, is this project's own.
use Rattle.std.specs.Prelude.{ℕ, ◌+◌, List, [], ◌∷◌, ◌++◌, Bool, true, false, ◌&&◌, not, ◌==◌, nat_lt, Option, None, Some, is_some, is_none, if◌then◌else◌, find, fold, filter, map, length}
use Rattle.std.specs.List.{list_all}
use Rattle.rm_types.specs.declared.ids.AppId.{AppId}
use Rattle.rm_types.specs.declared.ids.AttemptId.{AttemptId}
use Rattle.rm_types.specs.declared.operations.How.{How}
use Rattle.rm_types.specs.declared.operations.How.TheVariants.{Finished, Failed, Killed}
use Rattle.rm_types.specs.declared.operations.Submission.{Submission}
use Rattle.rm_types.specs.declared.operations.Op.{Op}
use Rattle.rm_types.specs.declared.operations.Op.TheVariants.{Epoch, App, Attempt, AttemptEnd, AppEnd, Remove}
use Rattle.rm_types.specs.declared.records.AppRecord.{AppRecord}
use Rattle.rm_types.specs.declared.records.AttemptRecord.{AttemptRecord}
use Rattle.rm_types.specs.Ids.{is_app, is_attempt}

-- the epoch of the next life, the stamp of the last one, the applications in the order of their App operations, and how
-- many operations were applied
pub record Records : Type 0 where
  pub next_epoch : ℕ
  pub stamp : ℕ
  pub apps : List AppRecord
  pub applied : ℕ

-- the records of an empty store
abbrev pub no_records : Records
no_records = record { next_epoch = 0; stamp = 0; apps = []; applied = 0 }

-- the record of an application, if there is one
abbrev pub record_of : List AppRecord → AppId → Option AppRecord
record_of apps id = find (λ app. is_app app.id id) apps

-- the records with that of one application changed
abbrev pub with_record : (AppRecord → AppRecord) → AppId → List AppRecord → List AppRecord
with_record change id apps = map (λ app. if is_app app.id id then change app else app) apps

-- an application as it is submitted: no attempt, no end
abbrev pub new_record : AppId → Submission → AppRecord
new_record id submission = record { id = id; submission = submission; attempts = []; ending = None; end_order = 0 }

-- the attempt with its end, where it is this one
abbrev pub with_end : AttemptId → How → List ℕ → AttemptRecord → AttemptRecord
with_end id how text attempt = if is_attempt attempt.id id then record attempt { ending = Some (how, text) } else attempt

-- the applications after one more operation, which `applied` others stand before
abbrev pub apps_recorded : List AppRecord → ℕ → Op → List AppRecord
apps_recorded apps applied (Epoch next stamp) = apps
apps_recorded apps applied (App id submission) = apps ++ new_record id submission ∷ []
apps_recorded apps applied (Attempt id master node) =
    with_record (λ app. record app { attempts = app.attempts ++ record { id = id; master = master; node = node; ending = None } ∷ [] }) id.app apps
apps_recorded apps applied (AttemptEnd id how text) = with_record (λ app. record app { attempts = map (with_end id how text) app.attempts }) id.app apps
apps_recorded apps applied (AppEnd id how text) = with_record (λ app. record app { ending = Some (how, text); end_order = applied }) id apps
apps_recorded apps applied (Remove id) = filter (λ app. not (is_app app.id id)) apps

-- the next epoch after one more operation
abbrev pub epoch_recorded : ℕ → Op → ℕ
epoch_recorded epoch (Epoch next stamp) = next
epoch_recorded epoch (App id submission) = epoch
epoch_recorded epoch (Attempt id master node) = epoch
epoch_recorded epoch (AttemptEnd id how text) = epoch
epoch_recorded epoch (AppEnd id how text) = epoch
epoch_recorded epoch (Remove id) = epoch

-- the stamp after one more operation
abbrev pub stamp_recorded : ℕ → Op → ℕ
stamp_recorded old (Epoch next stamp) = stamp
stamp_recorded old (App id submission) = old
stamp_recorded old (Attempt id master node) = old
stamp_recorded old (AttemptEnd id how text) = old
stamp_recorded old (AppEnd id how text) = old
stamp_recorded old (Remove id) = old

-- the records after one more operation
abbrev pub recorded : Records → Op → Records
recorded r op =
    record {
      next_epoch = epoch_recorded r.next_epoch op;
      stamp = stamp_recorded r.stamp op;
      apps = apps_recorded r.apps r.applied op;
      applied = r.applied + 1;
    }

-- what a store that holds these operations amounts to
abbrev pub records : List Op → Records
records ops = fold recorded no_records ops

-- the last attempt, if there is one
abbrev pub last_attempt : List AttemptRecord → Option AttemptRecord
last_attempt [] = None
last_attempt (attempt ∷ []) = Some attempt
last_attempt (attempt ∷ next ∷ more) = last_attempt (next ∷ more)

-- each of these attempts has ended
abbrev pub all_ended : List AttemptRecord → Bool
all_ended attempts = list_all (λ attempt. is_some attempt.ending) attempts

-- there is a value, and it passes the test
abbrev pub is_some_and : {X : Type 0} → (X → Bool) → Option X → Bool
is_some_and test None = false
is_some_and test (Some x) = test x

-- an operation fits the records: an Epoch raises the next epoch and the stamp; an App is of an application that isn't
-- there; an Attempt is the next one of an application that has no end and no unended attempt; an AttemptEnd is of an
-- application's last attempt, which has no end; an AppEnd is of an application that has no end and no unended attempt;
-- a Remove is of one that has an end
abbrev pub fits_records : Records → Op → Bool
fits_records r (Epoch next stamp) = nat_lt r.next_epoch next && nat_lt r.stamp stamp
fits_records r (App id submission) = is_none (record_of r.apps id)
fits_records r (Attempt id master node) =
    is_some_and (λ app. is_none app.ending && (all_ended app.attempts && (id.number == length app.attempts + 1))) (record_of r.apps id.app)
fits_records r (AttemptEnd id how text) =
    is_some_and (λ app. is_some_and (λ last. is_attempt last.id id && is_none last.ending) (last_attempt app.attempts)) (record_of r.apps id.app)
fits_records r (AppEnd id how text) = is_some_and (λ app. is_none app.ending && all_ended app.attempts) (record_of r.apps id)
fits_records r (Remove id) = is_some_and (λ app. is_some app.ending) (record_of r.apps id)

-- the number of the first of these operations that doesn't fit the records of those before it
abbrev pub stray_from : Records → List Op → Option ℕ
stray_from r [] = None
stray_from r (op ∷ ops) = if fits_records r op then stray_from (recorded r op) ops else Some r.applied

-- the number, from 0, of the first operation that is stray, if one is
abbrev pub stray : List Op → Option ℕ
stray ops = stray_from no_records ops

-- it ended FINISHED
abbrev pub is_finished : How → Bool
is_finished Finished = true
is_finished Failed = false
is_finished Killed = false
