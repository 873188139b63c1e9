-- What is recorded stays in its range by each operation whose parts are in theirs.
use Rattle.rm_invariant.proofs.Common.{ℕ, List, [], ◌∷◌, ◌++◌, Bool, true, false, not, None, Some, map, AppId, AttemptId, How, Op, AppRecord, AttemptRecord, Note, is_app, is_attempt, IsOperation, IsText, new_record, with_end, with_record}
use Rattle.std.proofs.Common.{cond}
use Rattle.rm_types.specs.declared.operations.Op.TheVariants.{Epoch, App, Attempt, AttemptEnd, AppEnd, Remove}
use Rattle.rm_types.specs.Records.{apps_recorded}
use Rattle.rm_invariant.proofs.nodes.Holds.{all_append, all_filter, all_map}
use Rattle.rm_invariant.specs.bounds.InBounds.{AreRecords, IsAppRecord, IsAttemptRecord}

-- the record of one application changes
changed_records : (change : AppRecord → AppRecord) → ((app : AppRecord) → IsAppRecord app → IsAppRecord (change app)) → (id : AppId) (apps : List AppRecord) → AreRecords apps → AreRecords (with_record change id apps)
changed_records change keeps id apps all = all_map IsAppRecord IsAppRecord (λ app. cond (is_app app.id id) (change app) app) (λ app own. by app own (is_app app.id id)) apps all
  where
    by : (app : AppRecord) → IsAppRecord app → (b : Bool) → IsAppRecord (cond b (change app) app)
    by app own true = keeps app own
    by app own false = own

-- an attempt ends
ended_attempt : (id : AttemptId) (how : How) (text : List ℕ) → IsText Note text → (one : AttemptRecord) → IsAttemptRecord one → IsAttemptRecord (with_end id how text one)
ended_attempt id how text is one own = by (is_attempt one.id id)
  where
    by : (b : Bool) → IsAttemptRecord (cond b (record one { ending = Some (how, text) }) one)
    by true = record { id = own.id; master = own.master; node = own.node; ending = is }
    by false = own

-- the records after one more operation
pub records_after : (apps : List AppRecord) (applied : ℕ) (op : Op) → IsOperation op → AreRecords apps → AreRecords (apps_recorded apps applied op)
records_after apps applied (Epoch next stamp) is all = all
records_after apps applied (App id submission) is all =
    all_append IsAppRecord apps (new_record id submission ∷ []) all (record { id = is.0; submission = is.1; attempts = tt; ending = tt }, tt)
records_after apps applied (Attempt id master node) is all =
    changed_records (λ app. record app { attempts = app.attempts ++ record { id = id; master = master; node = node; ending = None } ∷ [] })
    (λ app own.
    record {
      id = own.id;
      submission = own.submission;
      attempts =
          all_append IsAttemptRecord app.attempts (record { id = id; master = master; node = node; ending = None } ∷ []) own.attempts
          (record { id = is.0; master = is.1; node = is.2; ending = tt }, tt);
      ending = own.ending;
    }) id.app apps all
records_after apps applied (AttemptEnd id how text) is all =
    changed_records (λ app. record app { attempts = map (with_end id how text) app.attempts })
    (λ app own.
    record {
      id = own.id;
      submission = own.submission;
      attempts = all_map IsAttemptRecord IsAttemptRecord (with_end id how text) (ended_attempt id how text is.1) app.attempts own.attempts;
      ending = own.ending;
    }) id.app apps all
records_after apps applied (AppEnd id how text) is all =
    changed_records (λ app. record app { ending = Some (how, text); end_order = applied })
    (λ app own. record { id = own.id; submission = own.submission; attempts = own.attempts; ending = is.1 }) id apps all
records_after apps applied (Remove id) is all = all_filter IsAppRecord (λ app. not (is_app app.id id)) apps all
