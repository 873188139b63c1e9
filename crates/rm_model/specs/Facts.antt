-- What is said of operations and applications in a scene: kept, known, issued, ended. These words are this project's own.
use Rattle.std.specs.Prelude.{ℕ, ◌+◌, min, List, [], Bool, true, false, ◌&&◌, ◌||◌, not, ◌==◌, nat_le, Option, None, Some, is_none, is_some, if◌then◌else◌, find, option_map, option_and_then, length, count_by}
use Rattle.std.specs.List.{list_any}
use Rattle.rm_types.specs.declared.ids.AppId.{AppId}
use Rattle.rm_types.specs.declared.ids.AttemptId.{AttemptId}
use Rattle.rm_types.specs.declared.ids.ContainerId.{ContainerId}
use Rattle.rm_types.specs.declared.operations.How.{How}
use Rattle.rm_types.specs.declared.operations.Op.{Op}
use Rattle.rm_types.specs.declared.operations.Op.TheVariants.{Epoch, App, Attempt, AttemptEnd, AppEnd, Remove}
use Rattle.rm_types.specs.declared.operations.Submission.{Submission}
use Rattle.rm_types.specs.declared.operations.Submitted.{Submitted}
use Rattle.rm_types.specs.declared.records.AppRecord.{AppRecord}
use Rattle.rm_types.specs.declared.records.AttemptRecord.{AttemptRecord}
use Rattle.rm_types.specs.declared.settings.Settings.{Settings}
use Rattle.rm_types.specs.Ids.{is_app, is_attempt, is_container}
use Rattle.rm_types.specs.Records.{record_of, last_attempt, is_some_and}
use Rattle.rm_model.specs.State.{Scene}

-- the application is one of these
abbrev pub has_app : List AppId → AppId → Bool
has_app ids id = list_any (λ one. is_app one id) ids

-- the container is one of these
abbrev pub has_container : List ContainerId → ContainerId → Bool
has_container ids id = list_any (λ one. is_container one id) ids

-- the operation is an Epoch
abbrev pub is_epoch_op : Op → Bool
is_epoch_op (Epoch next stamp) = true
is_epoch_op (App id submission) = false
is_epoch_op (Attempt id master node) = false
is_epoch_op (AttemptEnd id how text) = false
is_epoch_op (AppEnd id how text) = false
is_epoch_op (Remove id) = false

-- the operation is the App of this application
abbrev pub is_app_op : AppId → Op → Bool
is_app_op id (Epoch next stamp) = false
is_app_op id (App one submission) = is_app one id
is_app_op id (Attempt one master node) = false
is_app_op id (AttemptEnd one how text) = false
is_app_op id (AppEnd one how text) = false
is_app_op id (Remove one) = false

-- the operation is the Attempt of this attempt
abbrev pub is_attempt_op : AttemptId → Op → Bool
is_attempt_op id (Epoch next stamp) = false
is_attempt_op id (App one submission) = false
is_attempt_op id (Attempt one master node) = is_attempt one id
is_attempt_op id (AttemptEnd one how text) = false
is_attempt_op id (AppEnd one how text) = false
is_attempt_op id (Remove one) = false

-- the operation is the AttemptEnd of this attempt
abbrev pub is_attempt_end_op : AttemptId → Op → Bool
is_attempt_end_op id (Epoch next stamp) = false
is_attempt_end_op id (App one submission) = false
is_attempt_end_op id (Attempt one master node) = false
is_attempt_end_op id (AttemptEnd one how text) = is_attempt one id
is_attempt_end_op id (AppEnd one how text) = false
is_attempt_end_op id (Remove one) = false

-- the operation is the AppEnd of this application
abbrev pub is_app_end_op : AppId → Op → Bool
is_app_end_op id (Epoch next stamp) = false
is_app_end_op id (App one submission) = false
is_app_end_op id (Attempt one master node) = false
is_app_end_op id (AttemptEnd one how text) = false
is_app_end_op id (AppEnd one how text) = is_app one id
is_app_end_op id (Remove one) = false

-- the operation is the Remove of this application
abbrev pub is_remove_op : AppId → Op → Bool
is_remove_op id (Epoch next stamp) = false
is_remove_op id (App one submission) = false
is_remove_op id (Attempt one master node) = false
is_remove_op id (AttemptEnd one how text) = false
is_remove_op id (AppEnd one how text) = false
is_remove_op id (Remove one) = is_app one id

-- an operation of this kind awaits
abbrev pub awaits : Scene → (Op → Bool) → Bool
awaits m kind = list_any kind m.awaiting

-- the record of an application, if its App is kept
abbrev pub kept_record : Scene → AppId → Option AppRecord
kept_record m id = record_of m.records.apps id

-- its App is kept
abbrev pub is_kept : Scene → AppId → Bool
is_kept m id = is_some (kept_record m id)

-- the attempts of a record
abbrev pub attempts_in : Option AppRecord → List AttemptRecord
attempts_in None = []
attempts_in (Some app) = app.attempts

-- the end of a record
abbrev pub end_in : Option AppRecord → Option (How × List ℕ)
end_in None = None
end_in (Some app) = app.ending

-- an application goes on by its record: it has one, and no end in it
abbrev pub app_goes_on : Option AppRecord → Bool
app_goes_on None = false
app_goes_on (Some app) = is_none app.ending

-- an application keeps the containers of an attempt that ended, for the next one: it has a record, which says so (YARN's
-- `KeepContainersAcrossApplicationAttempts`)
abbrev pub keeps : Option AppRecord → Bool
keeps None = false
keeps (Some app) = app.submission.keep

-- the kept attempts of an application, in order
abbrev pub kept_attempts : Scene → AppId → List AttemptRecord
kept_attempts m id = attempts_in (kept_record m id)

-- the kept end of an application, if it has one
abbrev pub kept_end : Scene → AppId → Option (How × List ℕ)
kept_end m id = end_in (kept_record m id)

-- the kept end of its last kept attempt, if that has one
abbrev pub last_end : Scene → AppId → Option (How × List ℕ)
last_end m id = option_and_then (λ last. last.ending) (last_attempt (kept_attempts m id))

-- what was submitted for an application in this life and is not kept
abbrev pub waiting_submission : List Submitted → AppId → Option Submission
waiting_submission submitted id = option_map (λ one. one.submission) (find (λ one. is_app one.id id) submitted)

-- the submission of a record, else the one that waits to be kept
abbrev pub submission_in : Option AppRecord → Option Submission → Option Submission
submission_in None waiting = waiting
submission_in (Some app) waiting = Some app.submission

-- the submission of an application that is known
abbrev pub submission_of : Scene → AppId → Option Submission
submission_of m id = submission_in (kept_record m id) (waiting_submission m.life.apps.submitted id)

-- an application was submitted in this life and isn't kept
abbrev pub is_submitted : List Submitted → AppId → Bool
is_submitted submitted id = list_any (λ one. is_app one.id id) submitted

-- an application is known where it was submitted in this life and isn't kept, or is kept
abbrev pub is_known : Scene → AppId → Bool
is_known m id = is_submitted m.life.apps.submitted id || is_kept m id

-- an App is issued while it awaits, or while it is kept and its application was not removed after it
abbrev pub app_issued : Scene → AppId → Bool
app_issued m id = awaits m (is_app_op id) || is_kept m id

-- and so is an AppEnd
abbrev pub app_end_issued : Scene → AppId → Bool
app_end_issued m id = awaits m (is_app_end_op id) || is_some (kept_end m id)

-- a Remove is issued only while it awaits
abbrev pub remove_issued : Scene → AppId → Bool
remove_issued m id = awaits m (is_remove_op id)

-- an application is completed: its end is kept, and its Remove isn't issued
abbrev pub is_completed : Scene → AppRecord → Bool
is_completed m app = is_some app.ending && not (remove_issued m app.id)

-- how many applications are completed
abbrev pub completed : Scene → ℕ
completed m = count_by (is_completed m) m.records.apps

-- it was accepted in this life (`ACCEPTED`, in YARN's `RMAppState`)
abbrev pub is_accepted : Scene → AppId → Bool
is_accepted m id = has_app m.life.apps.accepted id

-- a client wished to kill it in this life
abbrev pub is_wished : Scene → AppId → Bool
is_wished m id = has_app m.life.apps.wishes id

-- how many attempts an application may have: the cluster's bound, or the submission's where that is less and isn't 0. From
-- YARN's documentation of `yarn.resourcemanager.am.max-attempts`, which overrides a larger number that an application asks for
abbrev pub bound : Settings → Submission → ℕ
bound settings submission = if submission.attempts == 0 then settings.max_attempts else min settings.max_attempts submission.attempts

-- so many attempts have reached the bound of a record
abbrev pub reaches_bound : Settings → Option AppRecord → Bool
reaches_bound settings app = is_some_and (λ one. nat_le (bound settings one.submission) (length one.attempts)) app

-- the attempt that comes after the kept ones
abbrev pub next_attempt : Scene → AppId → AttemptId
next_attempt m id = record { app = id; number = length (kept_attempts m id) + 1 }
