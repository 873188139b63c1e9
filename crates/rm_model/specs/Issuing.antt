-- When an operation may be issued to the store. That an application is saved when it is submitted, an attempt when its master's
-- container is there, and an end with its diagnostics when it comes, is after YARN's page on ResourceManager Restart; the causes
-- of ends and their texts are this project's own.
use Rattle.std.specs.Prelude.{◌≡◌, ℕ, ◌+◌, ◌<◌, List, codes, find, Bool, true, false, ◌&&◌, ◌||◌, not, nat_le, Option, None, Some, if◌then◌else◌}
use Rattle.std.specs.List.{list_all}
use Rattle.rm_types.specs.declared.ids.AppId.{AppId}
use Rattle.rm_types.specs.declared.ids.AttemptId.{AttemptId}
use Rattle.rm_types.specs.declared.ids.ContainerId.{ContainerId}
use Rattle.rm_types.specs.declared.operations.How.{How}
use Rattle.rm_types.specs.declared.operations.How.TheVariants.{Finished, Failed, Killed}
use Rattle.rm_types.specs.declared.operations.Op.{Op}
use Rattle.rm_types.specs.declared.operations.Op.TheVariants.{Epoch, App, Attempt, AttemptEnd, AppEnd, Remove}
use Rattle.rm_types.specs.declared.operations.Submission.{Submission}
use Rattle.rm_types.specs.declared.operations.Submitted.{Submitted}
use Rattle.rm_types.specs.declared.records.AppRecord.{AppRecord}
use Rattle.rm_types.specs.declared.settings.Settings.{Settings}
use Rattle.rm_types.specs.Records.{all_ended, is_some_and}
use Rattle.rm_model.specs.State.{Scene}
use Rattle.rm_model.specs.Facts.{app_end_issued, app_issued, awaits, completed, is_attempt_op, is_attempt_end_op, is_completed, is_epoch_op, is_kept, is_known, is_wished, kept_attempts, kept_record, last_end, next_attempt, reaches_bound}
use Rattle.rm_model.specs.Attempts.{finishing_text, has_expired, has_lost_master, is_current}
use Rattle.rm_model.specs.Containers.{lives_on}

-- an Epoch may be issued before the life is open, once: its next epoch is the life's plus 1, its stamp the life's. That the epoch
-- grows by 1 at each restart and is stored is from YARN-556
pub record MayIssueEpoch (m : Scene) (next stamp : ℕ) : Type 0 where
  pub closed : m.life.is_open ≡ false
  pub once : awaits m is_epoch_op ≡ false
  pub follows : next ≡ m.life.epoch + 1
  pub of_life : stamp ≡ m.life.stamp

-- the first submitted application that isn't issued, if there is one
abbrev pub first_unissued : Scene → List Submitted → Option Submitted
first_unissued m submitted = find (λ one. not (app_issued m one.id)) submitted

-- an App may be issued in an open life, of the first submitted application that isn't issued, with its submission
pub record MayIssueApp (m : Scene) (id : AppId) (submission : Submission) : Type 0 where
  pub opened : m.life.is_open ≡ true
  pub first : first_unissued m m.life.apps.submitted ≡ Some (record { id = id; submission = submission })

-- an Attempt may be issued of the next attempt of a known application whose AppEnd isn't issued, where that attempt doesn't
-- await; its master is the container of it that is in the book, on this node
pub record MayIssueAttempt (m : Scene) (id : AttemptId) (master : ContainerId) (node : List ℕ) : Type 0 where
  pub opened : m.life.is_open ≡ true
  pub known : is_known m id.app ≡ true
  pub next : id ≡ next_attempt m id.app
  pub no_end : app_end_issued m id.app ≡ false
  pub not_issued : awaits m (is_attempt_op id) ≡ false
  pub of_it : master.attempt ≡ id
  pub living : lives_on m.life.book node master ≡ true

-- the diagnostics of what a client killed
abbrev pub killed_text : List ℕ
killed_text = codes "killed by client"

-- those of an attempt whose master's container left the book
abbrev pub lost_text : List ℕ
lost_text = codes "master lost"

-- those of an attempt whose master's lease ran out
abbrev pub expired_text : List ℕ
expired_text = codes "master expired"

-- why an attempt may end, and how: its master finished; its master's container left the book; its master's lease ran out; a
-- client wished to kill it
pub data EndsFor (m : Scene) (id : AttemptId) (how : How) (text : List ℕ) : Type 0 where
  finished : finishing_text m id ≡ Some text → how ≡ Finished → EndsFor m id how text
  lost : has_lost_master m id ≡ true → how ≡ Failed → text ≡ lost_text → EndsFor m id how text
  expired : has_expired m id ≡ true → how ≡ Failed → text ≡ expired_text → EndsFor m id how text
  killed : is_wished m id.app ≡ true → how ≡ Killed → text ≡ killed_text → EndsFor m id how text

-- an AttemptEnd may be issued of an application's last kept attempt, whose end is neither kept nor awaits, for one of the causes;
-- where there are several, any of them may end it
pub record MayIssueAttemptEnd (m : Scene) (id : AttemptId) (how : How) (text : List ℕ) : Type 0 where
  pub opened : m.life.is_open ≡ true
  pub current : is_current m id ≡ true
  pub not_issued : awaits m (is_attempt_end_op id) ≡ false
  pub cause : EndsFor m id how text

-- the end that an application comes to by a failure: FAILED with its text, where no more attempts may follow (YARN's
-- `am.max-attempts`)
abbrev pub failed_end : Settings → Scene → AppId → List ℕ → Option (How × List ℕ)
failed_end settings m id text = if reaches_bound settings (kept_record m id) then Some (Failed, text) else None

-- the end that an application comes to by the end of its last attempt, and by a kill wish: FINISHED with the attempt's text;
-- KILLED where the attempt was, or where a wish stands and it didn't finish; FAILED where neither is so
abbrev pub end_by : Settings → Scene → AppId → Option (How × List ℕ) → Option (How × List ℕ)
end_by settings m id None = if is_wished m id then Some (Killed, killed_text) else None
end_by settings m id (Some (Finished, text)) = Some (Finished, text)
end_by settings m id (Some (Killed, text)) = Some (Killed, killed_text)
end_by settings m id (Some (Failed, text)) = if is_wished m id then Some (Killed, killed_text) else failed_end settings m id text

-- an AppEnd may be issued where App is kept, no AppEnd is issued, the Attempt of its next attempt doesn't await and each kept attempt's end is
-- kept; with the end that the application comes to
pub record MayIssueAppEnd (settings : Settings) (m : Scene) (id : AppId) (how : How) (text : List ℕ) : Type 0 where
  pub opened : m.life.is_open ≡ true
  pub kept : is_kept m id ≡ true
  pub not_issued : app_end_issued m id ≡ false
  pub no_attempt : awaits m (is_attempt_op (next_attempt m id)) ≡ false
  pub ended : all_ended (kept_attempts m id) ≡ true
  pub end : end_by settings m id (last_end m id) ≡ Some (how, text)

-- an application completed before another, or that one isn't completed
abbrev pub is_completed_before : Scene → AppRecord → AppRecord → Bool
is_completed_before m app other = not (is_completed m other) || nat_le app.end_order other.end_order

-- an application is the one of the completed whose end was kept first
abbrev pub completed_first : Scene → AppId → Bool
completed_first m id = is_some_and (λ app. is_completed m app && list_all (is_completed_before m app) m.records.apps) (kept_record m id)

-- an id may be retired, by a Remove, where more applications are completed than are remembered (YARN's
-- `state-store.max-completed-applications`), of the one that completed first
pub record MayIssueRemove (settings : Settings) (m : Scene) (id : AppId) : Type 0 where
  pub opened : m.life.is_open ≡ true
  pub more : settings.max_completed < completed m
  pub first : completed_first m id ≡ true

-- when an operation may be issued, kind by kind
abbrev pub MayIssue : Settings → Scene → Op → Type 0
MayIssue settings m (Epoch next stamp) = MayIssueEpoch m next stamp
MayIssue settings m (App id submission) = MayIssueApp m id submission
MayIssue settings m (Attempt id master node) = MayIssueAttempt m id master node
MayIssue settings m (AttemptEnd id how text) = MayIssueAttemptEnd m id how text
MayIssue settings m (AppEnd id how text) = MayIssueAppEnd settings m id how text
MayIssue settings m (Remove id) = MayIssueRemove settings m id
