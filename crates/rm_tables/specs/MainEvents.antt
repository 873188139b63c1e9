-- What each event of the main queue does, by the row of its application: the entry that it logs, and the tables after it. It
-- is still the first of its queue, and is taken when it is done. After the dispatcher of YARN's ResourceManager and its state machines; the rows are this
-- project's own.
use Rattle.std.specs.Prelude.{ℕ, ◌+◌, List, [], ◌∷◌, ◌++◌, Bool, true, false, ◌&&◌, nat_lt, ◌==◌, Option, None, Some, option_and_then, option_map, length, if◌then◌else◌}
use Rattle.rm_types.specs.declared.entries.Entry.{Entry}
use Rattle.rm_types.specs.declared.entries.Entry.TheVariants.{Issued, Accepted, Ordered, Quiet}
use Rattle.rm_types.specs.declared.ids.AppId.{AppId}
use Rattle.rm_types.specs.declared.ids.AttemptId.{AttemptId}
use Rattle.rm_types.specs.declared.ids.ContainerId.{ContainerId}
use Rattle.rm_types.specs.declared.messages.Lane.TheVariants as lanes
use Rattle.rm_types.specs.declared.operations.How.{How}
use Rattle.rm_types.specs.declared.operations.How.TheVariants as ways
use Rattle.rm_types.specs.declared.operations.Op.TheVariants as ops
use Rattle.rm_types.specs.declared.operations.Submission.{Submission}
use Rattle.rm_types.specs.declared.records.AppRecord.{AppRecord}
use Rattle.rm_types.specs.declared.settings.Settings.{Settings}
use Rattle.rm_types.specs.Ids.{is_container}
use Rattle.rm_types.specs.Records.{is_some_and, last_attempt}
use Rattle.rm_book.specs.Books.{BookOf, book_row as book_row_of}
use Rattle.rm_model.specs.Facts.{attempts_in, reaches_bound}
use Rattle.rm_model.specs.Issuing.{expired_text, killed_text, lost_text}
use Rattle.rm_states.specs.declared.app.states.AppState.{AppState}
use Rattle.rm_states.specs.declared.app.states.AppState.TheVariants as apps
use Rattle.rm_states.specs.declared.attempt.states.AttemptState.{AttemptState}
use Rattle.rm_states.specs.declared.attempt.states.AttemptState.TheVariants as attempts
use Rattle.rm_states.specs.attempt.Table.{is_alive}
use Rattle.rm_tables.specs.declared.changes.AttemptChange.TheVariants as of_attempt
use Rattle.rm_tables.specs.declared.changes.RowChange.TheVariants as of_app
use Rattle.rm_tables.specs.declared.events.MainEvent.{MainEvent}
use Rattle.rm_tables.specs.declared.events.MainEvent.TheVariants as mains
use Rattle.rm_tables.specs.declared.events.SchedEvent.TheVariants as scheds
use Rattle.rm_tables.specs.declared.rows.AppRow.{AppRow}
use Rattle.rm_tables.specs.declared.rows.Current.{Current}
use Rattle.rm_tables.specs.declared.rows.Dialogue.{Dialogue}
use Rattle.rm_tables.specs.declared.tables.Tables.{Tables}
use Rattle.rm_tables.specs.Actions.{app_changed, ends_app, ends_attempt, found_in, main_quiet, next_in, schedules}
use Rattle.rm_tables.specs.Changes.{changed}
use Rattle.rm_tables.specs.Nodes.{ordered_row, with_node}
use Rattle.rm_tables.specs.Rows.{row_of, with_row}

-- EpochStart: the life's Epoch is issued
abbrev pub epoch_start : Tables → Entry × Tables
epoch_start t =
    (Issued (ops.Epoch (t.epoch + 1) t.stamp), record t { awaiting = t.awaiting ++ ops.Epoch (t.epoch + 1) t.stamp ∷ [] })

-- AppStart: the App of a submission that waits is issued
abbrev pub start_of_submission : Option Submission → AppId → Tables → Entry × Tables
start_of_submission None id t = main_quiet t
start_of_submission (Some submission) id t = (
  Issued (ops.App id submission),
  record t { rows = with_row (changed of_app.Issue) id t.rows; awaiting = t.awaiting ++ ops.App id submission ∷ [] },
)

-- AppStart, by the row of the application
abbrev pub start_of_row : Option AppRow → AppId → Tables → Entry × Tables
start_of_row None id t = main_quiet t
start_of_row (Some row) id t = start_of_submission row.pending id t

-- AppSaved: an application that is killed ends, and any other goes to the scheduler
abbrev pub save_of_state : AppState → Bool → AppId → Tables → Entry × Tables
save_of_state apps.Submitted true id t = ends_app id ways.Killed killed_text t
save_of_state apps.Submitted false id t = (Quiet lanes.Main, record t { sched = t.sched ++ scheds.AppAdded id ∷ [] })
save_of_state _ wish id t = main_quiet t

-- AppSaved, by the row of the application
abbrev pub save_of_row : Option AppRow → AppId → Tables → Entry × Tables
save_of_row None id t = main_quiet t
save_of_row (Some row) id t = save_of_state row.state row.wish id t

-- AppAccepted: the application is accepted, and its first attempt scheduled
abbrev pub accept_of_state : AppState → AppId → Tables → Entry × Tables
accept_of_state apps.Submitted id t = (Accepted id, schedules (record { app = id; number = 1 }) t)
accept_of_state _ id t = main_quiet t

-- AppAccepted, by the row of the application
abbrev pub accept_of_row : Option AppRow → AppId → Tables → Entry × Tables
accept_of_row None id t = main_quiet t
accept_of_row (Some row) id t = accept_of_state row.state id t

-- the end of an attempt that lives is issued, since its application is killed
abbrev pub attempt_kill : AttemptId → Tables → Entry × Tables
attempt_kill id t = (
  Issued (ops.AttemptEnd id ways.Killed killed_text),
  record t { rows = with_row (changed of_app.Kill) id.app t.rows; awaiting = t.awaiting ++ ops.AttemptEnd id ways.Killed killed_text ∷ [] },
)

-- AppKill of an application with an attempt: one that isn't issued ends the application, one that lives is ended first, and any
-- other is waited for
abbrev pub kill_of_attempt_state : AttemptState → AttemptId → Tables → Entry × Tables
kill_of_attempt_state attempts.Scheduled id t = ends_app id.app ways.Killed killed_text t
kill_of_attempt_state attempts.Granted id t = ends_app id.app ways.Killed killed_text t
kill_of_attempt_state attempts.Saving id t = (Quiet lanes.Main, app_changed of_app.Kill id.app t)
kill_of_attempt_state attempts.Live id t = attempt_kill id t
kill_of_attempt_state attempts.Registered id t = attempt_kill id t
kill_of_attempt_state attempts.Finishing id t = attempt_kill id t
kill_of_attempt_state attempts.Ending id t = (Quiet lanes.Main, app_changed of_app.Kill id.app t)
kill_of_attempt_state attempts.Ended id t = (Quiet lanes.Main, app_changed of_app.Kill id.app t)
kill_of_attempt_state attempts.Dropped id t = main_quiet t

-- AppKill, by the state of the application
abbrev pub kill_of_state : AppState → Option Current → AppId → Tables → Entry × Tables
kill_of_state apps.Submitted current id t = ends_app id ways.Killed killed_text t
kill_of_state apps.Accepted (Some current) id t = kill_of_attempt_state current.state (record { app = id; number = current.number }) t
kill_of_state apps.Running (Some current) id t = kill_of_attempt_state current.state (record { app = id; number = current.number }) t
kill_of_state apps.Killing (Some current) id t = kill_of_attempt_state current.state (record { app = id; number = current.number }) t
kill_of_state _ current id t = main_quiet t

-- AppKill, by the row of the application
abbrev pub kill_of_row : Option AppRow → AppId → Tables → Entry × Tables
kill_of_row None id t = main_quiet t
kill_of_row (Some row) id t = kill_of_state row.state row.current id t

-- the end that an application comes to by the end of its last attempt, and by a kill wish, if it ends: as that attempt did,
-- unless a failure may be followed by another attempt
abbrev pub end_with : Settings → Bool → Option AppRecord → Option (How × List ℕ) → Option (How × List ℕ)
end_with settings wish found None = if wish then Some (ways.Killed, killed_text) else None
end_with settings wish found (Some (ways.Finished, text)) = Some (ways.Finished, text)
end_with settings wish found (Some (ways.Killed, text)) = Some (ways.Killed, killed_text)
end_with settings wish found (Some (ways.Failed, text)) =
    if wish then Some (ways.Killed, killed_text) else (if reaches_bound settings found then Some (ways.Failed, text) else None)

-- the kept end of the last attempt of a record
abbrev pub last_end_in : Option AppRecord → Option (How × List ℕ)
last_end_in found = option_and_then (λ last. last.ending) (last_attempt (attempts_in found))

-- AttemptDone: the application ends, or its next attempt is scheduled
abbrev pub decision_of_end : Option (How × List ℕ) → AppId → Tables → Entry × Tables
decision_of_end None id t = (Quiet lanes.Main, schedules (next_in t id) t)
decision_of_end (Some end) id t = ends_app id end.0 end.1 t

-- AttemptDone, by the state of the attempt: only one that has ended is decided
abbrev pub decision_of_attempt_state : AttemptState → Bool → AppId → Tables → Entry × Tables
decision_of_attempt_state attempts.Ended wish id t = decision_of_end (end_with t.settings wish (found_in t id) (last_end_in (found_in t id))) id t
decision_of_attempt_state _ wish id t = main_quiet t

-- AttemptDone, by the state of the application: only one that was accepted and has not ended is decided
abbrev pub decision_of_state : AppState → AttemptState → Bool → AppId → Tables → Entry × Tables
decision_of_state apps.Accepted state wish id t = decision_of_attempt_state state wish id t
decision_of_state apps.Running state wish id t = decision_of_attempt_state state wish id t
decision_of_state apps.Killing state wish id t = decision_of_attempt_state state wish id t
decision_of_state _ state wish id t = main_quiet t

-- AttemptDone, by the current attempt of the application
abbrev pub decision_of_current : AppState → Option Current → Bool → AppId → Tables → Entry × Tables
decision_of_current app None wish id t = main_quiet t
decision_of_current app (Some current) wish id t = decision_of_state app current.state wish id t

-- AttemptDone, by the row of the application
abbrev pub decision_of_row : Option AppRow → AppId → Tables → Entry × Tables
decision_of_row None id t = main_quiet t
decision_of_row (Some row) id t = decision_of_current row.state row.current row.wish id t

-- Retire: where more are completed than are remembered, the one that completed first is removed, and the next is looked at
abbrev pub removal_of_first : List AppId → Tables → Entry × Tables
removal_of_first [] t = main_quiet t
removal_of_first (id ∷ more) t =
    if nat_lt t.settings.max_completed (length (id ∷ more))
    then (Issued (ops.Remove id), record t { ended = more; awaiting = t.awaiting ++ ops.Remove id ∷ []; main = t.main ++ mains.Retire ∷ [] })
    else main_quiet t

-- the container is the master's that the current attempt has
abbrev pub is_master_of : ContainerId → Option ContainerId → Bool
is_master_of container master = is_some_and (λ one. is_container one container) master

-- where a container stands
abbrev pub node_at : BookOf → ContainerId → Option (List ℕ)
node_at book container = option_map (λ row. row.node) (book_row_of book container)

-- MasterGranted: the attempt is issued with the container, where that still lives, and else waits for another
abbrev pub with_attempt_issued : ContainerId → List ℕ → Tables → Tables
with_attempt_issued container node t =
    record t {
      rows = with_row (changed (of_app.OfAttempt of_attempt.Issue)) container.attempt.app t.rows;
      awaiting = t.awaiting ++ ops.Attempt container.attempt container node ∷ [];
    }

-- the tables where the attempt is to wait for another container for its master
abbrev pub with_attempt_requeued : AttemptId → Tables → Tables
with_attempt_requeued id t =
    record t { rows = with_row (changed (of_app.OfAttempt of_attempt.Requeue)) id.app t.rows; sched = t.sched ++ scheds.AttemptAdded id ∷ [] }

-- MasterGranted, by the node on which the container lives
abbrev pub grant_of_place : Option (List ℕ) → ContainerId → Tables → Entry × Tables
grant_of_place (Some node) container t = (Issued (ops.Attempt container.attempt container node), with_attempt_issued container node t)
grant_of_place None container t = (Quiet lanes.Main, with_attempt_requeued container.attempt t)

-- MasterGranted, by the state of the attempt and whether the container is its master's
abbrev pub grant_of_state : AttemptState → Bool → ContainerId → Tables → Entry × Tables
grant_of_state attempts.Granted true container t = grant_of_place (node_at t.book container) container t
grant_of_state _ same container t = main_quiet t

-- MasterGranted, by the current attempt of the application
abbrev pub grant_of_current : Option Current → ContainerId → Tables → Entry × Tables
grant_of_current None container t = main_quiet t
grant_of_current (Some current) container t =
    grant_of_state current.state ((current.number == container.attempt.number) && is_master_of container current.master) container t

-- MasterGranted, by the row of the application
abbrev pub grant_of_row : Option AppRow → ContainerId → Tables → Entry × Tables
grant_of_row None container t = main_quiet t
grant_of_row (Some row) container t = grant_of_current row.current container t

-- the current attempt is this one and lives
abbrev pub is_living_one : AttemptId → Current → Bool
is_living_one id current = (current.number == id.number) && is_alive current.state

-- AttemptSaved, of an attempt that lives: it is killed where a client wished so, it fails where its master was lost meanwhile, and else
-- its master is ordered where it lives
abbrev pub with_order : ContainerId → List ℕ → Tables → Tables
with_order container node t = record t { nodes = with_node (ordered_row container) node t.nodes }

-- AttemptSaved, by the node on which the master's container lives
abbrev pub launch_of_place : Option (List ℕ) → ContainerId → Tables → Entry × Tables
launch_of_place None container t = main_quiet t
launch_of_place (Some node) container t = (Ordered container node, with_order container node t)

-- AttemptSaved, by the master's container
abbrev pub launch_of_master : Option ContainerId → Tables → Entry × Tables
launch_of_master None t = main_quiet t
launch_of_master (Some container) t = launch_of_place (node_at t.book container) container t

-- AttemptSaved, by whether a kill is wished and whether the container is lost
abbrev pub launch_of_tests : Bool → Bool → Option ContainerId → AttemptId → Tables → Entry × Tables
launch_of_tests true lost master id t = ends_attempt id ways.Killed killed_text t
launch_of_tests false true master id t = ends_attempt id ways.Failed lost_text t
launch_of_tests false false master id t = launch_of_master master t

-- AttemptSaved, by whether the attempt is the current one and lives
abbrev pub launch_of_living : Bool → Bool → Current → AttemptId → Tables → Entry × Tables
launch_of_living true wish current id t = launch_of_tests wish current.lost current.master id t
launch_of_living false wish current id t = main_quiet t

-- AttemptSaved, by the current attempt of the application
abbrev pub launch_of_current : Option Current → Bool → AttemptId → Tables → Entry × Tables
launch_of_current None wish id t = main_quiet t
launch_of_current (Some current) wish id t = launch_of_living (is_living_one id current) wish current id t

-- AttemptSaved, by the row of the application
abbrev pub launch_of_row : Option AppRow → AttemptId → Tables → Entry × Tables
launch_of_row None id t = main_quiet t
launch_of_row (Some row) id t = launch_of_current row.current row.wish id t

-- MasterLost: an attempt that lives fails, and one that is being saved is marked
abbrev pub loss_of_state : AttemptState → Bool → ContainerId → Tables → Entry × Tables
loss_of_state attempts.Saving true container t = (Quiet lanes.Main, app_changed (of_app.OfAttempt of_attempt.Lose) container.attempt.app t)
loss_of_state attempts.Live true container t = ends_attempt container.attempt ways.Failed lost_text t
loss_of_state attempts.Registered true container t = ends_attempt container.attempt ways.Failed lost_text t
loss_of_state attempts.Finishing true container t = ends_attempt container.attempt ways.Failed lost_text t
loss_of_state _ mine container t = main_quiet t

-- MasterLost, by the current attempt of the application
abbrev pub loss_of_current : Option Current → ContainerId → Tables → Entry × Tables
loss_of_current None container t = main_quiet t
loss_of_current (Some current) container t =
    loss_of_state current.state ((current.number == container.attempt.number) && is_master_of container current.master) container t

-- MasterLost, by the row of the application
abbrev pub loss_of_row : Option AppRow → ContainerId → Tables → Entry × Tables
loss_of_row None container t = main_quiet t
loss_of_row (Some row) container t = loss_of_current row.current container t

-- AttemptExpired: an attempt that lives fails
abbrev pub expiry_of_living : Bool → AttemptId → Tables → Entry × Tables
expiry_of_living true id t = ends_attempt id ways.Failed expired_text t
expiry_of_living false id t = main_quiet t

-- AttemptExpired, by the current attempt of the application
abbrev pub expiry_of_current : Option Current → AttemptId → Tables → Entry × Tables
expiry_of_current None id t = main_quiet t
expiry_of_current (Some current) id t = expiry_of_living (is_living_one id current) id t

-- AttemptExpired, by the row of the application
abbrev pub expiry_of_row : Option AppRow → AttemptId → Tables → Entry × Tables
expiry_of_row None id t = main_quiet t
expiry_of_row (Some row) id t = expiry_of_current row.current id t

-- AttemptFinish: an attempt that lives ends with what its master said
abbrev pub finishing_in : Option Dialogue → Option (List ℕ)
finishing_in None = None
finishing_in (Some dialogue) = dialogue.finishing

-- AttemptFinish, by whether the attempt is the current one and lives, and what its master said
abbrev pub finish_of_living : Bool → Option (List ℕ) → AttemptId → Tables → Entry × Tables
finish_of_living true (Some text) id t = ends_attempt id ways.Finished text t
finish_of_living true None id t = main_quiet t
finish_of_living false text id t = main_quiet t

-- AttemptFinish, by the current attempt of the application
abbrev pub finish_of_current : Option Current → Option (List ℕ) → AttemptId → Tables → Entry × Tables
finish_of_current None text id t = main_quiet t
finish_of_current (Some current) text id t = finish_of_living (is_living_one id current) text id t

-- AttemptFinish, by the row of the application
abbrev pub finish_of_row : Option AppRow → AttemptId → Tables → Entry × Tables
finish_of_row None id t = main_quiet t
finish_of_row (Some row) id t = finish_of_current row.current (finishing_in row.dialogue) id t

-- what an event of the main queue logs, and the tables after it
abbrev pub main_step : MainEvent → Tables → Entry × Tables
main_step mains.EpochStart t = epoch_start t
main_step (mains.AppStart id) t = start_of_row (row_of t.rows id) id t
main_step (mains.AppSaved id) t = save_of_row (row_of t.rows id) id t
main_step (mains.AppAccepted id) t = accept_of_row (row_of t.rows id) id t
main_step (mains.AppKill id) t = kill_of_row (row_of t.rows id) id t
main_step (mains.MasterGranted container) t = grant_of_row (row_of t.rows container.attempt.app) container t
main_step (mains.AttemptSaved id) t = launch_of_row (row_of t.rows id.app) id t
main_step (mains.MasterLost container) t = loss_of_row (row_of t.rows container.attempt.app) container t
main_step (mains.AttemptExpired id) t = expiry_of_row (row_of t.rows id.app) id t
main_step (mains.AttemptFinish id) t = finish_of_row (row_of t.rows id.app) id t
main_step (mains.AttemptDone id) t = decision_of_row (row_of t.rows id.app) id.app t
main_step mains.Retire t = removal_of_first t.ended t
