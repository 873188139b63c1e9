-- What is said of attempts and their masters in a scene: kept, ended, current; live, registered, finishing; and of containers, as
-- far as it goes by their attempts: a master's, wanted, stale. That an attempt has one master, in its first container, is after
-- YARN's documentation, and that an application may keep the containers of an attempt that ended is YARN's
-- `keepContainersAcrossApplicationAttempts` of its work-preserving restart of masters; the words are this project's own.
use Rattle.std.specs.Prelude.{ℕ, ◌+◌, List, Bool, true, false, ◌&&◌, ◌||◌, not, ◌==◌, Option, None, Some, is_some, is_none, if◌then◌else◌, find, option_and_then, count_by}
use Rattle.std.specs.List.{list_any}
use Rattle.rm_types.specs.declared.ids.AppId.{AppId}
use Rattle.rm_types.specs.declared.ids.AttemptId.{AttemptId}
use Rattle.rm_types.specs.declared.ids.ContainerId.{ContainerId}
use Rattle.rm_types.specs.declared.operations.How.{How}
use Rattle.rm_types.specs.declared.operations.How.TheVariants.{Finished, Failed, Killed}
use Rattle.rm_types.specs.declared.records.AppRecord.{AppRecord}
use Rattle.rm_types.specs.declared.records.AttemptRecord.{AttemptRecord}
use Rattle.rm_types.specs.Ids.{is_attempt, is_container}
use Rattle.rm_types.specs.Records.{record_of, last_attempt, is_some_and}
use Rattle.rm_model.specs.State.{Scene, MasterState}
use Rattle.rm_model.specs.Facts.{attempts_in, awaits, app_goes_on, has_container, is_attempt_end_op, is_kept, keeps, kept_attempts, kept_record}

-- it ended FAILED
abbrev pub is_failed : How → Bool
is_failed Finished = false
is_failed Failed = true
is_failed Killed = false

-- an attempt has a kept end, and it is FAILED
abbrev pub has_failed : AttemptRecord → Bool
has_failed attempt = is_some_and (λ ending. is_failed ending.0) attempt.ending

-- the record of an attempt, if it is kept
abbrev pub kept_attempt : Scene → AttemptId → Option AttemptRecord
kept_attempt m id = find (λ one. is_attempt one.id id) (kept_attempts m id.app)

-- the attempt is kept
abbrev pub attempt_is_kept : Scene → AttemptId → Bool
attempt_is_kept m id = is_some (kept_attempt m id)

-- the attempt was kept when the life began
abbrev pub attempt_was_first : Scene → AttemptId → Bool
attempt_was_first m id = list_any (λ one. is_attempt one.id id) (attempts_in (record_of m.life.first.apps id.app))

-- the attempt was kept in this life
abbrev pub kept_here : Scene → AttemptId → Bool
kept_here m id = attempt_is_kept m id && not (attempt_was_first m id)

-- the kept end of an attempt, if it has one
abbrev pub attempt_end : Scene → AttemptId → Option (How × List ℕ)
attempt_end m id = option_and_then (λ one. one.ending) (kept_attempt m id)

-- its end awaits or is kept
abbrev pub attempt_end_issued : Scene → AttemptId → Bool
attempt_end_issued m id = awaits m (is_attempt_end_op id) || is_some (attempt_end m id)

-- an attempt is its application's last kept one
abbrev pub is_last : Scene → AttemptId → Bool
is_last m id = is_some_and (λ last. is_attempt last.id id) (last_attempt (kept_attempts m id.app))

-- an attempt is current: it is its application's last kept one and has no kept end
abbrev pub is_current : Scene → AttemptId → Bool
is_current m id = is_some_and (λ last. is_attempt last.id id && is_none last.ending) (last_attempt (kept_attempts m id.app))

-- the container is the one that the attempt's record names
abbrev pub is_own_master : Scene → ContainerId → Bool
is_own_master m id = is_some_and (λ one. is_container one.master id) (kept_attempt m id.attempt)

-- a container is a master's where its application has a record, and either its attempt isn't kept or its attempt's record
-- names it
abbrev pub is_masters : Scene → ContainerId → Bool
is_masters m id = is_kept m id.attempt.app && (not (attempt_is_kept m id.attempt) || is_own_master m id)

-- a container is wanted where its application goes on, its attempt is kept, and either that attempt has no kept end, or the
-- application keeps and it is no master's
abbrev pub is_wanted : Scene → ContainerId → Bool
is_wanted m id =
    app_goes_on (kept_record m id.attempt.app)
    && (attempt_is_kept m id.attempt
    && (is_none (attempt_end m id.attempt) || (keeps (kept_record m id.attempt.app) && not (is_masters m id))))

-- a container is stale where its application doesn't go on by its record, or its attempt is kept with an end and it isn't wanted
abbrev pub is_stale : Scene → ContainerId → Bool
is_stale m id = not (app_goes_on (kept_record m id.attempt.app)) || (is_some (attempt_end m id.attempt) && not (is_wanted m id))

-- an attempt without a kept end, else none
abbrev pub unended : AttemptRecord → Option AttemptId
unended attempt = if is_none attempt.ending then Some attempt.id else None

-- the heir of an application: its last kept attempt, where that has no kept end
abbrev pub heir : Scene → AppId → Option AttemptId
heir m id = option_and_then unended (last_attempt (kept_attempts m id))

-- an attempt is live while it is kept and its end isn't issued
abbrev pub is_live : Scene → AttemptId → Bool
is_live m id = attempt_is_kept m id && not (attempt_end_issued m id)

-- the state of an attempt's master, if it registered in this life
abbrev pub master_of : Scene → AttemptId → Option MasterState
master_of m id = find (λ one. is_attempt one.attempt id) m.life.masters.registered

-- its master registered in this life
abbrev pub has_registered : Scene → AttemptId → Bool
has_registered m id = is_some (master_of m id)

-- what its master said when it finished, once it did
abbrev pub finishing_text : Scene → AttemptId → Option (List ℕ)
finishing_text m id = option_and_then (λ one. one.finishing) (master_of m id)

-- a live attempt is registered where its master registered in this life and isn't finishing (`RUNNING`, in YARN's
-- `RMAppAttemptState`)
abbrev pub is_registered : Scene → AttemptId → Bool
is_registered m id = is_live m id && (has_registered m id && is_none (finishing_text m id))

-- a live attempt is finishing where its master said that it finishes
abbrev pub is_finishing : Scene → AttemptId → Bool
is_finishing m id = is_live m id && is_some (finishing_text m id)

-- its master's lease ran out
abbrev pub has_expired : Scene → AttemptId → Bool
has_expired m id = list_any (λ one. is_attempt one id) m.life.masters.expired

-- its master's container left the book
abbrev pub has_lost_master : Scene → AttemptId → Bool
has_lost_master m id = is_some_and (λ one. has_container m.life.endings.left one.master) (kept_attempt m id)

-- the attempt that an application is at, which alone may ask for containers: the one after those that have ended
abbrev pub attempt_at : AppRecord → AttemptId
attempt_at app = record { app = app.id; number = count_by (λ one. is_some one.ending) app.attempts + 1 }

-- the attempt asks for its master: a line of priority 0
abbrev pub has_master_ask : Scene → AttemptId → Bool
has_master_ask m id = list_any (λ one. is_attempt one.attempt id && (one.ask.priority == 0)) m.life.asks
