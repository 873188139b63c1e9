-- The tables of a life that begins over recorded applications, and with which events it opens. That a manager recovers its
-- applications and their attempts from its store is after YARN's page on ResourceManager Restart; the events are this project's own.
use Rattle.std.specs.Prelude.{ℕ, List, [], ◌∷◌, ◌++◌, Bool, false, ◌&&◌, not, Option, None, Some, is_some, is_none, option_map, map, count_by, length, if◌then◌else◌}
use Rattle.std.specs.List.{flat_map}
use Rattle.rm_types.specs.declared.ids.AppId.{AppId}
use Rattle.rm_types.specs.declared.operations.How.{How}
use Rattle.rm_types.specs.declared.records.AppRecord.{AppRecord}
use Rattle.rm_types.specs.declared.records.AttemptRecord.{AttemptRecord}
use Rattle.rm_types.specs.Records.{last_attempt}
use Rattle.rm_states.specs.declared.app.states.AppState.{AppState}
use Rattle.rm_states.specs.declared.app.states.AppState.TheVariants as apps
use Rattle.rm_states.specs.app.Table.{end_state}
use Rattle.rm_states.specs.declared.attempt.states.AttemptState.TheVariants as attempts
use Rattle.rm_tables.specs.declared.events.MainEvent.{MainEvent}
use Rattle.rm_tables.specs.declared.events.MainEvent.TheVariants as mains
use Rattle.rm_tables.specs.declared.events.SchedEvent.{SchedEvent}
use Rattle.rm_tables.specs.declared.events.SchedEvent.TheVariants as scheds
use Rattle.rm_tables.specs.declared.rows.AppRow.{AppRow}
use Rattle.rm_tables.specs.declared.rows.Current.{Current}

-- the last attempt of a recorded application: it has ended, or lives
abbrev pub recovered_attempt : AttemptRecord → Current
recovered_attempt one =
    record {
      number = one.id.number;
      state = if is_some one.ending then attempts.Ended else attempts.Live;
      master = Some one.master;
      registered = false;
      lost = false;
      granted = 0;
      finished = false;
    }

-- the state of a recorded application: that of its end; accepted where it has attempts; submitted
abbrev pub recovered_state : Option (How × List ℕ) → Option AttemptRecord → AppState
recovered_state None None = apps.Submitted
recovered_state None (Some last) = apps.Accepted
recovered_state (Some end) last = end_state end.0

-- the row of a recorded application
abbrev pub recovered_row : AppRecord → AppRow
recovered_row one =
    record {
      state = recovered_state one.ending (last_attempt one.attempts);
      wish = false;
      pending = None;
      current = option_map recovered_attempt (last_attempt one.attempts);
      first = length one.attempts;
      dialogue = None;
      closings = [];
    }

-- the rows of the recorded applications
abbrev pub recovered_rows : List AppRecord → List (AppId × Option AppRow)
recovered_rows records = map (λ one. (one.id, Some (recovered_row one))) records

-- how many of them go on
abbrev pub going_in : List AppRecord → ℕ
going_in records = count_by (λ one. is_none one.ending) records

-- the main queue's event of a recorded application that goes on: it is saved, or its last attempt is done
abbrev pub main_by : Option (How × List ℕ) → Option AttemptRecord → AppId → List MainEvent
main_by (Some end) last id = []
main_by None None id = mains.AppSaved id ∷ []
main_by None (Some last) id = if is_some last.ending then mains.AttemptDone (record { app = id; number = last.id.number }) ∷ [] else []

-- the main queue's event of a recorded application
abbrev pub main_of : AppRecord → List MainEvent
main_of one = main_by one.ending (last_attempt one.attempts) one.id

-- the scheduler's: its last attempt lives, or the application keeps what that one left
abbrev pub sched_by : Option (How × List ℕ) → Option AttemptRecord → Bool → AppId → List SchedEvent
sched_by (Some end) last keep id = []
sched_by None None keep id = []
sched_by None (Some last) keep id = if is_some last.ending && not keep then [] else scheds.AttemptRecovered (record { app = id; number = last.id.number }) ∷ []

-- the scheduler's event of a recorded application
abbrev pub sched_of : AppRecord → List SchedEvent
sched_of one = sched_by one.ending (last_attempt one.attempts) one.submission.keep one.id

-- with which events a life opens
abbrev pub opening_main : List AppRecord → List MainEvent
opening_main records = flat_map main_of records ++ mains.Retire ∷ []

-- with which events of the scheduler's queue a life opens
abbrev pub opening_sched : List AppRecord → List SchedEvent
opening_sched records = flat_map sched_of records
