-- Each event's entry tells that its queue's first event was worked off, and is of its queue's lane.
use Rattle.std.proofs.Common.{◌≡◌, ◌≢◌, ℕ, ◌==◌, ◌&&◌, List, [], ◌∷◌, Bool, true, false, Option, None, Some, filter, refl, sym, ◌∙◌, ap}
use Rattle.rm_types.specs.declared.containers.Cause.{Cause}
use Rattle.rm_types.specs.declared.containers.Cause.TheVariants as causes
use Rattle.rm_types.specs.declared.entries.Entry.{Entry}
use Rattle.rm_types.specs.declared.ids.AttemptId.{AttemptId}
use Rattle.rm_types.specs.declared.ids.ContainerId.{ContainerId}
use Rattle.rm_types.specs.declared.messages.Lane.TheVariants.{Main as MainLane, Sched as SchedLane}
use Rattle.rm_types.specs.Lanes.{lane_of_entry}
use Rattle.rm_states.specs.declared.attempt.states.AttemptState.{AttemptState}
use Rattle.rm_states.specs.declared.attempt.states.AttemptState.TheVariants as attempts
use Rattle.rm_model.specs.Containers.{once}
use Rattle.rm_tables.specs.declared.events.MainEvent.{MainEvent}
use Rattle.rm_tables.specs.declared.events.MainEvent.TheVariants as mains
use Rattle.rm_tables.specs.declared.events.SchedEvent.{SchedEvent}
use Rattle.rm_tables.specs.declared.events.SchedEvent.TheVariants as scheds
use Rattle.rm_tables.specs.declared.nodes.NodeRow.{NodeRow}
use Rattle.rm_tables.specs.declared.rows.AppRow.{AppRow}
use Rattle.rm_tables.specs.declared.rows.Current.{Current}
use Rattle.rm_tables.specs.declared.tables.Tables.{Tables}
use Rattle.rm_tables.specs.Absorbing.{absorbed_by, absorbed_if}
use Rattle.rm_tables.specs.Actions.{main_worked, sched_popped, sched_quiet, sched_worked}
use Rattle.rm_tables.specs.Leaving.{ended_by}
use Rattle.rm_tables.specs.MainEvents.{main_step}
use Rattle.rm_tables.specs.Nodes.{is_waiting_row, node_row}
use Rattle.rm_tables.specs.Passing.{updated_by}
use Rattle.rm_tables.specs.Rows.{row_of}
use Rattle.rm_tables.specs.SchedEvents.{ends_as_done, is_released, queued_at, queued_by, queued_with, sched_step}
use Rattle.rm_invariant.specs.events.Outcomes.{Outcome, accepts, adds, delays, ends, ends_one, follows, idles, issues, kills, loses, orders, removes, requeues, saves}
use Rattle.rm_invariant.proofs.events.Outcomes.{main_outcome}
use Rattle.rm_core.specs.Queues.{main_moved, sched_moved, tables_moved}

-- THE MAIN QUEUE

-- what the entry of an event tells
pub record MainTold (t : Tables) (done : Entry × Tables) : Type 0 where
  pub own : (main_worked done).1 ≡ tables_moved t done.0
  pub lane : lane_of_entry done.0 ≡ MainLane

outcome_told : (t : Tables) (done : Entry × Tables) → Outcome t done → (tables_moved t done.0 ≡ main_moved t.main t) × (lane_of_entry done.0 ≡ MainLane)
outcome_told t done idles = (refl, refl)
outcome_told t done (saves id row submission rest found waits front) = (refl, refl)
outcome_told t done (adds id row behind found st at_front) = (refl, refl)
outcome_told t done (accepts id row found st) = (refl, refl)
outcome_told t done (ends id row how text found stopped is) = (refl, refl)
outcome_told t done (kills id row current at_ number alive going) = (refl, refl)
outcome_told t done (delays id row current at_ waits going) = (refl, refl)
outcome_told t done (issues container node row current at_ st number mine place) = (refl, refl)
outcome_told t done (requeues container row current behind at_ st number mine place at_front) = (refl, refl)
outcome_told t done (orders id container node row current at_ number alive master place) = (refl, refl)
outcome_told t done (ends_one id row current how text at_ number alive is) = (refl, refl)
outcome_told t done (loses container row current at_ st number mine) = (refl, refl)
outcome_told t done (follows id row current at_ going st none) = (refl, refl)
outcome_told t done (removes id more first many) = (refl, refl)

module _ (t : Tables) (rest : List MainEvent) where
  worked : (e : MainEvent) → t.main ≡ e ∷ rest → (main_worked (main_step e t)).1 ≡ main_moved t.main t
  worked e front = rw front refl

  -- any event but the one that a life begins with
  later_told : (e : MainEvent) → t.main ≡ e ∷ rest → e ≢ mains.EpochStart → MainTold t (main_step e t)
  later_told e front other = let told = outcome_told t (main_step e t) (main_outcome t e rest front other) in record { own = worked e front ∙ sym told.0; lane = told.1 }

  pub main_told : (e : MainEvent) → t.main ≡ e ∷ rest → MainTold t (main_step e t)
  main_told mains.EpochStart front = record { own = worked mains.EpochStart front; lane = refl }
  main_told (mains.AppStart id) front = later_told (mains.AppStart id) front (λ e. cc)
  main_told (mains.AppSaved id) front = later_told (mains.AppSaved id) front (λ e. cc)
  main_told (mains.AppAccepted id) front = later_told (mains.AppAccepted id) front (λ e. cc)
  main_told (mains.AppKill id) front = later_told (mains.AppKill id) front (λ e. cc)
  main_told (mains.MasterGranted container) front = later_told (mains.MasterGranted container) front (λ e. cc)
  main_told (mains.AttemptSaved id) front = later_told (mains.AttemptSaved id) front (λ e. cc)
  main_told (mains.MasterLost container) front = later_told (mains.MasterLost container) front (λ e. cc)
  main_told (mains.AttemptExpired id) front = later_told (mains.AttemptExpired id) front (λ e. cc)
  main_told (mains.AttemptFinish id) front = later_told (mains.AttemptFinish id) front (λ e. cc)
  main_told (mains.AttemptDone id) front = later_told (mains.AttemptDone id) front (λ e. cc)
  main_told mains.Retire front = later_told mains.Retire front (λ e. cc)

-- THE SCHEDULER'S QUEUE

-- what the entry of an event tells
pub record SchedTold (t : Tables) (done : Entry × Tables) : Type 0 where
  pub own : (sched_worked done).1 ≡ tables_moved t done.0
  pub lane : lane_of_entry done.0 ≡ SchedLane

module _ (t : Tables) (rest : List SchedEvent) where
  -- an entry that tells of these endings, where the event logs it for them
  reads : (e : SchedEvent) → t.sched ≡ e ∷ rest → (list : List ContainerId) (done : Entry × Tables) → sched_step e list t ≡ done → tables_moved t done.0 ≡ sched_moved t.sched list t → sched_popped done.1 ≡ tables_moved t done.0
  reads e front list done is told =
      let moved : sched_moved t.sched list t ≡ sched_popped (sched_step e list t).1 = rw front refl in
      sym (told ∙ moved ∙ ap (λ (d : Entry × Tables). sched_popped d.1) is)

  -- nothing was to be done
  idle : (e : SchedEvent) → t.sched ≡ e ∷ rest → sched_step e [] t ≡ sched_quiet t → SchedTold t (sched_quiet t)
  idle e front is = record { own = reads e front [] (sched_quiet t) is refl; lane = refl }

  -- containers end, for these of the event
  ending : (e : SchedEvent) → t.sched ≡ e ∷ rest → (cause : Cause) (ids : List ContainerId) → sched_step e ids t ≡ ended_by cause ids t → SchedTold t (ended_by cause ids t)
  ending e front cause [] is = idle e front is
  ending e front cause (id ∷ ids) is = record { own = reads e front (id ∷ ids) (ended_by cause (id ∷ ids) t) is refl; lane = refl }

  -- an attempt is queued
  module _ (id : AttemptId) (front : t.sched ≡ scheds.AttemptAdded id ∷ rest) where
    queued_state : (s : AttemptState) (b : Bool) → queued_by (row_of t.rows id.app) id t ≡ queued_at s b id t → SchedTold t (queued_at s b id t)
    queued_state attempts.Scheduled true is = record { own = reads (scheds.AttemptAdded id) front [] (queued_at attempts.Scheduled true id t) is refl; lane = refl }
    queued_state attempts.Scheduled false is = idle (scheds.AttemptAdded id) front is
    queued_state attempts.Granted b is = idle (scheds.AttemptAdded id) front is
    queued_state attempts.Saving b is = idle (scheds.AttemptAdded id) front is
    queued_state attempts.Live b is = idle (scheds.AttemptAdded id) front is
    queued_state attempts.Registered b is = idle (scheds.AttemptAdded id) front is
    queued_state attempts.Finishing b is = idle (scheds.AttemptAdded id) front is
    queued_state attempts.Ending b is = idle (scheds.AttemptAdded id) front is
    queued_state attempts.Ended b is = idle (scheds.AttemptAdded id) front is
    queued_state attempts.Dropped b is = idle (scheds.AttemptAdded id) front is

    queued_current : (c : Option Current) → queued_by (row_of t.rows id.app) id t ≡ queued_with c id t → SchedTold t (queued_with c id t)
    queued_current None is = idle (scheds.AttemptAdded id) front is
    queued_current (Some current) is = queued_state current.state (current.number == id.number) is

    queued_told : (o : Option AppRow) → row_of t.rows id.app ≡ o → SchedTold t (queued_by o id t)
    queued_told None is = idle (scheds.AttemptAdded id) front (ap (λ (o : Option AppRow). queued_by o id t) is)
    queued_told (Some row) is = queued_current row.current (ap (λ (o : Option AppRow). queued_by o id t) is)

  -- a report is absorbed
  module _ (name : List ℕ) (turn : ℕ) (front : t.sched ≡ scheds.NodeAdded name turn ∷ rest) (list : List ContainerId) where
    absorbed_test : (row : NodeRow) → node_row t.nodes name ≡ Some row → (b : Bool) → (is_waiting_row row.state && (row.turn == turn)) ≡ b → SchedTold t (absorbed_if b name row list t)
    absorbed_test row found true test =
        record {
          own =
              reads (scheds.NodeAdded name turn) front list (absorbed_if true name row list t)
              (ap (λ (o : Option NodeRow). absorbed_by o name turn list t) found ∙ ap (λ (b : Bool). absorbed_if b name row list t) test) refl;
          lane = refl;
        }
    absorbed_test row found false test =
        idle (scheds.NodeAdded name turn) front (ap (λ (o : Option NodeRow). absorbed_by o name turn [] t) found ∙ ap (λ (b : Bool). absorbed_if b name row [] t) test)

    absorbed_told : (o : Option NodeRow) → node_row t.nodes name ≡ o → SchedTold t (absorbed_by o name turn list t)
    absorbed_told None found = idle (scheds.NodeAdded name turn) front (ap (λ (o : Option NodeRow). absorbed_by o name turn [] t) found)
    absorbed_told (Some row) found = absorbed_test row found (is_waiting_row row.state && (row.turn == turn)) refl

  -- a pass
  updated_told : (name : List ℕ) → t.sched ≡ scheds.NodeUpdate name ∷ rest → (o : Option NodeRow) → node_row t.nodes name ≡ o → SchedTold t (updated_by o name t)
  updated_told name front None found = idle (scheds.NodeUpdate name) front (ap (λ (o : Option NodeRow). updated_by o name t) found)
  updated_told name front (Some row) found = record { own = reads (scheds.NodeUpdate name) front [] (updated_by (Some row) name t) (ap (λ (o : Option NodeRow). updated_by o name t) found) refl; lane = refl }

  pub sched_told : (e : SchedEvent) → t.sched ≡ e ∷ rest → (list : List ContainerId) → SchedTold t (sched_step e list t)
  sched_told (scheds.AppAdded id) front list = record { own = reads (scheds.AppAdded id) front [] _ refl refl; lane = refl }
  sched_told (scheds.AttemptRecovered id) front list = idle (scheds.AttemptRecovered id) front refl
  sched_told (scheds.AttemptAdded id) front list = queued_told id front (row_of t.rows id.app) refl
  sched_told (scheds.AttemptRemoved id) front list = ending (scheds.AttemptRemoved id) front causes.Attempt list refl
  sched_told (scheds.Release attempt released) front list = ending (scheds.Release attempt released) front causes.Released (once (filter (is_released attempt t) released)) refl
  sched_told (scheds.NodeAdded node turn) front list = absorbed_told node turn front list (node_row t.nodes node) refl
  sched_told (scheds.NodeDone node done) front list = ending (scheds.NodeDone node done) front causes.Done (once (filter (ends_as_done node t) done)) refl
  sched_told (scheds.NodeUpdate node) front list = updated_told node front (node_row t.nodes node) refl
  sched_told (scheds.NodeLost node) front list = ending (scheds.NodeLost node) front causes.Node list refl
