-- What an event of the scheduler's queue comes to: the entry that it logs and the tables after it, whatever event and state bring it about. This
-- project's own.
use Rattle.std.specs.Prelude.{◌≡◌, ◌⊎◌, ◌≢◌, ℕ, List, [], ◌∷◌, ◌++◌, true, false, ◌==◌, ◌&&◌, Option, None, Some, filter}
use Rattle.rm_types.specs.declared.containers.Cause.{Cause}
use Rattle.rm_types.specs.declared.containers.Cause.TheVariants as causes
use Rattle.rm_types.specs.declared.entries.Entry.{Entry}
use Rattle.rm_types.specs.declared.entries.Entry.TheVariants.{Ended, Pass, Queued, Quiet}
use Rattle.rm_types.specs.declared.ids.AppId.{AppId}
use Rattle.rm_types.specs.declared.ids.AttemptId.{AttemptId}
use Rattle.rm_types.specs.declared.ids.ContainerId.{ContainerId}
use Rattle.rm_types.specs.declared.messages.Lane.TheVariants as lanes
use Rattle.rm_book.specs.Books.{book_row as book_row_of}
use Rattle.rm_model.specs.Containers.{once}
use Rattle.rm_states.specs.declared.attempt.states.AttemptState.TheVariants as attempts
use Rattle.rm_tables.specs.declared.events.MainEvent.TheVariants as mains
use Rattle.rm_tables.specs.declared.events.SchedEvent.{SchedEvent}
use Rattle.rm_tables.specs.declared.events.SchedEvent.TheVariants as scheds
use Rattle.rm_tables.specs.declared.nodes.NodeRow.{NodeRow}
use Rattle.rm_tables.specs.declared.rows.AppRow.{AppRow}
use Rattle.rm_tables.specs.declared.rows.Current.{Current}
use Rattle.rm_tables.specs.declared.tables.Tables.{Tables}
use Rattle.rm_tables.specs.Absorbing.{absorption_step, taken_in}
use Rattle.rm_tables.specs.Actions.{found_in, sched_quiet}
use Rattle.rm_tables.specs.Leaving.{left_all}
use Rattle.rm_tables.specs.Nodes.{is_waiting_row, node_row}
use Rattle.rm_tables.specs.Passing.{grants_on, passed_with}
use Rattle.rm_tables.specs.Rows.{row_of}
use Rattle.rm_tables.specs.SchedEvents.{ends_as_done, is_released, master_asked}
use Rattle.rm_invariant.specs.events.Outcomes.{IsCurrentOf}

-- which containers end by an event that isn't an absorption, and for which cause
abbrev pub leaving_by : SchedEvent → List ContainerId → Tables → Option (Cause × List ContainerId)
leaving_by (scheds.AttemptRemoved id) list t = Some (causes.Attempt, list)
leaving_by (scheds.Release attempt released) list t = Some (causes.Released, once (filter (is_released attempt t) released))
leaving_by (scheds.NodeDone node done) list t = Some (causes.Done, once (filter (ends_as_done node t) done))
leaving_by (scheds.NodeLost node) list t = Some (causes.Node, list)
leaving_by _ list t = None

-- the current attempt of an application, if there is one, isn't this one, or isn't scheduled
abbrev pub IsNotScheduled : ℕ → Option Current → Type 0
IsNotScheduled number None = Unit {0}
IsNotScheduled number (Some current) = (current.state ≢ attempts.Scheduled) ⊎ ((current.number == number) ≡ false)

-- no container ends by an event
abbrev pub NoneEnds : SchedEvent → List ContainerId → Tables → Type 0
NoneEnds e list t = (cause : Cause) (ids : List ContainerId) → leaving_by e list t ≡ Some (cause, ids) → ids ≡ []

-- an event has nothing to do: an attempt doesn't ask where it isn't scheduled, and no container ends
abbrev pub HasNothingToDo : SchedEvent → List ContainerId → Tables → Type 0
HasNothingToDo (scheds.AppAdded id) list t = ⊥
HasNothingToDo (scheds.AttemptAdded id) list t = (row : AppRow) → row_of t.rows id.app ≡ Some row → IsNotScheduled id.number row.current
HasNothingToDo e list t = NoneEnds e list t

-- what an event may come to, where these containers end
pub data SchedOutcome (t : Tables) (list : List ContainerId) : SchedEvent → Entry × Tables → Type 0 where
  -- there is nothing to do
  idles : (e : SchedEvent) → HasNothingToDo e list t → SchedOutcome t list e (sched_quiet t)
  -- an application that was added is to be accepted
  posts : (id : AppId) → SchedOutcome t list (scheds.AppAdded id) (Quiet lanes.Sched, record t { main = t.main ++ mains.AppAccepted id ∷ [] })
  -- an attempt that is scheduled asks for its master's container
  asks : (id : AttemptId) (row : AppRow) (current : Current) → IsCurrentOf t id.app row current → current.state ≡ attempts.Scheduled → (current.number == id.number) ≡ true
      → SchedOutcome t list (scheds.AttemptAdded id) (Queued id, record t { asks = master_asked id (found_in t id.app) t.asks })
  -- containers end
  ends : (e : SchedEvent) (cause : Cause) (id : ContainerId) (ids : List ContainerId) → leaving_by e list t ≡ Some (cause, id ∷ ids) → SchedOutcome t list e (Ended cause (id ∷ ids), left_all cause (id ∷ ids) t)
  -- the report of a node that registered is absorbed
  absorbs : (name : List ℕ) (turn : ℕ) (row : NodeRow) → node_row t.nodes name ≡ Some row → (is_waiting_row row.state && (row.turn == turn)) ≡ true
      → SchedOutcome t list (scheds.NodeAdded name turn) (absorption_step name row.capability (taken_in t name row) list t)
  -- a beat is answered by a pass
  grants : (name : List ℕ) (row : NodeRow) → node_row t.nodes name ≡ Some row → SchedOutcome t list (scheds.NodeUpdate name) (Pass name (grants_on name row t), passed_with (grants_on name row t) t)
