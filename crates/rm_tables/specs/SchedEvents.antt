-- What each event of the scheduler's queue does: the entry that it logs, and the tables after it. It is still the first of its queue, and
-- is taken when it is done. After the scheduler of YARN's ResourceManager; the events and their rows are this project's own.
use Rattle.std.specs.Prelude.{◌≡◌, ℕ, List, [], ◌∷◌, ◌++◌, Bool, true, false, not, ◌&&◌, ◌||◌, ◌==◌, Option, None, Some, filter, map}
use Rattle.std.specs.Str.{bytes_eq}
use Rattle.rm_types.specs.declared.containers.BookRow.{BookRow}
use Rattle.rm_types.specs.declared.containers.Cause.TheVariants as causes
use Rattle.rm_types.specs.declared.entries.Entry.{Entry}
use Rattle.rm_types.specs.declared.entries.Entry.TheVariants.{Queued, Quiet}
use Rattle.rm_types.specs.declared.ids.AppId.{AppId}
use Rattle.rm_types.specs.declared.ids.AttemptId.{AttemptId}
use Rattle.rm_types.specs.declared.ids.ContainerId.{ContainerId}
use Rattle.rm_types.specs.declared.messages.Lane.TheVariants as lanes
use Rattle.rm_types.specs.declared.records.AppRecord.{AppRecord}
use Rattle.rm_types.specs.Ids.{is_app, is_attempt}
use Rattle.rm_types.specs.Order.{Ascend}
use Rattle.rm_book.specs.AskTables.{AsksOf, attempt_asks, asks_set, with_asks_of}
use Rattle.rm_book.specs.Books.{BookOf, has_row, node_containers, book_row as book_row_of}
use Rattle.rm_model.specs.Containers.{once}
use Rattle.rm_states.specs.declared.attempt.states.AttemptState.{AttemptState}
use Rattle.rm_states.specs.declared.attempt.states.AttemptState.TheVariants as attempts
use Rattle.rm_tables.specs.declared.events.MainEvent.TheVariants as mains
use Rattle.rm_tables.specs.declared.events.SchedEvent.{SchedEvent}
use Rattle.rm_tables.specs.declared.events.SchedEvent.TheVariants as scheds
use Rattle.rm_tables.specs.declared.nodes.NodeRow.{NodeRow}
use Rattle.rm_tables.specs.declared.rows.AppRow.{AppRow}
use Rattle.rm_tables.specs.declared.rows.Current.{Current}
use Rattle.rm_tables.specs.declared.tables.Tables.{Tables}
use Rattle.rm_tables.specs.Absorbing.{absorbed_by, book_not_taken, taken_in}
use Rattle.rm_tables.specs.Actions.{found_in, sched_quiet}
use Rattle.rm_tables.specs.Leaving.{ended_by, is_masters_in, is_stale_in}
use Rattle.rm_tables.specs.Missing.{is_astray_in, is_at_disposal_in}
use Rattle.rm_tables.specs.Nodes.{is_waiting_row, node_row}
use Rattle.rm_tables.specs.Passing.{updated_by}
use Rattle.rm_tables.specs.Rows.{row_of}

-- AppAdded: the application is to be accepted
abbrev pub added_by : AppId → Tables → Entry × Tables
added_by id t = (Quiet lanes.Sched, record t { main = t.main ++ mains.AppAccepted id ∷ [] })

-- AttemptAdded: an attempt that is scheduled asks for its master's container
abbrev pub master_asked : AttemptId → Option AppRecord → List AsksOf → List AsksOf
master_asked id None asks = asks
master_asked id (Some app) asks =
    with_asks_of id (asks_set (record { priority = 0; count = 1; size = app.submission.master }) (attempt_asks asks id)) asks

-- AttemptAdded, by the state of the attempt and whether it is the current one
abbrev pub queued_at : AttemptState → Bool → AttemptId → Tables → Entry × Tables
queued_at attempts.Scheduled true id t = (Queued id, record t { asks = master_asked id (found_in t id.app) t.asks })
queued_at _ current id t = sched_quiet t

-- AttemptAdded, by the current attempt of the application
abbrev pub queued_with : Option Current → AttemptId → Tables → Entry × Tables
queued_with None id t = sched_quiet t
queued_with (Some current) id t = queued_at current.state (current.number == id.number) id t

-- AttemptAdded, by the row of the application
abbrev pub queued_by : Option AppRow → AttemptId → Tables → Entry × Tables
queued_by None id t = sched_quiet t
queued_by (Some row) id t = queued_with row.current id t

-- the row is on this node
abbrev pub is_on : List ℕ → Option BookRow → Bool
is_on name None = false
is_on name (Some row) = bytes_eq row.node name

-- Release: the containers that a master released end which live, are at its attempt's disposal and are no master's, in the order of its
-- list, each once
abbrev pub is_released : AttemptId → Tables → ContainerId → Bool
is_released attempt t id = has_row t.book id && (is_at_disposal_in t.tree.apps attempt id && not (is_masters_in t.tree.apps id))

-- Release: those end of the list that the attempt may release, each once
abbrev pub release_step : AttemptId → List ContainerId → Tables → Entry × Tables
release_step attempt list t = ended_by causes.Released (once (filter (is_released attempt t) list)) t

-- a container that a node reported as done ends where it is astray or lives on the node
abbrev pub ends_as_done : List ℕ → Tables → ContainerId → Bool
ends_as_done name t id = is_astray_in t id || is_on name (book_row_of t.book id)

-- NodeDone: those that a node reported as done and that end, in the order of its list, each once
abbrev pub done_by : List ℕ → List ContainerId → Tables → Entry × Tables
done_by name list t = ended_by causes.Done (once (filter (ends_as_done name t) list)) t

-- the containers of an application that live and are stale, in the order of entering
abbrev pub stale_in : BookOf → List AppRecord → AppId → List ContainerId
stale_in book apps id = map (λ row. row.id) (filter (λ row. is_app row.id.attempt.app id && is_stale_in apps row.id) book.rows)

-- which containers end where a node is absorbed, which is in ascending order: those that stand on it and aren't taken
abbrev pub EndsIf : Bool → List ℕ → NodeRow → Tables → List ContainerId → Type 0
EndsIf true name row t list = Ascend (book_not_taken t.book name (taken_in t name row)) list
EndsIf false name row t list = Unit {0}

-- which containers end where a node is absorbed, by its row
abbrev pub EndsAbsorbed : Option NodeRow → List ℕ → ℕ → Tables → List ContainerId → Type 0
EndsAbsorbed None name turn t list = Unit {0}
EndsAbsorbed (Some row) name turn t list = EndsIf (is_waiting_row row.state && (row.turn == turn)) name row t list

-- which containers end by an event: those of an application that are stale, or on a node that is lost or is absorbed
abbrev pub EndsByEvent : SchedEvent → Tables → List ContainerId → Type 0
EndsByEvent (scheds.AttemptRemoved id) t list = Ascend (stale_in t.book t.tree.apps id.app) list
EndsByEvent (scheds.NodeLost node) t list = Ascend (node_containers t.book node) list
EndsByEvent (scheds.NodeAdded node turn) t list = EndsAbsorbed (node_row t.nodes node) node turn t list
EndsByEvent _ t list = Unit {0}

-- what an event of the scheduler's queue logs, and the tables after it, where these containers end. An attempt needs nothing when it is
-- recovered
abbrev pub sched_step : SchedEvent → List ContainerId → Tables → Entry × Tables
sched_step (scheds.AppAdded id) list t = added_by id t
sched_step (scheds.AttemptRecovered id) list t = sched_quiet t
sched_step (scheds.AttemptAdded id) list t = queued_by (row_of t.rows id.app) id t
sched_step (scheds.AttemptRemoved id) list t = ended_by causes.Attempt list t
sched_step (scheds.Release attempt released) list t = release_step attempt released t
sched_step (scheds.NodeAdded node turn) list t = absorbed_by (node_row t.nodes node) node turn list t
sched_step (scheds.NodeDone node done) list t = done_by node done t
sched_step (scheds.NodeUpdate node) list t = updated_by (node_row t.nodes node) node t
sched_step (scheds.NodeLost node) list t = ended_by causes.Node list t

-- what an event does
abbrev pub SchedDoes : SchedEvent → Tables → Entry × Tables → Type 0
SchedDoes event t done = (list : List ContainerId) × EndsByEvent event t list × (done ≡ sched_step event list t)
