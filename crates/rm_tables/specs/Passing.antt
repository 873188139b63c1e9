-- NodeUpdate: a pass answers a beat. First fit is told in `rm_types`, and that a scheduler allocates when a node beats by the judge; here
-- it goes over the attempts that ask for something.
use Rattle.std.specs.Prelude.{ℕ, ◌+◌, List, [], ◌++◌, Bool, true, false, not, ◌&&◌, nat_lt, ◌==◌, Option, None, Some, filter, find, fold, map, if◌then◌else◌}
use Rattle.rm_types.specs.declared.containers.Ask.{Ask}
use Rattle.rm_types.specs.declared.containers.Grant.{Grant}
use Rattle.rm_types.specs.declared.containers.Turn.{Turn}
use Rattle.rm_types.specs.declared.entries.Entry.{Entry}
use Rattle.rm_types.specs.declared.entries.Entry.TheVariants.{Pass}
use Rattle.rm_types.specs.declared.ids.AppId.{AppId}
use Rattle.rm_types.specs.declared.ids.AttemptId.{AttemptId}
use Rattle.rm_types.specs.declared.resources.Resource.{Resource}
use Rattle.rm_types.specs.Lists.{is_nil}
use Rattle.rm_types.specs.Passes.{by_priority, pass_list}
use Rattle.rm_book.specs.AskTables.{AsksOf, attempt_asks, table_granted}
use Rattle.rm_book.specs.Books.{capability_of, sizes_on, with_grants}
use Rattle.rm_model.specs.Attempts.{attempt_at}
use Rattle.rm_model.specs.Containers.{is_size}
use Rattle.rm_states.specs.declared.attempt.states.AttemptState.{AttemptState}
use Rattle.rm_states.specs.declared.attempt.states.AttemptState.TheVariants as attempts
use Rattle.rm_tables.specs.declared.changes.AttemptChange.TheVariants as of_attempt
use Rattle.rm_tables.specs.declared.changes.RowChange.TheVariants as of_app
use Rattle.rm_tables.specs.declared.events.MainEvent.{MainEvent}
use Rattle.rm_tables.specs.declared.events.MainEvent.TheVariants as mains
use Rattle.rm_tables.specs.declared.nodes.NodeRow.{NodeRow}
use Rattle.rm_tables.specs.declared.rows.AppRow.{AppRow}
use Rattle.rm_tables.specs.declared.rows.Current.{Current}
use Rattle.rm_tables.specs.declared.tables.Tables.{Tables}
use Rattle.rm_tables.specs.Actions.{sched_quiet}
use Rattle.rm_tables.specs.Changes.{changed}
use Rattle.rm_tables.specs.Nodes.{is_ready_row}
use Rattle.rm_tables.specs.Rows.{row_of, with_row}

-- how many containers this life granted to an attempt, where it is the current one of its application
abbrev pub granted_to : ℕ → Option Current → ℕ
granted_to number None = 0
granted_to number (Some current) = if current.number == number then current.granted else 0

-- how many containers this life granted to the attempt of this number, by the row of its application
abbrev pub granted_number : ℕ → Option AppRow → ℕ
granted_number number None = 0
granted_number number (Some row) = granted_to number row.current

-- an attempt's turn in a pass
abbrev pub turn_in : List (AppId × Option AppRow) → AttemptId → Turn
turn_in rows attempt = record { attempt = attempt; next_seq = granted_number attempt.number (row_of rows attempt.app) + 1 }

-- the attempt asks for something
abbrev pub asks_some : List AsksOf → AttemptId → Bool
asks_some asks attempt = not (is_nil (attempt_asks asks attempt))

-- the turns of a pass: of each application, in the order of the records, the attempt that it is at, where that asks for something
abbrev pub turns_in : Tables → List Turn
turns_in t = map (turn_in t.rows) (filter (asks_some t.asks) (map attempt_at t.tree.apps))

-- what a pass grants on a node, once it offers something
abbrev pub fitted_on : List ℕ → Option Resource → Tables → List Grant
fitted_on name None t = []
fitted_on name (Some capability) t =
    pass_list (record { node = name; capability = capability; sizes = sizes_on name t.book.rows; epoch = t.epoch }) (attempt_asks t.asks) (turns_in t)

-- nothing is granted while nodes may still report
abbrev pub still_waits : Tables → Bool
still_waits t = t.waits && nat_lt t.clock t.settings.wait_ms

-- the grants of a pass on a node
abbrev pub grants_on : List ℕ → NodeRow → Tables → List Grant
grants_on name row t = if is_ready_row row.state && not (still_waits t) then fitted_on name (capability_of t.book name) t else []

-- the asks after a grant: the first ask of its size that a pass comes to falls by 1
abbrev pub asks_after_answer : List AsksOf → Grant → Option Ask → List AsksOf
asks_after_answer asks grant None = asks
asks_after_answer asks grant (Some ask) = table_granted grant.id.attempt ask.priority grant.size asks

-- the asks after a grant, of whatever attempt it is
abbrev pub table_without_granted : List AsksOf → Grant → List AsksOf
table_without_granted asks grant = asks_after_answer asks grant (find (λ one. is_size one.size grant.size) (by_priority (attempt_asks asks grant.id.attempt)))

-- the rows after a grant
abbrev pub rows_after_grant : List (AppId × Option AppRow) → Grant → List (AppId × Option AppRow)
rows_after_grant rows grant = with_row (changed (of_app.OfAttempt (of_attempt.Grant grant.id))) grant.id.attempt.app rows

-- a grant is of the master's container, for which the current attempt of its application waits
abbrev pub waits_at : AttemptState → Bool
waits_at attempts.Scheduled = true
waits_at _ = false

-- the current attempt waits for its master's container
abbrev pub waits_with : Option Current → Bool
waits_with None = false
waits_with (Some current) = waits_at current.state

-- the current attempt of a row waits for its master's container
abbrev pub waits_for_master : Option AppRow → Bool
waits_for_master None = false
waits_for_master (Some row) = waits_with row.current

-- what the manager is told of grants
abbrev pub masters_granted : List (AppId × Option AppRow) → List Grant → List MainEvent
masters_granted rows grants = map (λ grant. mains.MasterGranted grant.id) (filter (λ grant. waits_for_master (row_of rows grant.id.attempt.app)) grants)

-- the tables after these grants
abbrev pub passed_with : List Grant → Tables → Tables
passed_with grants t =
    record t {
      main = t.main ++ masters_granted t.rows grants;
      book = with_grants t.book grants;
      asks = fold table_without_granted t.asks grants;
      rows = fold rows_after_grant t.rows grants;
    }

-- NodeUpdate
abbrev pub updated_by : Option NodeRow → List ℕ → Tables → Entry × Tables
updated_by None name t = sched_quiet t
updated_by (Some row) name t = (Pass name (grants_on name row t), passed_with (grants_on name row t) t)
