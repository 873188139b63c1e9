-- What the tables tell of containers, and how some of them leave the book: their rows and launches go, the manager is told of masters'
-- containers, and the heirs of others are to be told. Which container is a master's, wanted or stale, and who is the heir, is read off
-- what is recorded, as the judge does. This project's own.
use Rattle.std.specs.Prelude.{ℕ, List, [], ◌∷◌, ◌++◌, Bool, true, false, not, ◌&&◌, ◌||◌, nat_lt, Option, None, Some, is_none, is_some, option_and_then, filter, find, flat_map, fold, map}
use Rattle.rm_types.specs.declared.containers.BookRow.{BookRow}
use Rattle.rm_types.specs.declared.containers.Cause.{Cause}
use Rattle.rm_types.specs.declared.containers.ClosingOf.{ClosingOf}
use Rattle.rm_types.specs.declared.entries.Entry.{Entry}
use Rattle.rm_types.specs.declared.entries.Entry.TheVariants.{Ended}
use Rattle.rm_types.specs.declared.ids.AppId.{AppId}
use Rattle.rm_types.specs.declared.ids.AttemptId.{AttemptId}
use Rattle.rm_types.specs.declared.ids.ContainerId.{ContainerId}
use Rattle.rm_types.specs.declared.records.AppRecord.{AppRecord}
use Rattle.rm_types.specs.declared.records.AttemptRecord.{AttemptRecord}
use Rattle.rm_types.specs.Ids.{is_attempt, is_container}
use Rattle.rm_types.specs.Records.{last_attempt, record_of}
use Rattle.rm_model.specs.Attempts.{unended}
use Rattle.rm_model.specs.Containers.{closing_for}
use Rattle.rm_book.specs.Books.{BookOf, book_row as book_row_of, without_rows}
use Rattle.rm_tables.specs.declared.events.MainEvent.{MainEvent}
use Rattle.rm_tables.specs.declared.events.MainEvent.TheVariants as mains
use Rattle.rm_tables.specs.declared.nodes.NodeChange.TheVariants as of_node
use Rattle.rm_tables.specs.declared.nodes.NodeRow.{NodeRow}
use Rattle.rm_tables.specs.declared.rows.AppRow.{AppRow}
use Rattle.rm_tables.specs.declared.tables.Tables.{Tables}
use Rattle.rm_tables.specs.Actions.{sched_quiet}
use Rattle.rm_tables.specs.ContainerSets.{with_containers}
use Rattle.rm_tables.specs.Nodes.{changed_row, with_node}
use Rattle.rm_tables.specs.Rows.{with_row}

-- the record of an attempt
abbrev pub attempt_in : AppRecord → AttemptId → Option AttemptRecord
attempt_in app id = find (λ one. is_attempt one.id id) app.attempts

-- the record of a container's attempt names it, or there is none
abbrev pub is_own_or_unkept : ContainerId → Option AttemptRecord → Bool
is_own_or_unkept id None = true
is_own_or_unkept id (Some one) = is_container one.master id

-- a container is a master's by the record of its application: the record of its attempt names it, or there is none
abbrev pub masters_by : ContainerId → Option AppRecord → Bool
masters_by id None = false
masters_by id (Some app) = is_own_or_unkept id (attempt_in app id.attempt)

-- a container is a master's
abbrev pub is_masters_in : List AppRecord → ContainerId → Bool
is_masters_in apps id = masters_by id (record_of apps id.attempt.app)

-- an attempt that ended leaves the container to the next one, where its application keeps
abbrev pub leaves_over : Bool → ContainerId → AttemptRecord → Bool
leaves_over keep id one = keep && not (is_container one.master id)

-- a container of a recorded attempt is wanted, where its application goes on
abbrev pub is_wanted_of : Bool → ContainerId → Option AttemptRecord → Bool
is_wanted_of keep id None = false
is_wanted_of keep id (Some one) = is_none one.ending || leaves_over keep id one

-- a container is wanted by the record of its application
abbrev pub wanted_by : ContainerId → Option AppRecord → Bool
wanted_by id None = false
wanted_by id (Some app) = is_none app.ending && is_wanted_of app.submission.keep id (attempt_in app id.attempt)

-- a container is wanted
abbrev pub is_wanted_in : List AppRecord → ContainerId → Bool
is_wanted_in apps id = wanted_by id (record_of apps id.attempt.app)

-- a container of a recorded attempt is stale, though its application goes on
abbrev pub is_stale_of : Bool → ContainerId → Option AttemptRecord → Bool
is_stale_of keep id None = false
is_stale_of keep id (Some one) = is_some one.ending && not (leaves_over keep id one)

-- a container is stale by the record of its application
abbrev pub stale_by : ContainerId → Option AppRecord → Bool
stale_by id None = true
stale_by id (Some app) = is_some app.ending || is_stale_of app.submission.keep id (attempt_in app id.attempt)

-- a container is stale
abbrev pub is_stale_in : List AppRecord → ContainerId → Bool
is_stale_in apps id = stale_by id (record_of apps id.attempt.app)

-- the heir of an application by its record: its last attempt, where that has no end
abbrev pub heir_by : Option AppRecord → Option AttemptId
heir_by None = None
heir_by (Some app) = option_and_then unended (last_attempt app.attempts)

-- the heir of an application
abbrev pub heir_in : List AppRecord → AppId → Option AttemptId
heir_in apps id = heir_by (record_of apps id)

-- a container's end is told
abbrev pub is_told_in : List AppRecord → ContainerId → Bool
is_told_in apps id = is_wanted_in apps id && not (is_masters_in apps id)

-- what the manager is told of containers that leave
abbrev pub losts_of : List AppRecord → List ContainerId → List MainEvent
losts_of apps ids = map (λ id. mains.MasterLost id) (filter (is_masters_in apps) ids)

-- what masters are to be told of them
abbrev pub closings_of : List AppRecord → Cause → List ContainerId → List ClosingOf
closings_of apps cause ids = flat_map (λ id. closing_for cause id (heir_in apps id.attempt.app)) (filter (is_told_in apps) ids)

-- a row whose masters are to be told these endings
abbrev pub telling : List ClosingOf → AppRow → AppRow
telling closings row = record row { closings = closings }

-- a row with one more ending that its master is to be told
abbrev pub closed : ClosingOf → AppRow → AppRow
closed closing row = record row { closings = row.closings ++ closing ∷ [] }

-- the rows with one more ending that a master is to be told
abbrev pub closed_one : List (AppId × Option AppRow) → ClosingOf → List (AppId × Option AppRow)
closed_one rows closing = with_row (closed closing) closing.attempt.app rows

-- the rows with these endings to be told
abbrev pub closed_in : List (AppId × Option AppRow) → List ClosingOf → List (AppId × Option AppRow)
closed_in rows closings = fold closed_one rows closings

-- the nodes without the launch of a container that is in the book, or isn't
abbrev pub unlaunched_at : Option BookRow → ContainerId → List (List ℕ × NodeRow) → List (List ℕ × NodeRow)
unlaunched_at None id nodes = nodes
unlaunched_at (Some row) id nodes = with_node (changed_row (of_node.Unlaunch id)) row.node nodes

-- the nodes without the launch of a container, by its row in the book
abbrev pub unlaunched_one : BookOf → List (List ℕ × NodeRow) → ContainerId → List (List ℕ × NodeRow)
unlaunched_one book nodes id = unlaunched_at (book_row_of book id) id nodes

-- the nodes without the launches of these containers, each on the node where the book has it
abbrev pub unlaunched : BookOf → List (List ℕ × NodeRow) → List ContainerId → List (List ℕ × NodeRow)
unlaunched book nodes ids = fold (unlaunched_one book) nodes ids

-- a container is noted as it leaves the book where the cluster recovers ended containers and it is of a former epoch
abbrev pub is_noted : Tables → ContainerId → Bool
is_noted t id = t.settings.recover_ended_containers && nat_lt id.epoch t.epoch

-- those of these containers that are noted as they leave the book
abbrev pub departing : Tables → List ContainerId → List ContainerId
departing t ids = filter (is_noted t) ids

-- the ends of these containers are told, and those of former epochs are noted
abbrev pub told_all : Cause → List ContainerId → Tables → Tables
told_all cause ids t =
    record t {
      rows = closed_in t.rows (closings_of t.tree.apps cause ids);
      main = t.main ++ losts_of t.tree.apps ids;
      departed = with_containers t.departed (departing t ids);
    }

-- these containers leave the book
abbrev pub left_all : Cause → List ContainerId → Tables → Tables
left_all cause ids t = record (told_all cause ids t) { book = without_rows t.book ids; nodes = unlaunched t.book t.nodes ids }

-- containers end for a cause, if there are any
abbrev pub ended_by : Cause → List ContainerId → Tables → Entry × Tables
ended_by cause [] t = sched_quiet t
ended_by cause (id ∷ ids) t = (Ended cause (id ∷ ids), left_all cause (id ∷ ids) t)
