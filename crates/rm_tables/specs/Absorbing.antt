-- NodeAdded: the report of a node that registered is absorbed. Which of the reported containers are taken, and that a manager
-- rebuilds its containers from such reports, is told by the judge; here it is read off the tables.
use Rattle.std.specs.Prelude.{ℕ, List, [], Bool, true, false, not, ◌&&◌, nat_lt, nat_le, ◌==◌, Option, None, Some, is_some, filter, fold, map, ◌++◌, ◌∷◌, if◌then◌else◌}
use Rattle.std.specs.Str.{bytes_eq}
use Rattle.rm_types.specs.declared.containers.BookRow.{BookRow}
use Rattle.rm_types.specs.declared.containers.Cause.TheVariants.{Gone}
use Rattle.rm_types.specs.declared.containers.Held.{Held}
use Rattle.rm_types.specs.declared.entries.Entry.{Entry}
use Rattle.rm_types.specs.declared.entries.Entry.TheVariants.{Absorbed}
use Rattle.rm_types.specs.declared.ids.AttemptId.{AttemptId}
use Rattle.rm_types.specs.declared.ids.ContainerId.{ContainerId}
use Rattle.rm_types.specs.declared.resources.Resource.{Resource}
use Rattle.rm_types.specs.Passes.{total_of}
use Rattle.rm_types.specs.Resources.{difference_of, fits}
use Rattle.rm_book.specs.Books.{BookOf, capability_of, node_containers, book_row as book_row_of, book_with_taken}
use Rattle.rm_types.specs.Containers.{is_held}
use Rattle.rm_model.specs.Facts.{has_container}
use Rattle.rm_tables.specs.declared.nodes.NodeChange.TheVariants.{Absorb, Unlaunch}
use Rattle.rm_tables.specs.declared.nodes.NodeRow.{NodeRow}
use Rattle.rm_tables.specs.declared.rows.AppRow.{AppRow}
use Rattle.rm_tables.specs.declared.tables.Tables.{Tables}
use Rattle.rm_tables.specs.Actions.{sched_quiet}
use Rattle.rm_tables.specs.Leaving.{is_wanted_in, told_all}
use Rattle.rm_tables.specs.Nodes.{changed_row, is_waiting_row, with_node}
use Rattle.rm_tables.specs.Rows.{row_of}

-- the attempt was kept when the life began
abbrev pub was_first : AttemptId → Option AppRow → Bool
was_first id None = false
was_first id (Some row) = nat_lt 0 id.number && nat_le id.number row.first

-- a container that is reported at its node's first absorption in a life
abbrev pub reported_in : Tables → Held → Option Held
reported_in t held = if nat_lt held.id.epoch t.epoch && was_first held.id.attempt (row_of t.rows held.id.attempt.app) then Some held else None

-- a container that is reported at a later one, as it stands in the book on this node
abbrev pub booked_at : List ℕ → Option BookRow → Option Held
booked_at name None = None
booked_at name (Some row) = if bytes_eq row.node name then Some (record { id = row.id; size = row.size }) else None

-- a reported container as it counts
abbrev pub counted_in : Tables → List ℕ → Held → Option Held
counted_in t name held = if is_some (capability_of t.book name) then booked_at name (book_row_of t.book held.id) else reported_in t held

-- it lives on another node
abbrev pub is_elsewhere : List ℕ → Option BookRow → Bool
is_elsewhere name None = false
is_elsewhere name (Some row) = not (bytes_eq row.node name)

-- what is left of what the node offers beside what was taken so far
abbrev pub capability_left : Resource → List Held → Resource
capability_left capability taken = difference_of capability (total_of (map (λ held. held.size) taken))

-- a container is pending where the cluster recovers ended containers and it was released in this life while it was missing
abbrev pub is_pending_in : Tables → ContainerId → Bool
is_pending_in t id = t.settings.recover_ended_containers && has_container t.pending id

-- a container that counts may be taken
abbrev pub tables_may_take : Tables → List ℕ → Resource → List Held → Held → Bool
tables_may_take t name capability taken held =
    not (is_pending_in t held.id)
    && (not (is_held taken held.id)
    && (is_wanted_in t.tree.apps held.id
    && (not (is_elsewhere name (book_row_of t.book held.id))
    && fits held.size (capability_left capability taken))))

-- what was taken so far and, where it counts and may be taken, one more
abbrev pub tables_with_counted : Tables → List ℕ → Resource → List Held → Option Held → List Held
tables_with_counted t name capability taken None = taken
tables_with_counted t name capability taken (Some held) = if tables_may_take t name capability taken held then taken ++ held ∷ [] else taken

-- the containers that are taken of a node's report, in its order
abbrev pub taken_in : Tables → List ℕ → NodeRow → List Held
taken_in t name row = fold (λ taken held. tables_with_counted t name row.capability taken (counted_in t name held)) [] row.running

-- what stood on the node and isn't taken
abbrev pub book_not_taken : BookOf → List ℕ → List Held → List ContainerId
book_not_taken book name taken = filter (λ id. not (is_held taken id)) (node_containers book name)

-- the nodes without the launch of a container of one, and without those of these
abbrev pub unlaunched_here : List ℕ → List (List ℕ × NodeRow) → ContainerId → List (List ℕ × NodeRow)
unlaunched_here name nodes id = with_node (changed_row (Unlaunch id)) name nodes

-- the nodes without the launches of these containers on one of them
abbrev pub unlaunched_on : List ℕ → List (List ℕ × NodeRow) → List ContainerId → List (List ℕ × NodeRow)
unlaunched_on name nodes ids = fold (unlaunched_here name) nodes ids

-- the tables after these were taken, and these ended
abbrev pub absorbed_with : List ℕ → Resource → List Held → List ContainerId → Tables → Tables
absorbed_with name capability taken ended t =
    record (told_all Gone ended t) {
      book = book_with_taken t.book name capability taken ended;
      nodes = with_node (changed_row Absorb) name (unlaunched_on name t.nodes ended);
    }

-- NodeAdded: where the node waits and this is its last registration, its report is absorbed, and these end
abbrev pub absorption_step : List ℕ → Resource → List Held → List ContainerId → Tables → Entry × Tables
absorption_step name capability taken ended t = (Absorbed name taken ended, absorbed_with name capability taken ended t)

-- where the node waits and this is its last registration, its report is absorbed; else nothing is done
abbrev pub absorbed_if : Bool → List ℕ → NodeRow → List ContainerId → Tables → Entry × Tables
absorbed_if true name row ended t = absorption_step name row.capability (taken_in t name row) ended t
absorbed_if false name row ended t = sched_quiet t

-- NodeAdded, by the row of the node: where there is none, nothing is done
abbrev pub absorbed_by : Option NodeRow → List ℕ → ℕ → List ContainerId → Tables → Entry × Tables
absorbed_by None name turn ended t = sched_quiet t
absorbed_by (Some row) name turn ended t = absorbed_if (is_waiting_row row.state && (row.turn == turn)) name row ended t
