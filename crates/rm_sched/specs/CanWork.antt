-- What the dispatcher asks of the tables before it works off an event: nothing that they compute leaves its range, and what they put into the
-- book fits there. The facts of the manager give it at every moment. This project's own.
use Rattle.std.specs.Prelude.{◌≡◌, ℕ, ◌+◌, ◌<◌, ◌≤◌, ◌^◌, List, [], ◌≢◌, true, Some, length, slice_get, IsSomeAnd}
use Rattle.rm_types.specs.declared.records.AppRecord.{AppRecord}
use Rattle.rm_types.specs.declared.containers.Grant.{Grant}
use Rattle.rm_types.specs.declared.ids.AttemptId.{AttemptId}
use Rattle.rm_types.specs.declared.ids.ContainerId.{ContainerId}
use Rattle.rm_types.specs.declared.resources.Resource.{Resource}
use Rattle.rm_types.specs.Order.{Ascend}
use Rattle.rm_types.specs.Passes.{total_of}
use Rattle.rm_types.specs.Resources.{Fits}
use Rattle.rm_book.specs.AskTables.{attempt_asks}
use Rattle.rm_book.specs.Books.{AreNew, AreOnce, are_grants_on, capability_of, free_on, sizes_of, total_on, book_with_taken}
use Rattle.rm_sched.specs.fit.Conditions.{TurnsAreApart, are_past, have_sizes}
use Rattle.rm_tables.specs.declared.nodes.NodeRow.{NodeRow}
use Rattle.rm_tables.specs.declared.tables.Tables.{Tables}
use Rattle.rm_tables.specs.Absorbing.{book_not_taken, taken_in}
use Rattle.rm_tables.specs.Nodes.{node_row}
use Rattle.rm_tables.specs.Passing.{granted_number, turns_in}
use Rattle.rm_tables.specs.Rows.{row_of}

-- a pass may be made on any node: it offers at most 256 cores, the attempts that ask differ and ask for something, their next sequences are
-- in range, and no container that they may be granted is in the book
pub record CanPass (t : Tables) : Type 0 where
  pub room : (name : List ℕ) (capability : Resource) → capability_of t.book name ≡ Some capability → capability.vcores ≤ 256
  pub apart : TurnsAreApart (turns_in t)
  pub early : (id : AttemptId) → granted_number id.number (row_of t.rows id.app) + 1 ≤ 2 ^ 39
  pub sizes : have_sizes (attempt_asks t.asks) (turns_in t) ≡ true
  pub past : are_past t.epoch (turns_in t) t.book.rows ≡ true

-- the report of any node may be absorbed: no container is taken twice, and what is taken fits what the node offers; it holds in any tables, so that
-- nothing asks for it
pub record CanAbsorb (t : Tables) : Type 0 where
  pub once : (name : List ℕ) (row : NodeRow) → node_row t.nodes name ≡ Some row → AreOnce (taken_in t name row)
  pub fit : (name : List ℕ) (row : NodeRow) (ended : List ContainerId) → node_row t.nodes name ≡ Some row → Ascend (book_not_taken t.book name (taken_in t name row)) ended
      → Fits (total_on name (book_with_taken t.book name row.capability (taken_in t name row) ended).rows) row.capability

-- no number of attempts leaves its range
abbrev pub AreFew : Tables → Type 0
AreFew t = (place : ℕ) (app : AppRecord) → slice_get t.tree.apps place ≡ Some app → length app.attempts + 1 < 2 ^ 32

-- these grants may be made on a node: they are of it, their containers are new and differ, and they fit what is left of it
pub record GrantsFit (t : Tables) (name : List ℕ) (grants : List Grant) : Type 0 where
  pub on : are_grants_on name grants ≡ true
  pub new : AreNew t.book.rows grants
  pub fit : grants ≢ [] → IsSomeAnd (free_on t.book name) (λ free. Fits (total_of (sizes_of grants)) free)
