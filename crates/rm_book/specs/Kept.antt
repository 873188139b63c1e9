-- How a book is kept: its rows under their containers' ids, the containers of each node and of each application, those of each
-- attempt that nobody was told of, and what stands on each node. This project's own.
use Rattle.std.specs.Prelude.{◌≡◌, ℕ, ◌+◌, ◌-◌, ◌≤◌, Bool, false, List, [], ◌∷◌, ◌++◌, map, filter, Option, None, Some, IfSome, if◌then◌else◌}
use Rattle.std.specs.List.{list_any}
use Rattle.std.specs.Str.{bytes_eq}
use Rattle.std.specs.Map.{keys_of, values_of, lookup}
use Rattle.rm_types.specs.declared.containers.BookRow.{BookRow}
use Rattle.rm_types.specs.declared.ids.AppId.{AppId}
use Rattle.rm_types.specs.declared.ids.AttemptId.{AttemptId}
use Rattle.rm_types.specs.declared.ids.ContainerId.{ContainerId}
use Rattle.rm_types.specs.Ids.{is_app, is_attempt, is_container}
use Rattle.indexmap.specs.IndexSet.{remove_key}
use Rattle.rm_types.specs.declared.resources.Resource.{Resource}
use Rattle.rm_types.specs.declared.containers.ContainerState.{ContainerState}
use Rattle.rm_types.specs.declared.containers.Grant.{Grant}
use Rattle.rm_types.specs.declared.containers.Held.{Held}
use Rattle.rm_book.specs.declared.node_table.NodeLoad.{NodeLoad}
use Rattle.rm_book.specs.declared.node_table.SizeSum.{SizeSum}
use Rattle.rm_book.specs.declared.plain.NodeCapability.{NodeCapability}
use Rattle.rm_book.specs.Books.{BookRowsAreApart, IsBook, is_of, total_on}
use Rattle.rm_types.specs.Containers.{is_held}
use Rattle.rm_book.specs.Granted.{is_granted_to}

-- the containers of a group, if there is one
abbrev pub ids_in : Option (List (ContainerId × Unit {0})) → List ContainerId
ids_in None = []
ids_in (Some group) = keys_of group

-- the containers under a key
abbrev pub ids_under : {K : Type 0} → (K → K → Bool) → List (K × List (ContainerId × Unit {0})) → K → List ContainerId
ids_under eq groups key = ids_in (lookup (eq key) groups)

-- a row under its container's id
abbrev pub by_id : BookRow → ContainerId × BookRow
by_id row = (row.id, row)

-- the containers of the rows that pass a test
abbrev pub ids_where : (BookRow → Bool) → List BookRow → List ContainerId
ids_where test rows = map (λ row. row.id) (filter test rows)

-- each row stands under its container's id, no two are of one container, and the containers of a node and of an application are
-- those of its rows, in order; so are the containers that were granted to an attempt and nobody was told of yet
pub record RowsAreIndexed (list : List (ContainerId × BookRow)) (nodes : List (List ℕ × List (ContainerId × Unit {0}))) (apps : List (AppId × List (ContainerId × Unit {0})))
    (untold : List (AttemptId × List (ContainerId × Unit {0}))) : Type 0 where
  pub own : list ≡ map by_id (values_of list)
  pub apart : BookRowsAreApart (values_of list)
  pub by_node : (node : List ℕ) → ids_under bytes_eq nodes node ≡ ids_where (λ row. bytes_eq row.node node) (values_of list)
  pub by_app : (app : AppId) → ids_under is_app apps app ≡ ids_where (λ row. is_app row.id.attempt.app app) (values_of list)
  pub by_attempt : (attempt : AttemptId) → ids_under is_attempt untold attempt ≡ ids_where (is_granted_to attempt) (values_of list)

-- the containers under each key are those that were there, with one more under each key that passes a test
abbrev pub AreWith : {K : Type 0} → (K → K → Bool) → (K → Bool) → ContainerId → List (K × List (ContainerId × Unit {0})) → List (K × List (ContainerId × Unit {0})) → Type 0
AreWith {K} eq test id old new = (key : K) → ids_under eq new key ≡ (if test key then ids_under eq old key ++ id ∷ [] else ids_under eq old key)

-- the same without one
abbrev pub AreWithout : {K : Type 0} → (K → K → Bool) → (K → Bool) → ContainerId → List (K × List (ContainerId × Unit {0})) → List (K × List (ContainerId × Unit {0})) → Type 0
AreWithout {K} eq test id old new = (key : K) → ids_under eq new key ≡ (if test key then remove_key (is_container id) (ids_under eq old key) else ids_under eq old key)

-- the same as they were
abbrev pub AreSame : {K : Type 0} → (K → K → Bool) → List (K × List (ContainerId × Unit {0})) → List (K × List (ContainerId × Unit {0})) → Type 0
AreSame {K} eq old new = (other : K) → ids_under eq new other ≡ ids_under eq old other

-- the nodes that have a capability, in order, as a book shows them
abbrev pub nodes_shown : List (List ℕ × NodeLoad) → List NodeCapability
nodes_shown loads = map (λ load. record { node = load.0; capability = load.1.capability }) loads

-- what stands on a node fits it
abbrev pub FitsCapability : NodeLoad → Type 0
FitsCapability load = (load.used.memory_mb ≤ load.capability.memory_mb) × (load.used.vcores ≤ load.capability.vcores)

-- a sum with one more size
abbrev pub sum_with : SizeSum → Resource → SizeSum
sum_with sum size = record { memory_mb = sum.memory_mb + size.memory_mb; vcores = sum.vcores + size.vcores }

-- a sum is of that size at least
abbrev pub Holds : SizeSum → Resource → Type 0
Holds sum size = (size.memory_mb ≤ sum.memory_mb) × (size.vcores ≤ sum.vcores)

-- a sum without a size that it holds
abbrev pub sum_without : SizeSum → Resource → SizeSum
sum_without sum size = record { memory_mb = sum.memory_mb - size.memory_mb; vcores = sum.vcores - size.vcores }

-- what stands on a node, if it is known; else nothing
abbrev pub used_in : Option NodeLoad → SizeSum
used_in None = record { memory_mb = 0; vcores = 0 }
used_in (Some load) = load.used

-- a sum is that of these sizes
abbrev pub IsSum : SizeSum → Resource → Type 0
IsSum sum total = (sum.memory_mb ≡ total.memory_mb) × (sum.vcores ≡ total.vcores)

-- what is said to stand on each node is the size of its rows
abbrev pub AreUsed : List (List ℕ × NodeLoad) → List BookRow → Type 0
AreUsed loads rows = (node : List ℕ) → IfSome (lookup (bytes_eq node) loads) (λ load. IsSum load.used (total_on node rows))

-- what holds of the fields of a book: they show a book, and what is said to stand on each node stands there
pub record ShowsBook (loads : List (List ℕ × NodeLoad)) (rows : List BookRow) (added : ℕ) : Type 0 where
  pub book : IsBook (record { rows = rows; nodes = nodes_shown loads; added = added })
  pub used : AreUsed loads rows

-- the rows of containers that enter on a node in a state, numbered from behind so many that were added before
abbrev pub entered_rows : ContainerState → ℕ → List ℕ → List Held → List BookRow
entered_rows state added node [] = []
entered_rows state added node (held ∷ list) =
    record { id = held.id; node = node; size = held.size; state = state; told = added + 1 } ∷ entered_rows state (added + 1) node list

-- none of these containers has a row, and no two are one
abbrev pub AreFresh : List BookRow → List Held → Type 0
AreFresh rows [] = Unit {0}
AreFresh rows (held ∷ list) = (list_any (is_of held.id) rows ≡ false) × (is_held list held.id ≡ false) × AreFresh rows list

-- a grant's container, with its size
abbrev pub held_of : Grant → Held
held_of grant = record { id = grant.id; size = grant.size }
