-- What holds of the book: facts at each row, each launch and each container that left.
use Rattle.std.specs.Prelude.{◌≡◌, ℕ, ◌≤◌, List, [], ◌∷◌, true, false, is_some, count_by, option_and_then}
use Rattle.rm_types.specs.declared.ids.ContainerId.{ContainerId}
use Rattle.rm_types.specs.Ids.{is_attempt}
use Rattle.rm_model.specs.State.{LifeState, NodeState, Row}
use Rattle.rm_model.specs.Facts.{has_container}
use Rattle.rm_model.specs.Containers.{is_living, lives_on}
use Rattle.rm_model.specs.Nodes.{judged_node}

-- a test of each item, as facts
abbrev pub All : {X : Type 0} → (X → Type 0) → List X → Type 0
All P [] = Unit {0}
All P (x ∷ xs) = P x × All P xs

-- no two rows are of one container
abbrev pub LivingRowsAreApart : List Row → Type 0
LivingRowsAreApart [] = Unit {0}
LivingRowsAreApart (row ∷ rows) = (is_living rows row.id ≡ false) × LivingRowsAreApart rows

-- a container of this life was granted in it
abbrev pub IsGranted : LifeState → ContainerId → Type 0
IsGranted life id = id.epoch ≡ life.epoch → id.seq ≤ count_by (λ one. is_attempt one.attempt id.attempt) life.granted

-- its node was absorbed in this life
abbrev pub IsAbsorbed : List NodeState → List ℕ → Type 0
IsAbsorbed nodes name = is_some (option_and_then (λ node. node.capability) (judged_node nodes name)) ≡ true

-- what holds of a row beside others, whatever else is said of it and of its attempt
abbrev pub BookRowInvariant : LifeState → (ContainerId → Type 0) → Row → Type 0
BookRowInvariant life more row = IsAbsorbed life.nodes row.node × IsGranted life row.id × (row.id.epoch ≡ life.epoch → has_container life.endings.left row.id ≡ false) × more row.id

-- each container that a node is to launch lives on it
abbrev pub AreLaunches : List Row → NodeState → Type 0
AreLaunches book node = All (λ id. lives_on book node.name id ≡ true) node.launches

-- no two rows are of one container, each row is as its life says, each container that left was granted, and each launch lives on its node
pub record BookInvariant (life : LifeState) (more : ContainerId → Type 0) : Type 0 where
  pub apart : LivingRowsAreApart life.book
  pub rows : All (BookRowInvariant life more) life.book
  pub left : All (IsGranted life) life.endings.left
  pub launches : All (AreLaunches life.book) life.nodes
