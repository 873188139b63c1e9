-- What is taken of a node's report when its registration is absorbed. That a manager rebuilds its containers from what nodes
-- report when they register again is after YARN's page on work-preserving ResourceManager Restart and YARN-556; which of them
-- are taken is this project's own.
use Rattle.std.specs.Prelude.{ℕ, List, [], ◌∷◌, ◌++◌, map, filter, fold, Bool, true, false, ◌&&◌, not, nat_lt, Option, None, Some, is_some, option_map, if◌then◌else◌}
use Rattle.rm_types.specs.declared.containers.Cause.TheVariants.{Gone}
use Rattle.rm_types.specs.declared.containers.ContainerState.TheVariants.{Running}
use Rattle.rm_types.specs.declared.containers.Held.{Held}
use Rattle.rm_types.specs.declared.ids.ContainerId.{ContainerId}
use Rattle.rm_types.specs.declared.resources.Resource.{Resource}
use Rattle.rm_types.specs.declared.settings.Settings.{Settings}
use Rattle.rm_types.specs.Passes.{total_of}
use Rattle.rm_types.specs.Resources.{difference_of, fits}
use Rattle.rm_model.specs.State.{LifeState, NodeState, Ready, Row, Scene}
use Rattle.rm_model.specs.Attempts.{attempt_was_first, is_wanted}
use Rattle.rm_model.specs.Containers.{ids_on, is_living, is_pending, leave, lives_elsewhere, lives_on, judged_row}
use Rattle.rm_model.specs.Nodes.{tidied, with_judged_node}
use Rattle.rm_types.specs.Containers.{is_held}

-- a container that is reported at its node's first absorption in a life, with the reported size: its epoch is below the
-- life's, and its attempt was kept when the life began
abbrev pub as_reported : Scene → Held → Option Held
as_reported m held = if nat_lt held.id.epoch m.life.epoch && attempt_was_first m held.id.attempt then Some held else None

-- a container that is reported at a later one, with the size that it has in the book: it lives on this node
abbrev pub as_booked : Scene → NodeState → Held → Option Held
as_booked m node held =
    if lives_on m.life.book node.name held.id then option_map (λ row. record { id = row.id; size = row.size }) (judged_row m.life.book held.id) else None

-- a reported container as it counts at this absorption, which is the node's first in this life where nothing says yet what it
-- offers
abbrev pub as_counted : Scene → NodeState → Held → Option Held
as_counted m node held = if is_some node.capability then as_booked m node held else as_reported m held

-- what is left of what the node offers beside what was taken so far
abbrev pub left_beside : NodeState → List Held → Resource
left_beside node taken = difference_of node.last.capability (total_of (map (λ held. held.size) taken))

-- a container that counts may be taken: it isn't pending, it wasn't taken before, it is wanted, it doesn't live on another node,
-- and it fits what is left. That a released container isn't recovered is after YARN's `pendingRelease`
abbrev pub may_take : Settings → Scene → NodeState → List Held → Held → Bool
may_take settings m node taken held =
    not (is_pending settings m held.id)
    && (not (is_held taken held.id)
    && (is_wanted m held.id
    && (not (lives_elsewhere m.life.book node.name held.id)
    && fits held.size (left_beside node taken))))

-- what was taken so far and, where it counts and may be taken, one more
abbrev pub with_counted : Settings → Scene → NodeState → List Held → Option Held → List Held
with_counted settings m node taken None = taken
with_counted settings m node taken (Some held) = if may_take settings m node taken held then taken ++ held ∷ [] else taken

-- the containers that are taken of a node's report, in its order
abbrev pub taken_of : Settings → Scene → NodeState → List Held
taken_of settings m node = fold (λ taken held. with_counted settings m node taken (as_counted m node held)) [] node.last.running

-- what stood on the node and isn't taken
abbrev pub not_taken : Scene → NodeState → List Held → List ContainerId
not_taken m node taken = filter (λ id. not (is_held taken id)) (ids_on m.life.book node.name)

-- a row after an absorption on its node: Running where it was taken
abbrev pub row_taken : List Held → Row → Row
row_taken taken row = if is_held taken row.id then record row { state = Running } else row

-- a row as it enters the book by an absorption: untold
abbrev pub row_absorbed : List ℕ → Held → Row
row_absorbed name held = record { id = held.id; node = name; size = held.size; state = Running; released = false; untold = true }

-- the book after these were taken on a node: those that stood there are Running in their old place, the others enter Running
abbrev pub book_taken : List ℕ → List Held → List Row → List Row
book_taken name taken book = map (row_taken taken) book ++ map (row_absorbed name) (filter (λ held. not (is_living book held.id)) taken)

-- a node after its registration was absorbed
abbrev pub absorbed : NodeState → NodeState
absorbed node = record node { phase = Ready; capability = Some node.last.capability }

-- a life with the containers taken on a node that was absorbed
abbrev pub with_taken : List ℕ → List Held → LifeState → LifeState
with_taken name taken life = record life { book = book_taken name taken life.book; nodes = with_judged_node absorbed name life.nodes }

-- the life after an absorption: what wasn't taken leaves, and what was taken stands; the node is ready, so that nothing is left
-- to do of its registration
abbrev pub absorbs : Scene → List ℕ → List Held → List ContainerId → LifeState
absorbs m name taken ended = tidied (with_taken name taken (leave m Gone ended))
