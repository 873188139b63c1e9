-- What is said of nodes: how they stand, and what of them is not worked off. That a node registers and then beats is after
-- YARN's ResourceTracker; what is worked off, and when, is this project's own.
use Rattle.std.specs.Prelude.{ℕ, List, [], ◌∷◌, map, find, Bool, true, false, ◌||◌, not, ◌==◌, Option, None, Some, if◌then◌else◌}
use Rattle.std.specs.List.{list_any}
use Rattle.std.specs.Str.{bytes_eq}
use Rattle.rm_types.specs.declared.ids.ContainerId.{ContainerId}
use Rattle.rm_model.specs.State.{LifeState, NodeState, Phase, Waiting, Ready, Lost, Row, Undone, Registered, Beat, Expired}

-- it registered and was not absorbed since
abbrev pub is_waiting : Phase → Bool
is_waiting Waiting = true
is_waiting Ready = false
is_waiting Lost = false

-- it was absorbed, and its lease has not run out since
abbrev pub is_ready : Phase → Bool
is_ready Waiting = false
is_ready Ready = true
is_ready Lost = false

-- the state of a node, if it registered in this life
abbrev pub judged_node : List NodeState → List ℕ → Option NodeState
judged_node nodes name = find (λ node. bytes_eq node.name name) nodes

-- the nodes with one of them changed
abbrev pub with_judged_node : (NodeState → NodeState) → List ℕ → List NodeState → List NodeState
with_judged_node change name nodes = map (λ node. if bytes_eq node.name name then change node else node) nodes

-- the done list of the beat at the front of what is not worked off, where a beat stands there
abbrev pub beat_at : List Undone → Option (List ContainerId)
beat_at [] = None
beat_at (Registered turn ∷ more) = None
beat_at (Beat done ∷ more) = Some done
beat_at (Expired ∷ more) = None

-- an expiry stands there
abbrev pub expiry_at : List Undone → Bool
expiry_at [] = false
expiry_at (Registered turn ∷ more) = false
expiry_at (Beat done ∷ more) = false
expiry_at (Expired ∷ more) = true

-- nothing is left to do: of a registration that is not its node's last, or whose node isn't waiting; and of an expiry while
-- nothing stands on its node
abbrev pub is_idle : List Row → NodeState → Undone → Bool
is_idle book node (Registered turn) = not (turn == node.last.turn) || not (is_waiting node.phase)
is_idle book node (Beat done) = false
is_idle book node Expired = not (list_any (λ row. bytes_eq row.node node.name) book)

-- what is not worked off, without what has nothing left to do at its front
abbrev pub without_idle : (Undone → Bool) → List Undone → List Undone
without_idle idle [] = []
without_idle idle (one ∷ more) = if idle one then without_idle idle more else one ∷ more

-- a node from whose front that is gone
abbrev pub tidied_node : List Row → NodeState → NodeState
tidied_node book node = record node { undone = without_idle (is_idle book node) node.undone }

-- a life in which it is gone at each node
abbrev pub tidied : LifeState → LifeState
tidied life = record life { nodes = map (tidied_node life.book) life.nodes }
