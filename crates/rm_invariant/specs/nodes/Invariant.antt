-- What holds at each node: its events in the scheduler's queue, against what the judge says is not worked off.
use Rattle.std.specs.Prelude.{◌≡◌, ℕ, ◌==◌, nat_le, List, [], ◌∷◌, Bool, true, false, not, ◌&&◌, ◌||◌, filter, Option, None, Some}
use Rattle.std.specs.List.{list_any}
use Rattle.std.specs.Str.{bytes_eq}
use Rattle.rm_types.specs.declared.ids.ContainerId.{ContainerId}
use Rattle.rm_types.specs.Lists.{is_nil}
use Rattle.rm_model.specs.State.{NodeState, Phase, Row, Undone, Registered, Beat, Expired}
use Rattle.rm_model.specs.Facts.{has_container}
use Rattle.rm_model.specs.Containers.{ids_on}
use Rattle.rm_model.specs.Nodes.{without_idle, is_waiting, judged_node}
use Rattle.rm_tables.specs.declared.events.SchedEvent.{SchedEvent}
use Rattle.rm_tables.specs.declared.events.SchedEvent.TheVariants.{NodeAdded, NodeDone, NodeUpdate, NodeLost}

-- it has nothing left to do, told from the parts of a node that are looked at
abbrev pub is_idle_by : Phase → ℕ → List ContainerId → Undone → Bool
is_idle_by phase turn on (Registered one) = not (one == turn) || not (is_waiting phase)
is_idle_by phase turn on (Beat done) = false
is_idle_by phase turn on Expired = is_nil on

-- the event is of this node
abbrev pub is_nodes_event : List ℕ → SchedEvent → Bool
is_nodes_event name (NodeAdded node turn) = bytes_eq node name
is_nodes_event name (NodeDone node list) = bytes_eq node name
is_nodes_event name (NodeUpdate node) = bytes_eq node name
is_nodes_event name (NodeLost node) = bytes_eq node name
is_nodes_event name _ = false

-- what a node's events are still to work off, where a done list was worked off before the first of them: a done list and
-- the update after it are one beat
abbrev pub pending : List SchedEvent → List ContainerId → List Undone
pending [] half = []
pending (NodeAdded node turn ∷ more) half = Registered turn ∷ pending more []
pending (NodeDone node list ∷ more) half = pending more list
pending (NodeUpdate node ∷ more) half = Beat half ∷ pending more []
pending (NodeLost node ∷ more) half = Expired ∷ pending more []
pending (_ ∷ more) half = pending more half

-- an update follows each done list at once
abbrev pub UpdatesFollow : List SchedEvent → List ContainerId → Type 0
UpdatesFollow [] half = half ≡ []
UpdatesFollow (NodeAdded node turn ∷ more) half = (half ≡ []) × UpdatesFollow more []
UpdatesFollow (NodeDone node list ∷ more) half = (half ≡ []) × UpdatesFollow more list
UpdatesFollow (NodeUpdate node ∷ more) half = UpdatesFollow more []
UpdatesFollow (NodeLost node ∷ more) half = (half ≡ []) × UpdatesFollow more []
UpdatesFollow (_ ∷ more) half = ⊥

-- no registration among them has a turn above the node's last
abbrev pub are_turns : ℕ → List Undone → Bool
are_turns turn [] = true
are_turns turn (Registered one ∷ more) = nat_le one turn && are_turns turn more
are_turns turn (Beat done ∷ more) = are_turns turn more
are_turns turn (Expired ∷ more) = are_turns turn more

-- what is looked at of a node
pub record NodeView : Type 0 where
  -- by the table
  pub turn : ℕ
  pub phase : Phase
  -- by the book
  pub on : List ContainerId
  -- by the queue
  pub events : List SchedEvent
  -- by the judge
  pub undone : List Undone
  pub astray : ContainerId → Bool

-- what has nothing to do, as things stand
abbrev pub idle_in : NodeView → Undone → Bool
idle_in v = is_idle_by v.phase v.turn v.on

-- what holds at a node: its events are what isn't worked off; where the first beat's done list was worked off, none of it is
-- on the node or astray
pub record RegisteredInvariant (v : NodeView) : Type 0 where
  pub half : List ContainerId
  pub paired : UpdatesFollow v.events half
  pub gone : list_any (has_container v.on) half ≡ false
  pub clear : list_any v.astray half ≡ false
  pub turns : are_turns v.turn (pending v.events half) ≡ true
  pub same : v.undone ≡ without_idle (idle_in v) (pending v.events half)

-- the events of a node in the scheduler's queue
abbrev pub events_of : List ℕ → List SchedEvent → List SchedEvent
events_of name sched = filter (is_nodes_event name) sched

-- a node with its events, the containers on it, and what is astray
abbrev pub node_view : (ContainerId → Bool) → NodeState → List SchedEvent → List ContainerId → NodeView
node_view astray node events on = record { turn = node.last.turn; phase = node.phase; on = on; events = events; undone = node.undone; astray = astray }

-- what holds of a name: where a node has it, and where none has
abbrev pub NodeInvariant : (ContainerId → Bool) → Option NodeState → List SchedEvent → List ContainerId → Type 0
NodeInvariant astray None events on = (events ≡ []) × (on ≡ [])
NodeInvariant astray (Some node) events on = RegisteredInvariant (node_view astray node events on)

-- it holds of every name there may be, with the node, the events and the containers that have it
abbrev pub NodesInvariant : (ContainerId → Bool) → List NodeState → List Row → List SchedEvent → Type 0
NodesInvariant astray nodes book sched = (q : List ℕ) → NodeInvariant astray (judged_node nodes q) (events_of q sched) (ids_on book q)
