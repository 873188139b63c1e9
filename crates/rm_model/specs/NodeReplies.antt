-- What a node and the clock are answered, and how that changes the life. After YARN's ResourceTracker: a node registers and
-- reports its containers, and then beats in a dialogue of response ids; a resync asks it to register again with its containers
-- kept (YARN-556). Turns, the words and the order of refusals are this project's own; so are the lines of the clock, which stand
-- for real time and for YARN's monitors of liveness.
use Rattle.std.specs.Prelude.{ℕ, ◌+◌, List, [], ◌∷◌, ◌++◌, map, filter, Bool, true, ◌&&◌, ◌||◌, not, ◌==◌, nat_lt, Option, None, Some, if◌then◌else◌}
use Rattle.std.specs.Str.{bytes_eq}
use Rattle.rm_types.specs.declared.containers.ContainerState.TheVariants.{Acquired, Running}
use Rattle.rm_types.specs.declared.containers.Held.{Held}
use Rattle.rm_types.specs.declared.ids.ContainerId.{ContainerId}
use Rattle.rm_types.specs.declared.messages.ClockAsk.{ClockAsk}
use Rattle.rm_types.specs.declared.messages.ClockAsk.TheVariants.{Tick, ExpireNode, ExpireMaster}
use Rattle.rm_types.specs.declared.messages.NodeAsk.{NodeAsk}
use Rattle.rm_types.specs.declared.messages.NodeAsk.TheVariants.{Register as AskRegister, Beat as AskBeat}
use Rattle.rm_types.specs.declared.replies.Reply.{Reply}
use Rattle.rm_types.specs.declared.replies.Reply.TheVariants.{NodeRegistered, Resync, Beat as TellBeat, Unknown, Ok}
use Rattle.rm_types.specs.Records.{is_some_and}
use Rattle.rm_model.specs.State.{LifeState, NodeState, Registration, Row, Scene, Waiting, Lost, Registered, Beat, Expired}
use Rattle.rm_model.specs.Facts.{has_container}
use Rattle.rm_model.specs.Attempts.{is_live}
use Rattle.rm_model.specs.Containers.{lives_on, once}
use Rattle.rm_types.specs.Containers.{is_granted}
use Rattle.rm_model.specs.Nodes.{is_ready, is_waiting, judged_node, tidied, with_judged_node}

-- a node's turn is above the last one in this life
abbrev pub is_later_turn : ℕ → Option NodeState → Bool
is_later_turn turn None = true
is_later_turn turn (Some node) = nat_lt node.last.turn turn

-- what a registration is answered: its turn, or the last one where it isn't above that (it is a repeat), and the life's epoch
abbrev pub node_register_reply : Scene → ℕ → Option NodeState → Reply
node_register_reply m turn None = NodeRegistered turn m.life.epoch
node_register_reply m turn (Some node) = NodeRegistered (if nat_lt node.last.turn turn then turn else node.last.turn) m.life.epoch

-- the containers that a node reports as running
abbrev pub reported : List Held → List ContainerId
reported running = map (λ held. held.id) running

-- the containers that a node is to clean (YARN's containers to clean up): those that it reports as running and that aren't in the
-- book on it; in the report's order, each once
abbrev pub strangers : Scene → List ℕ → List Held → List ContainerId
strangers m name running = once (filter (λ id. not (lives_on m.life.book name id)) (reported running))

-- what a beat is answered that isn't refused: the next id and, where the node is ready, what it is to launch and to clean. A node
-- whose report wasn't absorbed yet is told neither, so that nothing that it kept over a restart is killed
abbrev pub beaten_reply : Scene → NodeState → List Held → Reply
beaten_reply m node running =
    if is_ready node.phase then TellBeat (node.last_id + 1) node.launches (strangers m node.name running) else TellBeat (node.last_id + 1) [] []

-- what a beat is answered, of a node that didn't register in this life, and of one that did, the first that holds: its lease ran
-- out; its id is one below the last, and it is answered as before; its id isn't the last; it is taken
abbrev pub beat_reply : Scene → ℕ → List Held → Option NodeState → Reply
beat_reply m id running None = Resync
beat_reply m id running (Some node) =
    if not (is_waiting node.phase || is_ready node.phase) then Resync else
    (if id + 1 == node.last_id then node.last_reply else
    (if not (id == node.last_id) then Resync else beaten_reply m node running))

-- what a node is answered
abbrev pub node_reply : Scene → List ℕ → NodeAsk → Reply
node_reply m name (AskRegister turn capability running) = node_register_reply m turn (judged_node m.life.nodes name)
node_reply m name (AskBeat id running done) = beat_reply m id running (judged_node m.life.nodes name)

-- a node may expire that registered in this life and isn't lost
abbrev pub may_expire : Scene → List ℕ → Bool
may_expire m name = is_some_and (λ node. is_waiting node.phase || is_ready node.phase) (judged_node m.life.nodes name)

-- what the clock is answered: a node may expire that isn't lost, and the master of a live attempt
abbrev pub clock_reply : Scene → ClockAsk → Reply
clock_reply m (Tick time) = Ok
clock_reply m (ExpireNode name) = if may_expire m name then Ok else Unknown
clock_reply m (ExpireMaster attempt) = if is_live m attempt then Ok else Unknown

-- a node after a later registration: it waits to be absorbed, and its last id is 0
abbrev pub node_after_registration : Registration → Reply → NodeState → NodeState
node_after_registration registration reply node =
    record node {
      last = registration;
      phase = Waiting;
      last_id = 0;
      last_reply = reply;
      undone = node.undone ++ Registered registration.turn ∷ [];
    }

-- a node after its first registration in this life
abbrev pub new_node : List ℕ → Registration → Reply → NodeState
new_node name registration reply =
    record {
      name = name;
      last = registration;
      phase = Waiting;
      capability = None;
      last_id = 0;
      last_reply = reply;
      launches = [];
      undone = Registered registration.turn ∷ [];
    }

-- the nodes after a registration, where the node didn't register in this life before, and where it did
abbrev pub nodes_registered : Scene → List ℕ → Registration → Reply → Option NodeState → List NodeState
nodes_registered m name registration reply None = m.life.nodes ++ new_node name registration reply ∷ []
nodes_registered m name registration reply (Some node) = with_judged_node (node_after_registration registration reply) name m.life.nodes

-- a row after a beat of its node: Running where the node reported it, else Acquired where the node was told to launch it
-- and nobody was told of it before. Rows on other nodes stay
abbrev pub row_beaten : List ℕ → List ContainerId → List ContainerId → Row → Row
row_beaten name running launched row =
    if not (bytes_eq row.node name) then row else
    (if has_container running row.id then record row { state = Running } else
    (if has_container launched row.id && is_granted row.state then record row { state = Acquired } else row))

-- a node after a new beat: what it was told to launch is no more to be told, and the beat is to be worked off
abbrev pub beaten : List ContainerId → List ContainerId → Reply → NodeState → NodeState
beaten launched done reply node =
    record node {
      last_id = node.last_id + 1;
      last_reply = reply;
      launches = filter (λ id. not (has_container launched id)) node.launches;
      undone = node.undone ++ Beat done ∷ [];
    }

-- the id is the last one that the node was answered, so that the message is new
abbrev pub is_new_to_node : Scene → List ℕ → ℕ → Bool
is_new_to_node m name id = is_some_and (λ node. id == node.last_id) (judged_node m.life.nodes name)

-- a new beat changes the rows on the node, and the node
abbrev pub beats : Scene → List ℕ → List Held → List ContainerId → List ContainerId → Reply → LifeState
beats m name running done launched reply =
    record m.life {
      book = map (row_beaten name (reported running) launched) m.life.book;
      nodes = with_judged_node (beaten launched done reply) name m.life.nodes;
    }

-- the life after a node was answered: a later registration changes it, and a beat that isn't refused or repeated; nothing else
abbrev pub life_after_node : Scene → List ℕ → NodeAsk → Reply → LifeState
life_after_node m name (AskRegister turn capability running) (NodeRegistered told epoch) =
    if is_later_turn turn (judged_node m.life.nodes name) then
    tidied (record m.life {
      nodes =
          nodes_registered m name (record { turn = turn; capability = capability; running = running }) (NodeRegistered told epoch) (judged_node m.life.nodes name);
    })
    else m.life
life_after_node m name (AskBeat id running done) (TellBeat next launch clean) =
    if is_new_to_node m name id then beats m name running done launch (TellBeat next launch clean) else m.life
life_after_node m name _ _ = m.life

-- a node after its lease ran out
abbrev pub expired : NodeState → NodeState
expired node = record node { phase = Lost; undone = node.undone ++ Expired ∷ [] }

-- the life after the clock was answered: the time goes on, a node is lost at once, a master's lease has run out
abbrev pub life_after_clock : Scene → ClockAsk → Reply → LifeState
life_after_clock m (Tick time) Ok = record m.life { now = m.life.now + time }
life_after_clock m (ExpireNode name) Ok = tidied (record m.life { nodes = with_judged_node expired name m.life.nodes })
life_after_clock m (ExpireMaster attempt) Ok = record m.life { masters = record m.life.masters { expired = m.life.masters.expired ++ attempt ∷ [] } }
life_after_clock m _ _ = m.life
