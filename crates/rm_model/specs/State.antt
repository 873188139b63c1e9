-- The state of a manager that never dies: plain lists and records. It has no queue of events, no table of transitions, no
-- journal, no index and no running total. What a manager knows of applications, attempts, containers and nodes is after YARN's
-- page on ResourceManager Restart and the design YARN-556; that it is told so, and in these parts, is this project's own.
use Rattle.std.specs.Prelude.{ℕ, List, [], Bool, false, Option, None}
use Rattle.rm_types.specs.declared.containers.AskOf.{AskOf}
use Rattle.rm_types.specs.declared.containers.ClosingOf.{ClosingOf}
use Rattle.rm_types.specs.declared.containers.ContainerState.{ContainerState}
use Rattle.rm_types.specs.declared.containers.Held.{Held}
use Rattle.rm_types.specs.declared.ids.AppId.{AppId}
use Rattle.rm_types.specs.declared.ids.AttemptId.{AttemptId}
use Rattle.rm_types.specs.declared.ids.ContainerId.{ContainerId}
use Rattle.rm_types.specs.declared.operations.Op.{Op}
use Rattle.rm_types.specs.declared.operations.Submitted.{Submitted}
use Rattle.rm_types.specs.declared.replies.Reply.{Reply}
use Rattle.rm_types.specs.declared.resources.Resource.{Resource}
use Rattle.rm_types.specs.Records.{Records, records}

-- what this life knows of applications, beside what is recorded of them (`RMApp` in YARN)
pub record Applications : Type 0 where
  -- submitted in this life and not kept, in order
  pub submitted : List Submitted
  -- those that clients wished to kill
  pub wishes : List AppId
  -- those that were accepted
  pub accepted : List AppId
  -- those whose Remove was kept: they are no longer remembered
  pub retired : List AppId

-- a master that registered in this life (an ApplicationMaster in YARN): its attempt, the last response id that it was answered
-- and what it was answered then, and what it said when it finished, once it did
pub record MasterState : Type 0 where
  pub attempt : AttemptId
  pub last_id : ℕ
  pub last_reply : Reply
  pub finishing : Option (List ℕ)

-- what this life knows of masters
pub record Masters : Type 0 where
  pub registered : List MasterState
  -- the attempts whose master's lease ran out (its liveness expired, in YARN)
  pub expired : List AttemptId
  -- the masters' containers that were ordered on their nodes, as YARN's launcher of ApplicationMasters does
  pub ordered : List ContainerId

-- a living container (`RMContainer` in YARN): on which node, of what size, how far it has come, whether it was released, and
-- whether it is untold: an absorption took it in, and no master of a later attempt was told of it since
pub record Row : Type 0 where
  pub id : ContainerId
  pub node : List ℕ
  pub size : Resource
  pub state : ContainerState
  pub released : Bool
  pub untold : Bool

-- the containers that an attempt released in one message
pub record Release : Type 0 where
  pub attempt : AttemptId
  pub list : List ContainerId

-- what this life knows of ended containers
pub record Endings : Type 0 where
  -- the endings that masters were not told yet, each with the attempt that is to be told (completed container statuses, in YARN)
  pub outbox : List ClosingOf
  -- all containers that left the book
  pub left : List ContainerId
  -- the releases that were served since the last Settled
  pub releases : List Release
  -- the containers that were released in this life while they were missing (`pendingRelease` of an attempt, in YARN's schedulers)
  pub pending : List ContainerId

-- a node's registration (that of a NodeManager, in YARN): its turn, which rises with each registration of the node, what it
-- offers, and what it reports as running
pub record Registration : Type 0 where
  pub turn : ℕ
  pub capability : Resource
  pub running : List Held

-- how a node stands: it registered and its report was not absorbed since; it was absorbed (`RUNNING` in YARN); or its lease
-- ran out (`LOST`)
pub data Phase : Type 0 where
  Waiting : Phase
  Ready : Phase
  Lost : Phase

-- what a node said or what happened to it, while that is not worked off: the registration of a turn, a beat with its done
-- list, an expiry
pub data Undone : Type 0 where
  Registered : (turn : ℕ) → Undone
  Beat : (done : List ContainerId) → Undone
  Expired : Undone

-- a node that registered in this life
pub record NodeState : Type 0 where
  pub name : List ℕ
  -- its last registration
  pub last : Registration
  pub phase : Phase
  -- what it offers, once it was absorbed in this life
  pub capability : Option Resource
  -- the last response id that it was answered, and what it was answered then
  pub last_id : ℕ
  pub last_reply : Reply
  -- the masters' containers that it is to launch and was not told yet
  pub launches : List ContainerId
  -- what is not worked off, in order; what has nothing left to do at the front falls away
  pub undone : List Undone

-- what belongs to one life, from a start of the manager to its crash; all of it falls with the life
pub record LifeState : Type 0 where
  -- the next epoch that was recorded when it began, so that each life whose Epoch is kept makes it greater by 1 (YARN-556); and its stamp,
  -- which stands in the ids that it gives (YARN's cluster timestamp)
  pub epoch : ℕ
  pub stamp : ℕ
  -- what was recorded when the life began
  pub first : Records
  -- its Epoch operation is kept
  pub is_open : Bool
  -- the first awaiting operation is with the store
  pub handed : Bool
  -- the store refused an operation, after which nothing more is kept in it
  pub blown : Bool
  -- milliseconds since it opened
  pub now : ℕ
  -- how many application ids it gave
  pub given : ℕ
  -- the containers that it granted, in order
  pub granted : List ContainerId
  pub apps : Applications
  pub masters : Masters
  -- what the attempts ask for, in order of first asking
  pub asks : List AskOf
  -- the living containers, in order of entering
  pub book : List Row
  pub endings : Endings
  pub nodes : List NodeState

-- the whole state
pub record Manager : Type 0 where
  -- the operations that are kept in the store, in order
  pub kept : List Op
  -- the operations that were issued and are not kept, in order
  pub awaiting : List Op
  -- the last life ended blown
  pub blew : Bool
  -- the life that stands, if one does
  pub life : Option LifeState

-- what the rules of a life look at: what is recorded by the kept operations, what awaits, and the life
pub record Scene : Type 0 where
  pub records : Records
  pub awaiting : List Op
  pub life : LifeState

-- the scene of a state in which this life stands
abbrev pub scene : Manager → LifeState → Scene
scene s life = record { records = records s.kept; awaiting = s.awaiting; life = life }

-- a life as it begins: nothing happened in it
abbrev pub new_life : ℕ → ℕ → Records → LifeState
new_life epoch stamp first =
    record {
      epoch = epoch;
      stamp = stamp;
      first = first;
      is_open = false;
      handed = false;
      blown = false;
      now = 0;
      given = 0;
      granted = [];
      apps = record { submitted = []; wishes = []; accepted = []; retired = [] };
      masters = record { registered = []; expired = []; ordered = [] };
      asks = [];
      book = [];
      endings = record { outbox = []; left = []; releases = []; pending = [] };
      nodes = [];
    }

-- before the first life: the store holds the opening list, and nothing else is there
abbrev pub opening_state : List Op → Manager
opening_state opening = record { kept = opening; awaiting = []; blew = false; life = None }
