-- What the tables and the judge's life have alike: the same containers in the same order, but for the numbers of rows and the marks of
-- releases; the same nodes by name, but for what is not worked off; the same asks, attempt by attempt; the endings that masters were not told
-- yet, application by application; and of each application's current attempt the same dialogue. This project's own.
use Rattle.std.specs.Prelude.{◌≡◌, ℕ, List, [], Bool, true, false, ◌&&◌, ◌==◌, nat_le, nat_lt, Option, None, Some, is_some, option_map, filter, find, map, count_by}
use Rattle.rm_types.specs.declared.containers.AskOf.{AskOf}
use Rattle.rm_types.specs.declared.containers.BookRow.{BookRow}
use Rattle.rm_types.specs.declared.containers.ClosingOf.{ClosingOf}
use Rattle.rm_types.specs.declared.containers.ContainerState.{ContainerState}
use Rattle.rm_types.specs.declared.ids.AppId.{AppId}
use Rattle.rm_types.specs.declared.ids.AttemptId.{AttemptId}
use Rattle.rm_types.specs.declared.ids.ContainerId.{ContainerId}
use Rattle.rm_types.specs.declared.replies.Reply.{Reply}
use Rattle.rm_types.specs.declared.resources.Resource.{Resource}
use Rattle.rm_types.specs.Ids.{is_app, is_attempt}
use Rattle.rm_book.specs.AskTables.{AsksOf, attempt_asks as asks_in}
use Rattle.rm_book.specs.Books.{BookOf, capability_of}
use Rattle.rm_model.specs.Passing.{asks_of as asks_told}
use Rattle.rm_model.specs.State.{MasterState, NodeState, Phase, Waiting, Ready, Lost, Registration, Row}
use Rattle.rm_states.specs.declared.node.states.NodeState.{NodeState as NodePhase}
use Rattle.rm_states.specs.declared.node.states.NodeState.TheVariants as states
use Rattle.rm_tables.specs.declared.nodes.NodeRow.{NodeRow}
use Rattle.rm_tables.specs.declared.rows.AppRow.{AppRow}
use Rattle.rm_tables.specs.declared.rows.Current.{Current}
use Rattle.rm_tables.specs.declared.rows.Dialogue.{Dialogue}
use Rattle.rm_tables.specs.Nodes.{node_row as node_in}
use Rattle.rm_model.specs.Nodes.{judged_node as node_told}

-- a living container, as the tables and the judge both have it
pub record PlainRow : Type 0 where
  pub id : ContainerId
  pub node : List ℕ
  pub size : Resource
  pub state : ContainerState

-- a row of the tables without its number, and one of the judge's without its mark
abbrev pub bare_row : BookRow → PlainRow
bare_row row = record { id = row.id; node = row.node; size = row.size; state = row.state }

-- a row of the book in the judge's life without its mark
abbrev pub plain_row : Row → PlainRow
plain_row row = record { id = row.id; node = row.node; size = row.size; state = row.state }

-- the same containers live, in the same order of entering
abbrev pub SameRows : List BookRow → List Row → Type 0
SameRows rows book = map bare_row rows ≡ map plain_row book

-- how a node stands; none that registered is absent
abbrev pub phase_of : NodePhase → Phase
phase_of states.Absent = Lost
phase_of states.Waiting = Waiting
phase_of states.Ready = Ready
phase_of states.Lost = Lost

-- a node, as the tables and the judge both have it
pub record PlainNode : Type 0 where
  pub last : Registration
  pub phase : Phase
  pub capability : Option Resource
  pub last_id : ℕ
  pub last_reply : Reply
  pub launches : List ContainerId

-- a node of the tables, with what it offers as the book has it; and one of the judge's, without what is not worked off
abbrev pub bare_node : BookOf → List ℕ → NodeRow → PlainNode
bare_node book name row =
    record {
      last = record { turn = row.turn; capability = row.capability; running = row.running };
      phase = phase_of row.state;
      capability = capability_of book name;
      last_id = row.last_id;
      last_reply = row.last_reply;
      launches = row.launches;
    }

-- a node of the judge's life without what is not worked off
abbrev pub plain_node : NodeState → PlainNode
plain_node node =
    record {
      last = node.last;
      phase = node.phase;
      capability = node.capability;
      last_id = node.last_id;
      last_reply = node.last_reply;
      launches = node.launches;
    }

-- the same nodes registered, each found by its name
abbrev pub SameNodes : BookOf → List (List ℕ × NodeRow) → List NodeState → Type 0
SameNodes book rows nodes = (name : List ℕ) → option_map (bare_node book name) (node_in rows name) ≡ option_map plain_node (node_told nodes name)

-- each attempt asks for the same, in the same order of first asking
abbrev pub SameAsks : List AsksOf → List AskOf → Type 0
SameAsks table asks = (attempt : AttemptId) → asks_in table attempt ≡ asks_told asks attempt

-- the endings that masters of an application's attempts were not told yet
abbrev pub closings_for : List ClosingOf → AppId → List ClosingOf
closings_for outbox id = filter (λ one. is_app one.attempt.app id) outbox

-- what a row has of them; without a row there are none, unless the application was removed
abbrev pub ClosingsAgree : List ClosingOf → AppId → Bool → Option AppRow → Type 0
ClosingsAgree outbox id retired None = retired ≡ false → closings_for outbox id ≡ []
ClosingsAgree outbox id retired (Some row) = row.closings ≡ closings_for outbox id

-- what was said to a master and by it, as the tables and the judge both have it
pub record PlainDialogue : Type 0 where
  pub last_id : ℕ
  pub last_reply : Reply
  pub finishing : Option (List ℕ)

-- what was said to a master and by it, as the tables have it
abbrev pub bare_dialogue : Dialogue → PlainDialogue
bare_dialogue one = record { last_id = one.last_id; last_reply = one.last_reply; finishing = one.finishing }

-- what was said to a master and by it, as the judge's life has it
abbrev pub plain_dialogue : MasterState → PlainDialogue
plain_dialogue one = record { last_id = one.last_id; last_reply = one.last_reply; finishing = one.finishing }

-- the master of an attempt, where it registered
abbrev pub session_of : List MasterState → AttemptId → Option MasterState
session_of registered attempt = find (λ one. is_attempt one.attempt attempt) registered

-- how many containers were granted to an attempt
abbrev pub grants_of : List ContainerId → AttemptId → ℕ
grants_of granted attempt = count_by (λ id. is_attempt id.attempt attempt) granted

-- the current attempt has the dialogue of its master, and counts its grants; an attempt of a greater number has neither
abbrev pub CurrentAgrees : List MasterState → List ContainerId → AttemptId → AppRow → Current → Type 0
CurrentAgrees registered granted attempt row current =
    (option_map bare_dialogue row.dialogue ≡ option_map plain_dialogue (session_of registered attempt))
    × (current.registered ≡ is_some row.dialogue)
    × (current.granted ≡ grants_of granted attempt)

-- no master of the attempt registered in this life, and none of its containers was granted
abbrev pub HasNoSession : List MasterState → List ContainerId → AttemptId → Type 0
HasNoSession registered granted attempt = (session_of registered attempt ≡ None) × (grants_of granted attempt ≡ 0)

-- by whether the attempt is the current one, has a greater number, or a smaller one
abbrev pub NumberAgrees : Bool → Bool → List MasterState → List ContainerId → AttemptId → AppRow → Current → Type 0
NumberAgrees true later registered granted attempt row current = CurrentAgrees registered granted attempt row current
NumberAgrees false true registered granted attempt row current = HasNoSession registered granted attempt
NumberAgrees false false registered granted attempt row current = Unit {0}

-- by whether the application has a current attempt; where it has none, nobody spoke with a master of it
abbrev pub AttemptAgrees : List MasterState → List ContainerId → AttemptId → AppRow → Option Current → Type 0
AttemptAgrees registered granted attempt row None = HasNoSession registered granted attempt × (row.dialogue ≡ None)
AttemptAgrees registered granted attempt row (Some current) =
    NumberAgrees (current.number == attempt.number) (nat_lt current.number attempt.number) registered granted attempt row current

-- what a row says of an attempt of its application; without a row nothing was said to it and nothing granted, unless the application was
-- removed
abbrev pub RowAgrees : List MasterState → List ContainerId → Bool → AttemptId → Option AppRow → Type 0
RowAgrees registered granted retired attempt None = retired ≡ false → HasNoSession registered granted attempt
RowAgrees registered granted retired attempt (Some row) = AttemptAgrees registered granted attempt row row.current

-- the attempt is one of so many that were kept when the life began
abbrev pub is_among_first : AttemptId → ℕ → Bool
is_among_first attempt first = nat_lt 0 attempt.number && nat_le attempt.number first
