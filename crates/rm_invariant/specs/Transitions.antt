-- How the states of applications, attempts, nodes and containers go by a move: along a row of their tables, or not at all. This project's own.
use Rattle.std.specs.Prelude.{◌≡◌, ◌⊎◌, ℕ, ◌+◌, List, Option, None, Some}
use Rattle.rm_types.specs.declared.ids.AppId.{AppId}
use Rattle.rm_states.specs.declared.app.states.AppState.{AppState}
use Rattle.rm_states.specs.declared.app.states.AppEvent.{AppEvent}
use Rattle.rm_states.specs.declared.app.states.AppAction.{AppAction}
use Rattle.rm_states.specs.app.Table.{AppTransition as AppTableRow}
use Rattle.rm_states.specs.declared.attempt.states.AttemptState.{AttemptState}
use Rattle.rm_states.specs.declared.attempt.states.AttemptState.TheVariants.{Ended, Scheduled}
use Rattle.rm_states.specs.declared.attempt.states.AttemptEvent.{AttemptEvent}
use Rattle.rm_states.specs.declared.attempt.states.AttemptAction.{AttemptAction}
use Rattle.rm_states.specs.attempt.Table.{AttemptTransition as AttemptTableRow}
use Rattle.rm_states.specs.declared.node.states.NodeState.{NodeState}
use Rattle.rm_states.specs.declared.node.states.NodeEvent.{NodeEvent}
use Rattle.rm_states.specs.declared.node.states.NodeAction.{NodeAction}
use Rattle.rm_states.specs.node.Table.{NodeTransition as NodeTableRow}
use Rattle.rm_types.specs.declared.containers.BookRow.{BookRow}
use Rattle.rm_types.specs.declared.containers.ContainerState.{ContainerState}
use Rattle.rm_types.specs.declared.containers.ContainerState.TheVariants.{Granted, Running, Completed}
use Rattle.rm_types.specs.declared.ids.ContainerId.{ContainerId}
use Rattle.rm_states.specs.declared.container.states.ContainerEvent.{ContainerEvent}
use Rattle.rm_states.specs.declared.container.states.ContainerEvent.TheVariants.{End}
use Rattle.rm_states.specs.declared.container.states.ContainerAction.{ContainerAction}
use Rattle.rm_states.specs.container.Table.{ContainerTransition as ContainerTableRow}
use Rattle.rm_book.specs.Books.{BookOf, book_row as book_row_of}
use Rattle.rm_tables.specs.declared.nodes.NodeRow.{NodeRow}
use Rattle.rm_tables.specs.Nodes.{node_row}
use Rattle.rm_tables.specs.declared.rows.AppRow.{AppRow}
use Rattle.rm_tables.specs.declared.rows.Current.{Current}
use Rattle.rm_tables.specs.Rows.{row_of}

-- an application's state stays, or a row of the applications' table leads from it to the next one
abbrev pub AppFollowsTable : AppState → AppState → Type 0
AppFollowsTable before now = (now ≡ before) ⊎ ((event : AppEvent) × (action : AppAction) × AppTableRow before event now action)

-- an attempt's state stays, or a row of the attempts' table leads from it to the next one
abbrev pub AttemptFollowsTable : AttemptState → AttemptState → Type 0
AttemptFollowsTable before now = (now ≡ before) ⊎ ((event : AttemptEvent) × (action : AttemptAction) × AttemptTableRow before event now action)

-- the current attempt stays the same one, whose state goes so, or it has ended and the next one is scheduled; none is forgotten
abbrev pub CurrentFollowsTable : Option Current → Option Current → Type 0
CurrentFollowsTable before None = before ≡ None
CurrentFollowsTable None (Some now) = now.state ≡ Scheduled
CurrentFollowsTable (Some before) (Some now) = ((now.number ≡ before.number) × AttemptFollowsTable before.state now.state) ⊎ ((before.state ≡ Ended) × (now.number ≡ before.number + 1) × (now.state ≡ Scheduled))

-- a row of an application after a move
pub record RowFollowsTables (before now : AppRow) : Type 0 where
  pub state : AppFollowsTable before.state now.state
  pub current : CurrentFollowsTable before.current now.current

-- each application that is known before and after a move goes so
abbrev pub RowsFollowTables : List (AppId × Option AppRow) → List (AppId × Option AppRow) → Type 0
RowsFollowTables rows next = (id : AppId) (before now : AppRow) → row_of rows id ≡ Some before → row_of next id ≡ Some now → RowFollowsTables before now

-- a node's state stays, or a row of the nodes' table leads from it to the next one
abbrev pub NodeFollowsTable : NodeState → NodeState → Type 0
NodeFollowsTable before now = (now ≡ before) ⊎ ((event : NodeEvent) × (action : NodeAction) × NodeTableRow before event now action)

-- each node that is known before and after a move goes so
abbrev pub NodesFollowTable : List (List ℕ × NodeRow) → List (List ℕ × NodeRow) → Type 0
NodesFollowTable nodes next = (name : List ℕ) (before now : NodeRow) → node_row nodes name ≡ Some before → node_row next name ≡ Some now → NodeFollowsTable before.state now.state

-- a container's state stays, or a row of the containers' table leads from it to the next one
abbrev pub ContainerFollowsTable : ContainerState → ContainerState → Type 0
ContainerFollowsTable before now = (now ≡ before) ⊎ ((event : ContainerEvent) × (action : ContainerAction) × ContainerTableRow before event now action)

-- a container, by its rows in the book before and after a move: one that stays goes so; one that leaves goes to its last state, by its
-- end; and one that comes was granted by a pass, or runs, as its node reported it
abbrev pub BookRowFollowsTable : Option BookRow → Option BookRow → Type 0
BookRowFollowsTable None None = Unit {0}
BookRowFollowsTable None (Some now) = (now.state ≡ Granted) ⊎ (now.state ≡ Running)
BookRowFollowsTable (Some before) None = (action : ContainerAction) × ContainerTableRow before.state End Completed action
BookRowFollowsTable (Some before) (Some now) = ContainerFollowsTable before.state now.state

-- each container that is in the book before a move or after it goes so
abbrev pub BookFollowsTable : BookOf → BookOf → Type 0
BookFollowsTable book next = (id : ContainerId) → BookRowFollowsTable (book_row_of book id) (book_row_of next id)
