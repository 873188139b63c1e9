-- What is in its range in a life, between two moves: what is recorded and what awaits, the rows of applications and of nodes, what is asked for,
-- what stands in the book, and the numbers that messages make rise. This project's own.
use Rattle.std.specs.Prelude.{◌≡◌, ◌<◌, ◌≤◌, ◌+◌, ◌-◌, ◌*◌, ℕ, List, Bool, true, false, Option, None, Some, count_by}
use Rattle.rm_types.specs.declared.containers.Ask.{Ask}
use Rattle.rm_types.specs.declared.containers.BookRow.{BookRow}
use Rattle.rm_types.specs.declared.ids.AppId.{AppId}
use Rattle.rm_types.specs.declared.ids.AttemptId.{AttemptId}
use Rattle.rm_types.specs.declared.operations.How.{How}
use Rattle.rm_types.specs.declared.records.AppRecord.{AppRecord}
use Rattle.rm_types.specs.declared.records.AttemptRecord.{AttemptRecord}
use Rattle.rm_book.specs.declared.plain.NodeCapability.{NodeCapability}
use Rattle.rm_types.specs.declared.texts.TextKind.TheVariants.{Node, Note}
use Rattle.rm_types.specs.declared.limits.TheConstants.{EPOCHS, NUMBERS}
use Rattle.rm_types.specs.Ranges.{IsAppId, IsAttemptId, IsContainerId, IsMasterOf, IsOperation, IsSubmission, IsText, IsWithin}
use Rattle.rm_types.specs.Limits.{most_served}
use Rattle.rm_book.specs.AskTables.{AsksOf, attempt_asks}
use Rattle.rm_tables.specs.declared.events.SchedEvent.{SchedEvent}
use Rattle.rm_tables.specs.declared.events.SchedEvent.TheVariants as scheds
use Rattle.rm_tables.specs.declared.nodes.NodeRow.{NodeRow}
use Rattle.rm_tables.specs.declared.rows.AppRow.{AppRow}
use Rattle.rm_tables.specs.declared.rows.Current.{Current}
use Rattle.rm_tables.specs.declared.tables.Tables.{Tables}
use Rattle.rm_tables.specs.MainEvents.{finishing_in}
use Rattle.rm_tables.specs.Nodes.{node_row}
use Rattle.rm_tables.specs.Passing.{granted_number}
use Rattle.rm_tables.specs.Rows.{row_of}
use Rattle.rm_invariant.specs.nodes.Book.{All}
use Rattle.rm_types.specs.Messages.{IsSize, IsList, IsHeld}

-- what holds of a value where there is one
abbrev pub IfThere : {X : Type 0} → (X → Type 0) → Option X → Type 0
IfThere P None = Unit {0}
IfThere P (Some x) = P x

-- WHAT IS RECORDED

-- the text of an end
abbrev pub IsEnd : How × List ℕ → Type 0
IsEnd end = IsText Note end.1

-- an attempt that is recorded
pub record IsAttemptRecord (one : AttemptRecord) : Type 0 where
  pub id : IsAttemptId one.id
  pub master : IsMasterOf one.id one.master
  pub node : IsText Node one.node
  pub ending : IfThere IsEnd one.ending

-- an application that is recorded
pub record IsAppRecord (app : AppRecord) : Type 0 where
  pub id : IsAppId app.id
  pub submission : IsSubmission app.submission
  pub attempts : All IsAttemptRecord app.attempts
  pub ending : IfThere IsEnd app.ending

-- each of these records
abbrev pub AreRecords : List AppRecord → Type 0
AreRecords apps = All IsAppRecord apps

-- THE ROWS

-- the current attempt of an application: its number and the id of its master's container
pub record IsCurrent (current : Current) : Type 0 where
  pub number : IsWithin 1 (NUMBERS - 1) current.number
  pub master : IfThere IsContainerId current.master

-- the row of an application: what was submitted for it, its current attempt, and what the master of that one said as it finished
pub record IsRow (id : AppId) (row : AppRow) : Type 0 where
  pub named : IsAppId id
  pub pending : IfThere IsSubmission row.pending
  pub current : IfThere IsCurrent row.current
  pub said : IfThere (IsText Note) (finishing_in row.dialogue)

-- each of these rows
pub record AreRows (rows : List (AppId × Option AppRow)) : Type 0 where
  pub each : (id : AppId) (row : AppRow) → row_of rows id ≡ Some row → IsRow id row

-- the event makes a pass
abbrev pub is_update : SchedEvent → Bool
is_update (scheds.NodeUpdate node) = true
is_update _ = false

-- of an attempt, what was granted to it and what the passes on their way may yet grant are at most 256 a message
pub record AreGrants (rows : List (AppId × Option AppRow)) (sched : List SchedEvent) (served : ℕ) : Type 0 where
  pub each : (id : AttemptId) → granted_number id.number (row_of rows id.app) + 256 * count_by is_update sched ≤ 256 * served

-- ASKS, CONTAINERS AND NODES

-- what an attempt asks for
abbrev pub IsAsked : Ask → Type 0
IsAsked ask = IsSize ask.size

-- all that is asked for
pub record AreAsked (table : List AsksOf) : Type 0 where
  pub each : (attempt : AttemptId) → All IsAsked (attempt_asks table attempt)

-- a container in the book
pub record IsBooked (row : BookRow) : Type 0 where
  pub id : IsContainerId row.id
  pub node : IsText Node row.node
  pub size : IsSize row.size

-- what a node offers
pub record IsOffer (one : NodeCapability) : Type 0 where
  pub node : IsText Node one.node
  pub size : IsSize one.capability

-- the row of a node: its name, what it offers and what it reports to run
pub record IsNode (name : List ℕ) (row : NodeRow) : Type 0 where
  pub named : IsText Node name
  pub size : IsSize row.capability
  pub running : IsList IsHeld row.running

-- each of these rows
pub record AreNodes (nodes : List (List ℕ × NodeRow)) : Type 0 where
  pub each : (name : List ℕ) (row : NodeRow) → node_row nodes name ≡ Some row → IsNode name row

-- ALL OF IT

-- the numbers of a life that rise by its messages, of which there are fewer than 2^31
pub record AreCounts (t : Tables) : Type 0 where
  pub epoch : t.epoch < EPOCHS
  pub served : t.served ≤ most_served
  pub given : t.given ≤ t.served
  pub clock : t.clock ≤ 1000000000 * t.served

-- what is in its range in a life
pub record InBounds (t : Tables) : Type 0 where
  pub tree : AreRecords t.tree.apps
  pub awaiting : All IsOperation t.awaiting
  pub ended : All IsAppId t.ended
  pub rows : AreRows t.rows
  pub grants : AreGrants t.rows t.sched t.served
  pub asks : AreAsked t.asks
  pub book : All IsBooked t.book.rows
  pub offers : All IsOffer t.book.nodes
  pub nodes : AreNodes t.nodes
  pub counts : AreCounts t
