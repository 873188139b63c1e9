-- What the tables are to launch, and what they know of applications, where containers leave. This project's own.
use Rattle.std.specs.Prelude.{◌≡◌, ◌⊎◌, ◌∷◌, [], ◌≢◌, ℕ, Option, List, Bool, true, false, None, Some, unwrap_or}
use Rattle.std.specs.List.{list_all, list_any}
use Rattle.rm_types.specs.declared.ids.AppId.{AppId}
use Rattle.rm_types.specs.declared.ids.AttemptId.{AttemptId}
use Rattle.rm_types.specs.declared.ids.ContainerId.{ContainerId}
use Rattle.rm_types.specs.Records.{record_of}
use Rattle.rm_book.specs.Books.{BookOf, book_row as book_row_of}
use Rattle.rm_model.specs.Attempts.{attempt_was_first}
use Rattle.rm_types.specs.declared.settings.Settings.{Settings}
use Rattle.rm_model.specs.Containers.{is_astray}
use Rattle.rm_model.specs.State.{Release, Scene}
use Rattle.rm_tables.specs.declared.events.SchedEvent.{SchedEvent}
use Rattle.rm_tables.specs.declared.events.SchedEvent.TheVariants as scheds
use Rattle.rm_states.specs.declared.node.states.NodeState.TheVariants as states
use Rattle.rm_tables.specs.declared.nodes.NodeRow.{NodeRow}
use Rattle.rm_tables.specs.declared.rows.AppRow.{AppRow}
use Rattle.rm_tables.specs.declared.tables.Tables.{Tables}
use Rattle.rm_tables.specs.Absorbing.{was_first}
use Rattle.rm_tables.specs.Nodes.{node_row}
use Rattle.rm_tables.specs.Rows.{row_of}
use Rattle.rm_refinement.specs.History.{History, abstract_scene}
use Rattle.rm_tables.specs.SchedEvents.{is_on}

-- each of these containers stands on a node
abbrev pub are_containers_on : BookOf → List ℕ → List ContainerId → Bool
are_containers_on book name ids = list_all (λ id. is_on name (book_row_of book id)) ids

-- what a node is to launch stands on it
abbrev pub LaunchesHere : BookOf → List (List ℕ × NodeRow) → Type 0
LaunchesHere book nodes = (name : List ℕ) (row : NodeRow) → node_row nodes name ≡ Some row → are_containers_on book name row.launches ≡ true

-- an application of which the tables have no row has no record
abbrev pub RowsKnow : Tables → Type 0
RowsKnow t = (id : AppId) → row_of t.rows id ≡ None → record_of t.tree.apps id ≡ None

-- the rows know which attempts were kept when the life began
abbrev pub FirstsKnown : Scene → List (AppId × Option AppRow) → Type 0
FirstsKnown m rows = (id : AttemptId) (row : AppRow) → row_of rows id.app ≡ Some row → attempt_was_first m id ≡ was_first id (Some row)

-- no node that registered is absent
abbrev pub NoneAbsent : List (List ℕ × NodeRow) → Type 0
NoneAbsent nodes = (name : List ℕ) (row : NodeRow) → node_row nodes name ≡ Some row → row.state ≢ states.Absent

-- what is astray in the scene that the tables stand for
abbrev pub astray_at : Settings → History → Tables → ContainerId → Bool
astray_at settings h t = is_astray settings (abstract_scene h t)

-- a release is one of these
abbrev pub IsServedRelease : Release → List Release → Type 0
IsServedRelease one [] = ⊥
IsServedRelease one (served ∷ more) = (served ≡ one) ⊎ IsServedRelease one more

-- each release that is on its way was served since the last Settled
abbrev pub AreServed : List Release → List SchedEvent → Type 0
AreServed releases [] = Unit {0}
AreServed releases (scheds.Release attempt list ∷ more) = IsServedRelease (record { attempt = attempt; list = list }) releases × AreServed releases more
AreServed releases (_ ∷ more) = AreServed releases more
