-- What the tables show of the judge's scene, as far as masters, nodes and the clock are answered from them: who makes a move shows that they
-- do. This project's own.
use Rattle.std.specs.Prelude.{◌≡◌, Bool, true, false, ◌&&◌, ◌==◌, map, nat_lt, Option, None, Some}
use Rattle.rm_types.specs.declared.ids.AppId.{AppId}
use Rattle.rm_types.specs.declared.ids.AttemptId.{AttemptId}
use Rattle.rm_types.specs.declared.ids.ContainerId.{ContainerId}
use Rattle.rm_types.specs.Records.{record_of}
use Rattle.rm_states.specs.declared.attempt.states.AttemptState.{AttemptState}
use Rattle.rm_states.specs.declared.attempt.states.AttemptState.TheVariants as attempts
use Rattle.rm_states.specs.attempt.Table.{is_alive}
use Rattle.rm_book.specs.Books.{TellUpTo}
use Rattle.rm_model.specs.Attempts.{attempt_was_first, is_live}
use Rattle.rm_model.specs.Facts.{awaits, app_goes_on, has_app, has_container}
use Rattle.rm_model.specs.MasterReplies.{is_finished_op, is_late}
use Rattle.rm_model.specs.State.{Scene}
use Rattle.rm_tables.specs.declared.rows.AppRow.{AppRow}
use Rattle.rm_tables.specs.declared.rows.Current.{Current}
use Rattle.rm_tables.specs.declared.rows.Dialogue.{Dialogue}
use Rattle.rm_tables.specs.declared.tables.Tables.{Tables}
use Rattle.rm_tables.specs.Absorbing.{was_first}
use Rattle.rm_tables.specs.LateRows.{is_late_row}
use Rattle.rm_tables.specs.Rows.{row_of}
use Rattle.rm_refinement.specs.Agreement.{ClosingsAgree, RowAgrees, SameAsks, SameNodes, SameRows}

-- the end of an attempt awaits
abbrev pub is_ending : AttemptState → Bool
is_ending attempts.Scheduled = false
is_ending attempts.Granted = false
is_ending attempts.Saving = false
is_ending attempts.Live = false
is_ending attempts.Registered = false
is_ending attempts.Finishing = false
is_ending attempts.Ending = true
is_ending attempts.Ended = false
is_ending attempts.Dropped = false

-- an attempt is the current one of its application and lives; its end awaits, as FINISHED
abbrev pub lives_with : AttemptId → Option Current → Bool
lives_with attempt None = false
lives_with attempt (Some current) = (current.number == attempt.number) && is_alive current.state

-- an attempt is the current one of a row, and lives
abbrev pub lives_by : AttemptId → Option AppRow → Bool
lives_by attempt None = false
lives_by attempt (Some row) = lives_with attempt row.current

-- an attempt is the current one, and its end awaits, as FINISHED
abbrev pub finishes_with : AttemptId → Option Current → Bool
finishes_with attempt None = false
finishes_with attempt (Some current) = (current.number == attempt.number) && (is_ending current.state && current.finished)

-- an attempt is the current one of a row, and its end awaits, as FINISHED
abbrev pub finishes_by : AttemptId → Option AppRow → Bool
finishes_by attempt None = false
finishes_by attempt (Some row) = finishes_with attempt row.current

-- what came late to an attempt since its master was last told is what is untold, in each row of the book
abbrev pub LateSince : Scene → Tables → AttemptId → Option Dialogue → Type 0
LateSince m t attempt None = Unit {0}
LateSince m t attempt (Some one) = map (is_late_row t attempt one.told) t.book.rows ≡ map (is_late m attempt) m.life.book

-- where the attempt is the current one of its row, and lives
abbrev pub LateAgrees : Scene → Tables → AttemptId → Option AppRow → Type 0
LateAgrees m t attempt None = Unit {0}
LateAgrees m t attempt (Some row) = lives_with attempt row.current ≡ true → LateSince m t attempt row.dialogue

-- what the tables and the judge tell alike around a restart: which attempts were kept when the life began, of applications that go on;
-- where the cluster recovers ended containers, which of former epochs left the book, which are pending, that rows are numbered as they
-- enter, and what came late
pub record AgreesAround (m : Scene) (t : Tables) : Type 0 where
  pub firsts : (id : AttemptId) → app_goes_on (record_of t.tree.apps id.app) ≡ true → was_first id (row_of t.rows id.app) ≡ attempt_was_first m id
  pub departed : t.settings.recover_ended_containers ≡ true → (id : ContainerId) → nat_lt id.epoch t.epoch ≡ true → has_container t.departed id ≡ has_container m.life.endings.left id
  pub pending : t.settings.recover_ended_containers ≡ true → (id : ContainerId) → has_container t.pending id ≡ has_container m.life.endings.pending id
  pub numbers : t.settings.recover_ended_containers ≡ true → TellUpTo 0 t.book.added t.book.rows
  pub late : t.settings.recover_ended_containers ≡ true → (attempt : AttemptId) → LateAgrees m t attempt (row_of t.rows attempt.app)

-- the tables show the scene: what is recorded, the life's epoch, the containers, the nodes, the asks, the endings that are to be told, and
-- each attempt
pub record RefinesLife (m : Scene) (t : Tables) : Type 0 where
  pub records : m.records ≡ t.tree
  pub epoch : m.life.epoch ≡ t.epoch
  pub rows : SameRows t.book.rows m.life.book
  pub nodes : SameNodes t.book t.nodes m.life.nodes
  pub asks : SameAsks t.asks m.life.asks
  pub closings : (id : AppId) → ClosingsAgree m.life.endings.outbox id (has_app m.life.apps.retired id) (row_of t.rows id)
  pub masters : (attempt : AttemptId) → RowAgrees m.life.masters.registered m.life.granted (has_app m.life.apps.retired attempt.app) attempt (row_of t.rows attempt.app)
  pub live : (attempt : AttemptId) → is_live m attempt ≡ lives_by attempt (row_of t.rows attempt.app)
  pub finishes : (attempt : AttemptId) → awaits m (is_finished_op attempt) ≡ finishes_by attempt (row_of t.rows attempt.app)
  pub around : AgreesAround m t
