-- What the tables show of the judge's scene, as far as a client is answered from them: who makes a move shows that they do. This
-- project's own.
use Rattle.std.specs.Prelude.{◌≡◌, Bool, true, false, ◌&&◌, ◌||◌, not, Option, None, Some, is_some, count_by}
use Rattle.rm_types.specs.declared.ids.AppId.{AppId}
use Rattle.rm_types.specs.declared.records.AppRecord.{AppRecord}
use Rattle.rm_types.specs.Ids.{is_app}
use Rattle.rm_types.specs.Lists.{is_nil}
use Rattle.rm_types.specs.Records.{is_some_and, last_attempt}
use Rattle.rm_model.specs.State.{Scene}
use Rattle.rm_model.specs.Attempts.{has_failed}
use Rattle.rm_model.specs.Facts.{attempts_in, awaits, has_app, is_accepted, is_app_op, is_known, kept_attempts, kept_record, waiting_submission}
use Rattle.rm_model.specs.ClientReplies.{going, is_running, live_of}
use Rattle.rm_states.specs.declared.app.states.AppState.{AppState}
use Rattle.rm_states.specs.declared.app.states.AppState.TheVariants as apps
use Rattle.rm_tables.specs.declared.rows.AppRow.{AppRow}
use Rattle.rm_tables.specs.declared.rows.Current.{Current}
use Rattle.rm_tables.specs.declared.tables.Tables.{Tables}
use Rattle.rm_tables.specs.Rows.{is_retired, row_of}

-- the master of the current attempt registered in this life
abbrev pub current_registered : Option Current → Bool
current_registered None = false
current_registered (Some current) = current.registered

-- the last kept attempt of a record has a kept end, and it is FAILED
abbrev pub last_failed : Option AppRecord → Bool
last_failed found = is_some_and has_failed (last_attempt (attempts_in found))

-- an application runs: its current attempt's master registered in this life, and the last kept attempt has not failed
abbrev pub runs : AppRow → Option AppRecord → Bool
runs row found = current_registered row.current && not (last_failed found)

-- the application's App was issued and isn't kept
abbrev pub is_saving_app : AppState → Bool
is_saving_app apps.NewSaving = true
is_saving_app _ = false

-- the row of an application that is known shows what a report tells
pub record RowRefines (m : Scene) (id : AppId) (row : AppRow) : Type 0 where
  pub known : is_known m id ≡ true
  pub waits : waiting_submission m.life.apps.submitted id ≡ row.pending
  pub running : is_running m id ≡ runs row (kept_record m id)
  pub accepted : (is_accepted m id || not (is_nil (kept_attempts m id))) ≡ is_some row.current
  pub saving : awaits m (is_app_op id) ≡ is_saving_app row.state

-- an application without a row isn't known: nothing of it was issued, and it was not accepted unless it was removed since
pub record NoRowRefines (m : Scene) (id : AppId) : Type 0 where
  pub unknown : is_known m id ≡ false
  pub unkept : kept_record m id ≡ None
  pub waits : waiting_submission m.life.apps.submitted id ≡ None
  pub unissued : awaits m (is_app_op id) ≡ false
  pub unaccepted : has_app m.life.apps.retired id ≡ false → is_accepted m id ≡ false

-- what is shown of an application, by its row
abbrev pub RefinesAt : Scene → AppId → Option AppRow → Type 0
RefinesAt m id None = NoRowRefines m id
RefinesAt m id (Some row) = RowRefines m id row

-- the tables show the scene: what is recorded, the ids that were given, how many applications go on, how many containers of an
-- application live, and each application
pub record RefinesForClients (m : Scene) (t : Tables) : Type 0 where
  pub records : m.records ≡ t.tree
  pub stamp : m.life.stamp ≡ t.stamp
  pub given : m.life.given ≡ t.given
  pub going : going m ≡ t.going
  pub live : (id : AppId) → live_of m id ≡ count_by (λ row. is_app row.id.attempt.app id) t.book.rows
  pub retired : (id : AppId) → has_app m.life.apps.retired id ≡ is_retired t.rows id
  pub at : (id : AppId) → RefinesAt m id (row_of t.rows id)
