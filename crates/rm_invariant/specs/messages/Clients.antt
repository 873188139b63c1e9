-- What else the answers of clients and masters stand on, besides all that holds of an open life. This project's own.
use Rattle.std.specs.Prelude.{◌≡◌, count_by}
use Rattle.rm_types.specs.declared.ids.AppId.{AppId}
use Rattle.rm_types.specs.declared.ids.AttemptId.{AttemptId}
use Rattle.rm_types.specs.Ids.{is_app}
use Rattle.rm_model.specs.ClientReplies.{going}
use Rattle.rm_model.specs.Facts.{awaits, has_app}
use Rattle.rm_model.specs.MasterReplies.{is_finished_op}
use Rattle.rm_model.specs.State.{Scene}
use Rattle.rm_tables.specs.declared.tables.Tables.{Tables}
use Rattle.rm_tables.specs.Rows.{is_retired, row_of}
use Rattle.rm_refinement.specs.Clients.{RefinesAt}
use Rattle.rm_refinement.specs.Services.{finishes_by}
use Rattle.rm_refinement.specs.History.{History, abstract_scene}

-- an application was removed in this life where the judge has it among the retired
abbrev pub RetiredSame : History → Tables → Type 0
RetiredSame h t = (id : AppId) → is_retired t.rows id ≡ has_app h.apps.retired id

-- the end of an attempt awaits as FINISHED exactly where the rows say so
abbrev pub FinishesRefine : History → Tables → Type 0
FinishesRefine h t = (attempt : AttemptId) → awaits (abstract_scene h t) (is_finished_op attempt) ≡ finishes_by attempt (row_of t.rows attempt.app)

-- the tables show clients the scene: what is recorded, the ids that were given, how many applications go on, each application, and how many
-- of its containers live
pub record RefinesClientParts (m : Scene) (t : Tables) : Type 0 where
  pub records : m.records ≡ t.tree
  pub stamp : m.life.stamp ≡ t.stamp
  pub given : m.life.given ≡ t.given
  pub going : going m ≡ t.going
  pub retired : (id : AppId) → has_app m.life.apps.retired id ≡ is_retired t.rows id
  pub at : (id : AppId) → RefinesAt m id (row_of t.rows id)
  pub live : (id : AppId) → count_by (λ row. is_app row.id.attempt.app id) m.life.book ≡ count_by (λ row. is_app row.id.attempt.app id) t.book.rows
