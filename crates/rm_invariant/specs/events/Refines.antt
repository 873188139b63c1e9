-- The tables agree with a life of the judge: part by part, as `rm_refinement` says. This project's own.
use Rattle.rm_types.specs.declared.ids.AppId.{AppId}
use Rattle.rm_types.specs.declared.ids.AttemptId.{AttemptId}
use Rattle.rm_model.specs.Facts.{has_app}
use Rattle.rm_model.specs.State.{LifeState}
use Rattle.rm_tables.specs.declared.tables.Tables.{Tables}
use Rattle.rm_tables.specs.Rows.{row_of}
use Rattle.rm_refinement.specs.Agreement.{ClosingsAgree, RowAgrees, SameAsks, SameNodes, SameRows}

-- the containers, the nodes, the asks, the endings that are to be told, and what was said of each attempt
pub record Refines (life : LifeState) (t : Tables) : Type 0 where
  pub rows : SameRows t.book.rows life.book
  pub nodes : SameNodes t.book t.nodes life.nodes
  pub asks : SameAsks t.asks life.asks
  pub closings : (id : AppId) → ClosingsAgree life.endings.outbox id (has_app life.apps.retired id) (row_of t.rows id)
  pub masters : (attempt : AttemptId) → RowAgrees life.masters.registered life.granted (has_app life.apps.retired attempt.app) attempt (row_of t.rows attempt.app)
