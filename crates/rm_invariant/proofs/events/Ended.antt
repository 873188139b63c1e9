-- Containers leave the book: the tables agree with the judge's life again.
use Rattle.rm_invariant.proofs.Common.{◌≡◌, List, ◌++◌, not, filter, sym, ◌∙◌, ap, subst, list_any, BookRow, Cause, AppId, ContainerId, is_container, without_rows, leave, has_app, has_container, tidied, Row, Scene, Tables, closed_in, closings_of, left_all, unlaunched, row_of, ClosingsAgree, PlainRow, SameRows, bare_row, plain_row, tidied_same}
use Rattle.rm_book.proofs.Lists.{filter_view}
use Rattle.rm_model.specs.Containers.{closings}
use Rattle.rm_invariant.specs.events.Refines.{Refines}
use Rattle.rm_invariant.specs.events.Here.{LaunchesHere, RowsKnow}
use Rattle.rm_invariant.proofs.events.Launches.{launches_same}
use Rattle.rm_invariant.proofs.events.Told.{closings_agree, closings_same, masters_agree, unknown_untold}
use Rattle.rm_invariant.specs.masters.Sound.{RecordsAreSound}
use Rattle.rm_types.specs.declared.containers.ClosingOf.{ClosingOf}

-- the rows of other containers stay, in their order
pub rows_left : (rows : List BookRow) (book : List Row) (ids : List ContainerId) → SameRows rows book
    → SameRows (filter (λ row. not (list_any (λ id. is_container id row.id) ids)) rows) (filter (λ row. not (has_container ids row.id)) book)
rows_left rows book ids same =
    filter_view bare_row (λ (row : PlainRow). not (has_container ids row.id)) rows
    ∙ ap (filter (λ (row : PlainRow). not (has_container ids row.id))) same
    ∙ sym (filter_view plain_row (λ (row : PlainRow). not (has_container ids row.id)) book)

module _ (m : Scene) (t : Tables) (recorded : m.records ≡ t.tree) (same : Refines m.life t) (know : RowsKnow t) (each : RecordsAreSound t.tree.apps) (cause : Cause) (list : List ContainerId) where
  told : closings_of t.tree.apps cause list ≡ closings m cause list
  told = ap (λ r. closings_of r.apps cause list) (sym recorded) ∙ closings_same m cause list

  -- the endings that are to be told
  pub closings_left : (id : AppId)
      → ClosingsAgree (leave m cause list).endings.outbox id (has_app m.life.apps.retired id) (row_of (closed_in t.rows (closings_of t.tree.apps cause list)) id)
  closings_left id =
      subst (λ (more : List ClosingOf). ClosingsAgree (m.life.endings.outbox ++ more) id (has_app m.life.apps.retired id) (row_of (closed_in t.rows (closings_of t.tree.apps cause list)) id)) told
      (closings_agree m.life.endings.outbox (closings_of t.tree.apps cause list) id (has_app m.life.apps.retired id) t.rows
      (λ none r. unknown_untold t.tree.apps each cause list id (know id none)) (same.closings id))

  -- all of it
  pub left_agrees : LaunchesHere t.book t.nodes → Refines (tidied (leave m cause list)) (left_all cause list t)
  left_agrees here =
      record {
        rows = rows_left t.book.rows m.life.book list same.rows;
        nodes = tidied_same (without_rows t.book list) (unlaunched t.book t.nodes list) (leave m cause list).book (leave m cause list).nodes (launches_same t.book t.nodes m.life.nodes list same.nodes here);
        asks = same.asks;
        closings = closings_left;
        masters = λ attempt. masters_agree m.life.masters.registered m.life.granted (has_app m.life.apps.retired attempt.app) attempt (closings_of t.tree.apps cause list) t.rows (same.masters attempt);
      }
