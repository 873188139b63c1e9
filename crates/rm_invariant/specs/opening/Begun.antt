-- A life that began over what is recorded, and isn't open yet. This project's own.
use Rattle.std.specs.Prelude.{◌≡◌, ◌≤◌, count_by}
use Rattle.rm_types.specs.declared.ids.AppId.{AppId}
use Rattle.rm_types.specs.Ids.{is_app}
use Rattle.rm_types.specs.Records.{Records, records}
use Rattle.rm_tables.specs.declared.tables.Tables.{Tables}
use Rattle.rm_tables.specs.Lives.{begun}
use Rattle.rm_invariant.specs.apps.Completed.{completion_order}
use Rattle.rm_refinement.specs.History.{History, initial_history}
use Rattle.rm_invariant.specs.masters.Invariant.{MastersAreOwn}
use Rattle.rm_invariant.specs.masters.Sound.{RecordsAreSound}

-- records that a store may hold: no two are of one application, none ended after what is recorded, the attempts of each are in order and name
-- masters of their own
pub record IsStored (tree : Records) : Type 0 where
  pub once : (id : AppId) → count_by (λ app. is_app app.id id) tree.apps ≤ 1
  pub early : (id : AppId) → completion_order tree.apps id ≤ tree.applied
  pub sound : RecordsAreSound tree.apps
  pub apt : MastersAreOwn tree.apps

-- the tables are those of a life that began over these records, but for its first event and operation; and nothing was remembered since
pub record IsBegun (h : History) (t : Tables) : Type 0 where
  pub new : h ≡ initial_history h.kept
  pub recorded : records h.kept ≡ t.tree
  pub stored : IsStored t.tree
  pub tables : t ≡ record (begun t.tree t.stamp t) { main = t.main; awaiting = t.awaiting; handed = t.handed }
