-- What is noted of a list of operations for the sake of those before it. This project's own.
use Rattle.std.specs.Prelude.{◌≡◌, List}
use Rattle.std.specs.List.{list_any}
use Rattle.indexmap.specs.IndexSet.{contains_by}
use Rattle.rm_types.specs.declared.ids.AppId.{AppId}
use Rattle.rm_types.specs.declared.operations.Op.{Op}
use Rattle.rm_types.specs.Folded.{is_epoch, is_gone}
use Rattle.rm_types.specs.Ids.{is_app}
use Rattle.rm_store.specs.declared.compaction.folding.Later.{Later}

-- of these operations it is noted whether an Epoch is among them, and which applications they remove
pub record IsLater (later : Later) (ops : List Op) : Type 0 where
  pub epoch : later.has_epoch ≡ list_any is_epoch ops
  pub removed : (id : AppId) → contains_by (is_app id) later.removed ≡ is_gone id ops
