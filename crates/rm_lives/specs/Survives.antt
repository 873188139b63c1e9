-- What is found of a run on its device after a crash.
use Rattle.std.specs.Prelude.{◌≡◌, ◌≢◌, ◌⊎◌, ℕ, List, [], ◌∷◌, ◌++◌, Some, slice_get}
use Rattle.rm_types.specs.declared.entries.Entry.{Entry}
use Rattle.rm_types.specs.declared.operations.Op.{Op}
use Rattle.rm_disk.specs.Disk.{DiskView, AtEachMoment, EachImage, IfTold}
use Rattle.rm_model.specs.State.{Manager}
use Rattle.rm_model.specs.Lawful.{state_after}
use Rattle.rm_store.specs.Content.{DeviceHolds}

-- the bytes hold the operations that are kept in a state, or these and the first that awaits there
abbrev pub HoldsKept : Manager → List ℕ → Type 0
HoldsKept s bytes = DeviceHolds bytes s.kept ⊎ ((op : Op) × (slice_get s.awaiting 0 ≡ Some op) × DeviceHolds bytes (s.kept ++ op ∷ []))

-- the same of the state after a log
abbrev pub HoldsAfter : List Op → List Entry → List ℕ → Type 0
HoldsAfter opening log bytes = HoldsKept (state_after opening log) bytes

-- the same of the state after some beginning of a log
pub record HoldsWithin (opening : List Op) (log : List Entry) (bytes : List ℕ) : Type 0 where
  pub before : List Entry
  pub later : List Entry
  pub whole : log ≡ before ++ later
  pub holds : HoldsAfter opening before bytes

-- at each moment from the handed disk to the one given back, and of that one, a crash left what the handed disk could have
-- been left as, or what is kept after a part of the log, or this and the operation that awaits there
abbrev pub SurvivesAll : List Op → List Entry → DiskView → DiskView → Type 0
SurvivesAll opening log old new = IfTold old (λ bytes. AtEachMoment old new (λ image. old.images image ⊎ HoldsWithin opening log image))

-- where something was logged, each image of the disk given back holds what is kept after the log, or this and the operation
-- that awaits there
abbrev pub SurvivesNow : List Op → List Entry → DiskView → DiskView → Type 0
SurvivesNow opening log old new = log ≢ [] → IfTold old (λ bytes. EachImage new (HoldsAfter opening log))
