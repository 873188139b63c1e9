-- What one move of a life does, and how a life ends.
use Rattle.std.specs.Prelude.{◌≡◌, ◌⊎◌, ℕ, ◌<◌, ◌≤◌, List, [], ◌∷◌, ◌++◌, Bool, true, false, Option, None, Some}
use Rattle.rm_types.specs.declared.entries.Entry.{Entry}
use Rattle.rm_types.specs.declared.messages.Lane.{Lane}
use Rattle.rm_types.specs.declared.operations.Op.{Op}
use Rattle.rm_types.specs.Lanes.{lane_of_entry}
use Rattle.rm_disk.specs.Disk.{DiskView}
use Rattle.rm_store.specs.Store.{StoreState, StoreInvariant, seen}
use Rattle.rm_model.specs.Place.{close_left}
use Rattle.rm_core.specs.Words.{has_rest, stands}
use Rattle.rm_desk.specs.View.{DeskView}
use Rattle.rm_lives.specs.declared.moves.LifeEnd.{LifeEnd}
use Rattle.rm_lives.specs.declared.moves.LifeEnd.TheVariants.{Rest, Down}
use Rattle.rm_desk.specs.Runs.{moves_left}
use Rattle.rm_lives.specs.Falls.{fall}
use Rattle.rm_lives.specs.Goes.{ExtendsRun, IsOver}
use Rattle.rm_lives.specs.Order.{Order}
use Rattle.rm_lives.specs.Keeping.{Serves, StoresOn}

-- the log has one more entry, which is of this lane
abbrev pub AddsOneOf : Lane → DeskView → DeskView → Type 0
AddsOneOf lane old new = (e : Entry) × (lane_of_entry e ≡ lane) × (new.core.log ≡ old.core.log ++ e ∷ [])

-- the store after a part of a run has what is kept, and is whole
pub record Stores {D : Type 0} (view : D → DiskView) (old new : DeskView) (store now : StoreState D) : Type 0 where
  pub sound : StoreInvariant view now
  pub kept : (opening : List Op) → StoresOn opening old new (seen view store.disk) (seen view now.disk)

-- the life goes on: a lane moved, and less is left; the current segment is the same, or it settled, and nothing is left to do
pub record TakesStep (order : Order) {D : Type 0} (view : D → DiskView) (old new : DeskView) (store now : StoreState D) : Type 0 where
  pub goes : ExtendsRun order [] old new
  pub less : moves_left new < moves_left old
  pub stands : stands new.core ≡ true
  pub closes : (close_left new.place.segments ≡ close_left old.place.segments) ⊎ has_rest new.core
  pub serves : Serves view new now
  pub stores : Stores view old new store now

-- the run is at its end: no lane can move
pub record ComesToRest (order : Order) {D : Type 0} (view : D → DiskView) (old new : DeskView) (store now : StoreState D) : Type 0 where
  pub goes : ExtendsRun order [] old new
  pub over : IsOver new
  pub used_up : order.ends new.core.log
  pub unarmed : now.disk.armed ≡ None
  pub unblown : now.disk.blown ≡ false
  pub stores : Stores view old new store now

-- the life went down, and the device is to fall to the image: its fuse is armed with the calls of the segment's crash, let no more pass, and just as
-- many where it blew
pub record WentDown (order : Order) {D : Type 0} (view : D → DiskView) (old new : DeskView) (store now : StoreState D) (image : ℕ) : Type 0 where
  pub calls : ℕ
  pub blew : Bool
  pub armed : now.disk.armed ≡ Some calls
  pub blown : now.disk.blown ≡ blew
  pub within : now.disk.passed ≤ calls
  pub spent : blew ≡ true → now.disk.passed ≡ calls
  pub goes : ExtendsRun order (fall calls image blew ∷ []) old new
  pub down : stands new.core ≡ false
  pub stores : Stores view old new store now

-- what a move does: the life goes on, or it went down, and its device is to fall to this image
abbrev pub AdvancesTo : Order → {D : Type 0} → (D → DiskView) → DeskView → DeskView → StoreState D → StoreState D → Option ℕ → Type 0
AdvancesTo order view old new store now None = TakesStep order view old new store now
AdvancesTo order view old new store now (Some image) = WentDown order view old new store now image

-- how a life ends
abbrev pub EndsBy : Order → {D : Type 0} → (D → DiskView) → DeskView → DeskView → StoreState D → StoreState D → LifeEnd → Type 0
EndsBy order view old new store now Rest = ComesToRest order view old new store now
EndsBy order view old new store now (Down image) = WentDown order view old new store now image

-- the life goes on, or so it ended
abbrev pub GoesOnOrEnds : Order → {D : Type 0} → (D → DiskView) → DeskView → DeskView → StoreState D → StoreState D → Option LifeEnd → Type 0
GoesOnOrEnds order view old new store now None = TakesStep order view old new store now
GoesOnOrEnds order view old new store now (Some end) = EndsBy order view old new store now end
