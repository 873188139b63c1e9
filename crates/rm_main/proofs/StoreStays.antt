-- A device that holds a store stays one.
use Rattle.std.proofs.Common.{◌≡◌, ◌⊎◌, ℕ, List, [], Option, Some, None, ⊎_elim, ap, subst, sym, ◌∙◌}
use Rattle.rm_types.specs.declared.entries.Entry.{Entry}
use Rattle.rm_types.specs.declared.operations.Op.{Op}
use Rattle.rm_types.specs.declared.outcomes.Outcome.{Outcome}
use Rattle.rm_types.specs.declared.outcomes.Outcome.TheVariants.{Usage, StoreDamaged, StoreFull, Memory}
use Rattle.rm_disk.specs.Disk.{DiskView}
use Rattle.rm_store.specs.Content.{DeviceHolds}
use Rattle.rm_outside.specs.Shelves.{ShelfTells}
use Rattle.rm_desk.specs.Effects.{IsHanded}
use Rattle.rm_lives.proofs.Onward.{never_handed, no_store_not, opens_again}
use Rattle.rm_main.specs.Made.{LeavesDevice, Made, StaysStore}
use Rattle.rm_main.specs.modes.{CallEnds}
use Rattle.rm_words.specs.Words.{Asked, Run, Soak, Listing}

module _ {D : Type 0} (view : D → DiskView) (told : ShelfTells) (made : Made D) where
  damaged : (bytes : List ℕ) (ops : List Op) → (view made.before.inner).told ≡ Some bytes → DeviceHolds bytes ops → (asked : Option Asked) (offset : ℕ) → CallEnds view told asked made (StoreDamaged offset) → ⊥
  damaged bytes ops known holds None offset ends = ends
  damaged bytes ops known holds (Some (Run cluster script schedule mover)) offset ends = no_store_not bytes ops offset holds (ends.ran.caused.1 bytes known).2
  damaged bytes ops known holds (Some (Soak number)) offset ends = no_store_not bytes ops offset holds (ends.ran.caused.1 bytes known).2
  damaged bytes ops known holds (Some Listing) offset ends = no_store_not bytes ops offset holds (ends.0.1 bytes known)

  filled : made.log ≡ [] → (asked : Option Asked) (needed room : ℕ) → CallEnds view told asked made (StoreFull needed room) → ⊥
  filled empty None needed room ends = ends
  filled empty (Some (Run cluster script schedule mover)) needed room ends = never_handed made.opening ends.ran.caused.op (subst (λ (log : List Entry). IsHanded made.opening log ends.ran.caused.op) empty ends.ran.caused.handed)
  filled empty (Some (Soak number)) needed room ends = never_handed made.opening ends.ran.caused.op (subst (λ (log : List Entry). IsHanded made.opening log ends.ran.caused.op) empty ends.ran.caused.handed)
  filled empty (Some Listing) needed room ends = ends

  pub stays : (asked : Option Asked) (outcome : Outcome) → CallEnds view told asked made outcome → LeavesDevice view made → StaysStore view made outcome
  stays asked outcome ends device =
      record {
        undamaged = λ bytes ops known holds offset is. damaged bytes ops known holds asked offset (subst (λ (o : Outcome). CallEnds view told asked made o) is ends);
        unfilled = λ empty needed room is. filled empty asked needed room (subst (λ (o : Outcome). CallEnds view told asked made o) is ends);
        opens = λ some bytes known image is. opens_again made.opening made.log image (device.images_now some bytes known image is);
      }
