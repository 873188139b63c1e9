-- How a life began. This project's own.
use Rattle.std.specs.Prelude.{ℕ, List, [], None}
use Rattle.rm_types.specs.Empty.{no_settings}
use Rattle.rm_disk.specs.declared.fallen.Fallen.{Fallen}
use Rattle.rm_disk.specs.Disk.{DiskView}
use Rattle.rm_disk.specs.Fuse.{Fused, fused_view}
use Rattle.rm_core.specs.Words.{new_manager}
use Rattle.rm_desk.specs.View.{DeskView}

-- the desk as it was, and the device: the disk inside the fuse, the refusals that the fuse had counted, and its falls
pub record Began : Type 1 where
  pub desk : DeskView
  pub inner : DiskView
  pub refused : ℕ
  pub falls : List Fallen
  pub unarmed_falls : ℕ

-- a life that began with this desk and device
abbrev pub began_with : {D : Type 0} → (D → DiskView) → DeskView → Fused D → Began
began_with view d disk = record { desk = d; inner = view disk.inner; refused = disk.refused; falls = disk.falls; unarmed_falls = disk.unarmed_falls }

-- the device under its fuse, as it was seen then
abbrev pub seen_then : Began → DiskView
seen_then began = fused_view began.inner began.refused

-- where no life began: a desk and a device that have nothing
abbrev pub nothing_began : Began
nothing_began =
    record {
      desk = record { core = new_manager (record { memory = record { seal = tt } }) no_settings; place = record { lives = []; segments = [] } };
      inner = record { size = 0; told = None; images = λ image. ⊥; moment = 0; left_since = λ from image. ⊥; faults = 0 };
      refused = 0;
      falls = [];
      unarmed_falls = 0;
    }
