-- What the calls of a disk do to its bytes, and what a crash may leave of them.
use Rattle.std.specs.Prelude.{◌≡◌, ◌⊎◌, ◌↔◌, ◌+◌, ◌≤◌, ℕ, List, ◌++◌, length, take, drop, Option, Some, is_some}

-- A set of contents.
abbrev pub Images : Type 1
Images = List ℕ → Type 0

-- A disk as contracts see it.
pub record DiskView : Type 1 where
  -- How many bytes it has.
  pub size : ℕ
  -- The bytes that a read gives, where the disk tells them.
  pub told : Option (List ℕ)
  -- What a crash now may leave.
  pub images : Images
  -- The moment, as a number that does not fall.
  pub moment : ℕ
  -- What a crash at some moment from that one on may have left.
  pub left_since : ℕ → Images
  -- How often the disk has failed.
  pub faults : ℕ

-- The old bytes with others put over them at an offset.
abbrev pub put : ℕ → List ℕ → List ℕ → List ℕ
put at bytes old = take at old ++ bytes ++ drop (at + length bytes) old

-- The new bytes are the old ones, but for so many from an offset on.
pub record SameElsewhere (at many : ℕ) (old new : List ℕ) : Type 0 where
  pub before : take at new ≡ take at old
  pub after : drop (at + many) new ≡ drop (at + many) old
  pub size : length new ≡ length old

-- What is told stays told, and is the same but for so many bytes from an offset on.
abbrev pub TellsElsewhere : ℕ → ℕ → Option (List ℕ) → Option (List ℕ) → Type 0
TellsElsewhere at many old new =
    (before : List ℕ) → old ≡ Some before → (after : List ℕ) × (new ≡ Some after) × SameElsewhere at many before after

-- The bytes that the disk tells have this; a disk that tells none claims nothing.
abbrev pub IfTold : DiskView → (List ℕ → Type 0) → Type 0
IfTold view P = (bytes : List ℕ) → view.told ≡ Some bytes → P bytes

-- Whatever a crash now may leave has this.
abbrev pub EachImage : DiskView → (List ℕ → Type 0) → Type 0
EachImage view P = (image : List ℕ) → view.images image → P image

-- A crash now leaves what a read gives.
abbrev pub IsDurable : DiskView → Type 0
IsDurable view = (image : List ℕ) → view.images image → view.told ≡ Some image

-- At each moment from the old view to the new one a crash leaves what has this: whatever may have been left
-- since an earlier moment may have been left before the old view, or has it.
pub record Leaves (old new : DiskView) (P : List ℕ → Type 0) : Type 0 where
  pub later : old.moment ≤ new.moment
  pub each : (from : ℕ) (image : List ℕ) → from ≤ old.moment → new.left_since from image → old.left_since from image ⊎ P image

-- Whatever a call does: the size stays, a disk goes on telling its bytes or not telling them, what a crash
-- may have left is not forgotten, and the count of faults does not fall.
pub record IsLaterView (old new : DiskView) : Type 0 where
  pub size : new.size ≡ old.size
  pub tells : is_some new.told ≡ is_some old.told
  pub past : (from : ℕ) (image : List ℕ) → from ≤ old.moment → old.left_since from image → new.left_since from image
  pub faults : old.faults ≤ new.faults

-- A call that changes no byte: a read gives what it gave, and a crash leaves nothing that it did not leave before.
pub record IsQuiet (old new : DiskView) : Type 0 where
  pub goes_on : IsLaterView old new
  pub told : new.told ≡ old.told
  pub images : EachImage new old.images
  pub time : Leaves old new old.images

-- What a crash may leave of a disk, with any bytes at all in a range.
abbrev pub AnyIn : ℕ → ℕ → DiskView → List ℕ → Type 0
AnyIn at many view image = (left : List ℕ) × view.images left × SameElsewhere at many left image

-- A call that writes so many bytes at an offset: no byte elsewhere changes, and until a sync a crash may leave
-- any bytes in the range.
pub record MayWrite (at many : ℕ) (old new : DiskView) : Type 0 where
  pub goes_on : IsLaterView old new
  pub told : TellsElsewhere at many old.told new.told
  pub images : EachImage new (AnyIn at many old)
  pub time : Leaves old new (AnyIn at many old)

-- A crash: a read now gives one of the images, nothing is left unsynced, and it counts as no fault.
pub record Falls (old new : DiskView) : Type 0 where
  pub goes_on : IsLaterView old new
  pub told : IfTold new old.images
  pub durable : IsDurable new
  pub time : Leaves old new old.images
  pub faults : new.faults ≡ old.faults

-- All that contracts see of a disk is as it was.
pub record IsAsBefore (old new : DiskView) : Type 0 where
  pub size : new.size ≡ old.size
  pub told : new.told ≡ old.told
  pub images : (image : List ℕ) → new.images image ↔ old.images image
  pub moment : new.moment ≡ old.moment
  pub left_since : (from : ℕ) (image : List ℕ) → new.left_since from image ↔ old.left_since from image
  pub faults : new.faults ≡ old.faults

-- At each moment from the old view on, the new view's own among them, a crash leaves what has this.
pub record AtEachMoment (old new : DiskView) (P : List ℕ → Type 0) : Type 0 where
  pub so_far : Leaves old new P
  pub now : EachImage new P
