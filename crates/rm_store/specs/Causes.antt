-- Why a disk's bytes hold no operations: a fault among them. This project's own.
use Rattle.std.specs.Prelude.{◌≡◌, ◌⊎◌, ◌+◌, ℕ, Bool, false, None, List, ◌∷◌, ◌++◌, length}
use Rattle.rm_types.specs.declared.operations.Op.{Op}
use Rattle.rm_types.specs.Records.{records, stray, fits_records}
use Rattle.rm_formats.specs.Device.{journal_records}
use Rattle.rm_journal.specs.two_areas.Areas.{HasCurrent, IsDamagedLayout, area_from, head_of}
use Rattle.rm_store.specs.Content.{IsFrameOf, ReadsAs, half_of}
use Rattle.rm_store.specs.declared.fault.StoreError.{StoreError}
use Rattle.rm_store.specs.declared.fault.StoreError.TheVariants.{Damaged, Stray}

-- The bytes hold payloads that read as these operations, of which none is stray, and then a payload whose gate stands at the
-- offset. So they are damaged nowhere.
pub record ReadsUpTo (bytes : List ℕ) (ops : List Op) (payload : List ℕ) (offset : ℕ) : Type 0 where
  pub second : Bool
  pub generation : ℕ
  pub given : List (List ℕ)
  pub more : List (List ℕ)
  pub current : HasCurrent (half_of bytes) second generation (given ++ payload ∷ more) bytes
  pub reads : ReadsAs given ops
  pub none_stray : stray ops ≡ None
  pub place : offset ≡ area_from (half_of bytes) second + length (journal_records (head_of generation ++ given))

-- Behind such operations, the payload at the offset reads as none.
pub record HasNoFrameAt (bytes : List ℕ) (offset : ℕ) : Type 0 where
  pub ops : List Op
  pub payload : List ℕ
  pub reads : ReadsUpTo bytes ops payload offset
  pub no_frame : (op : Op) → IsFrameOf payload op → ⊥

-- Behind so many such operations, the one at the offset is stray.
pub record HasStrayAt (bytes : List ℕ) (number offset : ℕ) : Type 0 where
  pub ops : List Op
  pub op : Op
  pub payload : List ℕ
  pub reads : ReadsUpTo bytes ops payload offset
  pub framed : IsFrameOf payload op
  pub stray : fits_records (records ops) op ≡ false
  pub number_is : number ≡ length ops

-- The bytes are why a store was refused: they are damaged at the offset, or they are damaged nowhere, and a payload of
-- the current area reads as no operation, or its operation is stray. Other refusals have no cause in the bytes.
abbrev pub IsWhy : List ℕ → StoreError → Type 0
IsWhy bytes (Damaged offset) = IsDamagedLayout (half_of bytes) bytes offset ⊎ HasNoFrameAt bytes offset
IsWhy bytes (Stray number offset) = HasStrayAt bytes number offset
IsWhy bytes _ = Unit {0}

-- The bytes have no such fault.
pub record IsFaultless (bytes : List ℕ) : Type 0 where
  pub undamaged : (offset : ℕ) → IsDamagedLayout (half_of bytes) bytes offset → ⊥
  pub frames : (offset : ℕ) → HasNoFrameAt bytes offset → ⊥
  pub none_stray : (number offset : ℕ) → HasStrayAt bytes number offset → ⊥
