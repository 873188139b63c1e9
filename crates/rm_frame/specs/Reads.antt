-- What a reader of fields says.
use Rattle.std.specs.Prelude.{◌≡◌, ℕ, List, ◌++◌, Some}
use Rattle.rm_types.specs.declared.operations.Op.{Op}
use Rattle.rm_formats.specs.Frames.{frame, Reads as ReadsAs}
use Rattle.rm_types.specs.Ranges.{IsOperation}
use Rattle.rm_frame.specs.declared.fields.FieldError.{FieldError}
use Rattle.rm_frame.specs.declared.fields.FieldError.TheVariants.{Bad}
use Rattle.rm_frame.specs.Fields.{Field, left_at_fault}

-- the bytes are what these fields take and the rest, in which further fields are looked for
pub record TakesFields (fields : List Field) (bytes front rest : List ℕ) : Type 0 where
  pub parts : bytes ≡ front ++ rest
  pub goes : (more : List Field) → left_at_fault (fields ++ more) bytes ≡ left_at_fault more rest

-- one of these fields is the first that is short or out of range, where so many bytes are left
pub record StopsReading (fields : List Field) (bytes : List ℕ) (left : ℕ) : Type 0 where
  pub at : (more : List Field) → left_at_fault (fields ++ more) bytes ≡ Some left

-- an error for a bad field says where that field begins
abbrev pub StopsBy : List Field → List ℕ → FieldError → Type 0
StopsBy fields bytes error = (left : ℕ) → error ≡ Bad left → StopsReading fields bytes left

-- the bytes are an operation's frame and the rest
pub record ReadsNow (bytes : List ℕ) (op : Op) (rest : List ℕ) : Type 0 where
  pub can : IsOperation op
  pub parts : bytes ≡ frame op ++ rest

-- the bytes are what reads as an operation, and the rest
pub record ReadsOp (bytes : List ℕ) (op : Op) (rest : List ℕ) : Type 0 where
  pub can : IsOperation op
  pub front : List ℕ
  pub reads : ReadsAs front op
  pub parts : bytes ≡ front ++ rest
