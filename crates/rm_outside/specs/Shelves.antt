-- What stands on a shelf, and how much of it a read gives.
use Rattle.std.specs.Prelude.{◌≡◌, ◌⊎◌, ℕ, Contains, IfSome, IsNone, List, Option, Result, Ok, Err, take}
use Rattle.std.specs.Option.{option_map}
use Rattle.std.specs.List.{find}
use Rattle.std.specs.Str.{bytes_eq}
use Rattle.rm_types.specs.Counts.{risen}
use Rattle.rm_outside.specs.declared.shelves.TheConstants.{MOST_READ}
use Rattle.rm_outside.specs.declared.shelves.NamedFile.{NamedFile}
use Rattle.rm_outside.specs.declared.shelves.ShelfError.{ShelfError}
use Rattle.rm_outside.specs.declared.shelves.ShelfError.TheVariants.{Failed, Memory}

-- A shelf in memory: its files, the numbers of the calls that fail, and how many calls and faults there were.
pub record MemShelfState : Type 0 where
  pub files : List NamedFile
  pub failing : List ℕ
  pub calls : ℕ
  pub faults : ℕ

-- The bytes of the first file of that name.
abbrev pub bytes_of_name : List NamedFile → List ℕ → Option (List ℕ)
bytes_of_name files name = option_map (λ file. file.bytes) (find (λ file. bytes_eq file.name name) files)

-- The part of a file that a read gives: all of it up to 16,777,216 bytes, and one byte more of a longer one.
abbrev pub bytes_read : List ℕ → List ℕ
bytes_read bytes = take MOST_READ bytes

-- What a shelf tells of each name.
abbrev pub ShelfTells : Type 0
ShelfTells = List ℕ → Option (List ℕ)

-- These bytes were read of a file: where the shelf tells the file's bytes, they are what a read gives of them.
abbrev pub WereRead : Option (List ℕ) → List ℕ → Type 0
WereRead told bytes = IfSome told (λ all. bytes ≡ bytes_read all)

-- The count of faults after this answer: a failure raises it.
abbrev pub shelf_faults : {A : Type 0} → ℕ → Result A ShelfError → ℕ
shelf_faults faults (Ok bytes) = faults
shelf_faults faults (Err Failed) = risen faults
shelf_faults faults (Err Memory) = faults

-- The shelf in memory after a call that gave this answer: the call counts, and so does a failure.
abbrev pub shelf_after : {A : Type 0} → MemShelfState → Result A ShelfError → MemShelfState
shelf_after shelf answer = record shelf { calls = risen shelf.calls; faults = shelf_faults shelf.faults answer }

-- One read of a file of the name: the call counts; it fails exactly where its number is among those that fail or the shelf
-- holds no file of the name, and then the failure counts.
pub record IsRead (name : List ℕ) (old new : MemShelfState) : Type 0 where
  pub files : new.files ≡ old.files
  pub failing : new.failing ≡ old.failing
  pub calls : new.calls ≡ risen old.calls
  pub fails : Contains old.failing (risen old.calls) ⊎ IsNone (bytes_of_name old.files name) → new.faults ≡ risen old.faults
  pub reads : (Contains old.failing (risen old.calls) ⊎ IsNone (bytes_of_name old.files name) → ⊥) → new.faults ≡ old.faults
