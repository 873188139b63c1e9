-- What the steps of a reader say: of what parts texts are, and how far bytes go along such texts. This project's own.
use Rattle.std.specs.Prelude.{◌≡◌, ◌≢◌, ℕ, List, [], ◌∷◌, ◌++◌, length, codes}
use Rattle.rm_formats.specs.IdTexts.{padded}
use Rattle.rm_types.specs.Ranges.{IsWithin}
use Rattle.rm_formats.specs.declared.ids.parts.Part.{Part}
use Rattle.rm_formats.specs.ids.Fronts.{IsFrontOf}
use Rattle.rm_formats.specs.ids.Parts.{least_digits, greatest}

-- a word and then a text of the kind
pub record After (word : List ℕ) (IsKind : List ℕ → Type 0) (text : List ℕ) : Type 0 where
  pub rest : List ℕ
  pub same : text ≡ word ++ rest
  pub is : IsKind rest

-- a number and then a text of the kind
pub record NumberThen (part : Part) (IsKind : List ℕ → Type 0) (text : List ℕ) : Type 0 where
  pub number : ℕ
  pub rest : List ℕ
  pub within : IsWithin 1 (greatest part) number
  pub same : text ≡ padded (least_digits part) number ++ rest
  pub is : IsKind rest

-- numbers, each behind a `_`, and nothing after them
abbrev pub AreFields : List Part → List ℕ → Type 0
AreFields [] text = text ≡ []
AreFields (part ∷ parts) text = After (codes "_") (NumberThen part (AreFields parts)) text

-- the bytes are no text of the kind: some text begins with a front of them and none with more, and so many bytes are left
-- behind that front
pub record Refuses (IsKind : List ℕ → Type 0) (bytes : List ℕ) (left : ℕ) : Type 0 where
  pub front : List ℕ
  pub rest : List ℕ
  pub parts : bytes ≡ front ++ rest
  pub count : length rest ≡ left
  pub begins : IsFrontOf IsKind front
  pub longest : (more others : List ℕ) → rest ≡ more ++ others → IsFrontOf IsKind (front ++ more) → more ≡ []
  pub none : IsKind bytes → ⊥

-- the bytes don't begin with this one
abbrev pub LacksByte : ℕ → List ℕ → Type 0
LacksByte byte [] = Unit {0}
LacksByte byte (other ∷ bytes) = other ≢ byte

-- the bytes leave the word within it, where so many of them are left
pub record LeavesWord (word bytes : List ℕ) (left : ℕ) : Type 0 where
  pub front : List ℕ
  pub next : ℕ
  pub others : List ℕ
  pub rest : List ℕ
  pub of_word : word ≡ front ++ next ∷ others
  pub of_bytes : bytes ≡ front ++ rest
  pub count : length rest ≡ left
  pub lacks : LacksByte next rest

-- where the bytes behind these fields stop, the bytes with these fields stop
abbrev pub Passes : List Part → List ℕ → List ℕ → Type 0
Passes parts bytes rest = (more : List Part) (left : ℕ) → Refuses (AreFields more) rest left → Refuses (AreFields (parts ++ more)) bytes left

-- the bytes stop within these fields, whatever fields follow
abbrev pub StopsSpelling : List Part → List ℕ → ℕ → Type 0
StopsSpelling parts bytes left = (more : List Part) → Refuses (AreFields (parts ++ more)) bytes left

-- the same of a number with no `_` before it: where the bytes behind it stop, those with it do
abbrev pub NumberPasses : Part → List ℕ → List ℕ → Type 0
NumberPasses part bytes rest = (more : List Part) (left : ℕ) → Refuses (AreFields more) rest left → Refuses (NumberThen part (AreFields more)) bytes left

-- and the bytes stop within that number, whatever fields follow
abbrev pub NumberStops : Part → List ℕ → ℕ → Type 0
NumberStops part bytes left = (more : List Part) → Refuses (NumberThen part (AreFields more)) bytes left
