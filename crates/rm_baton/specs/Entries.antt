-- Which entries only the store's pass adds, and how a log grows by others. This project's own.
use Rattle.std.specs.Prelude.{◌≡◌, ◌⊎◌, List, [], ◌∷◌, ◌++◌}
use Rattle.rm_types.specs.declared.entries.Entry.{Entry}
use Rattle.rm_types.specs.declared.entries.Entry.TheVariants.{Opened, Handed, Kept, Blown, Settled, Down}

-- what any worker may add, by its pass: an entry that neither opens, settles or ends a life, nor says what the store did
abbrev pub IsCommon : Entry → Type 0
IsCommon (Opened landed epoch stamp) = ⊥
IsCommon Handed = ⊥
IsCommon (Kept op) = ⊥
IsCommon (Blown passed) = ⊥
IsCommon Settled = ⊥
IsCommon Down = ⊥
IsCommon _ = Unit {0}

-- any pass may add each of these entries
abbrev pub AllCommon : List Entry → Type 0
AllCommon [] = Unit {0}
AllCommon (e ∷ es) = IsCommon e × AllCommon es

-- the new log is the old one, or that and one entry
abbrev pub AddsAtMostOne : List Entry → List Entry → Type 0
AddsAtMostOne old new = (new ≡ old) ⊎ ((entry : Entry) × (new ≡ old ++ entry ∷ []))

-- the new log is the old one, followed by entries that any pass may add
pub record AddsCommon (old new : List Entry) : Type 0 where
  pub added : List Entry
  pub grown : old ++ added ≡ new
  pub common : AllCommon added
