-- Tests of lists.
use Rattle.std.specs.Prelude.{List, [], ◌∷◌, Bool, true, false, Option, None, Some}

-- the list has no item
abbrev pub is_nil : {X : Type 0} → List X → Bool
is_nil [] = true
is_nil (x ∷ xs) = false

-- the list, unless it has no item
abbrev pub unless_empty : {X : Type 0} → List X → Option (List X)
unless_empty [] = None
unless_empty (x ∷ xs) = Some (x ∷ xs)
