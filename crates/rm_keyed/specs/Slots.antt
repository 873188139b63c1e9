-- Values under keys, with gaps where values were taken away. This project's own.
use Rattle.std.specs.Prelude.{◌≡◌, ℕ, suc, Bool, List, [], ◌∷◌, length, Option, None, Some, slice_get, if◌then◌else◌}
use Rattle.std.specs.List.{IsDistinct}
use Rattle.std.specs.Map.{keys_of}

-- a slot before others that are seen as these
abbrev pub put_slot : {K V : Type 0} → K → Option V → List (K × V) → List (K × V)
put_slot key None rest = rest
put_slot key (Some value) rest = (key, value) ∷ rest

-- the values that are there, each with its key, in order
abbrev pub live : {K V : Type 0} → List (K × Option V) → List (K × V)
live [] = []
live (slot ∷ slots) = put_slot slot.0 slot.1 (live slots)

-- no two slots have one key, and so many hold a value
pub record AreSlots {K V : Type 0} (eq : K → K → Bool) (slots : List (K × Option V)) (count : ℕ) : Type 0 where
  pub unique : IsDistinct eq (keys_of slots)
  pub counted : length (live slots) ≡ count

-- the value that was found in a slot, if a slot was found
abbrev pub joined : {V : Type 0} → Option (Option V) → Option V
joined None = None
joined (Some value) = value

-- the key of a slot that was found, if it holds a value
abbrev pub key_in : {K V : Type 0} → Option (K × Option V) → Option K
key_in None = None
key_in (Some (key, None)) = None
key_in (Some (key, Some value)) = Some key

-- the value of a slot that was found, if it holds one
abbrev pub value_in : {K V : Type 0} → Option (K × Option V) → Option V
value_in None = None
value_in (Some slot) = slot.1

-- the key of the slot at an index, if it holds a value
abbrev pub key_at : {K V : Type 0} → List (K × Option V) → ℕ → Option K
key_at slots index = key_in (slice_get slots index)

-- the value of the slot at an index, if it holds one
abbrev pub value_at : {K V : Type 0} → List (K × Option V) → ℕ → Option V
value_at slots index = value_in (slice_get slots index)

-- the places of those that pass a test, where so many stand before the first
abbrev pub places_of : {X : Type 0} → ℕ → (X → Bool) → List X → List ℕ
places_of before test [] = []
places_of before test (x ∷ xs) = if test x then before ∷ places_of (suc before) test xs else places_of (suc before) test xs
