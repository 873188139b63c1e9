-- The places of texts in a list.
use Rattle.std.specs.Prelude.{◌≡◌, ℕ, List, [], ◌∷◌, Option, Some, None, position, if◌then◌else◌}
use Rattle.std.specs.HashMap.{get_by}
use Rattle.std.specs.Option.{option_or}
use Rattle.std.specs.Str.{bytes_eq}
use Rattle.rm_queues.specs.declared.places.Places.{Places}

-- the place that is known of a text
abbrev pub place_in : Places → List ℕ → Option ℕ
place_in places text = get_by (λ key. bytes_eq text key.items) places.by_text

-- the first place that is known of one of these texts
abbrev pub first_known_place : Places → List (List ℕ) → Option ℕ
first_known_place places [] = None
first_known_place places (text ∷ texts) = option_or (place_in places text) (first_known_place places texts)

-- a text has this place now, unless it had one
abbrev pub AddsPlace : Places → Places → List ℕ → ℕ → Type 0
AddsPlace old new text place = (other : List ℕ) → place_in new other ≡ option_or (place_in old other) (if bytes_eq text other then Some place else None)

-- each text of a list is known by its first place, and no other text
abbrev pub AreFirstPlaces : {X : Type 0} → (X → List ℕ) → List X → Places → Type 0
AreFirstPlaces text_of items places = (text : List ℕ) → place_in places text ≡ position (λ item. bytes_eq (text_of item) text) items
