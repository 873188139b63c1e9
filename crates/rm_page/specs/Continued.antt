-- The words that go on with a line, as the functions that write them say it.
use Rattle.std.specs.Prelude.{ℕ, List, ◌∷◌}
use Rattle.std.specs.List.{flat_map}

-- words with a space before each
abbrev pub continued : List (List ℕ) → List ℕ
continued words = flat_map (λ word. 32 ∷ word) words
