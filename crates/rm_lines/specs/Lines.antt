-- The lines of bytes.
use Rattle.std.specs.Prelude.{◌≡◌, ℕ, ◌<◌, List, [], ◌∷◌, ◌++◌, length, take, min, Bool, true, false, not, ◌==◌, if◌then◌else◌, ◌⊎◌, All, codes}
use Rattle.std.specs.List.{filter, flat_map, onto_first}

-- the lines of the bytes: each ends with a line feed (10), which the last may lack
abbrev pub lines_of : List ℕ → List (List ℕ)
lines_of [] = []
lines_of (byte ∷ bytes) = if byte == 10 then [] ∷ lines_of bytes else onto_first byte (lines_of bytes)

-- a line with the line feed that ends it
abbrev pub ended : List ℕ → List ℕ
ended line = line ++ codes "\n"

-- no line feed stands in the line
abbrev pub HasNoFeed : List ℕ → Type 0
HasNoFeed line = All (λ byte. (byte == 10) ≡ false) line

-- the bytes are those of the lines, and the last line, which isn't empty, lacks its line feed
pub record LackLastFeed (bytes : List ℕ) (lines : List (List ℕ)) : Type 0 where
  pub front : List (List ℕ)
  pub last : List ℕ
  pub apart : lines ≡ front ++ last ∷ []
  pub some : 0 < length last
  pub text : bytes ≡ flat_map ended front ++ last

-- no line feed stands in a line, and the bytes are the lines with a line feed after each, which the last may lack
pub record AreLinesOf (bytes : List ℕ) (lines : List (List ℕ)) : Type 0 where
  pub no_feeds : All HasNoFeed lines
  pub text : (bytes ≡ flat_map ended lines) ⊎ LackLastFeed bytes lines

-- how many bytes the first lines have, line feeds counted
abbrev pub size_of_first : ℕ → List ℕ → ℕ
size_of_first count bytes = min (length bytes) (length (flat_map ended (take count (lines_of bytes))))

-- a line that says nothing: it is empty, or begins with `#` (35)
abbrev pub is_skipped : List ℕ → Bool
is_skipped [] = true
is_skipped (byte ∷ bytes) = byte == 35

-- the lines that say something
abbrev pub kept_lines : List (List ℕ) → List (List ℕ)
kept_lines lines = filter (λ line. not (is_skipped line)) lines
