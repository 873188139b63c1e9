-- Texts that are cut: at a byte, behind a label, before an end, and at a line's end.
use Rattle.std.specs.Prelude.{◌≡◌, ◌⊎◌, ℕ, ◌-◌, List, [], ◌∷◌, ◌++◌, length, take, drop, true, Option, Some, None, if◌then◌else◌}
use Rattle.std.specs.Str.{bytes_eq}
use Rattle.rm_page.proofs.Bytes.{lacks}

-- what stands after the label that a word begins with
abbrev pub after_label : List ℕ → List ℕ → Option (List ℕ)
after_label label word = if bytes_eq (take (length label) word) label then Some (drop (length label) word) else None

-- what stands before the end of a text, where it has that end
abbrev pub before_end : List ℕ → List ℕ → Option (List ℕ)
before_end end text = if bytes_eq (drop (length text - length end) text) end then Some (take (length text - length end) text) else None

-- the text is cut where the byte stands first
pub record IsFirstCut (byte : ℕ) (text front back : List ℕ) : Type 0 where
  pub whole : text ≡ front ++ byte ∷ back
  pub front_lacks : lacks byte front ≡ true

-- the first line without its line feed (10), and what stands behind it; the last line may lack its line feed
abbrev pub IsFirstLine : List ℕ → List ℕ → List ℕ → Type 0
IsFirstLine bytes line after = IsFirstCut 10 bytes line after ⊎ ((lacks 10 bytes ≡ true) × (line ≡ bytes) × (after ≡ []))

-- no comma (44) stands in the text
abbrev pub HasNoComma : List ℕ → Type 0
HasNoComma text = lacks 44 text ≡ true
