-- Where a text is cut, and what reading a page answers where a line of it is refused.
use Rattle.std.specs.Prelude.{◌≡◌, ℕ, List, ◌∷◌, ◌++◌, true}
use Rattle.rm_page.proofs.Bytes.{lacks}
use Rattle.rm_lines.specs.declared.errors.LineError.{LineError}
use Rattle.rm_lines.specs.declared.errors.LineError.TheVariants.{Refused, Memory}
use Rattle.rm_page_reader.specs.declared.errors.PageError.{PageError}
use Rattle.rm_page_reader.specs.declared.errors.PageError.TheVariants as pages

-- the text is cut where the byte stands last
pub record IsLastCut (byte : ℕ) (text front back : List ℕ) : Type 0 where
  pub whole : text ≡ front ++ byte ∷ back
  pub back_lacks : lacks byte back ≡ true

-- the same error of the page whose line this is
abbrev pub at_page_line : LineError → ℕ → PageError
at_page_line (Refused fault) line = pages.NotAPage line
at_page_line Memory line = pages.Memory
