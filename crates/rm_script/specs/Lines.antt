-- The limits that the lines of a script keep.
use Rattle.std.specs.Prelude.{ℕ, ◌≤◌, List, length, take, All}
use Rattle.rm_types.specs.Ranges.{IsWithin}
use Rattle.rm_types.specs.Limits.{most_lines}
use Rattle.rm_lines.specs.Lines.{lines_of, size_of_first}
use Rattle.rm_script.specs.Limits.{most_bytes, most_line_bytes}

-- a line may stand in a script's text, whatever it says: its bytes are printable, and it isn't too long
pub record IsLineText (line : List ℕ) : Type 0 where
  pub printable : All (IsWithin 0x20 0x7e) line
  pub short : length line ≤ most_line_bytes

-- so many first lines of the bytes keep the limits: they are not too many, neither are their bytes, and each of them, skipped
-- or not, may stand there
pub record KeepLimits (count : ℕ) (bytes : List ℕ) : Type 0 where
  pub few : count ≤ most_lines
  pub size : size_of_first count bytes ≤ most_bytes
  pub each : All IsLineText (take count (lines_of bytes))
