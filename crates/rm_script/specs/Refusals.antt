-- The first line of bytes that is refused, where they are no script.
use Rattle.std.specs.Prelude.{◌≡◌, ◌⊎◌, ℕ, ◌+◌, ◌<◌, List, ◌++◌, length, take}
use Rattle.rm_types.specs.declared.scripts.Script.{Script}
use Rattle.rm_lines.specs.Lines.{lines_of}
use Rattle.rm_script.specs.Lines.{KeepLimits}
use Rattle.rm_script.specs.Scripts.{Spell}

-- the lines can begin a script: with some lines after them they spell one
pub record CanBegin (lines : List (List ℕ)) : Type 0 where
  pub more : List (List ℕ)
  pub script : Script
  pub spelled : Spell (lines ++ more) script

-- so many first lines of the bytes stand: they keep the limits and can begin a script
pub record Stand (count : ℕ) (bytes : List ℕ) : Type 0 where
  pub limits : KeepLimits count bytes
  pub begin : CanBegin (take count (lines_of bytes))

-- the line after so many is refused: those before it stand, and with it they don't
pub record StopAfter (count : ℕ) (bytes : List ℕ) : Type 0 where
  pub there : count < length (lines_of bytes)
  pub before : Stand count bytes
  pub refused : Stand (count + 1) bytes → ⊥

-- the end is refused: all lines stand, and yet they spell no script, since nothing closes the last segment
pub record StopAtEnd (bytes : List ℕ) : Type 0 where
  pub before : Stand (length (lines_of bytes)) bytes
  pub refused : (script : Script) → Spell (lines_of bytes) script → ⊥

-- the first line that is refused: one of the bytes' lines, or, at the end, the one that lacks after them
abbrev pub IsFirstRefused : List ℕ → ℕ → Type 0
IsFirstRefused bytes line =
    ((count : ℕ) × (line ≡ count + 1) × StopAfter count bytes) ⊎ ((line ≡ length (lines_of bytes) + 1) × StopAtEnd bytes)
