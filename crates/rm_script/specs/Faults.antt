-- The limits that lines of a script break, and which is told of a line that breaks several: the first in the order of a script's
-- lines, its bytes, a line's bytes and their range. This project's own.
use Rattle.std.specs.Prelude.{ℕ, ◌+◌, ◌-◌, List, length, Option, Some, None, not, nat_lt, ◌==◌, if◌then◌else◌, position, slice_get, slice_index, option_map, option_and_then}
use Rattle.rm_types.specs.Limits.{most_lines}
use Rattle.rm_types.specs.Texts.{is_printable}
use Rattle.rm_script.specs.declared.faults.Limit as limits
use Rattle.rm_script.specs.declared.faults.Limit.TheVariants.{Lines, Bytes, LineBytes, Printable}
use Rattle.rm_script.specs.declared.faults.ScriptFault.{ScriptFault}
use Rattle.rm_script.specs.declared.faults.ScriptFault.TheVariants as faults
use Rattle.rm_script.specs.Limits.{most_bytes, most_line_bytes}
use Rattle.rm_lines.specs.Lines.{lines_of, size_of_first}

-- the line of this number among those of the bytes, counted from 1
abbrev pub line_at : ℕ → List ℕ → Option (List ℕ)
line_at line bytes = if line == 0 then None else slice_get (lines_of bytes) (line - 1)

-- the first byte of a line that isn't printable, with its column, counted from 1
abbrev pub unprintable : List ℕ → Option limits.Limit
unprintable text = option_map (λ place. Printable (place + 1) (slice_index text place)) (position (λ byte. not (is_printable byte)) text)

-- the first limit that a line breaks, by its number, the bytes of the script up to its end and its own
abbrev pub limit_at : ℕ → ℕ → List ℕ → Option limits.Limit
limit_at line size text =
    if nat_lt most_lines line then Some Lines else
    (if nat_lt most_bytes size then Some Bytes else
    (if nat_lt most_line_bytes (length text) then Some (LineBytes (length text)) else unprintable text))

-- the first limit that the line of this number breaks, where the bytes have one
abbrev pub broken_limit : ℕ → List ℕ → Option limits.Limit
broken_limit line bytes = option_and_then (λ text. limit_at line (size_of_first line bytes) text) (line_at line bytes)

-- the fault is another than a limit
abbrev pub IsOtherFault : ScriptFault → Type 0
IsOtherFault (faults.Limit limit) = ⊥
IsOtherFault fault = Unit {0}
