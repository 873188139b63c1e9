-- Digits with which the text of a number can begin. This project's own.
use Rattle.std.specs.Prelude.{◌≢◌, ℕ, ◌+◌, ◌-◌, ◌*◌, ◌≤◌, ◌<◌, List, [], ◌∷◌, length, slice_index}
use Rattle.rm_formats.specs.declared.ids.parts.Part.{Part}
use Rattle.rm_formats.specs.ids.Parts.{least_digits, greatest}

-- `0` to `9`
abbrev pub IsDigit : ℕ → Type 0
IsDigit byte = (48 ≤ byte) × (byte ≤ 57)

-- each byte is a digit
abbrev pub AreDigits : List ℕ → Type 0
AreDigits [] = Unit {0}
AreDigits (byte ∷ bytes) = IsDigit byte × AreDigits bytes

-- the number that digits write after those of a number
abbrev pub value_after : ℕ → List ℕ → ℕ
value_after number [] = number
value_after number (digit ∷ digits) = value_after (number * 10 + (digit - 48)) digits

-- the number that digits write, zeros before it or not
abbrev pub value_of : List ℕ → ℕ
value_of digits = value_after 0 digits

-- these are digits with which the text of some such number begins: they write no number above the greatest; as many as
-- must be write no 0; and more than must be have no zero before them
pub record CanBeginNumber (part : Part) (digits : List ℕ) : Type 0 where
  pub digits_alone : AreDigits digits
  pub small : value_of digits ≤ greatest part
  pub some : least_digits part ≤ length digits → 1 ≤ value_of digits
  pub no_zero : least_digits part < length digits → slice_index digits 0 ≢ 48
