-- The numbers that texts write.
use Rattle.std.specs.Prelude.{ℕ, ◌+◌, ◌-◌, ◌*◌, ◌^◌, List, [], ◌∷◌, length, Option, Some, None, Bool, false, ◌&&◌, ◌||◌, nat_lt, nat_le, ◌==◌, if◌then◌else◌}
use Rattle.rm_types.specs.Texts.{is_digit}
use Rattle.rm_lines.specs.Results.{◌>>=◌}

-- the number with one digit more, where the byte is a digit and the number still fits 64 bits
abbrev pub digit_after : ℕ → ℕ → Option ℕ
digit_after number digit =
    if is_digit digit && nat_lt (number * 10 + (digit - 48)) (2 ^ 64) then Some (number * 10 + (digit - 48)) else None

-- the number with these digits more
abbrev pub number_after : ℕ → List ℕ → Option ℕ
number_after number [] = Some number
number_after number (digit ∷ digits) = do
  next ← digit_after number digit
  number_after next digits

-- the first digit is 0, and there are more
abbrev pub leads_with_zero : List ℕ → Bool
leads_with_zero [] = false
leads_with_zero (digit ∷ []) = false
leads_with_zero (digit ∷ next ∷ digits) = digit == 48

-- there is no byte
abbrev pub is_empty : List ℕ → Bool
is_empty bytes = length bytes == 0

-- the number that the text writes in decimal digits, with no zero before them
abbrev pub number_of : List ℕ → Option ℕ
number_of text = if is_empty text || leads_with_zero text then None else number_after 0 text

-- a number that is neither below the least nor above the greatest
abbrev pub number_within : ℕ → ℕ → ℕ → Option ℕ
number_within least greatest number = if nat_le least number && nat_le number greatest then Some number else None

-- the same of what the text writes
abbrev pub number_between : ℕ → ℕ → List ℕ → Option ℕ
number_between least greatest text = do
  number ← number_of text
  number_within least greatest number
