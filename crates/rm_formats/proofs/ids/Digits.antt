-- Digits and the numbers that they write.
use Rattle.std.proofs.Common.{◌≡◌, ℕ, zero, suc, ◌+◌, ◌-◌, ◌*◌, ◌^◌, ◌<◌, ◌≤◌, List, [], ◌∷◌, ◌++◌, length, get_or, replicate, refl, sym, ap, subst, ◌∙◌, arith, rules, inl, inr, ◌⊎◌}
use Rattle.std.proofs.lemmas.Bool.{cases_lt}
use Rattle.std.specs.Fmt.{decimal}
use Rattle.std.proofs.lemmas.List.{length-append, length-replicate}
use Rattle.std.proofs.lemmas.Fmt.{digits_decimal, digits_value-decimal}
use Rattle.std.proofs.lemmas.Str.Parse.{IsNumeralModel, numerals_by_fold}
use Rattle.rm_formats.specs.IdTexts.{padded}
use Rattle.rm_formats.specs.ids.Digits.{IsDigit, AreDigits, value_after, value_of}

-- the bytes begin with a digit
abbrev pub HasDigit : List ℕ → Type 0
HasDigit [] = ⊥
HasDigit (byte ∷ bytes) = IsDigit byte

-- the bytes begin with no digit
abbrev pub LacksDigit : List ℕ → Type 0
LacksDigit [] = Unit {0}
LacksDigit (byte ∷ bytes) = ¬ IsDigit byte

pub own : IsNumeralModel AreDigits value_of
own = numerals_by_fold AreDigits (search rules) value_after (search rules)

pub AreDigits-append : (a b : List ℕ) → AreDigits a → AreDigits b → AreDigits (a ++ b)
AreDigits-append [] b first second = second
AreDigits-append (digit ∷ a) b first second = (first.0, AreDigits-append a b first.1 second)

pub AreDigits-front : (a b : List ℕ) → AreDigits (a ++ b) → AreDigits a
AreDigits-front [] b all = tt
AreDigits-front (digit ∷ a) b all = (all.0, AreDigits-front a b all.1)

pub last_is_digit : (a : List ℕ) (byte : ℕ) → AreDigits (a ++ byte ∷ []) → IsDigit byte
last_is_digit [] byte all = all.0
last_is_digit (digit ∷ a) byte all = last_is_digit a byte all.1

value_after-append : (number : ℕ) (a b : List ℕ) → value_after number (a ++ b) ≡ value_after (value_after number a) b
value_after-append number [] b = refl
value_after-append number (digit ∷ a) b = value_after-append (number * 10 + (digit - 48)) a b

pub value_of-push : (digits : List ℕ) (digit : ℕ) → value_of (digits ++ digit ∷ []) ≡ value_of digits * 10 + (digit - 48)
value_of-push digits digit = value_after-append 0 digits (digit ∷ [])

value_after-grows : (number : ℕ) (digits : List ℕ) → number ≤ value_after number digits
value_after-grows number [] = omega arith
value_after-grows number (digit ∷ digits) = omega (arith, value_after-grows (number * 10 + (digit - 48)) digits)

-- a front of digits writes no greater number
pub value_of-front : (a b : List ℕ) → value_of a ≤ value_of (a ++ b)
value_of-front a b = rw (value_after-append 0 a b) (value_after-grows (value_of a) b)

-- digits with no zero before them write more than 0
pub value_of-some : (digits : List ℕ) → 48 < get_or digits 0 0 → 1 ≤ value_of digits
value_of-some [] some = absurd (omega arith)
value_of-some (digit ∷ digits) some = omega (arith, value_after-grows (0 * 10 + (digit - 48)) digits)

-- ---- padded numbers

zeros_are_digits : (count : ℕ) → AreDigits (replicate count 48)
zeros_are_digits zero = tt
zeros_are_digits (suc count) = ((omega arith, omega arith), zeros_are_digits count)

pub padded_is_digits : (least number : ℕ) → number < 2 ^ 64 → AreDigits (padded least number)
padded_is_digits least number fits =
    AreDigits-append (replicate (least - length (decimal number)) 48) (decimal number) (zeros_are_digits (least - length (decimal number))) (digits_decimal own number fits)

value_of-zeros : (count : ℕ) (digits : List ℕ) → value_of (replicate count 48 ++ digits) ≡ value_of digits
value_of-zeros zero digits = refl
value_of-zeros (suc count) digits = value_of-zeros count digits

pub value_of-padded : (least number : ℕ) → number < 2 ^ 64 → value_of (padded least number) ≡ number
value_of-padded least number fits = value_of-zeros (least - length (decimal number)) (decimal number) ∙ digits_value-decimal own number fits

pub length-padded : (least number : ℕ) → length (padded least number) ≡ (least - length (decimal number)) + length (decimal number)
length-padded least number = simp (length-append, length-replicate)

-- ---- where digits end

-- lists that are equal have equal heads and equal tails
pub heads_alike : (m n : ℕ) (x y : List ℕ) → ◌≡◌ {A = List ℕ} (m ∷ x) (n ∷ y) → (m ≡ n) × (x ≡ y)
heads_alike m n x y e = (cc, cc)

pub digit_or_not : (byte : ℕ) → IsDigit byte ⊎ ¬ IsDigit byte
digit_or_not byte = elim (cases_lt byte 48) [
  | inl below ↦ inr (λ digit. absurd (omega (arith, digit.0)))
  | inr from ↦ elim (cases_lt 57 byte) [ inl above ↦ inr (λ digit. absurd (omega (arith, digit.1))) | inr to ↦ inl (from, to) ]
]

pub starts_with : (bytes : List ℕ) → LacksDigit bytes ⊎ HasDigit bytes
starts_with [] = inl tt
starts_with (byte ∷ bytes) = elim (digit_or_not byte) [ inl digit ↦ inr digit | inr not_digit ↦ inl not_digit ]

-- digits that something else follows are told from it
pub digits_alike : (a b x y : List ℕ) → AreDigits a → AreDigits b → LacksDigit x → LacksDigit y → a ++ x ≡ b ++ y → (a ≡ b) × (x ≡ y)
digits_alike [] [] x y all_a all_b lacks_x lacks_y e = (refl, e)
digits_alike [] (digit ∷ b) x y all_a all_b lacks_x lacks_y e = absurd (subst LacksDigit e lacks_x all_b.0)
digits_alike (digit ∷ a) [] x y all_a all_b lacks_x lacks_y e = absurd (subst LacksDigit (sym e) lacks_y all_a.0)
digits_alike (m ∷ a) (n ∷ b) x y all_a all_b lacks_x lacks_y e =
    let heads = heads_alike m n (a ++ x) (b ++ y) e in
    let tails = digits_alike a b x y all_a.1 all_b.1 lacks_x lacks_y heads.1 in
    (ap (λ (c : ℕ). c ∷ a) heads.0 ∙ ap (λ (t : List ℕ). n ∷ t) tails.0, tails.1)

-- digits before anything are the front of digits that something else follows
pub digits_within : (a b x y : List ℕ) → AreDigits a → LacksDigit y → a ++ x ≡ b ++ y → (more : List ℕ) × (b ≡ a ++ more)
digits_within [] b x y all lacks e = (b, refl)
digits_within (digit ∷ a) [] x y all lacks e = absurd (subst LacksDigit (sym e) lacks all.0)
digits_within (m ∷ a) (n ∷ b) x y all lacks e =
    let heads = heads_alike m n (a ++ x) (b ++ y) e in
    let tails = digits_within a b x y all.1 lacks heads.1 in
    (tails.0, ap (λ (c : ℕ). c ∷ b) (sym heads.0) ∙ ap (λ (t : List ℕ). m ∷ t) tails.1)
