-- The text of a number is read as that number, and no other text is.
use Rattle.std.proofs.Common.{◌≡◌, ℕ, zero, suc, ◌+◌, ◌-◌, ◌*◌, ◌^◌, ◌<◌, ◌≤◌, Bool, true, false, cond, ◌&&◌, ◌||◌, ltb, leb, List, [], ◌∷◌, length, get_or, Option, Some, None, refl, sym, ap, subst, ◌∙◌, arith, rules}
use Rattle.std.specs.Fmt.{decimal}
use Rattle.rm_types.specs.Ranges.{IsWithin}
use Rattle.std.proofs.lemmas.Bool.{ltb-true, lt-ltb, leb-true, le-leb, eqb-false, ne_eqb, and_parts, and_from}
use Rattle.std.proofs.lemmas.Option.{cond_some, same_Some}
use Rattle.std.proofs.lemmas.Str.Parse.{IsNumeralModel, numerals_by_fold}
use Rattle.std.proofs.lemmas.Fmt.{digits_decimal, digits_value-decimal, decimal-digits_value, decimal_nonempty, first_decimal, decimal_digit}
use Rattle.rm_types.specs.Texts.{is_digit}
use Rattle.rm_lines.specs.Results.{IsOf, ◌>>=◌}
use Rattle.rm_lines.specs.Numbers.{number_after, leads_with_zero, is_empty, number_of, number_between}

-- each byte is a digit
abbrev pub all_digits : List ℕ → Bool
all_digits [] = true
all_digits (digit ∷ digits) = is_digit digit && all_digits digits

-- what the digits are worth after a number
abbrev pub value_after : ℕ → List ℕ → ℕ
value_after number [] = number
value_after number (digit ∷ digits) = value_after (number * 10 + (digit - 48)) digits

abbrev pub value : List ℕ → ℕ
value digits = value_after 0 digits

abbrev pub AreDigits : List ℕ → Type 0
AreDigits digits = all_digits digits ≡ true

pub own : IsNumeralModel AreDigits value
own = numerals_by_fold AreDigits (search rules) value_after (search rules)

value_after-grows : (number : ℕ) (digits : List ℕ) → number ≤ value_after number digits
value_after-grows number [] = omega arith
value_after-grows number (digit ∷ digits) = omega (arith, value_after-grows (number * 10 + (digit - 48)) digits)

-- digits that are worth less than 2^64 are read
pub number_after-digits : (number : ℕ) (digits : List ℕ) → AreDigits digits → value_after number digits < 2 ^ 64 → number_after number digits ≡ Some (value_after number digits)
number_after-digits number [] all fits = refl
number_after-digits number (digit ∷ digits) all fits =
    let parts = and_parts (is_digit digit) (all_digits digits) all in
    let next = number * 10 + (digit - 48) in
    let small : ltb next (2 ^ 64) ≡ true = lt-ltb _ _ (omega (arith, value_after-grows next digits)) in
    rw (parts.0, small) (number_after-digits next digits parts.1 fits)

step_is : (b : Bool) (next : ℕ) (digits : List ℕ) (total : ℕ) → (cond b (Some next) None >>= λ number. number_after number digits) ≡ Some total → (b ≡ true) × (number_after next digits ≡ Some total)
step_is true next digits total e = (refl, e)
step_is false next digits total e = absurd cc

-- what is read are digits, and what they are worth
pub number_after_is : (number : ℕ) (digits : List ℕ) (total : ℕ) → number < 2 ^ 64 → number_after number digits ≡ Some total → AreDigits digits × (value_after number digits ≡ total) × (total < 2 ^ 64)
number_after_is number [] total fits e =
    let same : number ≡ total = same_Some number total e in
    (refl, same, omega arith)
number_after_is number (digit ∷ digits) total fits e =
    let next = number * 10 + (digit - 48) in
    let step = step_is (is_digit digit && ltb next (2 ^ 64)) next digits total e in
    let tests = and_parts (is_digit digit) (ltb next (2 ^ 64)) step.0 in
    let rest = number_after_is next digits total (ltb-true _ _ tests.1) step.1 in
    (and_from (is_digit digit) (all_digits digits) tests.0 rest.0, rest.1, rest.2)

-- ---- with no zero in front

no_zero_leads : (digits : List ℕ) → 48 < get_or digits 0 0 → leads_with_zero digits ≡ false
no_zero_leads [] h = refl
no_zero_leads (digit ∷ []) h = refl
no_zero_leads (digit ∷ next ∷ digits) h = ne_eqb digit 48 (λ e. absurd (omega arith))

leads : (number : ℕ) → number < 2 ^ 64 → leads_with_zero (decimal number) ≡ false
leads zero fits = rw (decimal_digit 0 (omega arith)) refl
leads (suc number) fits = no_zero_leads (decimal (suc number)) (first_decimal (suc number) (omega arith) fits)

is_some_text : (text : List ℕ) → 0 < length text → is_empty text ≡ false
is_some_text text some = ne_eqb (length text) 0 (λ e. absurd (omega arith))

-- the text of a number is read
pub number_of-decimal : (number : ℕ) → number < 2 ^ 64 → number_of (decimal number) ≡ Some number
number_of-decimal number fits =
    let worth : value (decimal number) ≡ number = digits_value-decimal own number fits in
    rw (is_some_text (decimal number) (decimal_nonempty number fits), leads number fits)
    (number_after-digits 0 (decimal number) (digits_decimal own number fits) (omega arith) ∙ ap Some worth)

only_zero : (text : List ℕ) → leads_with_zero text ≡ false → get_or text 0 0 ≡ 48 → 0 < length text → length text ≡ 1
only_zero [] free e some = absurd (omega arith)
only_zero (digit ∷ []) free e some = refl
only_zero (digit ∷ next ∷ digits) free e some = absurd (eqb-false digit 48 free e)

either : (b c : Bool) (o : Option ℕ) (number : ℕ) → cond (b || c) None o ≡ Some number → (b ≡ false) × (c ≡ false) × (o ≡ Some number)
either true c o number e = absurd cc
either false true o number e = absurd cc
either false false o number e = (refl, refl, e)

some_text : (text : List ℕ) → is_empty text ≡ false → 0 < length text
some_text [] e = absurd cc
some_text (byte ∷ text) e = omega arith

-- what is read is the text of the number
pub number_of_is : (text : List ℕ) (number : ℕ) → number_of text ≡ Some number → (text ≡ decimal number) × (number < 2 ^ 64)
number_of_is text number e =
    let parts = either (is_empty text) (leads_with_zero text) (number_after 0 text) number e in
    let some = some_text text parts.0 in
    let read = number_after_is 0 text number (omega arith) parts.2 in
    let same : decimal (value text) ≡ text = decimal-digits_value own text read.0 some (λ zero. only_zero text parts.1 zero some) (omega (arith, read.1, read.2)) in
    (sym same ∙ ap decimal read.1, read.2)

-- ---- within bounds

pub number_in-decimal : (least greatest number : ℕ) → greatest < 2 ^ 64 → IsWithin least greatest number → number_between least greatest (decimal number) ≡ Some number
number_in-decimal least greatest number small fits =
    rw (number_of-decimal number (omega (arith, fits.1)), le-leb least number fits.0, le-leb number greatest fits.1) refl

pub bounded : (least greatest : ℕ) (o : Option ℕ) (number : ℕ) → (o >>= λ n. cond (leb least n && leb n greatest) (Some n) None) ≡ Some number → (o ≡ Some number) × IsWithin least greatest number
bounded least greatest None number e = absurd cc
bounded least greatest (Some n) number e =
    let c = cond_some (leb least n && leb n greatest) n number e in
    let tests = and_parts (leb least n) (leb n greatest) c.0 in
    (ap Some c.1, subst (IsWithin least greatest) c.1 (leb-true _ _ tests.0, leb-true _ _ tests.1))

pub number_in_is : (least greatest : ℕ) (text : List ℕ) (number : ℕ) → number_between least greatest text ≡ Some number → (text ≡ decimal number) × IsWithin least greatest number
number_in_is least greatest text number e =
    let parts = bounded least greatest (number_of text) number e in
    ((number_of_is text number parts.0).0, parts.1)

-- what is read is the number that the word is
pub number_read : (least greatest : ℕ) (word : List ℕ) (number : ℕ) → number_between least greatest word ≡ Some number → IsOf decimal (IsWithin least greatest) word number
number_read least greatest word number e =
    let read = number_in_is least greatest word number e in
    record { same = read.0; fits = read.1 }

-- and where none is read the word is none
pub number_none : (least greatest : ℕ) (word : List ℕ) → greatest < 2 ^ 64 → number_between least greatest word ≡ None → (number : ℕ) → IsOf decimal (IsWithin least greatest) word number → ⊥
number_none least greatest word small e number is =
    let none : None ≡ Some number = sym e ∙ ap (number_between least greatest) is.same ∙ number_in-decimal least greatest number small is.fits in
    cc
