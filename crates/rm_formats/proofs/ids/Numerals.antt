-- With which digits the text of a number begins.
use Rattle.std.proofs.Common.{◌≡◌, ◌≢◌, ℕ, zero, suc, ◌+◌, ◌-◌, ◌*◌, ◌^◌, ◌<◌, ◌≤◌, true, false, eqb, List, [], ◌∷◌, ◌++◌, length, get_or, replicate, refl, sym, ap, subst, ◌∙◌, append_assoc, append-nil, arith, inl, inr}
use Rattle.std.specs.Fmt.{decimal}
use Rattle.std.proofs.lemmas.Bool.{eqb-true, eqb-false, cases_lt}
use Rattle.std.proofs.lemmas.List.{length-append, length-replicate, length_push, get_or_append_left, nil_from_length}
use Rattle.std.proofs.lemmas.Fmt.{decimal-digits_value, first_decimal}
use Rattle.std.proofs.lemmas.Str.Parse.{digits_value_short}
use Rattle.rm_formats.specs.IdTexts.{padded}
use Rattle.rm_types.specs.Ranges.{IsWithin}
use Rattle.rm_formats.specs.declared.ids.parts.Part.{Part}
use Rattle.rm_formats.specs.declared.ids.parts.Part.TheVariants.{Stamp, AppNumber, AttemptNumber, AttemptInContainer, Epoch, Sequence}
use Rattle.rm_formats.specs.ids.Parts.{least_digits, greatest}
use Rattle.rm_formats.specs.ids.Digits.{IsDigit, AreDigits, value_of, CanBeginNumber}
use Rattle.rm_formats.proofs.ids.Digits.{own, AreDigits-append, AreDigits-front, value_of-push, value_of-front, value_of-some, padded_is_digits, value_of-padded, length-padded}

-- ---- the table

pub least_some : (part : Part) → 1 ≤ least_digits part
least_some Stamp = omega arith
least_some AppNumber = omega arith
least_some AttemptNumber = omega arith
least_some AttemptInContainer = omega arith
least_some Epoch = omega arith
least_some Sequence = omega arith

-- all that so many digits write is in the range, but 0
pub wide : (part : Part) → 10 ^ least_digits part ≤ greatest part + 1
wide Stamp = omega arith
wide AppNumber = omega arith
wide AttemptNumber = omega arith
wide AttemptInContainer = omega arith
wide Epoch = omega arith
wide Sequence = omega arith

-- each single digit is in the range, but 0
pub some_digits : (part : Part) → 9 ≤ greatest part
some_digits Stamp = omega arith
some_digits AppNumber = omega arith
some_digits AttemptNumber = omega arith
some_digits AttemptInContainer = omega arith
some_digits Epoch = omega arith
some_digits Sequence = omega arith

pub fits : (part : Part) → greatest part < 2 ^ 64
fits Stamp = omega arith
fits AppNumber = omega arith
fits AttemptNumber = omega arith
fits AttemptInContainer = omega arith
fits Epoch = omega arith
fits Sequence = omega arith

-- ---- digits that are as many as must be

-- zeros and then the text of what they write
record IsPadded (digits : List ℕ) : Type 0 where
  pub zeros : ℕ
  pub parts : digits ≡ replicate zeros 48 ++ decimal (value_of digits)

zero_more : (digits : List ℕ) → IsPadded digits → IsPadded (48 ∷ digits)
zero_more digits is = record { zeros = suc is.zeros; parts = ap (λ (t : List ℕ). 48 ∷ t) is.parts }

digits_are_padded : (digits : List ℕ) → AreDigits digits → 1 ≤ value_of digits → value_of digits < 2 ^ 64 → IsPadded digits
digits_are_padded [] all some small = absurd (omega arith)
digits_are_padded (digit ∷ digits) all some small =
    elim (eqb digit 48) as (λ t. eqb digit 48 ≡ t → IsPadded (digit ∷ digits)) [
      | true ↦ λ e.
          let zero_first : digit ≡ 48 = eqb-true digit 48 e in
          let worth : 1 ≤ value_of digits = subst (λ d. 1 ≤ value_of (d ∷ digits)) zero_first some in
          let less : value_of digits < 2 ^ 64 = subst (λ d. value_of (d ∷ digits) < 2 ^ 64) zero_first small in
          subst (λ d. IsPadded (d ∷ digits)) (sym zero_first) (zero_more digits (digits_are_padded digits all.1 worth less))
      | false ↦ λ e. record { zeros = 0; parts = sym (decimal-digits_value own (digit ∷ digits) all (omega arith) (λ z. absurd (eqb-false digit 48 e z)) small) }
    ] refl

as_many : (least : ℕ) (digits : List ℕ) → AreDigits digits → 1 ≤ value_of digits → value_of digits < 2 ^ 64 → length digits ≡ least → digits ≡ padded least (value_of digits)
as_many least digits all some small same =
    let is = digits_are_padded digits all some small in
    let number = value_of digits in
    let count : is.zeros + length (decimal number) ≡ length digits = sym (simp (length-append, length-replicate) at (ap length is.parts)) in
    let zeros : is.zeros ≡ least - length (decimal number) = omega arith in
    is.parts ∙ ap (λ n. replicate n 48 ++ decimal number) zeros

more_than : (least : ℕ) (digits : List ℕ) → AreDigits digits → get_or digits 0 0 ≢ 48 → value_of digits < 2 ^ 64 → least < length digits → digits ≡ padded least (value_of digits)
more_than least digits all first small more =
    let number = value_of digits in
    let e : decimal number ≡ digits = decimal-digits_value own digits all (omega arith) (λ z. absurd (first z)) small in
    let none : least - length (decimal number) ≡ 0 = omega (arith, ap length e) in
    sym (ap (λ n. replicate n 48 ++ decimal number) none ∙ e)

-- they are the text of the number that they write
pub enough_digits : (part : Part) (digits : List ℕ) → CanBeginNumber part digits → least_digits part ≤ length digits → digits ≡ padded (least_digits part) (value_of digits)
enough_digits part digits can enough =
    let small : value_of digits < 2 ^ 64 = omega (arith, can.small, fits part) in
    elim (cases_lt (least_digits part) (length digits)) [
      | inl more ↦ more_than (least_digits part) digits can.digits_alone (can.no_zero more) small more
      | inr few ↦ as_many (least_digits part) digits can.digits_alone (can.some enough) small (omega arith)
    ]

-- ---- one digit more

pub begins_with : (part : Part) (digits : List ℕ) (byte : ℕ) → CanBeginNumber part digits → IsDigit byte → value_of digits * 10 + (byte - 48) ≤ greatest part
    → (length digits + 1 ≡ least_digits part → 1 ≤ value_of digits * 10 + (byte - 48)) → (least_digits part < length digits + 1 → get_or digits 0 0 ≢ 48)
    → CanBeginNumber part (digits ++ byte ∷ [])
begins_with part digits byte can digit small some first =
    let worth : value_of (digits ++ byte ∷ []) ≡ value_of digits * 10 + (byte - 48) = value_of-push digits byte in
    let count : length (digits ++ byte ∷ []) ≡ length digits + 1 = length_push digits byte in
    record {
      digits_alone = AreDigits-append digits (byte ∷ []) can.digits_alone (digit, tt);
      small = omega arith;
      some = λ enough. elim (cases_lt (least_digits part) (length digits + 1)) [
        | inl more ↦ let before : 1 ≤ value_of digits = can.some (omega arith) in omega arith
        | inr few ↦ let here : 1 ≤ value_of digits * 10 + (byte - 48) = some (omega arith) in omega arith
      ];
      no_zero = λ more.
          let beyond : least_digits part < length digits + 1 = omega arith in
          let same : get_or (digits ++ byte ∷ []) 0 0 ≡ get_or digits 0 0 = get_or_append_left digits (byte ∷ []) 0 0 (omega (arith, least_some part)) in
          λ z. first beyond (sym same ∙ z);
    }

-- ---- what the text of a number begins with

pub number_begins : (part : Part) (number : ℕ) (front more : List ℕ) → IsWithin 1 (greatest part) number → padded (least_digits part) number ≡ front ++ more → CanBeginNumber part front
number_begins part number front more within e =
    let least = least_digits part in
    let small : number < 2 ^ 64 = omega (arith, within.1, fits part) in
    let all : AreDigits (front ++ more) = subst AreDigits e (padded_is_digits least number small) in
    let worth : value_of (front ++ more) ≡ number = ap value_of (sym e) ∙ value_of-padded least number small in
    let size : length front + length more ≡ (least - length (decimal number)) + length (decimal number) = sym (length-append front more) ∙ ap length (sym e) ∙ length-padded least number in
    let bare : least < length (decimal number) → front ++ more ≡ decimal number = λ long.
    let none : least - length (decimal number) ≡ 0 = omega arith in
    sym e ∙ ap (λ n. replicate n 48 ++ decimal number) none in
    let first : 0 < length front → least < length (decimal number) → 48 < get_or front 0 0 = λ some long.
    let same : get_or (front ++ more) 0 0 ≡ get_or front 0 0 = get_or_append_left front more 0 0 some in
    let is : get_or (front ++ more) 0 0 ≡ get_or (decimal number) 0 0 = ap (λ (t : List ℕ). get_or t 0 0) (bare long) in
    omega (arith, first_decimal number within.0 small) in
    let begun : least ≤ length front → 0 < length front = λ enough. omega (arith, least_some part) in
    record {
      digits_alone = AreDigits-front front more all;
      small = omega (arith, value_of-front front more, within.1);
      some = λ enough. elim (cases_lt least (length (decimal number))) [
        | inl long ↦ value_of-some front (first (begun enough) long)
        | inr short ↦
            let whole : front ++ more ≡ front = ap (λ (t : List ℕ). front ++ t) (nil_from_length more (omega arith)) ∙ append-nil front in
            omega (arith, ap value_of whole, within.0)
      ];
      no_zero = λ long. λ z. absurd (omega (arith, first (omega arith) (omega arith)));
    }

-- ---- how such a text goes on

-- the text of some number in its range
pub record IsNumber (part : Part) (text : List ℕ) : Type 0 where
  pub number : ℕ
  pub within : IsWithin 1 (greatest part) number
  pub same : text ≡ padded (least_digits part) number

whole_number : (part : Part) (digits : List ℕ) → CanBeginNumber part digits → least_digits part ≤ length digits → IsNumber part digits
whole_number part digits can enough = record {
  number = value_of digits;
  within = (can.some enough, can.small);
  same = enough_digits part digits can enough;
}

-- a 1 can stand behind digits that are too few
one_more : (part : Part) (digits : List ℕ) → CanBeginNumber part digits → length digits < least_digits part → CanBeginNumber part (digits ++ 49 ∷ [])
one_more part digits can few =
    let all : AreDigits (digits ++ 49 ∷ []) = AreDigits-append digits (49 ∷ []) can.digits_alone ((omega arith, omega arith), tt) in
    let worth : value_of (digits ++ 49 ∷ []) ≡ value_of digits * 10 + (49 - 48) = value_of-push digits 49 in
    let count : length (digits ++ 49 ∷ []) ≡ length digits + 1 = length_push digits 49 in
    let short : value_of (digits ++ 49 ∷ []) < 10 ^ least_digits part = digits_value_short own (digits ++ 49 ∷ []) (least_digits part) all (omega arith) in
    record {
      digits_alone = all;
      small = omega (arith, wide part);
      some = λ enough. omega arith;
      no_zero = λ more. absurd (omega arith);
    }

goes_on_by : (part : Part) (lack : ℕ) (digits : List ℕ) → CanBeginNumber part digits → least_digits part ≤ lack + length digits → (more : List ℕ) × IsNumber part (digits ++ more)
goes_on_by part zero digits can enough = ([], subst (IsNumber part) (sym (append-nil digits)) (whole_number part digits can (omega arith)))
goes_on_by part (suc lack) digits can enough = elim (cases_lt (length digits) (least_digits part)) [
  | inl few ↦
      let on = goes_on_by part lack (digits ++ 49 ∷ []) (one_more part digits can few) (omega (arith, length_push digits 49)) in
      (49 ∷ on.0, subst (IsNumber part) (append_assoc digits (49 ∷ []) on.0) on.1)
  | inr many ↦ ([], subst (IsNumber part) (sym (append-nil digits)) (whole_number part digits can many))
]

-- the text of some number begins with such digits
pub goes_on : (part : Part) (digits : List ℕ) → CanBeginNumber part digits → (more : List ℕ) × IsNumber part (digits ++ more)
goes_on part digits can = goes_on_by part (least_digits part) digits can (omega arith)
