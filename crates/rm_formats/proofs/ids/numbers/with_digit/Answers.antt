use Rattle.std.proofs.Common.{◌≡◌, ◌≢◌, ◌+◌, ◌-◌, ◌*◌, ◌≤◌, ◌<◌, length, get_or, arith, rules}
use Rattle.std.proofs.lemmas.List.{length_push}
use Rattle.rm_formats.specs.ids.Parts.{least_digits, greatest}
use Rattle.rm_formats.specs.ids.Digits.{IsDigit, value_of}
use Rattle.rm_formats.proofs.ids.Digits.{last_is_digit, value_of-push}
use Rattle.rm_formats.proofs.ids.Numerals.{begins_with, some_digits}
use Rattle.rm_formats.proofs.ids.numbers.with_digit.Goals.{else-count-least_digits-via-then-count-least_digits+else-next-eq0, else-count-least_digits-via-else-count-least_digits, else-count-least_digits-2-via-then-count-least_digits-2+else-digits-eq48, else-count-least_digits-2-via-else-count-least_digits-2}
use Rattle.rm_formats.proofs.ids.numbers.with_digit.Goals as goal

pub returns-then-not-is_ascii_digit : goal.returns-then-not-is_ascii_digit
returns-then-not-is_ascii_digit c = λ can.
    let digit : IsDigit c.args.byte = last_is_digit c.args.digits.now c.args.byte can.digits_alone in
    omega (arith, c.if-not-is_ascii_digit.ensures.cases)

pub returns-then-number-greatest : goal.returns-then-number-greatest
returns-then-number-greatest c = λ can.
    let worth = value_of-push c.args.digits.now c.args.byte in
    let digit : IsDigit c.args.byte = last_is_digit c.args.digits.now c.args.byte can.digits_alone in
    omega (arith, can.small, worth)

pub returns-then-next-eq0 : goal.returns-then-next-eq0
returns-then-next-eq0 c = λ can.
    let worth = value_of-push c.args.digits.now c.args.byte in
    let some = can.some (omega (arith, length_push c.args.digits.now c.args.byte)) in
    omega (arith, worth)

pub returns : goal.returns
returns c =
    let digit : IsDigit c.args.byte = search rules in
    let small : value_of c.args.digits.now * 10 + (c.args.byte - 48) ≤ greatest c.args.part = omega (arith, some_digits c.args.part) in
    let some : length c.args.digits.now + 1 ≡ least_digits c.args.part → 1 ≤ value_of c.args.digits.now * 10 + (c.args.byte - 48) = λ e. elim c.else-count-least_digits.branch [
      | else-count-least_digits-via-then-count-least_digits+else-next-eq0 w ↦ omega arith
      | else-count-least_digits-via-else-count-least_digits w ↦ absurd (omega arith)
    ] in
    let first : least_digits c.args.part < length c.args.digits.now + 1 → get_or c.args.digits.now 0 0 ≢ 48 = λ more. elim c.else-count-least_digits-2.branch [
      | else-count-least_digits-2-via-then-count-least_digits-2+else-digits-eq48 w ↦ w.if-digits-eq48.false
      | else-count-least_digits-2-via-else-count-least_digits-2 w ↦ absurd (omega arith)
    ] in
    (begins_with c.args.part c.args.digits.now c.args.byte c.requires.begin digit small some first, omega (arith, value_of-push c.args.digits.now c.args.byte))
