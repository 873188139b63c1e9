use Rattle.std.proofs.Common.{◌∙◌, sym}
use Rattle.rm_lines.proofs.Digits.{digit_read, digit_refused, digits_read}
use Rattle.rm_lines.proofs.numbers.digits_value.Goals as goal

pub returns-in_err-number : goal.returns-in_err-number
returns-in_err-number c =
    c.from_residual.ensures ∙ digit_refused c.digits.number c.args.digits.now c.digits.digit-index _ c.digits-test.true (sym c.digit_after.ensures ∙ c.in_err-number.was) c.digits.invariant

pub digits-preserved : goal.digits-preserved
digits-preserved c =
    digit_read c.digits.number c.in_ok-number.number c.args.digits.now c.digits.digit-index _ c.digits-test.true (sym c.digit_after.ensures ∙ c.in_ok-number.was) c.digits.invariant

pub returns : goal.returns
returns c = digits_read c.digits.number c.args.digits.now c.digits.digit-index _ c.digits-test.false c.digits.invariant
