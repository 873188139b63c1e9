use Rattle.std.proofs.Common.{◌≡◌, drop}
use Rattle.rm_lines.specs.Numbers.{number_after}
use Rattle.rm_lines.proofs.numbers.digits_value.Given as goal

-- the rest of the digits give the number that all of them do
abbrev pub invariant-digits : goal.invariant-digits
invariant-digits l = number_after l.number (drop l.digit-index l.digits) ≡ number_after 0 l.digits
