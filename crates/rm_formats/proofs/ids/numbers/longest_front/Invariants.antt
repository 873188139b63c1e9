use Rattle.std.proofs.Common.{◌≡◌, take}
use Rattle.rm_formats.specs.ids.Digits.{value_of, CanBeginNumber}
use Rattle.rm_formats.proofs.ids.numbers.longest_front.Given as goal

-- a number's text can begin with the bytes so far, and this is the number that they write
abbrev pub invariant-loop-count : goal.invariant-loop-count
invariant-loop-count l = CanBeginNumber l.part (take l.count l.bytes) × (l.number ≡ value_of (take l.count l.bytes))
