use Rattle.std.proofs.Common.{◌≡◌, take}
use Rattle.rm_core.proofs.likeness.are_same_attempts.Given as goal

abbrev pub invariant-attempts : goal.invariant-attempts
invariant-attempts l = take l.place l.some ≡ take l.place l.others
