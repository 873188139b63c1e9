use Rattle.rm_script.proofs.Loop.{IsCut}
use Rattle.rm_script.proofs.reasons.place_of.Given as goal

-- so many lines were passed
abbrev pub invariant-lines : goal.invariant-lines
invariant-lines l = IsCut l.passed l.bytes l.rest
