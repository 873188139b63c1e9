use Rattle.std.proofs.Common.{length}
use Rattle.rm_script.proofs.Loop.{IsAt}
use Rattle.rm_script.proofs.reading.script_of.Given as goal

abbrev pub invariant-lines : goal.invariant-lines
invariant-lines l = IsAt l.count l.bytes l.rest l.draft

abbrev pub decreases-lines : goal.decreases-lines
decreases-lines l = length l.rest
