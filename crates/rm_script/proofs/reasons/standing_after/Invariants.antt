use Rattle.std.proofs.Common.{length}
use Rattle.rm_script.proofs.reasons.standing_after.Given as goal

abbrev pub decreases-lines : goal.decreases-lines
decreases-lines l = length l.rest
