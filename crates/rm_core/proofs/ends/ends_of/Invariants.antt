use Rattle.std.proofs.Common.{◌≡◌, take}
use Rattle.rm_core.specs.Ends.{paired_ends}
use Rattle.rm_core.proofs.ends.ends_of.Given as goal

abbrev pub invariant-records : goal.invariant-records
invariant-records l = l.ends.items ≡ paired_ends (take l.place l.tree.apps) (take l.place l.other.apps)
