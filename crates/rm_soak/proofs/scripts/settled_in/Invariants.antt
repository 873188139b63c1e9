use Rattle.std.proofs.Common.{◌≡◌, ◌-◌, map}
use Rattle.rm_soak.specs.Scripts.{messages_of, own_segment}
use Rattle.rm_soak.proofs.scripts.settled_in.Given as goal

abbrev pub invariant-apps : goal.invariant-apps
invariant-apps l = l.segments ≡ map own_segment (messages_of l.stamp (l.k - 1))
