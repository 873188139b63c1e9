use Rattle.std.proofs.Common.{◌≡◌, take}
use Rattle.rm_tables.specs.ContainerSets.{with_containers}
use Rattle.rm_tables.proofs.container_set.join_each.Given as goal

abbrev pub invariant-ids : goal.invariant-ids
invariant-ids l = l.set.keys ≡ with_containers l.initial.set.keys (take l.place l.ids)
