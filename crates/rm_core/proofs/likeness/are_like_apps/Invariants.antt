use Rattle.std.proofs.Common.{◌≡◌, map, take}
use Rattle.rm_types.specs.Alike.{without_end_order}
use Rattle.rm_core.proofs.likeness.are_like_apps.Given as goal

abbrev pub invariant-records : goal.invariant-records
invariant-records l = map without_end_order (take l.place l.tree.apps) ≡ map without_end_order (take l.place l.other.apps)
