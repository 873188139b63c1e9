use Rattle.std.proofs.Common.{◌≡◌, take}
use Rattle.rm_tables.specs.Leaving.{departing}
use Rattle.rm_tables.proofs.missing.departing.Given as goal

abbrev pub invariant-list : goal.invariant-list
invariant-list l = l.ids ≡ departing l.t (take l.id-index l.list)
