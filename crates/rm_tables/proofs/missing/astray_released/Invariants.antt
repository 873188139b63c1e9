use Rattle.std.proofs.Common.{◌≡◌, take}
use Rattle.rm_tables.specs.Missing.{astray_released}
use Rattle.rm_tables.proofs.missing.astray_released.Given as goal

abbrev pub invariant-list : goal.invariant-list
invariant-list l = l.ids ≡ astray_released l.t l.attempt (take l.id-index l.list)
