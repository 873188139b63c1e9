use Rattle.rm_store.proofs.Common.{◌≡◌, true, map, take, ◌≤◌, ◌+◌, [], frame}
use Rattle.rm_store.specs.Store.{KeepsOwn}
use Rattle.rm_store.proofs.Changes.{Building}
use Rattle.rm_store.proofs.changing.add_all.Given as goal

abbrev pub invariant-ops : goal.invariant-ops
invariant-ops g l = Building (g.D.Disk.view l.fn.disk) (g.D.Disk.view l.disk) l.fn.areas l.areas (map frame (take l.place l.ops)) × g.D.Disk.keeps true l.fn.disk l.disk × (g.D.Disk.counted l.disk ≤ g.D.Disk.counted l.fn.disk + l.place) × ((l.fn.areas.generation ≡ 0 → l.ops ≡ []) → KeepsOwn (g.D.Disk.view l.fn.disk) (g.D.Disk.view l.disk))
