use Rattle.rm_store.specs.Store.{StoreInvariant}
use Rattle.rm_bench.proofs.numbered.append_behind.Given as goal

-- the store stands
abbrev pub invariant-numbers : goal.invariant-numbers
invariant-numbers g l = StoreInvariant g.D.Disk.view l.store
