use Rattle.rm_store.specs.Store.{StoreInvariant}
use Rattle.rm_bench.proofs.cycles.cycle.Given as goal

-- the store stands
abbrev pub invariant-cycles : goal.invariant-cycles
invariant-cycles g l = StoreInvariant g.D.Disk.view l.store
