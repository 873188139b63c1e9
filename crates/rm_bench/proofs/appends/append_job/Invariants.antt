use Rattle.rm_store.specs.Store.{StoreInvariant}
use Rattle.rm_bench.proofs.appends.append_job.Given as goal

-- the store stands
abbrev pub invariant-steps : goal.invariant-steps
invariant-steps g l = StoreInvariant g.D.Disk.view l.store
