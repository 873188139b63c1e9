use Rattle.rm_store.specs.Store.{StoreInvariant}
use Rattle.rm_bench.proofs.cycles.keep_jobs.Given as goal

-- the store stands
abbrev pub invariant-jobs : goal.invariant-jobs
invariant-jobs g l = StoreInvariant g.D.Disk.view l.store
