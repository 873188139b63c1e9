-- A life that halts stops the run.
use Rattle.rm_store.specs.declared.fault.StoreError.{StoreError}
use Rattle.rm_store.specs.declared.fault.StoreError.TheVariants as store
use Rattle.rm_lives.specs.declared.halts.Halt.{Halt}
use Rattle.rm_lives.specs.declared.halts.Halt.TheVariants as halts
use Rattle.rm_lives.specs.declared.halts.Stop.{Stop}
use Rattle.rm_lives.specs.declared.halts.Stop.TheVariants.{DiskFault, Damaged, Full, Schedule, Memory}

-- why a run stops, by why its life halted
abbrev pub stop_of : Halt → Stop
stop_of halts.DiskFault = DiskFault
stop_of (halts.Full needed room) = Full needed room
stop_of (halts.Schedule place) = Schedule place
stop_of halts.Memory = Memory

-- what halts a life where an append is refused by a store that isn't broken: its device failed or is full, or memory ran out
abbrev pub halt_of : StoreError → Halt
halt_of store.DiskFault = halts.DiskFault
halt_of (store.Full needed room) = halts.Full needed room
halt_of _ = halts.Memory

-- what stops a run whose store isn't opened
abbrev pub stop_at_open : StoreError → Stop
stop_at_open store.DiskFault = DiskFault
stop_at_open (store.Damaged offset) = Damaged offset
stop_at_open (store.Stray number offset) = Damaged offset
stop_at_open _ = Memory
