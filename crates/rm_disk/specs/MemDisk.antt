-- What contracts see of a disk in memory beyond what they see of every disk.
use Rattle.std.specs.Prelude.{◌≡◌, ◌↔◌, ◌+◌, ◌-◌, ◌^◌, ℕ, min, List, drop, Contains, Some, Result, Err}
use Rattle.rm_disk.specs.Disk.{DiskView, IsDurable}
use Rattle.rm_disk.specs.Memory.{MemState, fallen, view_of_memory}
use Rattle.rm_disk.specs.declared.device.DiskError.{DiskError}
use Rattle.rm_disk.specs.declared.device.DiskError.TheVariants.{DiskFault}
use Rattle.rm_disk.specs.declared.memory.MemDisk.{MemDisk}

-- The disk as contracts see every disk.
abbrev pub memory_view : MemDisk → DiskView
memory_view disk = view_of_memory disk.first.items disk.bytes.items disk.calls.items disk.faults

-- What a fall picks its image from: the bytes of now, those at the last sync, and the writes since.
abbrev pub state_of : MemDisk → MemState
state_of disk = record { now = disk.bytes.items; synced = disk.synced.items; unsynced = drop disk.settled disk.calls.items }

-- The numbers of the calls that fail.
abbrev pub failing_calls : MemDisk → List ℕ
failing_calls disk = disk.failing

-- How many reads, writes and syncs were made, up to the end of the count.
abbrev pub calls_made : MemDisk → ℕ
calls_made disk = disk.count

-- The number of the next read, write or sync; the first is 1.
abbrev pub next_number : MemDisk → ℕ
next_number disk = min (calls_made disk + 1) (2 ^ 64 - 1)

-- The disk after a call that failed: its number is taken and the fault counted, and nothing else changed.
abbrev pub after_fault : MemDisk → MemDisk
after_fault disk = record disk { count = next_number disk; faults = min (disk.faults + 1) (2 ^ 64 - 1) }

-- A fall leaves the image of that number, and takes no number of a call.
pub record FallsTo (image : ℕ) (old new : MemDisk) : Type 0 where
  pub told : (memory_view new).told ≡ Some (fallen image (state_of old))
  pub number : calls_made new ≡ calls_made old
  pub list : failing_calls new ≡ failing_calls old

-- A call takes the next number, and answers DiskFault exactly where the list has that number, then without effect.
pub record TakesNumber {T : Type 0} (old new : MemDisk) (result : Result T DiskError) : Type 0 where
  pub number : calls_made new ≡ next_number old
  pub list : failing_calls new ≡ failing_calls old
  pub fails : (result ≡ Err DiskFault) ↔ Contains (failing_calls old) (next_number old)
  pub no_effect : result ≡ Err DiskFault → new ≡ after_fault old

-- A disk of these bytes, all of them synced, on which no call was made and these will fail.
pub record IsFresh (bytes failing : List ℕ) (disk : MemDisk) : Type 0 where
  pub told : (memory_view disk).told ≡ Some bytes
  pub durable : IsDurable (memory_view disk)
  pub faults : (memory_view disk).faults ≡ 0
  pub list : failing_calls disk ≡ failing
  pub none_made : calls_made disk ≡ 0
