-- What a call of the program comes to by its words, and with which status the program ends. This project's own.
use Rattle.std.specs.Prelude.{◌≡◌, ◌⊎◌, ℕ, List, [], Bool, true, false, Option, None, Some, replicate}
use Rattle.std.specs.Process.{exit_status}
use Rattle.std.specs.declared.process.ExitCode.{ExitCode}
use Rattle.rm_types.specs.declared.outcomes.Outcome.{Outcome}
use Rattle.rm_types.specs.declared.outcomes.Outcome.TheVariants.{Memory, ReadFault, Usage, WriteFault}
use Rattle.rm_types.specs.Counts.{Rose}
use Rattle.rm_outside.specs.Sinks.{SinkCounts}
use Rattle.rm_disk.specs.Disk.{DiskView}
use Rattle.rm_disk.specs.Fuse.{Fused}
use Rattle.rm_disk.specs.MemDisk.{IsFresh, memory_view}
use Rattle.rm_disk.specs.declared.memory.MemDisk.{MemDisk}
use Rattle.rm_main.specs.Made.{LeavesDevice, Made}
use Rattle.rm_main.specs.Runs.{StopsBefore}
use Rattle.rm_main.specs.modes.{CallEnds}
use Rattle.rm_outside.specs.Shelves.{ShelfTells}
use Rattle.rm_main.specs.Statuses.{status_of}
use Rattle.rm_words.specs.Words.{Asked, device_size, is_in_file, mode_of}

-- the system's files tell no bytes
abbrev pub untold : ShelfTells
untold = λ name. None

-- a device under a new fuse
abbrev pub under_new_fuse : {D : Type 0} → D → Fused D
under_new_fuse device = record { inner = device; falls = []; unarmed_falls = 0; armed = None; passed = 0; blown = false; refused = 0 }

-- a call that was asked for this was made over this device and left that one: under a new fuse it came to what was asked for, as the contract of `top` says
pub record RanOver {D : Type 0} (view : D → DiskView) (asked : Asked) (old new : D) (outcome : Outcome) : Type 0 where
  pub made : Made D
  pub over : made.before ≡ under_new_fuse old
  pub given_back : made.after.inner ≡ new
  pub ends : CallEnds view untold (Some asked) made outcome
  pub unused : StopsBefore outcome → made.after ≡ made.before
  pub device : LeavesDevice view made

-- what the outcome of a call tells of its files and of its output was counted there: a file that could not be read, a write that was refused, or one of which nothing was taken
pub record OutcomeCountsFaults (outcome : Outcome) (reads : ℕ) (sink : SinkCounts) : Type 0 where
  pub read_fault : outcome ≡ ReadFault → Rose 0 reads
  pub write_fault : outcome ≡ WriteFault false → Rose 0 sink.faults
  pub took_nothing : outcome ≡ WriteFault true → Rose 0 sink.idle

-- a new device in memory, of so many bytes, all of which are 0
pub record IsNewDevice (wanted : ℕ) (device : MemDisk) : Type 0 where
  pub size : ℕ
  pub is : size ≡ wanted
  pub fresh : IsFresh (replicate size 0) [] device

-- a call that was asked for this was made over a new device in memory, of the size that it takes
pub record RanInMemory (asked : Asked) (outcome : Outcome) : Type 0 where
  pub old : MemDisk
  pub new : MemDisk
  pub is_new : IsNewDevice (device_size asked) old
  pub ran : RanOver memory_view asked old new outcome

-- over which device a call was made, by what was asked for and whether the file is to be its device: over the one in the store's file, or over a new one in memory, and then that
-- file's is as it was; words that ask for nothing need none
abbrev pub RanOverAsked : {D : Type 0} → (D → DiskView) → Option Asked → Bool → D → D → Outcome → Type 0
RanOverAsked view None in_file old new outcome = (new ≡ old) × (outcome ≡ Usage)
RanOverAsked view (Some asked) true old new outcome = RanOver view asked old new outcome
RanOverAsked view (Some asked) false old new outcome = (new ≡ old) × RanInMemory asked outcome

-- what a call came to: it found no memory for its words or for a device, or was made over the device that is asked for
abbrev pub CameTo : {D : Type 0} → (D → DiskView) → Option Asked → Bool → D → D → Outcome → Type 0
CameTo view asked in_file old new outcome = ((outcome ≡ Memory) × (new ≡ old)) ⊎ RanOverAsked view asked in_file old new outcome

-- what a call by these words came to
pub record CameBy {D : Type 0} (view : D → DiskView) (words : List (List ℕ)) (old new : D) (outcome : Outcome) : Type 0 where
  pub either : CameTo view (mode_of words) (is_in_file words) old new outcome

-- a call by some words, over some device in the store's file, came to this
pub record CameToBySome {D : Type 0} (view : D → DiskView) (outcome : Outcome) : Type 0 where
  pub words : List (List ℕ)
  pub old : D
  pub new : D
  pub came : CameBy view words old new outcome

-- the outcome of the program: that of a call by its words; or no file could be opened in the standard streams' places, or the words are no text or found no memory
abbrev pub IsOfProgram : {D : Type 0} → (D → DiskView) → Outcome → Type 0
IsOfProgram view outcome = CameToBySome view outcome ⊎ ((outcome ≡ ReadFault) ⊎ ((outcome ≡ Usage) ⊎ (outcome ≡ Memory)))

-- the program ended with the status of its outcome
pub record EndsProgram {D : Type 0} (view : D → DiskView) (code : ExitCode) : Type 0 where
  pub outcome : Outcome
  pub of_program : IsOfProgram view outcome
  pub status : exit_status code ≡ status_of outcome
