-- The outcomes that a call and the writing of its page may have.
use Rattle.std.specs.Prelude.{Result, Ok, Err}
use Rattle.rm_types.specs.declared.outcomes.Outcome.{Outcome}
use Rattle.rm_types.specs.declared.outcomes.Outcome.TheVariants.{Done, WriteFault, ScheduleRefused, DiskFault, StoreDamaged, StoreFull, EpochsSpent, Memory}
use Rattle.rm_lives.specs.declared.halts.Stop.{Stop}
use Rattle.rm_lives.specs.declared.halts.Stop.TheVariants as stops

-- the outcome of writing a page: it was written, or the sink or the memory failed
abbrev pub IsOfWriting : Outcome → Type 0
IsOfWriting Done = Unit {0}
IsOfWriting (WriteFault took_nothing) = Unit {0}
IsOfWriting Memory = Unit {0}
IsOfWriting _ = ⊥

-- the outcome of a listing: it was written, or the device, the store, the sink or the memory failed
abbrev pub IsOfListing : Outcome → Type 0
IsOfListing DiskFault = Unit {0}
IsOfListing (StoreDamaged offset) = Unit {0}
IsOfListing outcome = IsOfWriting outcome

-- what stopped a run, as its outcome
abbrev pub outcome_of_stop : Stop → Outcome
outcome_of_stop stops.DiskFault = DiskFault
outcome_of_stop (stops.Damaged offset) = StoreDamaged offset
outcome_of_stop (stops.Full needed room) = StoreFull needed room
outcome_of_stop (stops.Schedule place) = ScheduleRefused place
outcome_of_stop stops.EpochsSpent = EpochsSpent
outcome_of_stop stops.Memory = Memory

-- what stopped a run is its outcome where its page was written
abbrev pub outcome_stopped : Stop → Outcome → Outcome
outcome_stopped stop Done = outcome_of_stop stop
outcome_stopped stop written = written

-- the outcome of a run whose page was written so: that of the writing, unless the page was written and the run had stopped
abbrev pub outcome_of : Result (Unit {0}) Stop → Outcome → Outcome
outcome_of (Ok _) written = written
outcome_of (Err stop) written = outcome_stopped stop written

-- the outcome of a run that was made
abbrev pub IsOfRun : Outcome → Type 0
IsOfRun EpochsSpent = Unit {0}
IsOfRun (StoreFull needed room) = Unit {0}
IsOfRun (ScheduleRefused place) = Unit {0}
IsOfRun outcome = IsOfListing outcome
