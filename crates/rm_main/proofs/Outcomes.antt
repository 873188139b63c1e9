-- The outcome of a run that stopped, and of one whose page was written so.
use Rattle.std.proofs.Common.{◌≡◌, ◌⊎◌, ℕ, List, [], Bool, true, false, Option, Result, Ok, Err, length, refl, arith, sym, subst, inl, inr}
use Rattle.std.specs.Prelude.{IsOk, IfErr}
use Rattle.std.specs.Io.KnownBytes.{Appends}
use Rattle.std.proofs.lemmas.List.{take_all}
use Rattle.rm_types.specs.declared.operations.Op.{Op}
use Rattle.rm_types.specs.declared.outcomes.Outcome.{Outcome}
use Rattle.rm_types.specs.declared.outcomes.Outcome.TheVariants.{Done, Usage, ReadFault, WriteFault, ClusterRefused, ScriptRefused, ScheduleRefused, DiskFault, StoreDamaged, StoreFull, EpochsSpent, Memory, DeviceSmall}
use Rattle.rm_disk.specs.Disk.{DiskView, EachImage, IfTold}
use Rattle.rm_disk.specs.Fuse.{Fused}
use Rattle.rm_store.specs.Content.{HasContent}
use Rattle.rm_lives.specs.declared.halts.Stop.{Stop}
use Rattle.rm_lives.specs.declared.halts.Stop.TheVariants as stops
use Rattle.rm_lives.specs.Starts.{IsUnopenedBy}
use Rattle.rm_lives.specs.Stops.{IsStoppedBy}
use Rattle.rm_store.specs.Store.{seen}
use Rattle.rm_main.specs.Made.{Made}
use Rattle.rm_main.specs.Runs.{IsCausedBy, IsWritten, Writes, WritesPage}
use Rattle.rm_main.specs.modes.ListingClause.{IsListed}
use Rattle.rm_main.specs.Ways.{IsOfListing, IsOfWriting, outcome_of}

-- a whole page is a beginning of it
whole : (old new : Option (List ℕ)) (bytes : List ℕ) → Appends old new bytes → Writes Memory old new bytes
whole old new bytes h = (length bytes, omega arith, subst (λ (x : List ℕ). Appends old new x) (sym (take_all (length bytes) bytes (omega arith))) h)

-- what was written is what the run's outcome says
still_writes : (old new : Option (List ℕ)) (bytes : List ℕ) (ended : Result (Unit {0}) Stop) (written : Outcome) → IsOfWriting written → Writes written old new bytes → Writes (outcome_of ended written) old new bytes
still_writes old new bytes (Ok done) Done h w = w
still_writes old new bytes (Ok done) Usage h w = absurd h
still_writes old new bytes (Ok done) ReadFault h w = absurd h
still_writes old new bytes (Ok done) (WriteFault took_nothing) h w = w
still_writes old new bytes (Ok done) (ClusterRefused place) h w = absurd h
still_writes old new bytes (Ok done) (ScriptRefused line) h w = absurd h
still_writes old new bytes (Ok done) (ScheduleRefused place) h w = absurd h
still_writes old new bytes (Ok done) DiskFault h w = absurd h
still_writes old new bytes (Ok done) (StoreDamaged offset) h w = absurd h
still_writes old new bytes (Ok done) (StoreFull needed room) h w = absurd h
still_writes old new bytes (Ok done) EpochsSpent h w = absurd h
still_writes old new bytes (Ok done) (DeviceSmall size) h w = absurd h
still_writes old new bytes (Ok done) Memory h w = w
still_writes old new bytes (Err stops.DiskFault) Done h w = w
still_writes old new bytes (Err (stops.Damaged offset)) Done h w = w
still_writes old new bytes (Err (stops.Full needed room)) Done h w = w
still_writes old new bytes (Err (stops.Schedule place)) Done h w = w
still_writes old new bytes (Err stops.EpochsSpent) Done h w = w
still_writes old new bytes (Err stops.Memory) Done h w = whole old new bytes w
still_writes old new bytes (Err stop) Usage h w = absurd h
still_writes old new bytes (Err stop) ReadFault h w = absurd h
still_writes old new bytes (Err stop) (WriteFault took_nothing) h w = w
still_writes old new bytes (Err stop) (ClusterRefused place) h w = absurd h
still_writes old new bytes (Err stop) (ScriptRefused line) h w = absurd h
still_writes old new bytes (Err stop) (ScheduleRefused place) h w = absurd h
still_writes old new bytes (Err stop) DiskFault h w = absurd h
still_writes old new bytes (Err stop) (StoreDamaged offset) h w = absurd h
still_writes old new bytes (Err stop) (StoreFull needed room) h w = absurd h
still_writes old new bytes (Err stop) EpochsSpent h w = absurd h
still_writes old new bytes (Err stop) (DeviceSmall size) h w = absurd h
still_writes old new bytes (Err stop) Memory h w = w

-- a run that is done had come to its end
pub done_ended : (ended : Result (Unit {0}) Stop) (written : Outcome) → outcome_of ended written ≡ Done → IsOk ended
done_ended (Ok done) written is = refl
done_ended (Err stops.DiskFault) Done is = cc
done_ended (Err (stops.Damaged offset)) Done is = cc
done_ended (Err (stops.Full needed room)) Done is = cc
done_ended (Err (stops.Schedule place)) Done is = cc
done_ended (Err stops.EpochsSpent) Done is = cc
done_ended (Err stops.Memory) Done is = cc
done_ended (Err stop) Usage is = cc
done_ended (Err stop) ReadFault is = cc
done_ended (Err stop) (WriteFault took_nothing) is = cc
done_ended (Err stop) (ClusterRefused place) is = cc
done_ended (Err stop) (ScriptRefused line) is = cc
done_ended (Err stop) (ScheduleRefused place) is = cc
done_ended (Err stop) DiskFault is = cc
done_ended (Err stop) (StoreDamaged offset) is = cc
done_ended (Err stop) (StoreFull needed room) is = cc
done_ended (Err stop) EpochsSpent is = cc
done_ended (Err stop) (DeviceSmall size) is = cc
done_ended (Err stop) Memory is = cc

-- a fault of writing was one of writing the page
fault_written : (ended : Result (Unit {0}) Stop) (written : Outcome) (took_nothing : Bool) → outcome_of ended written ≡ WriteFault took_nothing → written ≡ WriteFault took_nothing
fault_written (Ok done) written took_nothing is = is
fault_written (Err stops.DiskFault) Done took_nothing is = cc
fault_written (Err (stops.Damaged offset)) Done took_nothing is = cc
fault_written (Err (stops.Full needed room)) Done took_nothing is = cc
fault_written (Err (stops.Schedule place)) Done took_nothing is = cc
fault_written (Err stops.EpochsSpent) Done took_nothing is = cc
fault_written (Err stops.Memory) Done took_nothing is = cc
fault_written (Err stop) Usage took_nothing is = is
fault_written (Err stop) ReadFault took_nothing is = is
fault_written (Err stop) (WriteFault took_none) took_nothing is = is
fault_written (Err stop) (ClusterRefused place) took_nothing is = is
fault_written (Err stop) (ScriptRefused line) took_nothing is = is
fault_written (Err stop) (ScheduleRefused place) took_nothing is = is
fault_written (Err stop) DiskFault took_nothing is = is
fault_written (Err stop) (StoreDamaged offset) took_nothing is = is
fault_written (Err stop) (StoreFull needed room) took_nothing is = is
fault_written (Err stop) EpochsSpent took_nothing is = is
fault_written (Err stop) (DeviceSmall size) took_nothing is = is
fault_written (Err stop) Memory took_nothing is = is

-- where a run's page was written whole, the writing was
wholly_written : (ended : Result (Unit {0}) Stop) (written : Outcome) → IsOfWriting written → IsWritten (outcome_of ended written) → IsWritten written
wholly_written (Ok done) written h is = is
wholly_written (Err stop) Done h is = tt
wholly_written (Err stop) Usage h is = absurd h
wholly_written (Err stop) ReadFault h is = absurd h
wholly_written (Err stop) (WriteFault took_nothing) h is = is
wholly_written (Err stop) (ClusterRefused place) h is = absurd h
wholly_written (Err stop) (ScriptRefused line) h is = absurd h
wholly_written (Err stop) (ScheduleRefused place) h is = absurd h
wholly_written (Err stop) DiskFault h is = absurd h
wholly_written (Err stop) (StoreDamaged offset) h is = absurd h
wholly_written (Err stop) (StoreFull needed room) h is = absurd h
wholly_written (Err stop) EpochsSpent h is = absurd h
wholly_written (Err stop) (DeviceSmall size) h is = absurd h
wholly_written (Err stop) Memory h is = is

-- what the sink took is what the run's outcome says
pub still_page : {K : Type 0} (taken : K → Option (List ℕ)) (faults idle : K → ℕ) (old new : K) (bytes : List ℕ) (ended : Result (Unit {0}) Stop) (written : Outcome) → IsOfWriting written
    → WritesPage taken faults idle old new bytes written → WritesPage taken faults idle old new bytes (outcome_of ended written)
still_page taken faults idle old new bytes ended written h w =
    record {
      writes = still_writes (taken old) (taken new) bytes ended written h w.writes;
      write_fault = λ is. w.write_fault (fault_written ended written false is);
      took_nothing = λ is. w.took_nothing (fault_written ended written true is);
      quiet = λ is. w.quiet (wholly_written ended written h is);
      untouched = w.untouched;
    }

-- why a run stopped is why its outcome came
pub caused : {D : Type 0} (view : D → DiskView) (due : Type 0) (refuses : ℕ → Type 0) (made : Made D) (ended : Result (Unit {0}) Stop) (written : Outcome) → IsOfWriting written → IfErr ended (IsStoppedBy view due refuses made.before made.after made.opening made.log)
    → IsCausedBy view due refuses made (outcome_of ended written)
caused view due refuses made (Ok done) Done h why = tt
caused view due refuses made (Ok done) Usage h why = absurd h
caused view due refuses made (Ok done) ReadFault h why = absurd h
caused view due refuses made (Ok done) (WriteFault took_nothing) h why = tt
caused view due refuses made (Ok done) (ClusterRefused place) h why = absurd h
caused view due refuses made (Ok done) (ScriptRefused line) h why = absurd h
caused view due refuses made (Ok done) (ScheduleRefused place) h why = absurd h
caused view due refuses made (Ok done) DiskFault h why = absurd h
caused view due refuses made (Ok done) (StoreDamaged offset) h why = absurd h
caused view due refuses made (Ok done) (StoreFull needed room) h why = absurd h
caused view due refuses made (Ok done) EpochsSpent h why = absurd h
caused view due refuses made (Ok done) (DeviceSmall size) h why = absurd h
caused view due refuses made (Ok done) Memory h why = tt
caused view due refuses made (Err stops.DiskFault) Done h why = why
caused view due refuses made (Err (stops.Damaged offset)) Done h why = why
caused view due refuses made (Err (stops.Full needed room)) Done h why = why
caused view due refuses made (Err (stops.Schedule place)) Done h why = why
caused view due refuses made (Err stops.EpochsSpent) Done h why = why
caused view due refuses made (Err stops.Memory) Done h why = tt
caused view due refuses made (Err stop) Usage h why = absurd h
caused view due refuses made (Err stop) ReadFault h why = absurd h
caused view due refuses made (Err stop) (WriteFault took_nothing) h why = tt
caused view due refuses made (Err stop) (ClusterRefused place) h why = absurd h
caused view due refuses made (Err stop) (ScriptRefused line) h why = absurd h
caused view due refuses made (Err stop) (ScheduleRefused place) h why = absurd h
caused view due refuses made (Err stop) DiskFault h why = absurd h
caused view due refuses made (Err stop) (StoreDamaged offset) h why = absurd h
caused view due refuses made (Err stop) (StoreFull needed room) h why = absurd h
caused view due refuses made (Err stop) EpochsSpent h why = absurd h
caused view due refuses made (Err stop) (DeviceSmall size) h why = absurd h
caused view due refuses made (Err stop) Memory h why = tt

-- what is listed is what the store holds, and nothing where it wasn't opened
pub listed : {D : Type 0} (view : D → DiskView) (made : Made D) (ended : Result (Unit {0}) Stop) (written : Outcome) → IsOfWriting written → IfErr ended (IsUnopenedBy view made.before made.after) → IfErr ended (λ stop. made.opening ≡ [])
    → (IsOk ended → IfTold (seen view made.before) (λ bytes. HasContent bytes made.opening × EachImage (seen view made.after) (λ image. HasContent image made.opening))) → IsListed view made (outcome_of ended written)
listed view made (Ok done) Done h why empty holds = holds refl
listed view made (Ok done) (WriteFault took_nothing) h why empty holds = tt
listed view made (Ok done) Memory h why empty holds = tt
listed view made (Ok done) Usage h why empty holds = absurd h
listed view made (Ok done) ReadFault h why empty holds = absurd h
listed view made (Ok done) (ClusterRefused place) h why empty holds = absurd h
listed view made (Ok done) (ScriptRefused line) h why empty holds = absurd h
listed view made (Ok done) (ScheduleRefused place) h why empty holds = absurd h
listed view made (Ok done) DiskFault h why empty holds = absurd h
listed view made (Ok done) (StoreDamaged offset) h why empty holds = absurd h
listed view made (Ok done) (StoreFull needed room) h why empty holds = absurd h
listed view made (Ok done) EpochsSpent h why empty holds = absurd h
listed view made (Ok done) (DeviceSmall size) h why empty holds = absurd h
listed view made (Err stops.DiskFault) Done h why empty holds = (empty, why)
listed view made (Err (stops.Damaged offset)) Done h why empty holds = (empty, why)
listed view made (Err (stops.Full needed room)) Done h why empty holds = absurd why
listed view made (Err (stops.Schedule place)) Done h why empty holds = absurd why
listed view made (Err stops.EpochsSpent) Done h why empty holds = absurd why
listed view made (Err stops.Memory) Done h why empty holds = tt
listed view made (Err stop) (WriteFault took_nothing) h why empty holds = tt
listed view made (Err stop) Memory h why empty holds = tt
listed view made (Err stop) Usage h why empty holds = absurd h
listed view made (Err stop) ReadFault h why empty holds = absurd h
listed view made (Err stop) (ClusterRefused place) h why empty holds = absurd h
listed view made (Err stop) (ScriptRefused line) h why empty holds = absurd h
listed view made (Err stop) (ScheduleRefused place) h why empty holds = absurd h
listed view made (Err stop) DiskFault h why empty holds = absurd h
listed view made (Err stop) (StoreDamaged offset) h why empty holds = absurd h
listed view made (Err stop) (StoreFull needed room) h why empty holds = absurd h
listed view made (Err stop) EpochsSpent h why empty holds = absurd h
listed view made (Err stop) (DeviceSmall size) h why empty holds = absurd h

-- an opening list is empty where the store wasn't opened, and else the disk held it
pub listed_held : {D : Type 0} (view : D → DiskView) (disk : Fused D) (ops : List Op) (ended : Result (Unit {0}) Stop) → IfErr ended (λ stop. ops ≡ []) → (IsOk ended → IfTold (seen view disk) (λ bytes. HasContent bytes ops))
    → (ops ≡ []) ⊎ IfTold (seen view disk) (λ bytes. HasContent bytes ops)
listed_held view disk ops (Ok done) empty holds = inr (holds refl)
listed_held view disk ops (Err stop) empty holds = inl empty

-- the outcome of a listing is that of its writing, or of a store that wasn't opened
pub of_listing : {D : Type 0} (view : D → DiskView) (before after : Fused D) (ended : Result (Unit {0}) Stop) (written : Outcome) → IsOfWriting written → IfErr ended (IsUnopenedBy view before after) → IsOfListing (outcome_of ended written)
of_listing view before after (Ok done) Done h why = tt
of_listing view before after (Ok done) Usage h why = absurd h
of_listing view before after (Ok done) ReadFault h why = absurd h
of_listing view before after (Ok done) (WriteFault took_nothing) h why = tt
of_listing view before after (Ok done) (ClusterRefused place) h why = absurd h
of_listing view before after (Ok done) (ScriptRefused line) h why = absurd h
of_listing view before after (Ok done) (ScheduleRefused place) h why = absurd h
of_listing view before after (Ok done) DiskFault h why = absurd h
of_listing view before after (Ok done) (StoreDamaged offset) h why = absurd h
of_listing view before after (Ok done) (StoreFull needed room) h why = absurd h
of_listing view before after (Ok done) EpochsSpent h why = absurd h
of_listing view before after (Ok done) (DeviceSmall size) h why = absurd h
of_listing view before after (Ok done) Memory h why = tt
of_listing view before after (Err stops.DiskFault) Done h why = tt
of_listing view before after (Err (stops.Damaged offset)) Done h why = tt
of_listing view before after (Err (stops.Full needed room)) Done h why = absurd why
of_listing view before after (Err (stops.Schedule place)) Done h why = absurd why
of_listing view before after (Err stops.EpochsSpent) Done h why = absurd why
of_listing view before after (Err stops.Memory) Done h why = tt
of_listing view before after (Err stop) Usage h why = absurd h
of_listing view before after (Err stop) ReadFault h why = absurd h
of_listing view before after (Err stop) (WriteFault took_nothing) h why = tt
of_listing view before after (Err stop) (ClusterRefused place) h why = absurd h
of_listing view before after (Err stop) (ScriptRefused line) h why = absurd h
of_listing view before after (Err stop) (ScheduleRefused place) h why = absurd h
of_listing view before after (Err stop) DiskFault h why = absurd h
of_listing view before after (Err stop) (StoreDamaged offset) h why = absurd h
of_listing view before after (Err stop) (StoreFull needed room) h why = absurd h
of_listing view before after (Err stop) EpochsSpent h why = absurd h
of_listing view before after (Err stop) (DeviceSmall size) h why = absurd h
of_listing view before after (Err stop) Memory h why = tt
