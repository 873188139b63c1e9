-- What a run comes to whose script grows at its end: over whatever script it has run so far, and the disk that was handed to it at first.
use Rattle.std.specs.Prelude.{◌≡◌, ◌⊎◌, List, [], IfErr, IsErr}
use Rattle.rm_types.specs.declared.operations.Op.{Op}
use Rattle.rm_types.specs.declared.scripts.Life.{Life}
use Rattle.rm_types.specs.declared.scripts.Script.{Script}
use Rattle.rm_disk.specs.Disk.{DiskView}
use Rattle.rm_disk.specs.Fuse.{Fused}
use Rattle.rm_model.specs.Place.{ByLife, Growth, script_grown}
use Rattle.rm_core.specs.Words.{as_new, has_rest}
use Rattle.rm_desk.specs.Runs.{IsScriptRun as GoesAlong}
use Rattle.rm_desk.specs.View.{DeskView}
use Rattle.rm_lives.specs.declared.halts.Stop.TheVariants.{Memory}
use Rattle.rm_lives.specs.declared.runs.Run.{Run}
use Rattle.rm_lives.specs.Complete.{HasPlace}
use Rattle.rm_lives.specs.Parts.{RunsOn}
use Rattle.rm_lives.specs.Stops.{IsDue}
use Rattle.rm_lives.specs.Whole.{HasRun}
use Rattle.rm_plain.specs.declared.growing_run.BeginFail.{BeginFail}
use Rattle.rm_plain.specs.declared.growing_run.BeginFail.TheVariants as fails
use Rattle.rm_plain.specs.declared.growing_run.GrowingRun.{GrowingRun}
use Rattle.rm_plain.specs.declared.growing_run.Held.{Held}
use Rattle.rm_plain.specs.declared.growing_run.Held.TheVariants as held
use Rattle.rm_plain.specs.Feeding.{IsSameManager, StandsAtEnd, WaitsAtEnd, by_policy}
use Rattle.rm_plain.specs.Schedule.{by_letters}

-- the store serves the life that stands at the script's end; or none stands, and its disk waits
abbrev pub IsHeldFor : {D : Type 0} → (D → DiskView) → DeskView → Held D → Type 0
IsHeldFor view d (held.Store store) = StandsAtEnd view d store
IsHeldFor view d (held.Disk disk) = WaitsAtEnd d disk

-- the same of a growing run
abbrev pub IsGrowing : {D : Type 0} → (D → DiskView) → GrowingRun D → Type 0
IsGrowing view run = IsHeldFor view run.desk run.held

-- the disk of a growing run
abbrev pub disk_held : {D : Type 0} → Held D → Fused D
disk_held (held.Store store) = store.disk
disk_held (held.Disk disk) = disk

-- nothing was run yet, and the disk is as it was handed in
pub record IsUnbegun {D : Type 0} (script : Script) (first now : Fused D) (opening : List Op) (d : DeskView) : Type 0 where
  pub empty : d.core.log ≡ []
  pub nothing : opening ≡ []
  pub same : now ≡ first
  pub along : (ops : List Op) → GoesAlong ops script d

-- the script so far was run, by the plain policy
abbrev pub RunsSoFar : {D : Type 0} → (D → DiskView) → Script → Fused D → List Op → DeskView → Held D → Type 0
RunsSoFar view script first opening d (held.Store store) = RunsOn by_policy view opening script first store.disk d
RunsSoFar view script first opening d (held.Disk disk) = IsUnbegun script first disk opening d ⊎ RunsOn by_policy view opening script first disk d

-- a growing run has run this script, over the disk that was handed to it at first
abbrev pub HasComeTo : {D : Type 0} → (D → DiskView) → Script → Fused D → GrowingRun D → Type 0
HasComeTo view script first run = RunsSoFar view script first run.opening run.desk run.held

-- all that was fed is worked off: nothing is left to do in the life that stands, or none stands
abbrev pub IsSettledIn : {D : Type 0} → DeskView → Held D → Type 0
IsSettledIn d (held.Store store) = has_rest d.core
IsSettledIn d (held.Disk disk) = Unit {0}

-- the same of a growing run
abbrev pub IsSettled : {D : Type 0} → GrowingRun D → Type 0
IsSettled run = IsSettledIn run.desk run.held

-- a growing run went on: its manager is the same, and whatever script it had run, it has run that one and what it grew by
pub record GrowsInto {D : Type 0} (view : D → DiskView) (growth : Growth) (old new : GrowingRun D) : Type 0 where
  pub same : IsSameManager old.desk new.desk
  pub runs : (script : Script) (first : Fused D) → HasComeTo view script first old → HasComeTo view (script_grown growth script) first new

-- a growing run came to its end, or something stopped it: whatever script it had run, that is all that a plain run of the script behind it does; and where nothing stood in its
-- way, want of memory alone stopped it
pub record EndsGrowing {D : Type 0} (view : D → DiskView) (behind : Script → Script) (old : GrowingRun D) (run : Run D) : Type 0 where
  pub ran : (script : Script) (first : Fused D) → HasComeTo view script first old
      → HasRun (by_letters []) view (as_new old.desk.core) old.desk.core.settings (behind script) first run.disk run.opening run.log run.ended
  pub complete : (script : Script) (first : Fused D) → HasComeTo view script first old → HasPlace view first run.disk (IsDue (behind script) run.opening run.log) run.opening run.log → IfErr run.ended (λ stop. stop ≡ Memory)

-- why a life did not begin: no memory was found to add it, and the run is as it was; or something stopped the run
abbrev pub BeginFails : {D : Type 0} → (D → DiskView) → Life → GrowingRun D → BeginFail D → Type 0
BeginFails view life old (fails.Memory run) = run ≡ old
BeginFails view life old (fails.Stopped run) = IsErr run.ended × EndsGrowing view (script_grown (ByLife life)) old run
