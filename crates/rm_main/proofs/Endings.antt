-- How a call in each mode ends, from what it made.
use Rattle.std.proofs.Common.{◌≡◌, ℕ, List, [], Option, refl, subst, inl}
use Rattle.std.specs.declared.alloc.Global.{Global}
use Rattle.rm_types.specs.declared.entries.Entry.{Entry}
use Rattle.rm_types.specs.declared.outcomes.Outcome.{Outcome}
use Rattle.rm_types.specs.declared.outcomes.Outcome.TheVariants.{Done, Usage, ReadFault, WriteFault, ClusterRefused, ScriptRefused, ScheduleRefused, DiskFault, StoreDamaged, StoreFull, EpochsSpent, Memory, DeviceSmall}
use Rattle.rm_types.specs.declared.scripts.Script.{Script}
use Rattle.rm_types.specs.declared.settings.Settings.{Settings}
use Rattle.rm_core.specs.Words.{new_manager}
use Rattle.rm_desk.specs.View.{DeskView}
use Rattle.rm_disk.specs.Disk.{DiskView}
use Rattle.rm_lives.specs.Order.{run_after}
use Rattle.rm_outside.specs.Shelves.{ShelfTells}
use Rattle.rm_plain.proofs.Choosing.{left_none}
use Rattle.rm_plain.specs.Schedule.{StopsAt, by_letters, letters_left, steps_from, steps_of}
use Rattle.rm_plain.specs.declared.schedule.Step.{Step}
use Rattle.rm_soak.specs.Scripts.{soak_of}
use Rattle.rm_soak.specs.Settings.{soak_settings}
use Rattle.rm_main.specs.Made.{Made}
use Rattle.rm_main.specs.Runs.{RanBy, RanNothing}
use Rattle.rm_main.specs.Ways.{IsOfListing, IsOfRun}
use Rattle.rm_main.specs.modes.ListingClause.{IsListed, ListingEnds}
use Rattle.rm_main.specs.modes.RunClause.{RanFromFiles, RunEnds}
use Rattle.rm_main.specs.modes.SoakClause.{RanSoak, SoakEnds}
use Rattle.rm_words.specs.Words.{Mover}

-- a schedule without a byte has no letter
pub no_steps : steps_of [] ≡ []
unfolding steps_from
no_steps = refl

-- where there are no letters, none stops a run
pub never_stops : (log : List Entry) (d : DeskView) (at : ℕ) → StopsAt (letters_left [] log) d at → ⊥
never_stops log d at stops = subst (λ (l : List Step). StopsAt l d at) (left_none log) stops

-- how a run that was made ends
pub run_ends : {D : Type 0} (view : D → DiskView) (told : ShelfTells) (cluster script : List ℕ) (schedule : Option (List ℕ)) (mover : Mover) (made : Made D) (outcome : Outcome) → IsOfRun outcome → RanFromFiles view told cluster script schedule mover made outcome
    → RunEnds view told cluster script schedule mover made outcome
run_ends view told cluster script schedule mover made Done of ran = ran
run_ends view told cluster script schedule mover made Usage of ran = absurd of
run_ends view told cluster script schedule mover made ReadFault of ran = absurd of
run_ends view told cluster script schedule mover made (WriteFault took_nothing) of ran = ran
run_ends view told cluster script schedule mover made (ClusterRefused place) of ran = absurd of
run_ends view told cluster script schedule mover made (ScriptRefused line) of ran = absurd of
run_ends view told cluster script schedule mover made (ScheduleRefused place) of ran = ran
run_ends view told cluster script schedule mover made DiskFault of ran = ran
run_ends view told cluster script schedule mover made (StoreDamaged offset) of ran = ran
run_ends view told cluster script schedule mover made (StoreFull needed room) of ran = ran
run_ends view told cluster script schedule mover made EpochsSpent of ran = ran
run_ends view told cluster script schedule mover made (DeviceSmall size) of ran = absurd of
run_ends view told cluster script schedule mover made Memory of ran = inl ran

-- a run of a soak's settings and script, by a schedule without a byte, is that of the soak
pub soak_ran : {D : Type 0} (view : D → DiskView) (alloc : Global) (settings : Settings) (script : Script) (schedule : List ℕ) (number : ℕ) (made : Made D) (outcome : Outcome) → settings ≡ soak_settings → script ≡ soak_of number → schedule ≡ []
    → RanBy view (by_letters (steps_of schedule)) alloc settings script made outcome → RanSoak view number made outcome
soak_ran view alloc settings script schedule number made outcome is_settings is_script none ran =
    let of_settings = subst (λ (s : Settings). RanBy view (by_letters (steps_of schedule)) alloc s script made outcome) is_settings ran in
    let of_script = subst (λ (s : Script). RanBy view (by_letters (steps_of schedule)) alloc soak_settings s made outcome) is_script of_settings in
    let of_none = subst (λ (l : List ℕ). RanBy view (by_letters (steps_of l)) alloc soak_settings (soak_of number) made outcome) none of_script in
    record { alloc = alloc; ran = subst (λ (l : List Step). RanBy view (by_letters l) alloc soak_settings (soak_of number) made outcome) no_steps of_none }

-- how a soak that was run ends
pub soak_ends : {D : Type 0} (view : D → DiskView) (number : ℕ) (made : Made D) (outcome : Outcome) → IsOfRun outcome → RanSoak view number made outcome → SoakEnds view number made outcome
soak_ends view number made Done of ran = ran
soak_ends view number made Usage of ran = absurd of
soak_ends view number made ReadFault of ran = absurd of
soak_ends view number made (WriteFault took_nothing) of ran = ran
soak_ends view number made (ClusterRefused place) of ran = absurd of
soak_ends view number made (ScriptRefused line) of ran = absurd of
soak_ends view number made (ScheduleRefused place) of ran = absurd (never_stops made.log (run_after (new_manager ran.alloc soak_settings) (soak_of number) made.opening made.log) place ran.ran.caused.0)
soak_ends view number made DiskFault of ran = ran
soak_ends view number made (StoreDamaged offset) of ran = ran
soak_ends view number made (StoreFull needed room) of ran = ran
soak_ends view number made EpochsSpent of ran = ran
soak_ends view number made (DeviceSmall size) of ran = absurd of
soak_ends view number made Memory of ran = inl ran

-- how a listing ends
pub listing_ends : {D : Type 0} (view : D → DiskView) (made : Made D) (outcome : Outcome) → IsOfListing outcome → RanNothing made → IsListed view made outcome → ListingEnds view made outcome
listing_ends view made Done of nothing listed = (listed, nothing)
listing_ends view made Usage of nothing listed = absurd of
listing_ends view made ReadFault of nothing listed = absurd of
listing_ends view made (WriteFault took_nothing) of nothing listed = nothing
listing_ends view made (ClusterRefused place) of nothing listed = absurd of
listing_ends view made (ScriptRefused line) of nothing listed = absurd of
listing_ends view made (ScheduleRefused place) of nothing listed = absurd of
listing_ends view made DiskFault of nothing listed = (listed, nothing)
listing_ends view made (StoreDamaged offset) of nothing listed = (listed, nothing)
listing_ends view made (StoreFull needed room) of nothing listed = absurd of
listing_ends view made EpochsSpent of nothing listed = absurd of
listing_ends view made (DeviceSmall size) of nothing listed = absurd of
listing_ends view made Memory of nothing listed = nothing
