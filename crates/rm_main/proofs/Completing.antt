-- A run that nothing stands in the way of is Done, or memory ran out.
use Rattle.std.proofs.Common.{◌≡◌, ◌⊎◌, ℕ, List, [], Option, Some, None, true, false, inl, inr, refl, sym, ◌∙◌, ap, subst}
use Rattle.std.specs.declared.alloc.Global.{Global}
use Rattle.rm_types.specs.declared.outcomes.Outcome.{Outcome}
use Rattle.rm_types.specs.declared.outcomes.Outcome.TheVariants.{Done, Usage, ReadFault, WriteFault, ClusterRefused, ScriptRefused, ScheduleRefused, DiskFault, StoreDamaged, StoreFull, EpochsSpent, Memory, DeviceSmall}
use Rattle.rm_types.specs.declared.scripts.Script.{Script}
use Rattle.rm_types.specs.declared.settings.Settings.{Settings}
use Rattle.rm_types.specs.Counts.{Rose}
use Rattle.rm_disk.specs.Disk.{DiskView}
use Rattle.rm_outside.specs.Shelves.{bytes_read, ShelfTells, WereRead}
use Rattle.rm_cluster.specs.Clusters.{IsCluster, IsNoCluster}
use Rattle.rm_cluster.specs.declared.clusters.ClusterError.TheVariants.{Refused}
use Rattle.rm_cluster.specs.Rules.{first_broken}
use Rattle.rm_script.specs.Refusals.{IsFirstRefused}
use Rattle.rm_script.proofs.Answered.{not_both}
use Rattle.rm_types.specs.declared.entries.Entry.{Entry}
use Rattle.rm_core.specs.Words.{new_manager}
use Rattle.rm_desk.specs.View.{DeskView}
use Rattle.rm_plain.specs.declared.schedule.Step.{Step}
use Rattle.rm_lives.specs.declared.halts.Stop.{Stop}
use Rattle.rm_lives.specs.declared.halts.Stop.TheVariants as halted
use Rattle.rm_lives.specs.Complete.{HasPlace}
use Rattle.rm_lives.specs.Order.{Order, run_after}
use Rattle.rm_plain.specs.Schedule.{StopsAt, letters_left, steps_of}
use Rattle.rm_lives.specs.Stops.{IsDue, IsStoppedBy}
use Rattle.rm_lives.proofs.Completing.{only_memory, place_due}
use Rattle.rm_lives.proofs.Onward.{no_store_not}
use Rattle.rm_main.specs.Complete.{AreAccepted, HasPlaceFor, IsAccepted, LifeIsDue, ScheduleIsFollowed, NoneRose}
use Rattle.rm_main.specs.Made.{Made}
use Rattle.rm_main.specs.Runs.{HasNoScript, HasNoSettings, RanBy}
use Rattle.rm_main.specs.modes.{CallEnds}
use Rattle.rm_main.specs.modes.RunClause.{RanFromFiles, RunEnds}
use Rattle.rm_main.specs.modes.SoakClause.{SoakEnds}
use Rattle.rm_main.specs.modes.ListingClause.{ListingEnds}
use Rattle.rm_main.proofs.Endings.{never_stops, no_steps}
use Rattle.rm_words.specs.Words.{Asked, Run, Soak, Listing, Mover, OneThread, Workers}

-- what was read of a file whose bytes are told
read_is : (told : Option (List ℕ)) (bytes all : List ℕ) → told ≡ Some all → WereRead told bytes → bytes ≡ bytes_read all
read_is told bytes all is read = let now = subst (λ (o : Option (List ℕ)). WereRead o bytes) is read in now

-- bytes that hold settings break no rule
apart : (bytes : List ℕ) (settings : Settings) (place : ℕ) → IsCluster bytes settings → IsNoCluster bytes (Refused place) → ⊥
apart bytes settings place is (inl none) = let never = sym (none.1 is.holds.short is.holds.utf8) ∙ is.holds.value in cc
apart bytes settings place is (inr breaks) =
    let one = sym is.holds.value ∙ breaks.holds.value in
    let same : is.file ≡ breaks.file = cc in
    let broken : first_broken is.file ≡ Some place = rw same breaks.broken in
    let never = sym is.settled.unbroken ∙ broken in cc

-- where a schedule has no byte, no letter of it stops a run
no_letters : (schedule : List ℕ) (log : List Entry) (d : DeskView) (at : ℕ) → schedule ≡ [] → StopsAt (letters_left (steps_of schedule) log) d at → ⊥
no_letters schedule log d at none stops = never_stops log d at (subst (λ (l : List Step). StopsAt (letters_left l log) d at) (ap steps_of none ∙ no_steps) stops)

module _ {D : Type 0} (view : D → DiskView) (told : ShelfTells) (made : Made D) where
  no_bad_cluster : (cluster script : List ℕ) → AreAccepted told cluster script → (at : ℕ) → HasNoSettings (told cluster) at → ⊥
  no_bad_cluster cluster script accepted at none =
      let read = read_is (told cluster) none.bytes accepted.cluster_bytes accepted.cluster_told none.read in
      apart (bytes_read accepted.cluster_bytes) accepted.settings at accepted.of_cluster (subst (λ (l : List ℕ). IsNoCluster l (Refused at)) read none.none)

  no_bad_script : (cluster script : List ℕ) → AreAccepted told cluster script → (line : ℕ) → HasNoScript (told script) line → ⊥
  no_bad_script cluster script accepted line none =
      let read = read_is (told script) none.bytes accepted.script_bytes accepted.script_told none.read in
      not_both (bytes_read accepted.script_bytes) accepted.script line accepted.of_script (subst (λ (l : List ℕ). IsFirstRefused l line) read none.none)

  module _ (order : Order) (alloc : Global) (settings : Settings) (script : Script) (place : HasPlace view made.before made.after (IsDue script made.opening made.log) made.opening made.log) where
    -- where nothing stands in its way, nothing but want of memory stops a run, but for a letter
    no_stop : (stop : Stop) → IsStoppedBy view (IsDue script made.opening made.log) (λ at. ⊥) made.before made.after made.opening made.log stop → stop ≡ halted.Memory
    no_stop = only_memory view made.before made.after made.opening made.log (IsDue script made.opening made.log) (λ at. ⊥) (λ at no. no) place

    no_fault : RanBy view order alloc settings script made DiskFault → ⊥
    no_fault ran = let is = no_stop halted.DiskFault ran.caused in cc

    no_damage : (offset : ℕ) → RanBy view order alloc settings script made (StoreDamaged offset) → ⊥
    no_damage offset ran = let is = no_stop (halted.Damaged offset) ran.caused in cc

    no_full : (needed room : ℕ) → RanBy view order alloc settings script made (StoreFull needed room) → ⊥
    no_full needed room ran = let is = no_stop (halted.Full needed room) ran.caused in cc

    no_spent : RanBy view order alloc settings script made EpochsSpent → ⊥
    no_spent ran = let is = no_stop halted.EpochsSpent ran.caused in cc

  -- a life of the script that was run is one of what was asked for
  place_of : (cluster script : List ℕ) (schedule : Option (List ℕ)) (mover : Mover) (outcome : Outcome) → HasPlaceFor view told (Some (Run cluster script schedule mover)) made → (ran : RanFromFiles view told cluster script schedule mover made outcome)
      → HasPlace view made.before made.after (IsDue ran.script made.opening made.log) made.opening made.log
  place_of cluster script schedule mover outcome place ran =
      place_due view made.before made.after made.opening made.log (IsDue ran.script made.opening made.log) (LifeIsDue told (Some (Run cluster script schedule mover)) made) (λ due. (ran.script, ran.of_script, due)) place

  -- no letter stops a run
  no_letter : (cluster script : List ℕ) (schedule : Option (List ℕ)) (mover : Mover) → ScheduleIsFollowed told (Some (Run cluster script schedule mover)) made → (at : ℕ) → RanFromFiles view told cluster script schedule mover made (ScheduleRefused at) → ⊥
  no_letter cluster script schedule Workers followed at ran = absurd ran.ran.caused.0
  no_letter cluster script None OneThread followed at ran = no_letters ran.schedule made.log (run_after (new_manager ran.alloc ran.settings) ran.script made.opening made.log) at ran.of_schedule ran.ran.caused.0
  no_letter cluster script (Some schedule) OneThread followed at ran = followed ran.alloc ran.settings ran.script ran.schedule at ran.of_cluster ran.of_script ran.of_schedule ran.ran.caused.0

  module _ (read_old read_new write_old write_new idle_old idle_new : ℕ) (none : NoneRose read_old read_new write_old write_new idle_old idle_new) where
    -- a run whose files are accepted, and whose schedule is followed
    run_complete : (cluster script : List ℕ) (schedule : Option (List ℕ)) (mover : Mover) → HasPlaceFor view told (Some (Run cluster script schedule mover)) made → AreAccepted told cluster script → ScheduleIsFollowed told (Some (Run cluster script schedule mover)) made
        → (outcome : Outcome) → RunEnds view told cluster script schedule mover made outcome → (outcome ≡ ReadFault → Rose read_old read_new) → (outcome ≡ WriteFault false → Rose write_old write_new)
        → (outcome ≡ WriteFault true → Rose idle_old idle_new) → (outcome ≡ Done) ⊎ (outcome ≡ Memory)
    run_complete cluster script schedule mover place accepted followed Done ends read write idle = inl refl
    run_complete cluster script schedule mover place accepted followed Memory ends read write idle = inr refl
    run_complete cluster script schedule mover place accepted followed Usage ends read write idle = absurd ends
    run_complete cluster script schedule mover place accepted followed ReadFault ends read write idle = absurd (none.reads (read refl))
    run_complete cluster script schedule mover place accepted followed (WriteFault true) ends read write idle = absurd (none.idle (idle refl))
    run_complete cluster script schedule mover place accepted followed (WriteFault false) ends read write idle = absurd (none.writes (write refl))
    run_complete cluster script schedule mover place accepted followed (ClusterRefused at) ends read write idle = absurd (no_bad_cluster cluster script accepted at ends.0)
    run_complete cluster script schedule mover place accepted followed (ScriptRefused line) ends read write idle = absurd (no_bad_script cluster script accepted line ends.0.2)
    run_complete cluster script schedule mover place accepted followed (ScheduleRefused at) ends read write idle = absurd (no_letter cluster script schedule mover followed at ends)
    run_complete cluster script schedule mover place accepted followed DiskFault ends read write idle = absurd (no_fault _ _ _ _ (place_of cluster script schedule mover DiskFault place ends) ends.ran)
    run_complete cluster script schedule mover place accepted followed (StoreDamaged offset) ends read write idle = absurd (no_damage _ _ _ _ (place_of cluster script schedule mover (StoreDamaged offset) place ends) offset ends.ran)
    run_complete cluster script schedule mover place accepted followed (StoreFull needed room) ends read write idle = absurd (no_full _ _ _ _ (place_of cluster script schedule mover (StoreFull needed room) place ends) needed room ends.ran)
    run_complete cluster script schedule mover place accepted followed EpochsSpent ends read write idle = absurd (no_spent _ _ _ _ (place_of cluster script schedule mover EpochsSpent place ends) ends.ran)
    run_complete cluster script schedule mover place accepted followed (DeviceSmall size) ends read write idle = absurd ends

    -- a soak, which has no file
    soak_complete : (number : ℕ) → HasPlaceFor view told (Some (Soak number)) made → (outcome : Outcome) → SoakEnds view number made outcome → (outcome ≡ WriteFault false → Rose write_old write_new) → (outcome ≡ WriteFault true → Rose idle_old idle_new) → (outcome ≡ Done) ⊎ (outcome ≡ Memory)
    soak_complete number place Done ends write idle = inl refl
    soak_complete number place Memory ends write idle = inr refl
    soak_complete number place Usage ends write idle = absurd ends
    soak_complete number place ReadFault ends write idle = absurd ends
    soak_complete number place (WriteFault true) ends write idle = absurd (none.idle (idle refl))
    soak_complete number place (WriteFault false) ends write idle = absurd (none.writes (write refl))
    soak_complete number place (ClusterRefused at) ends write idle = absurd ends
    soak_complete number place (ScriptRefused line) ends write idle = absurd ends
    soak_complete number place (ScheduleRefused at) ends write idle = absurd ends
    soak_complete number place DiskFault ends write idle = absurd (no_fault _ _ _ _ place ends.ran)
    soak_complete number place (StoreDamaged offset) ends write idle = absurd (no_damage _ _ _ _ place offset ends.ran)
    soak_complete number place (StoreFull needed room) ends write idle = absurd (no_full _ _ _ _ place needed room ends.ran)
    soak_complete number place EpochsSpent ends write idle = absurd (no_spent _ _ _ _ place ends.ran)
    soak_complete number place (DeviceSmall size) ends write idle = absurd ends

    -- a listing, of a device that holds a store
    listing_complete : HasPlaceFor view told (Some Listing) made → (outcome : Outcome) → ListingEnds view made outcome → (outcome ≡ WriteFault false → Rose write_old write_new) → (outcome ≡ WriteFault true → Rose idle_old idle_new)
        → (outcome ≡ Done) ⊎ (outcome ≡ Memory)
    listing_complete place Done ends write idle = inl refl
    listing_complete place Memory ends write idle = inr refl
    listing_complete place Usage ends write idle = absurd ends
    listing_complete place ReadFault ends write idle = absurd ends
    listing_complete place (WriteFault true) ends write idle = absurd (none.idle (idle refl))
    listing_complete place (WriteFault false) ends write idle = absurd (none.writes (write refl))
    listing_complete place (ClusterRefused at) ends write idle = absurd ends
    listing_complete place (ScriptRefused line) ends write idle = absurd ends
    listing_complete place (ScheduleRefused at) ends write idle = absurd ends
    listing_complete place DiskFault ends write idle = absurd (place.faultless ends.0.1)
    listing_complete place (StoreDamaged offset) ends write idle = absurd (no_store_not place.bytes place.ops offset place.holds (ends.0.1 place.bytes place.told))
    listing_complete place (StoreFull needed room) ends write idle = absurd ends
    listing_complete place EpochsSpent ends write idle = absurd ends
    listing_complete place (DeviceSmall size) ends write idle = absurd ends

  -- by what was asked for: words that ask for nothing aren't accepted
  pub complete : (asked : Option Asked) → HasPlaceFor view told asked made → IsAccepted told asked → ScheduleIsFollowed told asked made → (read_old read_new write_old write_new idle_old idle_new : ℕ) → NoneRose read_old read_new write_old write_new idle_old idle_new
      → (outcome : Outcome) → CallEnds view told asked made outcome → (outcome ≡ ReadFault → Rose read_old read_new) → (outcome ≡ WriteFault false → Rose write_old write_new)
      → (outcome ≡ WriteFault true → Rose idle_old idle_new) → (outcome ≡ Done) ⊎ (outcome ≡ Memory)
  complete None place accepted followed read_old read_new write_old write_new idle_old idle_new none outcome ends read write idle = absurd accepted
  complete (Some Listing) place accepted followed read_old read_new write_old write_new idle_old idle_new none outcome ends read write idle =
      listing_complete read_old read_new write_old write_new idle_old idle_new none place outcome ends write idle
  complete (Some (Soak number)) place accepted followed read_old read_new write_old write_new idle_old idle_new none outcome ends read write idle =
      soak_complete read_old read_new write_old write_new idle_old idle_new none number place outcome ends write idle
  complete (Some (Run cluster script schedule mover)) place accepted followed read_old read_new write_old write_new idle_old idle_new none outcome ends read write idle =
      run_complete read_old read_new write_old write_new idle_old idle_new none cluster script schedule mover place accepted followed outcome ends read write idle
