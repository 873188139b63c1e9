-- A run that nothing stands in the way of is stopped for want of memory alone.
use Rattle.rm_lives.proofs.Common.{◌≢◌, ◌⊎◌, ⊎_elim, ℕ, List, refl, arith, Entry, Op, DiskView, Fused, Records}
use Rattle.std.proofs.Common.{◌≡◌, ◌≤◌}
use Rattle.rm_lives.specs.declared.halts.Stop.{Stop}
use Rattle.rm_lives.specs.declared.halts.Stop.TheVariants.{DiskFault, Damaged, Full, Schedule, EpochsSpent, Memory}
use Rattle.rm_lives.specs.Complete.{HasPlace}
use Rattle.rm_lives.specs.Stops.{IsStoppedBy}
use Rattle.rm_lives.proofs.Onward.{no_store_not}

module _ {D : Type 0} (view : D → DiskView) (disk now : Fused D) (opening : List Op) (log : List Entry) where
  -- less may be due
  pub place_due : (one other : Type 0) → (one → other) → HasPlace view disk now other opening log → HasPlace view disk now one opening log
  place_due one other by place =
      record { bytes = place.bytes; told = place.told; ops = place.ops; holds = place.holds; faultless = place.faultless; starts = λ due. place.starts (by due); room = place.room }

  pub only_memory : (due : Type 0) (stops : ℕ → Type 0) → ((at : ℕ) → stops at → ⊥) → HasPlace view disk now due opening log → (stop : Stop) → IsStoppedBy view due stops disk now opening log stop → stop ≡ Memory
  only_memory due stops never place DiskFault why = absurd (place.faultless why.0)
  only_memory due stops never place (Damaged offset) why = absurd (no_store_not place.bytes place.ops offset place.holds (why.1 place.bytes place.told).2)
  only_memory due stops never place (Full needed room) why =
      let has = place.room why.op why.handed in
      let behind = why.behind ((place.bytes, place.told), has.0) in
      let enough = has.1 in
      let less = why.less in
      let needs = why.needs in
      absurd (omega (arith, behind, enough, less, needs))
  only_memory due stops never place (Schedule at) why = absurd (never at why.0)
  only_memory due stops never place EpochsSpent why =
      let spent = why.1.1 in
      let has = place.starts why.0 spent.tree (spent.shown (place.bytes, place.told)) in
      let epoch = has.0 in
      let stamp = has.1 in
      absurd (⊎_elim (λ none. omega (arith, epoch, none)) (λ none. omega (arith, stamp, none)) spent.none)
  only_memory due stops never place Memory why = refl
