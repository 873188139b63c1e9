-- What is on its way behind the first event of the scheduler's queue was served.
use Rattle.rm_invariant.proofs.Common.{◌≡◌, ℕ, List, ◌∷◌, is_none, ◌&&◌, drop, refl, sym, ◌∙◌, ap, subst, list_any, Entry, ContainerId, Records, Settings, after, SchedEvent, Tables, sched_worked, still_waits, sched_step, History, live_state, abstract_scene, closed, changed}
use Rattle.std.proofs.Common.{nat_lt}
use Rattle.rm_model.specs.State.{Release}
use Rattle.rm_tables.specs.declared.events.SchedEvent.TheVariants as scheds
use Rattle.rm_invariant.specs.events.Here.{AreServed}
use Rattle.rm_invariant.specs.events.SchedFacts.{SchedFacts}
use Rattle.rm_invariant.specs.Core.{PreservesCore}
use Rattle.rm_invariant.proofs.events.AskedEvents.{sched_apt}
use Rattle.rm_tables.specs.declared.changes.AttemptChange.TheVariants as of_attempt
use Rattle.rm_tables.specs.declared.changes.RowChange.TheVariants as of_app
use Rattle.rm_invariant.specs.events.Here.{FirstsKnown}
use Rattle.rm_invariant.specs.auxiliary.Parts.{FixedParts, fixed_parts}
use Rattle.rm_invariant.proofs.auxiliary.Parts.{parts_after}
use Rattle.rm_invariant.proofs.events.SchedOutcomes.{sched_outcome}
use Rattle.rm_invariant.proofs.events.SchedShapes.{SchedShape, rows_keep, sched_parts, sched_shape}
use Rattle.rm_invariant.proofs.events.Firsts.{firsts_same, firsts_with}
use Rattle.rm_invariant.proofs.events.Registered.{sched_registered}

-- what is on its way behind the first event was served
pub rest_served : (releases : List Release) (e : SchedEvent) (rest : List SchedEvent) → AreServed releases (e ∷ rest) → AreServed releases rest
rest_served releases (scheds.Release attempt list) rest served = served.1
rest_served releases _ rest served = served
