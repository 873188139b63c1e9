-- Each event of the scheduler's queue, as a whole step that keeps all that holds of an open life.
use Rattle.rm_invariant.proofs.Common.{◌≡◌, List, ◌∷◌, sym, subst, Entry, ContainerId, Settings, SchedEvent, Tables, sched_worked, EndsByEvent, sched_step, History}
use Rattle.rm_tables.specs.declared.events.SchedEvent.TheVariants as scheds
use Rattle.rm_tables.specs.SchedEvents.{SchedDoes}
use Rattle.rm_invariant.specs.events.SchedFacts.{SchedFacts}
use Rattle.rm_invariant.specs.Core.{CoreInvariant, PreservesCore}
use Rattle.rm_invariant.proofs.events.Absorption.{added_whole}
use Rattle.rm_invariant.proofs.events.Events.{done_whole, lost_whole, recovered_whole, released_whole, removed_whole}
use Rattle.rm_invariant.proofs.events.Queueing.{app_added_whole, queued_whole}
use Rattle.rm_invariant.proofs.events.Updated.{pass_whole}

module _ (settings : Settings) (h : History) (t : Tables) (w : CoreInvariant settings h t) (f : SchedFacts settings h t) where
  -- where these containers end
  by_event : (e : SchedEvent) (rest : List SchedEvent) → t.sched ≡ e ∷ rest → (list : List ContainerId) → EndsByEvent e t list → PreservesCore settings h t (sched_worked (sched_step e list t))
  by_event (scheds.AppAdded id) rest front list ends = app_added_whole settings h t w id rest front list
  by_event (scheds.AttemptRecovered id) rest front list ends = recovered_whole settings h t w id rest front list
  by_event (scheds.AttemptAdded id) rest front list ends = queued_whole settings h t w id rest front list
  by_event (scheds.AttemptRemoved id) rest front list ends = removed_whole settings h t w id rest front list ends
  by_event (scheds.Release attempt released) rest front list ends = released_whole settings h t w attempt released rest front f.served list
  by_event (scheds.NodeAdded name turn) rest front list ends = added_whole settings h t w name turn rest front f.registered f.firsts f.pending list ends
  by_event (scheds.NodeDone name done) rest front list ends = done_whole settings h t w name done rest front f.astray list
  by_event (scheds.NodeUpdate name) rest front list ends = pass_whole settings h t w name rest front f.current f.waits list f.once f.apps
  by_event (scheds.NodeLost name) rest front list ends = lost_whole settings h t w name rest front list ends

  -- what an event does
  pub sched_whole : (e : SchedEvent) (rest : List SchedEvent) → t.sched ≡ e ∷ rest → (done : Entry × Tables) → SchedDoes e t done → PreservesCore settings h t (sched_worked done)
  sched_whole e rest front done does = subst (λ (one : Entry × Tables). PreservesCore settings h t (sched_worked one)) (sym does.2) (by_event e rest front does.0 does.1)
