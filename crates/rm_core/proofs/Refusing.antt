-- What the store refused can be framed still.
use Rattle.std.proofs.Common.{◌≡◌, List, ◌∷◌, false, sym, ◌∙◌}
use Rattle.rm_types.specs.declared.ids.ContainerId.{ContainerId}
use Rattle.rm_tables.specs.declared.events.MainEvent.{MainEvent}
use Rattle.rm_tables.specs.declared.events.SchedEvent.{SchedEvent}
use Rattle.rm_tables.specs.declared.tables.Tables.{Tables}
use Rattle.rm_tables.specs.Actions.{main_worked, sched_worked}
use Rattle.rm_tables.specs.MainEvents.{main_step}
use Rattle.rm_tables.specs.SchedEvents.{EndsByEvent, sched_step}
use Rattle.rm_refinement.specs.History.{History}
use Rattle.rm_invariant.specs.Invariant.{LifeInvariant}
use Rattle.rm_invariant.specs.Phases.{LifePhase, none, running, saving, shut, starting}
use Rattle.rm_invariant.proofs.EventsPreserve.{main_runs, sched_runs}
use Rattle.rm_invariant.proofs.KeptPreserve.{first_framed}
use Rattle.rm_invariant.proofs.Phases.{main_leads, sched_open}
use Rattle.rm_invariant.proofs.opening.Whole.{unblown}
use Rattle.rm_core.specs.Invariant.{IsRefusedFramed}

-- none was refused
pub unblown_framed : (t : Tables) → t.blown ≡ false → IsRefusedFramed t
unblown_framed t unblown blew = absurd (let x = sym unblown ∙ blew in cc)

-- of an open life each that awaits can be
pub open_framed : (h : History) (t : Tables) → LifeInvariant h t → IsRefusedFramed t
open_framed h t r blew op rest front = first_framed h t r op rest front

-- after the first event of the main queue
pub main_framed : (h : History) (t : Tables) (event : MainEvent) (rest : List MainEvent) → LifePhase h t → t.main ≡ event ∷ rest → IsRefusedFramed (main_worked (main_step event t)).1
main_framed h t event rest (none n) front = absurd (let e = sym n.main ∙ front in cc)
main_framed h t event rest (starting s) front = unblown_framed (main_worked (main_step event t)).1 ((main_leads h t event rest (starting s) front).blown ∙ unblown h t s.begins)
main_framed h t event rest (saving s) front = absurd (let e = sym s.main ∙ front in cc)
main_framed h t event rest (shut s) front = absurd (let e = sym s.main ∙ front in cc)
main_framed h t event rest (running r) front = let goes = (main_runs h t r event rest front).goes in open_framed goes.history (main_worked (main_step event t)).1 goes.runs

-- and of the scheduler's
pub sched_framed : (h : History) (t : Tables) (event : SchedEvent) (list : List ContainerId) (rest : List SchedEvent) → LifePhase h t → t.sched ≡ event ∷ rest → EndsByEvent event t list → IsRefusedFramed (sched_worked (sched_step event list t)).1
sched_framed h t event list rest phase front ends =
    let goes = (sched_runs h t (sched_open h t event rest phase front) event rest front list ends).goes in
    open_framed goes.history (sched_worked (sched_step event list t)).1 goes.runs
