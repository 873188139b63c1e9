-- Each move of the manager's own, in each phase of a life.
use Rattle.rm_invariant.proofs.Common.{◌≡◌, ◌+◌, ◌<◌, ◌^◌, ℕ, List, [], ◌∷◌, Bool, true, false, length, refl, sym, ◌∙◌, ap, subst, arith, nat_tests, Entry, Served, AppId, ContainerId, Message, Op, IsOperation, fits_records, records, after, attempts_in, life_after, Allowed, LifeState, Manager, Scene, scene, MainEvent, SchedEvent, Tables, found_in, main_worked, sched_worked, kept, handed_out, refused, main_step, EndsByEvent, sched_step, History, abstract_life, live_state}
use Rattle.std.proofs.Common.{◌≢◌}
use Rattle.rm_types.specs.declared.entries.Entry.TheVariants.{Blown, Down, Handed, Kept as KeptEntry}
use Rattle.rm_types.specs.declared.messages.ClientAsk.TheVariants as clients
use Rattle.rm_types.specs.declared.messages.ClockAsk.TheVariants as clocks
use Rattle.rm_types.specs.declared.messages.MasterAsk.TheVariants as masters
use Rattle.rm_types.specs.declared.messages.Message.TheVariants as messages
use Rattle.rm_types.specs.declared.messages.NodeAsk.TheVariants as nodes
use Rattle.rm_types.specs.declared.operations.Op.TheVariants as ops
use Rattle.rm_types.specs.declared.replies.Reply.TheVariants.{NotOpen}
use Rattle.rm_types.specs.Lanes.{sender_of}
use Rattle.rm_model.specs.Changes.{in_life}
use Rattle.rm_tables.specs.declared.events.MainEvent.TheVariants as mains
use Rattle.rm_tables.specs.Lives.{tables_gone_down}
use Rattle.rm_invariant.proofs.bounds.Called.{epoch_few}
use Rattle.rm_invariant.proofs.bounds.Passable.{few_recorded}
use Rattle.rm_invariant.proofs.measure.Lives.{hand_lighter}
use Rattle.rm_invariant.specs.Preserves.{PreservesLife, PreservesLifeInternal}
use Rattle.rm_invariant.specs.Phases.{Simulates, SimulatesInternal, LifePhase, Saving, Shut, Starting, none, running, saving, shut, starting}
use Rattle.rm_invariant.specs.Invariant.{LifeInvariant}
use Rattle.rm_invariant.proofs.KeptPreserve.{blow_running, first_fits, first_framed, hand_runs, kept_runs}
use Rattle.rm_invariant.proofs.opening.Whole.{closed, hand_saving, no_sched, open_leads, recorded, stands, start_leads, told_standing, unblown}
use Rattle.rm_invariant.proofs.EventsPreserve.{main_runs, sched_runs}

-- a move of an open life, by its tables
pub goes_leads : (h : History) (t : Tables) (e : Entry) (next : Tables) → t.alive ≡ true → PreservesLife h t e next → Simulates h t e next
goes_leads h t e next alive g =
    let is = told_standing h t alive in
    let lives : next.alive ≡ true = g.stays.alive ∙ alive in
    record {
      history = g.history;
      lawful = subst (λ (s : Manager). Allowed t.settings s e) (sym is) g.step.lawful;
      same = ap (λ (s : Manager). after s e) is ∙ g.step.same ∙ sym (told_standing g.history next lives);
      recorded = g.step.keeps.recorded;
      phase = running g.runs;
      settings = g.stays.settings;
      alloc = g.stays.alloc;
    }

own_leads : (h : History) (t : Tables) (e : Entry) (next : Tables) → t.alive ≡ true → PreservesLifeInternal h t e next → SimulatesInternal h t e next
own_leads h t e next alive g =
    record { leads = goes_leads h t e next alive g.goes; decreases = g.decreases; stood = alive; stands = g.goes.stays.alive ∙ alive; blown = g.goes.stays.blown; served = g.served }

-- THE QUEUES

-- the first event of the main queue, whichever it is
abbrev pub MainLeads : History → Tables → MainEvent → Type 0
MainLeads h t event = SimulatesInternal h t (main_worked (main_step event t)).0 (main_worked (main_step event t)).1

starting_main : (h : History) (t : Tables) (event : MainEvent) (rest : List MainEvent) → Starting h t → t.main ≡ event ∷ rest → MainLeads h t event
starting_main h t event rest s front =
    let same : mains.EpochStart ≡ event = (let e = sym s.main ∙ front in cc) in
    subst (MainLeads h t) same (start_leads h t rest s (subst (λ (e : MainEvent). t.main ≡ e ∷ rest) (sym same) front))

pub main_leads : (h : History) (t : Tables) (event : MainEvent) (rest : List MainEvent) → LifePhase h t → t.main ≡ event ∷ rest → MainLeads h t event
main_leads h t event rest (none n) front = absurd (let e = sym n.main ∙ front in cc)
main_leads h t event rest (starting s) front = starting_main h t event rest s front
main_leads h t event rest (saving s) front = absurd (let e = sym s.main ∙ front in cc)
main_leads h t event rest (shut s) front = absurd (let e = sym s.main ∙ front in cc)
main_leads h t event rest (running r) front = own_leads h t _ _ r.alive (main_runs h t r event rest front)

-- where an event waits, the epoch and the attempts of each application leave room for one more
pub main_called : (h : History) (t : Tables) (event : MainEvent) (rest : List MainEvent) → LifePhase h t → t.main ≡ event ∷ rest
    → (t.epoch + 1 < 2 ^ 32) × ((id : AppId) → length (attempts_in (found_in t id)) + 1 < 2 ^ 32)
main_called h t event rest (none n) front = absurd (let e = sym n.main ∙ front in cc)
main_called h t event rest (starting s) front = (epoch_few t s.begins.ranged, few_recorded t s.begins.begun.stored.sound s.begins.ranged)
main_called h t event rest (saving s) front = absurd (let e = sym s.main ∙ front in cc)
main_called h t event rest (shut s) front = absurd (let e = sym s.main ∙ front in cc)
main_called h t event rest (running r) front = (epoch_few t r.ranged, few_recorded t r.whole.sound r.ranged)

-- only an open life has events for the scheduler
pub sched_open : (h : History) (t : Tables) (event : SchedEvent) (rest : List SchedEvent) → LifePhase h t → t.sched ≡ event ∷ rest → LifeInvariant h t
sched_open h t event rest (none n) front = absurd (let e = sym n.sched ∙ front in cc)
sched_open h t event rest (starting s) front = absurd (let e = sym (no_sched h t s.begins) ∙ front in cc)
sched_open h t event rest (saving s) front = absurd (let e = sym (no_sched h t s.begins) ∙ front in cc)
sched_open h t event rest (shut s) front = absurd (let e = sym s.sched ∙ front in cc)
sched_open h t event rest (running r) front = r

-- the first event of the scheduler's queue, whichever it is
abbrev pub SchedLeads : History → Tables → SchedEvent → List ContainerId → Type 0
SchedLeads h t event list = SimulatesInternal h t (sched_worked (sched_step event list t)).0 (sched_worked (sched_step event list t)).1

pub sched_leads : (h : History) (t : Tables) (event : SchedEvent) (list : List ContainerId) (rest : List SchedEvent) → LifePhase h t → t.sched ≡ event ∷ rest → EndsByEvent event t list → SchedLeads h t event list
sched_leads h t event list rest phase front ends = let r = sched_open h t event rest phase front in own_leads h t _ _ r.alive (sched_runs h t r event rest front list ends)

-- THE STORE

-- an operation that is with the store was not refused
pub unblown_of : (h : History) (t : Tables) → LifePhase h t → t.alive ≡ true → t.handed ≡ true → t.blown ≡ false
unblown_of h t (none n) a handed = absurd (let x = n.alive in cc)
unblown_of h t (starting s) a handed = unblown h t s.begins
unblown_of h t (saving s) a handed = unblown h t s.begins
unblown_of h t (shut s) a handed = absurd (let x = s.free in cc)
unblown_of h t (running r) a handed = by t.blown refl
  where
    by : (b : Bool) → t.blown ≡ b → t.blown ≡ false
    by true e = absurd (let x = sym (r.calm e) ∙ handed in cc)
    by false e = e

-- what is recorded by a life that stands
pub recorded_of : (h : History) (t : Tables) → LifePhase h t → t.alive ≡ true → records h.kept ≡ t.tree
recorded_of h t (none n) a = absurd (let x = n.alive in cc)
recorded_of h t (starting s) a = recorded h t s.begins
recorded_of h t (saving s) a = recorded h t s.begins
recorded_of h t (shut s) a = s.recorded
recorded_of h t (running r) a = r.whole.keeps.recorded

saving_hand : (h : History) (t : Tables) → Saving h t → t.handed ≡ false → SimulatesInternal h t Handed (handed_out t)
saving_hand h t s free =
    let alive = stands h t s.begins in
    let some : t.awaiting ≢ [] = rw s.awaiting (λ e. cc) in
    record {
      leads = record {
        history = h;
        lawful = rw alive (record { some_awaits = some; none_handed = free; not_blown = unblown h t s.begins });
        same = rw alive refl;
        recorded = recorded h t s.begins;
        phase = saving (hand_saving h t s);
        settings = refl;
        alloc = refl;
      };
      decreases = hand_lighter t free some;
      stood = alive;
      stands = alive;
      blown = refl;
      served = refl;
    }

-- the first awaiting operation is handed
pub hand_leads : (h : History) (t : Tables) → LifePhase h t → t.alive ≡ true → t.awaiting ≢ [] → t.handed ≡ false → t.blown ≡ false → SimulatesInternal h t Handed (handed_out t)
hand_leads h t (none n) a some free b = absurd (let x = n.alive in cc)
hand_leads h t (starting s) a some free b = absurd (some s.awaiting)
hand_leads h t (saving s) a some free b = saving_hand h t s free
hand_leads h t (shut s) a some free b = absurd (let x = s.blown in cc)
hand_leads h t (running r) a some free b = own_leads h t _ _ a (hand_runs h t r some free b)

-- and kept
saving_kept : (h : History) (t : Tables) (op : Op) (rest : List Op) → Saving h t → t.awaiting ≡ op ∷ rest → t.handed ≡ true → SimulatesInternal h t (KeptEntry op) (kept op t)
saving_kept h t op rest s front handed =
    let same : ops.Epoch (t.epoch + 1) t.stamp ≡ op = (let e = sym s.awaiting ∙ front in cc) in
    subst (λ (x : Op). SimulatesInternal h t (KeptEntry x) (kept x t)) same (open_leads h t s (t.epoch + 1) t.stamp rest (subst (λ (x : Op). t.awaiting ≡ x ∷ rest) (sym same) front) handed)

pub keep_leads : (h : History) (t : Tables) (op : Op) (rest : List Op) → LifePhase h t → t.alive ≡ true → t.handed ≡ true → t.awaiting ≡ op ∷ rest → SimulatesInternal h t (KeptEntry op) (kept op t)
keep_leads h t op rest (none n) a handed front = absurd (let x = n.alive in cc)
keep_leads h t op rest (starting s) a handed front = absurd (let e = sym s.awaiting ∙ front in cc)
keep_leads h t op rest (saving s) a handed front = saving_kept h t op rest s front handed
keep_leads h t op rest (shut s) a handed front = absurd (let x = s.free in cc)
keep_leads h t op rest (running r) a handed front = own_leads h t _ _ a (kept_runs h t r handed op rest front)

-- an operation that is with the store awaits
pub handed_awaits : (h : History) (t : Tables) → LifePhase h t → t.alive ≡ true → t.handed ≡ true → t.awaiting ≢ []
handed_awaits h t (none n) a handed = absurd (let x = n.alive in cc)
handed_awaits h t (starting s) a handed = absurd (let x = s.handed in cc)
handed_awaits h t (saving s) a handed = rw s.awaiting (λ e. cc)
handed_awaits h t (shut s) a handed = s.awaiting
handed_awaits h t (running r) a handed = r.handed handed

-- it fits what is recorded
saving_fits : (h : History) (t : Tables) (op : Op) (rest : List Op) → Saving h t → t.awaiting ≡ op ∷ rest → fits_records t.tree op ≡ true
saving_fits h t op rest s front =
    let same : ops.Epoch (t.epoch + 1) t.stamp ≡ op = (let e = sym s.awaiting ∙ front in cc) in
    let epoch : t.epoch ≡ t.tree.next_epoch = ap (λ (x : Tables). x.epoch) s.begins.begun.tables in
    let rises = s.begins.rises in
    let fits : fits_records t.tree (ops.Epoch (t.epoch + 1) t.stamp) ≡ true = grind (arith, nat_tests) in
    subst (λ (x : Op). fits_records t.tree x ≡ true) same fits

pub fits_in : (h : History) (t : Tables) (op : Op) (rest : List Op) → LifePhase h t → t.alive ≡ true → t.handed ≡ true → t.awaiting ≡ op ∷ rest → fits_records t.tree op ≡ true
fits_in h t op rest (none n) a handed front = absurd (let x = n.alive in cc)
fits_in h t op rest (starting s) a handed front = absurd (let e = sym s.awaiting ∙ front in cc)
fits_in h t op rest (saving s) a handed front = saving_fits h t op rest s front
fits_in h t op rest (shut s) a handed front = absurd (let x = s.free in cc)
fits_in h t op rest (running r) a handed front = first_fits h t r op rest front

-- and its parts are in their ranges
saving_framed : (h : History) (t : Tables) (op : Op) (rest : List Op) → Saving h t → t.awaiting ≡ op ∷ rest → IsOperation op
saving_framed h t op rest s front =
    let same : ops.Epoch (t.epoch + 1) t.stamp ≡ op = (let e = sym s.awaiting ∙ front in cc) in
    let low = s.begins.ranged.counts.epoch in
    let fits = s.begins.fits in
    let rises = s.begins.rises in
    let within : IsOperation (ops.Epoch (t.epoch + 1) t.stamp) = ((omega arith, omega arith), (omega arith, omega arith)) in
    subst IsOperation same within

pub framed_in : (h : History) (t : Tables) (op : Op) (rest : List Op) → LifePhase h t → t.alive ≡ true → t.handed ≡ true → t.awaiting ≡ op ∷ rest → IsOperation op
framed_in h t op rest (none n) a handed front = absurd (let x = n.alive in cc)
framed_in h t op rest (starting s) a handed front = absurd (let e = sym s.awaiting ∙ front in cc)
framed_in h t op rest (saving s) a handed front = saving_framed h t op rest s front
framed_in h t op rest (shut s) a handed front = absurd (let x = s.free in cc)
framed_in h t op rest (running r) a handed front = first_framed h t r op rest front

-- AN OPERATION IS REFUSED

-- the phase of a life after it
blown_phase : (h : History) (t : Tables) → LifePhase h t → t.alive ≡ true → t.handed ≡ true → LifePhase h (refused t)
blown_phase h t (none n) a handed = absurd (let x = n.alive in cc)
blown_phase h t (starting s) a handed = absurd (let x = s.handed in cc)
blown_phase h t (saving s) a handed =
    shut (record {
      alive = a;
      blown = refl;
      closed = closed h t s.begins;
      free = refl;
      main = s.main;
      sched = no_sched h t s.begins;
      awaiting = rw s.awaiting (λ e. cc);
      fits = λ op rest front. saving_fits h t op rest s front;
      recorded = recorded h t s.begins;
    })
blown_phase h t (shut s) a handed = absurd (let x = s.free in cc)
blown_phase h t (running r) a handed = running (blow_running h t r)

-- the store refused the operation that was with it
pub blow_leads : (h : History) (t : Tables) (passed : ℕ) → LifePhase h t → t.alive ≡ true → t.handed ≡ true → Simulates h t (Blown passed) (refused t)
blow_leads h t passed phase a handed =
    record {
      history = h;
      lawful = rw a (record { handed = handed });
      same = rw a refl;
      recorded = recorded_of h t phase a;
      phase = blown_phase h t phase a handed;
      settings = refl;
      alloc = refl;
    }

-- A LIFE GOES DOWN

-- what awaits in a life that blew fits what is recorded
blown_fits : (h : History) (t : Tables) → LifePhase h t → t.alive ≡ true → t.blown ≡ true → (op : Op) (rest : List Op) → t.awaiting ≡ op ∷ rest → fits_records t.tree op ≡ true
blown_fits h t (none n) a b op rest front = absurd (let x = n.alive in cc)
blown_fits h t (starting s) a b op rest front = absurd (let x = unblown h t s.begins in cc)
blown_fits h t (saving s) a b op rest front = absurd (let x = unblown h t s.begins in cc)
blown_fits h t (shut s) a b op rest front = s.fits op rest front
blown_fits h t (running r) a b op rest front = first_fits h t r op rest front

-- with no operation with the store
pub down_leads : (h : History) (t : Tables) → LifePhase h t → t.alive ≡ true → t.handed ≡ false → Simulates h t Down (tables_gone_down t)
down_leads h t phase a free =
    record {
      history = h;
      lawful = rw a (record { none_handed = free });
      same = rw a refl;
      recorded = recorded_of h t phase a;
      phase =
          none (record {
            alive = refl;
            main = refl;
            sched = refl;
            recorded = λ blown. recorded_of h t phase a;
            fits = λ blown op rest front. blown_fits h t phase a blown op rest front;
          });
      settings = refl;
      alloc = refl;
    }

-- SERVING

-- a life that serves is open, or was shut
pub serving_open : (h : History) (t : Tables) → LifePhase h t → t.alive ≡ true → t.is_open ≡ true → LifeInvariant h t
serving_open h t (none n) a o = absurd (let x = n.alive in cc)
serving_open h t (starting s) a o = absurd (let x = closed h t s.begins in cc)
serving_open h t (saving s) a o = absurd (let x = closed h t s.begins in cc)
serving_open h t (shut s) a o = absurd (let x = s.closed in cc)
serving_open h t (running r) a o = r

pub serving_shut : (h : History) (t : Tables) → LifePhase h t → t.alive ≡ true → t.is_open ≡ false → t.blown ≡ true → Shut h t
serving_shut h t (none n) a o b = absurd (let x = n.alive in cc)
serving_shut h t (starting s) a o b = absurd (let x = unblown h t s.begins in cc)
serving_shut h t (saving s) a o b = absurd (let x = unblown h t s.begins in cc)
serving_shut h t (shut s) a o b = s
serving_shut h t (running r) a o b = absurd (let x = r.whole.keeps.is_open in cc)

-- a life that was shut remembers nothing of a message that it answers by NOTOPEN
forgets : (m : Scene) (message : Message) → life_after m message NotOpen ≡ m.life
forgets m (messages.Client user clients.New) = refl
forgets m (messages.Client user (clients.Submit id submission)) = refl
forgets m (messages.Client user (clients.Report id)) = refl
forgets m (messages.Client user (clients.Kill id)) = refl
forgets m (messages.Master attempt masters.Register) = refl
forgets m (messages.Master attempt (masters.Allocate id asks release)) = refl
forgets m (messages.Master attempt (masters.Finish text)) = refl
forgets m (messages.Node name (nodes.Register turn capability report)) = refl
forgets m (messages.Node name (nodes.Beat id report done)) = refl
forgets m (messages.Clock (clocks.Tick time)) = refl
forgets m (messages.Clock (clocks.ExpireNode name)) = refl
forgets m (messages.Clock (clocks.ExpireMaster attempt)) = refl

pub shut_serves : (h : History) (t : Tables) (message : Message) → Shut h t → Simulates h t (Served (sender_of message) message NotOpen) (record t { served = t.served + 1 })
shut_serves h t message s =
    let alive = s.alive in
    let closed_ = s.closed in
    let blown_ = s.blown in
    record {
      history = h;
      lawful = rw alive (record { serving = rw (closed_, blown_) refl; of_sender = refl; answers = rw closed_ refl });
      same =
          ap (λ (m : Manager). after m (Served (sender_of message) message NotOpen)) (told_standing h t alive)
          ∙ ap (λ (life : LifeState). in_life (live_state h t) life) (forgets (scene (live_state h t) (abstract_life h t)) message) ∙ sym (told_standing h (record t { served = t.served + 1 }) alive);
      recorded = s.recorded;
      phase = shut (record { alive = s.alive; blown = s.blown; closed = s.closed; free = s.free; main = s.main; sched = s.sched; awaiting = s.awaiting; fits = s.fits; recorded = s.recorded });
      settings = refl;
      alloc = refl;
    }
