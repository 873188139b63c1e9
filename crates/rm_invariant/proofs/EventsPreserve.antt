-- The first event of each queue of an open life leads to a life that is open still, with less to do.
use Rattle.rm_invariant.proofs.Common.{◌≡◌, List, ◌∷◌, false, refl, sym, ◌∙◌, subst, list_any, ContainerId, Settings, MainEvent, SchedEvent, Tables, main_worked, sched_worked, main_step, EndsByEvent, sched_step, History, RefinesLife, abstract_scene}
use Rattle.std.proofs.Common.{◌≢◌}
use Rattle.rm_tables.specs.declared.events.MainEvent.TheVariants as mains
use Rattle.rm_invariant.specs.messages.Ranges.{KeepsLimits}
use Rattle.rm_invariant.specs.events.Outcomes.{Outcome}
use Rattle.rm_invariant.proofs.events.Outcomes.{main_outcome}
use Rattle.rm_invariant.specs.Core.{CoreInvariant, PreservesCore}
use Rattle.rm_invariant.proofs.events.MainQueue.{main_whole}
use Rattle.rm_invariant.proofs.events.SchedQueue.{sched_whole}
use Rattle.rm_invariant.proofs.messages.Fitting.{main_fits, sched_fits}
use Rattle.rm_invariant.proofs.messages.MarkedQueues.{main_on_way, sched_on_way}
use Rattle.rm_invariant.proofs.auxiliary.Facts.{main_facts_of, sched_facts_of}
use Rattle.rm_invariant.proofs.auxiliary.MainEvents.{main_sides}
use Rattle.rm_invariant.proofs.auxiliary.SchedEvents.{sched_sides}
use Rattle.rm_invariant.proofs.bounds.FewGrants.{pass_few}
use Rattle.rm_invariant.proofs.bounds.MainEvents.{main_ranged}
use Rattle.rm_invariant.proofs.bounds.Passable.{can_pass}
use Rattle.rm_invariant.proofs.bounds.SchedEvents.{sched_ranged}
use Rattle.rm_invariant.specs.measure.Reports.{FewGranted}
use Rattle.rm_invariant.proofs.measure.MainEvents.{main_lighter}
use Rattle.rm_invariant.proofs.measure.Reported.{main_few, sched_few}
use Rattle.rm_invariant.proofs.measure.SchedEvents.{sched_lighter}
use Rattle.rm_invariant.specs.Preserves.{PreservesLifeInternal}
use Rattle.rm_invariant.specs.Invariant.{LifeInvariant, is_epoch_start}
use Rattle.rm_invariant.proofs.resting.Names.{step_apart}
use Rattle.rm_invariant.proofs.Staying.{SchedStays, main_numbers, main_stays, sched_stays}
use Rattle.rm_invariant.proofs.Held.{held_after}
use Rattle.rm_invariant.proofs.messages.Life.{shows_life}
use Rattle.rm_invariant.proofs.auxiliary.AroundEvents.{main_keeps, sched_around}
use Rattle.rm_invariant.proofs.events.Askers.{askers_current}

-- a queue in which nothing begins has no EpochStart in front
not_begun : (main : List MainEvent) (e : MainEvent) (rest : List MainEvent) → main ≡ e ∷ rest → list_any is_epoch_start main ≡ false → e ≢ mains.EpochStart
not_begun main e rest front none is = let n = subst (λ (l : List MainEvent). list_any is_epoch_start l ≡ false) front none in let b = rw is at n in cc

module _ (h : History) (t : Tables) (r : LifeInvariant h t) (e : MainEvent) (rest : List MainEvent) (front : t.main ≡ e ∷ rest) where
  other : e ≢ mains.EpochStart
  other = not_begun t.main e rest front r.begun.main

  outcome : Outcome t (main_step e t)
  outcome = main_outcome t e rest front other

  main_step_whole : PreservesCore t.settings h t (main_worked (main_step e t))
  main_step_whole = main_whole t.settings h t r.whole (main_facts_of h t r.whole r.sides) e rest front other

  -- the first event of the main queue
  pub main_runs : PreservesLifeInternal h t (main_worked (main_step e t)).0 (main_worked (main_step e t)).1
  main_runs =
      let s = main_step_whole in
      let sides = main_sides h t r.whole r.sides e rest front other s in
      let stays = main_stays t (main_step e t) outcome in
      let numbers = main_numbers t (main_step e t) outcome in
      record {
        goes = record {
          history = s.next;
          step = s.step;
          runs = record {
            alive = stays.alive ∙ r.alive;
            calm = stays.calm r.calm;
            handed = stays.handed r.handed;
            limits = subst KeepsLimits (sym stays.settings) r.limits;
            whole = subst (λ (one : Settings). CoreInvariant one s.next (main_worked (main_step e t)).1) (sym stays.settings) s.whole;
            sides = sides;
            around = main_keeps h t r.whole r.around (main_step e t) outcome s sides.firsts;
            fits = main_fits t.settings h t r.fits e outcome s;
            ranged = main_ranged t.settings h t r.whole r.limits r.ranged e rest front other;
            reported = main_few e t rest front r.reported;
            on_way = main_on_way t.settings h t r.on_way e outcome s;
            apart = step_apart t.settings h t _ s.next _ s.step r.apart;
            begun = stays.begun r.begun;
            held = held_after h t r (main_worked (main_step e t)).0 s.next (main_worked (main_step e t)).1 s.step;
          };
          stays = stays;
        };
        decreases = main_lighter t.settings h t refl r.whole.keeps r.limits e rest front outcome;
        given = numbers.0;
        served = numbers.1;
      }

module _ (h : History) (t : Tables) (r : LifeInvariant h t) (e : SchedEvent) (rest : List SchedEvent) (front : t.sched ≡ e ∷ rest) (list : List ContainerId) (ends : EndsByEvent e t list) where
  -- what the tables show
  shown : RefinesLife (abstract_scene h t) t
  shown = shows_life t.settings h t r.whole r.sides.finishes r.around.agrees

  sched_step_whole : PreservesCore t.settings h t (sched_worked (sched_step e list t))
  sched_step_whole = sched_whole t.settings h t r.whole (sched_facts_of h t shown r.sides) e rest front (sched_step e list t) (list, ends, refl)

  -- no pass grants too many
  few_granted : FewGranted t
  few_granted = λ name row found. pass_few t (can_pass t.settings h t r.whole (sched_facts_of h t shown r.sides) r.ranged) name row

  -- the first event of the scheduler's queue
  pub sched_runs : PreservesLifeInternal h t (sched_worked (sched_step e list t)).0 (sched_worked (sched_step e list t)).1
  sched_runs =
      let s = sched_step_whole in
      let all : SchedStays t (sched_worked (sched_step e list t)).1 = sched_stays t e list in
      let sides = sched_sides h t r.sides (sched_facts_of h t shown r.sides) e rest front list s in
      let stays = all.stays in
      record {
        goes = record {
          history = s.next;
          step = s.step;
          runs = record {
            alive = stays.alive ∙ r.alive;
            calm = stays.calm r.calm;
            handed = stays.handed r.handed;
            limits = subst KeepsLimits (sym stays.settings) r.limits;
            whole = subst (λ (one : Settings). CoreInvariant one s.next (sched_worked (sched_step e list t)).1) (sym stays.settings) s.whole;
            sides = sides;
            around = sched_around h t r.whole r.around (askers_current t.settings h t r.whole.keeps.all r.whole.agrees.asks (sched_facts_of h t shown r.sides).current) list e s sides.firsts;
            fits = sched_fits t.settings h t r.fits e list s;
            ranged = sched_ranged t.settings h t r.whole (sched_facts_of h t shown r.sides) r.ranged e rest front list;
            reported = sched_few e list t r.reported;
            on_way = sched_on_way t.settings h t r.whole rest r.on_way e front list s;
            apart = step_apart t.settings h t _ s.next _ s.step r.apart;
            begun = stays.begun r.begun;
            held = held_after h t r (sched_worked (sched_step e list t)).0 s.next (sched_worked (sched_step e list t)).1 s.step;
          };
          stays = stays;
        };
        decreases = sched_lighter t r.reported few_granted e rest front list ends;
        given = all.given;
        served = all.served;
      }
