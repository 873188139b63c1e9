-- Containers leave by an event of the scheduler, as a whole step: all that holds of an open life holds after it.
use Rattle.rm_invariant.proofs.Common.{◌≡◌, ℕ, List, [], ◌∷◌, Bool, true, false, ◌||◌, Option, None, Some, drop, map, refl, sym, ◌∙◌, ap, subst, Cause, Entry, Ended, Quiet, ContainerId, Settings, is_container, container_itself, after, is_living, leave, has_container, judged_node, tidied, tidied_node, LifeState, Manager, Row, Scene, scene, MainEvent, SchedEvent, Tables, sched_popped, sched_worked, ended_by, left_all, found_each, History, abstract_life, live_state, arith}
use Rattle.std.proofs.Common.{◌≢◌, ◌&&◌, not, false, is_some, nat_lt}
use Rattle.std.proofs.lemmas.Bool.Decides.{nat_tests}
use Rattle.rm_model.specs.Containers.{is_astray}
use Rattle.std.specs.Prelude.{option_and_then}
use Rattle.rm_types.specs.declared.messages.Lane.TheVariants as lanes
use Rattle.rm_model.specs.State.{NodeState}
use Rattle.rm_invariant.specs.nodes.Invariant.{NodesInvariant}
use Rattle.rm_invariant.specs.nodes.Book.{All, AreLaunches, BookInvariant, BookRowInvariant, IsGranted}
use Rattle.rm_invariant.proofs.nodes.Holds.{all_map, leave_holds, living_granted}
use Rattle.rm_invariant.specs.masters.Preserves.{PreservesContainersTo}
use Rattle.rm_invariant.specs.masters.Sound.{RecordsAreSound}
use Rattle.rm_invariant.specs.events.Refines.{Refines}
use Rattle.rm_invariant.specs.Core.{Nothing, CoreInvariant, PreservesCore}
use Rattle.rm_invariant.proofs.events.Ended.{left_agrees}
use Rattle.rm_invariant.proofs.events.Knowing.{launches_here, rows_know}
use Rattle.rm_invariant.proofs.nodes.Moved.{fewer_astray}
use Rattle.rm_invariant.proofs.nodes.Astray.{astray_without, left_strays, none_strays}
use Rattle.rm_invariant.specs.events.Here.{astray_at}
use Rattle.rm_invariant.specs.Step.{AppsInvariant}
use Rattle.rm_laws.specs.Laws.{is_bound}
use Rattle.rm_laws.proofs.Missing.{is_kept_entry}

-- what holds of each of these holds of all
pub all_of : (P : ContainerId → Type 0) (ids : List ContainerId) → ((id : ContainerId) → has_container ids id ≡ true → P id) → All P ids
all_of P [] each = tt
all_of P (id ∷ ids) each = (each id (let own = container_itself id in rw own refl), all_of P ids (λ one among. each one (let x = among in rw x (or_true (is_container id one)))))
  where
    or_true : (b : Bool) → (b || true) ≡ true
    or_true true = refl
    or_true false = refl

-- what lives was granted, where it is of the life's epoch
pub living_is_granted : (life : LifeState) → BookInvariant life Nothing → (id : ContainerId) → is_living life.book id ≡ true → IsGranted life id
living_is_granted life holds id lives = (living_granted life Nothing (id ∷ []) (lives, tt) holds).0

-- and so was what is astray, whose epoch is below the life's
pub former_granted : (settings : Settings) (m : Scene) (id : ContainerId) → is_astray settings m id ≡ true → IsGranted m.life id
former_granted settings m id astray same =
    let below : nat_lt id.epoch m.life.epoch ≡ true = of_astray settings.recover_ended_containers (not (is_living m.life.book id)) (not (has_container m.life.endings.left id)) (nat_lt id.epoch m.life.epoch) _ astray in
    absurd (grind (arith, nat_tests))
  where
    of_astray : (a b c d e : Bool) → (a && (b && (c && (d && e)))) ≡ true → d ≡ true
    of_astray true true true true e x = refl
    of_astray true true true false e x = x
    of_astray true true false d e x = cc
    of_astray true false c d e x = cc
    of_astray false b c d e x = cc

-- the life of a state is the one that the next tables stand for
pub life_is : (g : History) (next : Tables) (m : Manager) (life : LifeState) → m.life ≡ Some life → m ≡ live_state g next → abstract_life g next ≡ life
life_is g next m life is same =
    let x : Some (abstract_life g next) ≡ Some life = sym (ap (λ (one : Manager). one.life) same) ∙ is in
    cc

-- what falls away at nodes is nothing to the book
pub tidied_holds : (life : LifeState) (more : ContainerId → Type 0) → BookInvariant life more → BookInvariant (tidied life) more
tidied_holds life more h =
    record {
      apart = h.apart;
      rows = all_rows life.book h.rows;
      left = h.left;
      launches = all_map (AreLaunches life.book) (AreLaunches life.book) (tidied_node life.book) (λ node l. l) life.nodes h.launches;
    }
  where
    absorbed : (name : List ℕ) (o : Option NodeState) → judged_node life.nodes name ≡ o → is_some (option_and_then (λ (node : NodeState). node.capability) o) ≡ true
        → is_some (option_and_then (λ (node : NodeState). node.capability) (judged_node (map (tidied_node life.book) life.nodes) name)) ≡ true
    absorbed name None e h = cc
    absorbed name (Some node) e h = let found = found_each (tidied_node life.book) name life.nodes (λ one. refl) in rw (found, e) h

    all_rows : (rows : List Row) → All (BookRowInvariant life more) rows → All (BookRowInvariant (tidied life) more) rows
    all_rows [] k = tt
    all_rows (row ∷ rows) k = ((absorbed row.node (judged_node life.nodes row.node) refl k.0.0, k.0.1, k.0.2, k.0.3), all_rows rows k.1)

-- tables that differ in their queues agree alike
pub queues_agree : (life : LifeState) (t : Tables) (main : List MainEvent) (sched : List SchedEvent) → Refines life t → Refines life (record t { main = main; sched = sched })
queues_agree life t main sched a = record { rows = a.rows; nodes = a.nodes; asks = a.asks; closings = a.closings; masters = a.masters }

-- a step whose life is this one keeps all that holds, where it holds of that life, and what is astray after it was among these
pub stepped_with : (settings : Settings) (h : History) (t : Tables) (entry : Entry) (next : Tables) (life : LifeState) (astray : ContainerId → Bool) (joins : PreservesContainersTo settings h t (entry, next))
    → ((c : ContainerId) → astray_at settings joins.next next c ≡ true → astray c ≡ true) → (after (live_state h t) entry).life ≡ Some life
    → RecordsAreSound next.tree.apps → Refines life next → NodesInvariant astray life.nodes life.book next.sched → BookInvariant life Nothing → PreservesCore settings h t (entry, next)
stepped_with settings h t entry next life astray joins fewer was sound agrees nodes book =
    let is : abstract_life joins.next next ≡ life = life_is joins.next next (after (live_state h t) entry) life was joins.joins.step.same in
    record {
      next = joins.next;
      step = joins.joins.step;
      whole =
          record {
            keeps = joins.joins.step.keeps;
            marks = joins.joins.marks;
            sound = sound;
            agrees = subst (λ (one : LifeState). Refines one next) (sym is) agrees;
            nodes =
                fewer_astray astray (astray_at settings joins.next next) fewer joins.next.nodes joins.next.book next.sched
                (subst (λ (one : LifeState). NodesInvariant astray one.nodes one.book next.sched) (sym is) nodes);
            book = subst (λ (one : LifeState). BookInvariant one Nothing) (sym is) book;
          };
    }

-- so does a step whose entry neither bounds a life nor keeps an operation
pub stepped_whole : (settings : Settings) (h : History) (t : Tables) (entry : Entry) (next : Tables) (life : LifeState) → AppsInvariant settings h t → is_bound entry ≡ false → is_kept_entry entry ≡ false
    → PreservesContainersTo settings h t (entry, next) → (after (live_state h t) entry).life ≡ Some life
    → RecordsAreSound next.tree.apps → Refines life next → NodesInvariant (astray_at settings h t) life.nodes life.book next.sched → BookInvariant life Nothing → PreservesCore settings h t (entry, next)
stepped_whole settings h t entry next life keeps inside other joins =
    stepped_with settings h t entry next life (astray_at settings h t) joins (none_strays settings h t keeps entry joins.next next joins.joins.step inside other)

module _ (settings : Settings) (h : History) (t : Tables) (w : CoreInvariant settings h t) (e : SchedEvent) (rest : List SchedEvent) (front : t.sched ≡ e ∷ rest) where
  abbrev pub at_event : Scene
  at_event = scene (live_state h t) (abstract_life h t)

  -- the life after these left
  abbrev pub left_life : Cause → List ContainerId → LifeState
  left_life cause list = tidied (leave at_event cause list)

  rest_is : rest ≡ drop 1 t.sched
  rest_is = sym (ap (drop 1) front)

  -- the judge has nothing to do, whatever is posted to the manager
  pub idle_whole : (main : List MainEvent) → PreservesContainersTo settings h t (Quiet lanes.Sched, record t { main = main; sched = drop 1 t.sched }) → NodesInvariant (astray_at settings h t) h.nodes h.book rest
      → PreservesCore settings h t (Quiet lanes.Sched, record t { main = main; sched = drop 1 t.sched })
  idle_whole main joins good =
      stepped_whole settings h t (Quiet lanes.Sched) (record t { main = main; sched = drop 1 t.sched }) (abstract_life h t) w.keeps refl refl joins refl w.sound (queues_agree (abstract_life h t) t main (drop 1 t.sched) w.agrees)
      (subst (NodesInvariant (astray_at settings h t) h.nodes h.book) rest_is good) w.book

  -- some leave, each of which lives or is of a former epoch
  pub some_leave : (cause : Cause) (list : List ContainerId) → PreservesContainersTo settings h t (Ended cause list, sched_popped (left_all cause list t)) → ((id : ContainerId) → has_container list id ≡ true → IsGranted (abstract_life h t) id)
      → NodesInvariant (astray_without settings h t list) (left_life cause list).nodes (left_life cause list).book rest → PreservesCore settings h t (Ended cause list, sched_popped (left_all cause list t))
  some_leave cause list joins granted good =
      let life : LifeState = left_life cause list in
      let left : Tables = left_all cause list t in
      let here = launches_here t.book h.book t.nodes h.nodes w.agrees.rows w.book.apart w.agrees.nodes w.book.launches in
      stepped_with settings h t (Ended cause list) (sched_popped left) life (astray_without settings h t list) joins (left_strays settings h t w.keeps cause list joins.next (sched_popped left) joins.joins.step) refl w.sound
      (queues_agree life left left.main (drop 1 t.sched) (left_agrees at_event t w.keeps.recorded w.agrees (rows_know settings h t w.keeps) w.sound cause list here)) (subst (NodesInvariant (astray_without settings h t list) life.nodes life.book) rest_is good)
      (tidied_holds (leave at_event cause list) Nothing (leave_holds at_event cause list Nothing (all_of (IsGranted (abstract_life h t)) list granted) w.book))

  -- these leave, if they are some
  pub ended_whole : (cause : Cause) (list : List ContainerId) → PreservesContainersTo settings h t (sched_worked (ended_by cause list t)) → ((id : ContainerId) → has_container list id ≡ true → IsGranted (abstract_life h t) id)
      → (list ≡ [] → NodesInvariant (astray_at settings h t) h.nodes h.book rest) → (list ≢ [] → NodesInvariant (astray_without settings h t list) (left_life cause list).nodes (left_life cause list).book rest) → PreservesCore settings h t (sched_worked (ended_by cause list t))
  ended_whole cause [] joins granted quiet good = idle_whole t.main joins (quiet refl)
  ended_whole cause (id ∷ ids) joins granted quiet good = some_leave cause (id ∷ ids) joins granted (good (λ e. cc))
