-- Events of the scheduler's queue by which containers leave the book, each as a whole step: AttemptRemoved, and any other one.
use Rattle.rm_invariant.proofs.Common.{◌≡◌, ◌≤◌, ◌⊎◌, inl, inr, ℕ, ◌&&◌, not, List, [], ◌∷◌, Bool, true, false, Option, None, Some, filter, refl, sym, ◌∙◌, subst, arith, list_any, Cause, Ended, AppId, AttemptId, ContainerId, Settings, is_attempt, Entry, is_masters, attempt_was_first, is_living, leave, has_container, tidied, Allowed, LifeState, scene, after, AttemptState, MainEvent, SchedEvent, AppRow, Current, Tables, ended_by, left_all, losts_of, closings_of, is_masters_in, is_master_of, row_of, sched_popped, sched_worked, History, abstract_life, abstract_scene, live_state, and_first}
use Rattle.std.proofs.Common.{◌==◌, count_by}
use Rattle.rm_states.specs.declared.attempt.states.AttemptState.TheVariants as attempts
use Rattle.rm_tables.specs.Leaving.{is_stale_in, stale_by}
use Rattle.rm_invariant.specs.Step.{AppsInvariant}
use Rattle.rm_invariant.specs.apps.Invariant.{RowInvariant}
use Rattle.rm_invariant.specs.apps.View.{View, is_accept, is_done, is_grant, is_kill, is_launch, is_save, is_start, one_if, sched_view, view}
use Rattle.rm_invariant.proofs.apps.Counts.{count_append}
use Rattle.rm_invariant.proofs.apps.Effects as views
use Rattle.rm_invariant.specs.masters.Invariant.{ContainersInvariant, ContainerByNumber, ContainerByState, ContainerByCurrent, ContainerInvariant, RemovalInvariant}
use Rattle.rm_invariant.specs.masters.Sound.{RecordsAreSound}
use Rattle.rm_invariant.specs.masters.Preserves.{PreservesContainers, PreservesContainersTo}
use Rattle.rm_invariant.specs.masters.View.{ContainerView, is_expiry, is_finish, is_granting, is_losing, is_attempt_removal, container_view}
use Rattle.rm_invariant.proofs.masters.Crossing.{IsTold, leaving_marks, left_marks, unheld}
use Rattle.rm_invariant.proofs.masters.Leaving.{any_filter, has_append, living_filter, none_more, posts_none, posts_some}
use Rattle.rm_invariant.proofs.masters.Masters.{is_master, masters_same}
use Rattle.rm_invariant.proofs.masters.Effects.{sched_taken}
use Rattle.rm_invariant.proofs.masters.Talking.{IsTalking, marks_talking, rows_talking, says_talking}

-- once nothing that is stale of an application lives, AttemptRemoved of it may go
removed_says : (c : ContainerId) (v : ContainerView) (x : Bool) → (x ≡ true → stale_by c v.found ≡ true → v.living ≡ false) → RemovalInvariant c (record v { removals = one_if x v.removals }) → RemovalInvariant c v
removed_says c v false none says = says
removed_says c v true none says = λ s l. absurd (let n = none refl s in cc)

-- of AttemptRemoved nothing else is said
uncounted : (c : ContainerId) (row : Option AppRow) (v : ContainerView) (n : ℕ) → ContainerInvariant c row (record v { removals = n }) → ContainerInvariant c row v
uncounted c None v n says = says
uncounted c (Some row) v n says = (says.0, of row.current says.1)
  where
    own : (s : AttemptState) (l m : Bool) → ContainerByState c s l m (record v { removals = n }) → ContainerByState c s l m v
    own attempts.Scheduled l m s = s
    own attempts.Granted l true s = s
    own attempts.Granted l false s = s
    own attempts.Saving l true s = s
    own attempts.Saving l false s = s
    own attempts.Live l m s = s
    own attempts.Registered l m s = s
    own attempts.Finishing l m s = s
    own attempts.Ending l m s = tt
    own attempts.Ended l m s = s
    own attempts.Dropped l m s = tt

    number : (b : Bool) (current : Current) → ContainerByNumber c b current (record v { removals = n }) → ContainerByNumber c b current v
    number true current s = own current.state current.lost (is_master_of c current.master) s
    number false current s = s

    of : (o : Option Current) → ContainerByCurrent c o (record v { removals = n }) → ContainerByCurrent c o v
    of None s = s
    of (Some current) s = number (current.number == c.attempt.number) current s

-- a MasterLost is posted of a master that has to be told of
told_by : (s : AttemptState) (n : ℕ) → 1 ≤ n → IsTold s true true n
told_by attempts.Saving n o = o
told_by attempts.Live n o = o
told_by attempts.Registered n o = o
told_by attempts.Finishing n o = o
told_by _ n o = tt

told_none : (s : AttemptState) (n : ℕ) → IsTold s true true 0 → IsTold s true true n
told_none attempts.Saving n o = absurd (omega (arith, o))
told_none attempts.Live n o = absurd (omega (arith, o))
told_none attempts.Registered n o = absurd (omega (arith, o))
told_none attempts.Finishing n o = absurd (omega (arith, o))
told_none _ n o = tt

-- a container that leaves is in the book, or its attempt was kept when the life began
abbrev pub Departs : History → Tables → ContainerId → Type 0
Departs h t c = (is_living h.book c ≡ true) ⊎ (attempt_was_first (abstract_scene h t) c.attempt ≡ true)

-- containers leave by an event that is the first of the scheduler's queue
module _ (settings : Settings) (h : History) (t : Tables) (k : AppsInvariant settings h t) (all : ContainersInvariant h t) (each : RecordsAreSound t.tree.apps) (e : SchedEvent) (rest : List SchedEvent) (front : t.sched ≡ e ∷ rest)
    (idle : (q : AttemptId) (v : View) → sched_view q e v ≡ v) (cause : Cause) where
  -- the life after these containers left
  abbrev life_after : List ContainerId → LifeState
  life_after list = tidied (leave (scene (live_state h t) (abstract_life h t)) cause list)

  -- the history after these containers left
  abbrev pub leaving : List ContainerId → History
  leaving list = record h { book = (life_after list).book; nodes = (life_after list).nodes; endings = (life_after list).endings }

  module _ (list : List ContainerId) (departs : (c : ContainerId) → has_container list c ≡ true → Departs h t c)
      (whole : (c : ContainerId) → is_attempt_removal c e ≡ true → is_living h.book c ≡ true → is_stale_in t.tree.apps c ≡ true → has_container list c ≡ true) where
    -- the tables after it
    abbrev pub next : Tables
    next = sched_popped (left_all cause list t)

    -- what the manager is told of masters'
    abbrev posted : List MainEvent
    posted = losts_of t.tree.apps list

    rows_are : (q : AppId) → IsTalking (row_of t.rows q) (row_of next.rows q)
    rows_are q = rows_talking (closings_of t.tree.apps cause list) t.rows q

    seen : (q : AttemptId) → view (leaving list) next q ≡ record (view h (sched_popped t) q) { held = list_any (λ row. is_attempt row.id.attempt q) (filter (λ row. not (has_container list row.id)) h.book) }
    seen q =
        let ids : List ContainerId = filter (is_masters_in t.tree.apps) list in
        rw (
          none_more (is_start q.app) (λ i. refl) t.main ids,
          none_more (is_save q.app) (λ i. refl) t.main ids,
          none_more (is_accept q.app) (λ i. refl) t.main ids,
          none_more (is_kill q.app) (λ i. refl) t.main ids,
          none_more (is_done q.app) (λ i. refl) t.main ids,
          none_more (is_grant q) (λ i. refl) t.main ids,
          none_more (is_launch q) (λ i. refl) t.main ids,
        ) refl

    pub left_says : (q : AttemptId) → RowInvariant settings q (row_of next.rows q.app) (view (leaving list) next q)
    left_says q =
        says_talking settings q (row_of t.rows q.app) (row_of next.rows q.app) (view (leaving list) next q) (rows_are q.app)
        (subst (λ (v : View). RowInvariant settings q (row_of t.rows q.app) v) (sym (seen q)) (by (list_any (λ row. is_attempt row.id.attempt q) (filter (λ row. not (has_container list row.id)) h.book)) refl (view h (sched_popped t) q).held refl))
      where
        old : RowInvariant settings q (row_of t.rows q.app) (view h (sched_popped t) q)
        old = subst (λ (v : View). RowInvariant settings q (row_of t.rows q.app) v) (views.sched_taken h t q e rest front ∙ idle q (view h (sched_popped t) q)) (k.all q)

        by : (b : Bool) → list_any (λ row. is_attempt row.id.attempt q) (filter (λ row. not (has_container list row.id)) h.book) ≡ b → (d : Bool) → (view h (sched_popped t) q).held ≡ d → RowInvariant settings q (row_of t.rows q.app) (record (view h (sched_popped t) q) { held = b })
        by false e d f = unheld settings q (view h (sched_popped t) q) (row_of t.rows q.app) old
        by true e true f = subst (λ (b : Bool). RowInvariant settings q (row_of t.rows q.app) (record (view h (sched_popped t) q) { held = b })) f old
        by true e false f = absurd (let x = any_filter (λ row. is_attempt row.id.attempt q) (λ row. not (has_container list row.id)) h.book f in cc)

    marked : (c : ContainerId) → container_view (leaving list) next c ≡ left_marks (has_container list c) (count_by (is_losing c) posted) (container_view h (sched_popped t) c)
    marked c =
        let ids : List ContainerId = filter (is_masters_in t.tree.apps) list in
        rw (
          none_more (is_granting c) (λ i. refl) t.main ids,
          count_append (is_losing c) t.main posted,
          none_more (is_launch c.attempt) (λ i. refl) t.main ids,
          none_more (is_expiry c) (λ i. refl) t.main ids,
          none_more (is_finish c) (λ i. refl) t.main ids,
          living_filter list h.book c,
          has_append h.endings.left list c,
        ) refl

    removal_here : (c : ContainerId) → RemovalInvariant c (container_view (leaving list) next c)
    removal_here c =
        let before : RemovalInvariant c (record (container_view h (sched_popped t) c) { removals = one_if (is_attempt_removal c e) (container_view h (sched_popped t) c).removals }) = subst (λ (v : ContainerView). RemovalInvariant c v) (sched_taken h t c e rest front) (all c).1 in
        subst (λ (v : ContainerView). RemovalInvariant c v) (sym (marked c))
        (removed_says c (left_marks (has_container list c) (count_by (is_losing c) posted) (container_view h (sched_popped t) c)) (is_attempt_removal c e) (λ x s. gone x s (is_living h.book c) refl (has_container list c) refl)
        (λ s l. before s (and_first (is_living h.book c) (not (has_container list c)) l)))
      where
        gone : is_attempt_removal c e ≡ true → is_stale_in t.tree.apps c ≡ true → (a : Bool) → is_living h.book c ≡ a → (b : Bool) → has_container list c ≡ b → (is_living h.book c && not (has_container list c)) ≡ false
        gone x s true e true f = rw (e, f) refl
        gone x s true e false f = absurd (let y = whole c x e s in cc)
        gone x s false e b f = rw e refl

    marks_here : (c : ContainerId) → ContainerInvariant c (row_of next.rows c.attempt.app) (container_view (leaving list) next c)
    marks_here c =
        let before = subst (λ (v : ContainerView). ContainerInvariant c (row_of t.rows c.attempt.app) v) (sched_taken h t c e rest front) (all c).0 in
        let left = leaving_marks c (record (container_view h (sched_popped t) c) { removals = one_if (is_attempt_removal c e) (container_view h (sched_popped t) c).removals }) (row_of t.rows c.attempt.app) (has_container list c) (count_by (is_losing c) posted) (departs c) (posts_none (is_masters_in t.tree.apps) list c) is_told before in
        marks_talking c (row_of t.rows c.attempt.app) (row_of next.rows c.attempt.app) (container_view (leaving list) next c) (rows_are c.attempt.app)
        (subst (λ (v : ContainerView). ContainerInvariant c (row_of t.rows c.attempt.app) v) (sym (marked c))
        (uncounted c (row_of t.rows c.attempt.app) (left_marks (has_container list c) (count_by (is_losing c) posted) (container_view h (sched_popped t) c)) (one_if (is_attempt_removal c e) (container_view h (sched_popped t) c).removals) left))
      where
        is_told : (one : AppRow) (current : Current) → row_of t.rows c.attempt.app ≡ Some one → one.current ≡ Some current → (current.number == c.attempt.number) ≡ true → is_master_of c current.master ≡ true → has_container list c ≡ true
            → IsTold current.state true true (count_by (is_losing c) posted)
        is_told one current is at_ n m l = by (is_master settings h t k all each c one current is at_ n m current.state refl)
          where
            by : (is_masters (abstract_scene h t) c ≡ true) ⊎ IsTold current.state true true 0 → IsTold current.state true true (count_by (is_losing c) posted)
            by (inl x) = told_by current.state (count_by (is_losing c) posted) (posts_some (is_masters_in t.tree.apps) list c l (masters_same (abstract_scene h t) c ∙ x))
            by (inr x) = told_none current.state (count_by (is_losing c) posted) x

    pub left_all_marks : ContainersInvariant (leaving list) next
    left_all_marks c = (marks_here c, removal_here c)

    -- the whole step
    pub ended_joins : Allowed settings (live_state h t) (Ended cause list) → PreservesContainers settings h t (Ended cause list) (leaving list) next
    ended_joins lawful =
        record { step = record { lawful = lawful; same = refl; keeps = record { is_open = k.is_open; recorded = k.recorded; all = left_says } }; marks = left_all_marks }

  -- where none leaves, the event may go
  pub none_joins : (entry : Entry) → Allowed settings (live_state h t) entry → after (live_state h t) entry ≡ live_state h (sched_popped t)
      → ((c : ContainerId) → is_attempt_removal c e ≡ true → is_living h.book c ≡ true → is_stale_in t.tree.apps c ≡ true → ⊥) → PreservesContainers settings h t entry h (sched_popped t)
  none_joins entry lawful same none =
      record {
        step =
            record {
              lawful = lawful;
              same = same;
              keeps =
                  record {
                    is_open = k.is_open;
                    recorded = k.recorded;
                    all = λ q. subst (λ (v : View). RowInvariant settings q (row_of t.rows q.app) v) (views.sched_taken h t q e rest front ∙ idle q (view h (sched_popped t) q)) (k.all q);
                  };
            };
        marks = λ c. (
          uncounted c (row_of t.rows c.attempt.app) (container_view h (sched_popped t) c) (one_if (is_attempt_removal c e) (container_view h (sched_popped t) c).removals) (subst (λ (v : ContainerView). ContainerInvariant c (row_of t.rows c.attempt.app) v) (sched_taken h t c e rest front) (all c).0),
          removed_says c (container_view h (sched_popped t) c) (is_attempt_removal c e) (λ x s. not_living c x s (is_living h.book c) refl) (subst (λ (v : ContainerView). RemovalInvariant c v) (sched_taken h t c e rest front) (all c).1),
        );
      }
    where
      not_living : (c : ContainerId) → is_attempt_removal c e ≡ true → is_stale_in t.tree.apps c ≡ true → (b : Bool) → is_living h.book c ≡ b → b ≡ false
      not_living c x s true l = absurd (none c x l s)
      not_living c x s false l = refl

  -- these containers leave, if there are any
  pub leaving_joins : (list : List ContainerId) → ((c : ContainerId) → has_container list c ≡ true → Departs h t c) → ((c : ContainerId) → is_attempt_removal c e ≡ true → is_living h.book c ≡ true → is_stale_in t.tree.apps c ≡ true → has_container list c ≡ true)
      → Allowed settings (live_state h t) (ended_by cause list t).0 → PreservesContainersTo settings h t (sched_worked (ended_by cause list t))
  leaving_joins [] departs whole lawful = record { next = h; joins = none_joins (ended_by cause [] t).0 lawful refl (λ c x l s. let w = whole c x l s in cc) }
  leaving_joins (one ∷ more) departs whole lawful = record { next = leaving (one ∷ more); joins = ended_joins (one ∷ more) departs whole lawful }
