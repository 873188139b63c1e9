-- Each row with the released mark has its release on its way: each event of both queues keeps it. Once the release comes, what it names has left.
use Rattle.rm_invariant.proofs.Common.{◌≡◌, drop, inl, inr, ℕ, List, [], ◌∷◌, Bool, true, false, not, Some, filter, map, refl, sym, ◌∙◌, ap, subst, if◌then◌else◌, list_any, false≢true, Running, Grant, Held, Entry, AttemptId, ContainerId, AppRecord, Settings, is_attempt, is_container, Records, container_itself, same_container, has_row, row_absorbed, row_taken, is_held, after, is_living, once, has_container, row_granted, Row, MainEvent, SchedEvent, Tables, main_worked, sched_worked, ended_by, is_masters_in, main_step, is_released, sched_step, History, live_state, ◌||◌, ◌&&◌}
use Rattle.rm_types.specs.declared.containers.Cause.TheVariants as causes
use Rattle.rm_model.specs.Containers.{is_earlier}
use Rattle.rm_tables.specs.declared.events.SchedEvent.TheVariants as scheds
use Rattle.rm_tables.specs.Missing.{is_at_disposal_in}
use Rattle.rm_invariant.specs.nodes.Book.{All}
use Rattle.rm_invariant.proofs.nodes.Holds.{all_append, all_filter, all_map, all_passing}
use Rattle.rm_invariant.proofs.nodes.Lists.{once_has}
use Rattle.rm_invariant.proofs.masters.LeavingEvents.{same_living}
use Rattle.rm_invariant.specs.events.Outcomes.{Outcome}
use Rattle.rm_invariant.specs.Core.{CoreInvariant, PreservesCore}
use Rattle.rm_invariant.specs.messages.Released.{IsOnWay, ReleasesOnWay, is_release_of, keeps_in}
use Rattle.rm_invariant.proofs.messages.Marked.{all_both, all_found, all_later, step_on_way, at_same}
use Rattle.rm_invariant.proofs.messages.Shapes.{QueueBy, book_of, main_shape}
use Rattle.rm_invariant.proofs.events.Entering.{all_weaker}
use Rattle.rm_invariant.specs.events.SchedOutcomes.{SchedOutcome}
use Rattle.rm_invariant.specs.events.SchedOutcomes as outcomes
use Rattle.rm_invariant.proofs.events.SchedOutcomes.{sched_outcome}

-- THE MAIN QUEUE

pub main_on_way : (settings : Settings) (h : History) (t : Tables) → ReleasesOnWay h t → (e : MainEvent) → Outcome t (main_step e t) → (s : PreservesCore settings h t (main_worked (main_step e t))) → ReleasesOnWay s.next (main_worked (main_step e t)).1
main_on_way settings h t on e outcome s =
    let shape = main_shape h t (main_step e t) outcome in
    step_on_way settings h t (main_worked (main_step e t)).0 (main_worked (main_step e t)).1 s h.book shape.book
    (subst (λ (r : Records). All (IsOnWay r.apps (main_step e t).1.sched) h.book) (sym shape.tree) (by (main_step e t).1.sched shape.sched))
  where
    by : (sched : List SchedEvent) → QueueBy t.sched sched → All (IsOnWay t.tree.apps sched) h.book
    by sched (inl same) = subst (λ (l : List SchedEvent). All (IsOnWay t.tree.apps l) h.book) (sym same) on
    by sched (inr more) = subst (λ (l : List SchedEvent). All (IsOnWay t.tree.apps l) h.book) (sym more.1) (all_later t.tree.apps t.sched (more.0 ∷ []) h.book on)

-- THE SCHEDULER

-- one of some ids that passes a test is one of those that do
passes_among : (p : ContainerId → Bool) (ids : List ContainerId) (c : ContainerId) → has_container ids c ≡ true → p c ≡ true → has_container (filter p ids) c ≡ true
passes_among p [] c among passes = cc
passes_among p (id ∷ ids) c among passes = by (p id) (is_container id c) refl refl (passes_among p ids c)
  where
    by : (a b : Bool) → p id ≡ a → is_container id c ≡ b → (has_container ids c ≡ true → p c ≡ true → has_container (filter p ids) c ≡ true) → has_container (filter p (id ∷ ids)) c ≡ true
    by true true f g rest = rw (f, g) refl
    by true false f g rest = rw (f, g) (rest (rw g at among) passes)
    by false true f g rest = absurd (let x : false ≡ true = sym f ∙ ap p (same_container id c g) ∙ passes in false≢true x)
    by false false f g rest = rw f (rest (rw g at among) passes)

-- what an event that is worked off leaves: the judge's book, each marked row of which has its release behind that event
record LeavesOnWay (h : History) (t : Tables) (rest : List SchedEvent) (done : Entry × Tables) : Type 0 where
  pub book : List Row
  pub is : book_of (after (live_state h t) done.0) ≡ Some book
  pub sched : done.1.sched ≡ t.sched
  pub tree : done.1.tree ≡ t.tree
  pub on : All (IsOnWay t.tree.apps rest) book

module _ (h : History) (t : Tables) (rest : List SchedEvent) (on : All (IsOnWay t.tree.apps rest) h.book) where
  abbrev On : Row → Type 0
  On = IsOnWay t.tree.apps rest

  -- rows that enter have no mark
  absorbed_new : (name : List ℕ) (taken : List Held) → All On (map (row_absorbed name) taken)
  absorbed_new name [] = tt
  absorbed_new name (held ∷ taken) = ((λ marked. absurd (false≢true marked)), absorbed_new name taken)

  granted_new : (grants : List Grant) → All On (map row_granted grants)
  granted_new [] = tt
  granted_new (grant ∷ grants) = ((λ marked. absurd (false≢true marked)), granted_new grants)

  taken_on : (taken : List Held) (row : Row) → On row → On (row_taken taken row)
  taken_on taken row on = by (is_held taken row.id)
    where
      by : (b : Bool) → On (if b then record row { state = Running } else row)
      by true = on
      by false = on

  -- an event that is no release
  others_leave : (list : List ContainerId) (e : SchedEvent) (done : Entry × Tables) → SchedOutcome t list e done → LeavesOnWay h t rest done
  others_leave list e done (outcomes.idles one nothing) = record { book = h.book; is = refl; sched = refl; tree = refl; on = on }
  others_leave list e done (outcomes.posts id) = record { book = h.book; is = refl; sched = refl; tree = refl; on = on }
  others_leave list e done (outcomes.asks id row current is state number) = record { book = h.book; is = refl; sched = refl; tree = refl; on = on }
  others_leave list e done (outcomes.ends one cause id ids is) = record { book = _; is = refl; sched = refl; tree = refl; on = all_filter On (λ row. not (has_container (id ∷ ids) row.id)) h.book on }
  others_leave list e done (outcomes.absorbs name turn row found waits) =
      record {
        book = _;
        is = refl;
        sched = refl;
        tree = refl;
        on =
            all_append On _ _
            (all_map On On (row_taken _) (taken_on _) (filter (λ one. not (has_container list one.id)) h.book) (all_filter On (λ one. not (has_container list one.id)) h.book on))
            (absorbed_new name _);
      }
  others_leave list e done (outcomes.grants name row found) = record { book = _; is = refl; sched = refl; tree = refl; on = all_append On h.book _ on (granted_new _) }

-- an event that is no release isn't missed
rest_on : (apps : List AppRecord) (e : SchedEvent) (rest : List SchedEvent) → ((keep : Bool) (id : ContainerId) → is_release_of keep id e ≡ false) → (book : List Row) → All (IsOnWay apps (e ∷ rest)) book → All (IsOnWay apps rest) book
rest_on apps e rest none book on = all_weaker (IsOnWay apps (e ∷ rest)) (IsOnWay apps rest) (λ row h marked fresh. ((let apart = none (keeps_in apps row.id) row.id in let x = (h marked fresh).0 in rw apart at x), (h marked fresh).1)) book on

module _ (settings : Settings) (h : History) (t : Tables) (w : CoreInvariant settings h t) (rest : List SchedEvent) where
  -- a release: what it names, lives and is of its attempt leaves
  module _ (attempt : AttemptId) (list : List ContainerId) (on : All (IsOnWay t.tree.apps (scheds.Release attempt list ∷ rest)) h.book) where
    abbrev given_back : List ContainerId
    given_back = once (filter (is_released attempt t) list)

    stays : (row : Row) → (is_living h.book row.id ≡ true) × IsOnWay t.tree.apps (scheds.Release attempt list ∷ rest) row → has_container given_back row.id ≡ false → IsOnWay t.tree.apps rest row
    stays row h_row left marked fresh = ((by (is_attempt row.id.attempt attempt || (keeps_in t.tree.apps row.id && is_earlier row.id.attempt attempt)) refl (has_container list row.id) refl (h_row.1 marked fresh).0), no_master)
      where
        no_master : is_masters_in t.tree.apps row.id ≡ false
        no_master = (h_row.1 marked fresh).1

        in_book : has_row t.book row.id ≡ true
        in_book = same_living row.id t.book.rows h.book w.agrees.rows ∙ h_row.0

        by : (a : Bool) → (is_attempt row.id.attempt attempt || (keeps_in t.tree.apps row.id && is_earlier row.id.attempt attempt)) ≡ a → (b : Bool) → has_container list row.id ≡ b
            → list_any (is_release_of (keeps_in t.tree.apps row.id) row.id) (scheds.Release attempt list ∷ rest) ≡ true → list_any (is_release_of (keeps_in t.tree.apps row.id) row.id) rest ≡ true
        by true e true f some =
            let at : is_at_disposal_in t.tree.apps attempt row.id ≡ true = sym (at_same t.tree.apps attempt row.id) ∙ e in
            let released : is_released attempt t row.id ≡ true = rw (in_book, at, no_master) refl in
            absurd (let x : false ≡ true = sym left ∙ once_has (filter (is_released attempt t) list) row.id (passes_among (is_released attempt t) list row.id f released) in false≢true x)
        by true e false f some = rw (e, f) at some
        by false e b f some = rw e at some

    released_by_list : (ended : List ContainerId) → given_back ≡ ended → LeavesOnWay h t rest (ended_by causes.Released ended t)
    released_by_list [] e =
        record {
          book = h.book;
          is = refl;
          sched = refl;
          tree = refl;
          on = all_weaker (λ row. (is_living h.book row.id ≡ true) × IsOnWay t.tree.apps (scheds.Release attempt list ∷ rest) row) (IsOnWay t.tree.apps rest)
              (λ row k. stays row k (ap (λ (ids : List ContainerId). has_container ids row.id) e)) h.book (all_both (λ row. is_living h.book row.id ≡ true) (IsOnWay t.tree.apps (scheds.Release attempt list ∷ rest)) h.book (all_found (λ one row. is_container one.id row.id) (λ row. container_itself row.id) h.book) on);
        }
    released_by_list (id ∷ ids) e =
        record {
          book = _;
          is = refl;
          sched = refl;
          tree = refl;
          on =
              all_passing (λ row. (is_living h.book row.id ≡ true) × IsOnWay t.tree.apps (scheds.Release attempt list ∷ rest) row) (IsOnWay t.tree.apps rest) (λ row. not (has_container (id ∷ ids) row.id))
              (λ row goes k. stays row k (ap (λ (some : List ContainerId). has_container some row.id) e ∙ not_true (has_container (id ∷ ids) row.id) goes)) h.book
              (all_both (λ row. is_living h.book row.id ≡ true) (IsOnWay t.tree.apps (scheds.Release attempt list ∷ rest)) h.book (all_found (λ one row. is_container one.id row.id) (λ row. container_itself row.id) h.book) on);
        }
      where
        not_true : (b : Bool) → not b ≡ true → b ≡ false
        not_true true x = absurd (false≢true x)
        not_true false x = refl

  other : (e : SchedEvent) → ((keep : Bool) (id : ContainerId) → is_release_of keep id e ≡ false) → (list : List ContainerId) → All (IsOnWay t.tree.apps (e ∷ rest)) h.book → LeavesOnWay h t rest (sched_step e list t)
  other e none list on = others_leave h t rest (rest_on t.tree.apps e rest none h.book on) list e (sched_step e list t) (sched_outcome t list e)

  step_leaves : (e : SchedEvent) (list : List ContainerId) → All (IsOnWay t.tree.apps (e ∷ rest)) h.book → LeavesOnWay h t rest (sched_step e list t)
  step_leaves (scheds.Release attempt released) list on = released_by_list attempt released on (given_back attempt released on) refl
  step_leaves e list on = other e (λ keep c. refl) list on

  pub sched_on_way : ReleasesOnWay h t → (e : SchedEvent) → t.sched ≡ e ∷ rest → (list : List ContainerId) (s : PreservesCore settings h t (sched_worked (sched_step e list t))) → ReleasesOnWay s.next (sched_worked (sched_step e list t)).1
  sched_on_way on e front list s =
      let leaves = step_leaves e list (subst (λ (l : List SchedEvent). All (IsOnWay t.tree.apps l) h.book) front on) in
      let queue : rest ≡ drop 1 (sched_step e list t).1.sched = sym (ap (drop 1) (leaves.sched ∙ front)) in
      step_on_way settings h t (sched_worked (sched_step e list t)).0 (sched_worked (sched_step e list t)).1 s leaves.book leaves.is
      (subst (λ (r : Records). All (IsOnWay r.apps (drop 1 (sched_step e list t).1.sched)) leaves.book) (sym leaves.tree) (subst (λ (l : List SchedEvent). All (IsOnWay t.tree.apps l) leaves.book) queue leaves.on))
