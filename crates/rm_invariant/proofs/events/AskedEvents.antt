-- Each event of the scheduler keeps what a pass takes of the asks: that masters are asked for once and only what goes on asks for more, and
-- that those which ask for more are current.
use Rattle.rm_invariant.proofs.Common.{◌≡◌, ◌≤◌, ◌||◌, List, [], ◌∷◌, ◌++◌, Bool, true, false, not, Option, None, Some, map, refl, sym, ◌∙◌, ap, subst, arith, if◌then◌else◌, list_any, false≢true, nat_tests, Ask, AppId, AttemptId, ContainerId, AppRecord, Resource, is_app, is_attempt, same_attempt, AsksOf, attempt_asks, asks_set, is_for, renewed_ask, with_asks_of, SchedEvent, AppRow, Tables, found_in, sched_worked, closed, closed_in, closed_one, closings_of, grants_on, row_of, master_asked, sched_step, Entry, sched_quiet}
use Rattle.std.proofs.Common.{◌==◌, count_by}
use Rattle.rm_types.specs.declared.containers.Cause.TheVariants.{Gone}
use Rattle.rm_invariant.specs.apps.View.{changed_if}
use Rattle.rm_invariant.proofs.apps.Found.{row_changed}
use Rattle.rm_invariant.specs.events.Asking.{OthersCurrent, asks_others, is_current_number, is_numbered_in}
use Rattle.rm_invariant.specs.events.Masters.{AppsOnce, MastersAskOnce, are_single, goes_in, is_single}
use Rattle.rm_invariant.proofs.events.AskedOnce.{apps_kept, once_kept, others_kept}
use Rattle.rm_invariant.proofs.events.Answered.{other_asks, own_asks}
use Rattle.rm_invariant.proofs.events.Waiting.{line_of}
use Rattle.rm_invariant.specs.events.SchedOutcomes.{SchedOutcome}
use Rattle.rm_invariant.specs.events.SchedOutcomes as outcomes
use Rattle.rm_invariant.proofs.events.SchedOutcomes.{sched_outcome}
use Rattle.rm_types.specs.declared.containers.ClosingOf.{ClosingOf}

-- what a pass takes of the tables
abbrev pub AsksApt : Tables → Type 0
AsksApt t = MastersAskOnce t × OthersCurrent t × AppsOnce t

-- ROWS THAT TELL MORE

-- what is nothing to the endings that a master is to be told is the same of the rows that tell more
rows_told : (f : Option AppRow → Bool) → ((closing : ClosingOf) (row : AppRow) → f (Some (closed closing row)) ≡ f (Some row)) → (closings : List ClosingOf) (rows : List (AppId × Option AppRow)) (id : AppId)
    → f (row_of (closed_in rows closings) id) ≡ f (row_of rows id)
rows_told f same [] rows id = refl
rows_told f same (closing ∷ closings) rows id =
    rows_told f same closings (closed_one rows closing) id ∙ ap f (row_changed (closed closing) closing.attempt.app id rows) ∙ by (is_app closing.attempt.app id) (row_of rows id)
  where
    by : (b : Bool) (o : Option AppRow) → f (changed_if b (closed closing) o) ≡ f o
    by true None = refl
    by true (Some row) = same closing row
    by false o = refl

-- the tables with the same asks, where the rows tell more
told_apt : (t next : Tables) (closings : List ClosingOf) → next.asks ≡ t.asks → next.rows ≡ closed_in t.rows closings → next.tree ≡ t.tree → AsksApt t → AsksApt next
told_apt t next closings asks rows tree apt = (
  record {
    single = λ q. ap (λ (table : List AsksOf). are_single (attempt_asks table q)) asks ∙ apt.0.single q;
    others = λ q some.
        ap (λ (one : List (AppId × Option AppRow)). goes_in (row_of one q.app)) rows ∙ rows_told goes_in (λ closing row. refl) closings t.rows q.app
        ∙ apt.0.others q (sym (ap (λ (table : List AsksOf). asks_others (attempt_asks table q)) asks) ∙ some);
  },
  (λ q some.
      ap (λ (one : List (AppId × Option AppRow)). is_current_number one q) rows ∙ rows_told (is_numbered_in q.number) (λ closing row. refl) closings t.rows q.app
      ∙ apt.1 q (sym (ap (λ (table : List AsksOf). asks_others (attempt_asks table q)) asks) ∙ some)),
  subst (λ tree. (id : AppId) → count_by (λ app. is_app app.id id) tree.apps ≤ 1) (sym tree) apt.2,
)

-- A MASTER IS ASKED FOR

-- the ask for a master changes nothing else
module _ (size : Resource) where
  renewed_others : (asks : List Ask) → asks_others (map (renewed_ask (line_of size)) asks) ≡ asks_others asks
  renewed_others [] = refl
  renewed_others (one ∷ asks) = by (is_for 0 size one) refl (renewed_others asks)
    where
      by : (b : Bool) → is_for 0 size one ≡ b → asks_others (map (renewed_ask (line_of size)) asks) ≡ asks_others asks → asks_others (map (renewed_ask (line_of size)) (one ∷ asks)) ≡ asks_others (one ∷ asks)
      by true e rest = let zero : (one.priority == 0) ≡ true = grind (arith, nat_tests) in rw (e, zero) rest
      by false e rest = rw (e, rest) refl

  renewed_single : (asks : List Ask) → are_single asks ≡ true → are_single (map (renewed_ask (line_of size)) asks) ≡ true
  renewed_single [] single = refl
  renewed_single (one ∷ asks) single = by (is_single one) refl (is_for 0 size one) refl (renewed_single asks)
    where
      by : (b : Bool) → is_single one ≡ b → (c : Bool) → is_for 0 size one ≡ c → (are_single asks ≡ true → are_single (map (renewed_ask (line_of size)) asks) ≡ true)
          → are_single (map (renewed_ask (line_of size)) (one ∷ asks)) ≡ true
      by true e true f rest = rw f (rest (rw e at single))
      by true e false f rest = rw (f, e) (rest (rw e at single))
      by false e c f rest = absurd (let x : false ≡ true = rw e at single in false≢true x)

  added_others : (asks : List Ask) → asks_others (asks ++ line_of size ∷ []) ≡ asks_others asks
  added_others [] = refl
  added_others (one ∷ asks) = ap (λ (b : Bool). not (one.priority == 0) || b) (added_others asks)

  added_single : (asks : List Ask) → are_single asks ≡ true → are_single (asks ++ line_of size ∷ []) ≡ true
  added_single [] single = refl
  added_single (one ∷ asks) single = by (is_single one) refl (added_single asks)
    where
      by : (b : Bool) → is_single one ≡ b → (are_single asks ≡ true → are_single (asks ++ line_of size ∷ []) ≡ true) → are_single (one ∷ asks ++ line_of size ∷ []) ≡ true
      by true e rest = rw e (rest (rw e at single))
      by false e rest = absurd (let x : false ≡ true = rw e at single in false≢true x)

  set_others : (asks : List Ask) → asks_others (asks_set (line_of size) asks) ≡ asks_others asks
  set_others asks = by (list_any (is_for 0 size) asks)
    where
      by : (b : Bool) → asks_others (if b then map (renewed_ask (line_of size)) asks else asks ++ line_of size ∷ []) ≡ asks_others asks
      by true = renewed_others asks
      by false = added_others asks

  set_single : (asks : List Ask) → are_single asks ≡ true → are_single (asks_set (line_of size) asks) ≡ true
  set_single asks single = by (list_any (is_for 0 size) asks)
    where
      by : (b : Bool) → are_single (if b then map (renewed_ask (line_of size)) asks else asks ++ line_of size ∷ []) ≡ true
      by true = renewed_single asks single
      by false = added_single asks single

asked_others : (id : AttemptId) (o : Option AppRecord) (table : List AsksOf) (q : AttemptId) → asks_others (attempt_asks (master_asked id o table) q) ≡ asks_others (attempt_asks table q)
asked_others id None table q = refl
asked_others id (Some app) table q = by (is_attempt id q) refl
  where
    by : (b : Bool) → is_attempt id q ≡ b → asks_others (attempt_asks (with_asks_of id (asks_set (line_of app.submission.master) (attempt_asks table id)) table) q) ≡ asks_others (attempt_asks table q)
    by true e =
        subst (λ (a : AttemptId). asks_others (attempt_asks (with_asks_of id (asks_set (line_of app.submission.master) (attempt_asks table id)) table) a) ≡ asks_others (attempt_asks table a)) (same_attempt id q e)
        (ap asks_others (own_asks id (asks_set (line_of app.submission.master) (attempt_asks table id)) table) ∙ set_others app.submission.master (attempt_asks table id))
    by false e = ap asks_others (other_asks id q e (asks_set (line_of app.submission.master) (attempt_asks table id)) table)

asked_single : (id : AttemptId) (o : Option AppRecord) (table : List AsksOf) → ((q : AttemptId) → are_single (attempt_asks table q) ≡ true) → (q : AttemptId) → are_single (attempt_asks (master_asked id o table) q) ≡ true
asked_single id None table single q = single q
asked_single id (Some app) table single q = by (is_attempt id q) refl
  where
    by : (b : Bool) → is_attempt id q ≡ b → are_single (attempt_asks (with_asks_of id (asks_set (line_of app.submission.master) (attempt_asks table id)) table) q) ≡ true
    by true e =
        subst (λ (a : AttemptId). are_single (attempt_asks (with_asks_of id (asks_set (line_of app.submission.master) (attempt_asks table id)) table) a) ≡ true) (same_attempt id q e)
        (ap are_single (own_asks id (asks_set (line_of app.submission.master) (attempt_asks table id)) table) ∙ set_single app.submission.master (attempt_asks table id) (single id))
    by false e = ap are_single (other_asks id q e (asks_set (line_of app.submission.master) (attempt_asks table id)) table) ∙ single q

-- ALL EVENTS

-- each event of the scheduler keeps it
pub sched_apt : (t : Tables) → AsksApt t → (e : SchedEvent) (list : List ContainerId) → AsksApt (sched_worked (sched_step e list t)).1
sched_apt t apt e list = by e (sched_step e list t) (sched_outcome t list e)
  where
    by : (e : SchedEvent) (done : Entry × Tables) → SchedOutcome t list e done → AsksApt (sched_worked done).1
    by e done (outcomes.idles one nothing) = told_apt t (sched_worked (sched_quiet t)).1 [] refl refl refl apt
    by e done (outcomes.posts id) = told_apt t _ [] refl refl refl apt
    by e done (outcomes.asks id row current is state number) = (
      record { single = asked_single id (found_in t id.app) t.asks apt.0.single; others = λ q some. apt.0.others q (sym (asked_others id (found_in t id.app) t.asks q) ∙ some) },
      (λ q some. apt.1 q (sym (asked_others id (found_in t id.app) t.asks q) ∙ some)),
      apt.2,
    )
    by e done (outcomes.ends one cause id ids is) = told_apt t _ (closings_of t.tree.apps cause (id ∷ ids)) refl refl refl apt
    by e done (outcomes.absorbs name turn row found waits) = told_apt t _ (closings_of t.tree.apps Gone list) refl refl refl apt
    by e done (outcomes.grants name row found) = (once_kept t (grants_on name row t) apt.0, others_kept t (grants_on name row t) apt.1, apps_kept t (grants_on name row t) apt.2)
