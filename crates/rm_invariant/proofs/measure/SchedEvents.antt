-- Each event of the scheduler's queue makes less of what is left to do.
use Rattle.rm_invariant.proofs.Common.{◌≡◌, ◌<◌, ◌≤◌, ◌&&◌, ℕ, ◌+◌, ◌*◌, List, [], ◌∷◌, ◌++◌, Bool, true, false, not, filter, fold, map, find, Option, None, Some, length, refl, ap, arith, if◌then◌else◌, bytes_eq, list_any, false≢true, length-map, sum_by-append, sum_by-cons, BookRow, Cause, Grant, Held, Entry, AppId, ContainerId, Resource, is_attempt, and_first, AsksOf, entering, granted_rows, has_row, is_of, book_row_taken, taken_rows, is_held, once, SchedEvent, NodeRow, AppRow, Tables, counted_in, tables_may_take, taken_in, tables_with_counted, found_in, sched_popped, sched_worked, changed, closings_of, is_masters_in, losts_of, grants_on, masters_granted, rows_after_grant, waits_for_master, row_of, EndsByEvent, is_on, is_released, master_asked, sched_step, Ended, subst, Ascend, is_container, is_app}
use Rattle.std.specs.List.{sum_by}
use Rattle.std.proofs.lemmas.List.{length-append}
use Rattle.rm_types.specs.declared.containers.Cause.TheVariants as causes
use Rattle.rm_book.specs.Books.{book_row as book_row_of}
use Rattle.rm_tables.specs.declared.changes.AttemptChange.TheVariants as of_attempt
use Rattle.rm_tables.specs.declared.changes.RowChange.TheVariants as of_app
use Rattle.rm_tables.specs.declared.events.MainEvent.TheVariants as mains
use Rattle.rm_tables.specs.declared.events.SchedEvent.TheVariants as scheds
use Rattle.rm_invariant.specs.measure.Reports.{FewGranted, FewReported}
use Rattle.rm_invariant.specs.measure.Measure.{main_measure, most_grants, rows_measure, sched_measure, measure}
use Rattle.rm_invariant.proofs.measure.Leaving.{all_leave, closed_weighs, each_leaves, left_of, losts_weigh, once_leave, passing_have}
use Rattle.rm_invariant.proofs.measure.Rows.{granted_same}
use Rattle.rm_invariant.proofs.measure.Sums.{main_push, row_rises, sched_front}
use Rattle.rm_tables.specs.Absorbing.{book_not_taken}
use Rattle.rm_tables.specs.Leaving.{is_stale_in, left_all}
use Rattle.rm_tables.specs.Missing.{is_at_disposal_in}
use Rattle.rm_tables.specs.SchedEvents.{ends_as_done}
use Rattle.rm_invariant.specs.events.SchedOutcomes.{SchedOutcome, leaving_by}
use Rattle.rm_invariant.specs.events.SchedOutcomes as outcomes
use Rattle.rm_invariant.proofs.events.SchedOutcomes.{ids_in, sched_outcome}

-- what is left of a list after two tests, and of the ids of rows
filtered_ids : (r : ContainerId → Bool) (p : BookRow → Bool) (rows : List BookRow)
    → filter r (map (λ row. row.id) (filter p rows)) ≡ map (λ row. row.id) (filter (λ row. p row && r row.id) rows)
filtered_ids r p [] = refl
filtered_ids r p (row ∷ rows) = by (p row) (r row.id) refl refl (filtered_ids r p rows)
  where
    by : (a b : Bool) → p row ≡ a → r row.id ≡ b → filter r (map (λ row. row.id) (filter p rows)) ≡ map (λ row. row.id) (filter (λ row. p row && r row.id) rows)
        → filter r (map (λ row. row.id) (filter p (row ∷ rows))) ≡ map (λ row. row.id) (filter (λ row. p row && r row.id) (row ∷ rows))
    by true true e f rest = rw (e, f) (ap (λ (xs : List ContainerId). row.id ∷ xs) rest)
    by true false e f rest = rw (e, f) rest
    by false b e f rest = rw e rest

-- no more are taken than a node reports, and no more enter than are taken
few_counted : (t : Tables) (name : List ℕ) (capability : Resource) (taken : List Held) (o : Option Held) → length (tables_with_counted t name capability taken o) ≤ length taken + 1
few_counted t name capability taken None = omega arith
few_counted t name capability taken (Some held) = by (tables_may_take t name capability taken held)
  where
    by : (b : Bool) → length (if b then taken ++ held ∷ [] else taken) ≤ length taken + 1
    by true = omega (arith, length-append taken (held ∷ []))
    by false = omega arith

few_taken : (t : Tables) (name : List ℕ) (row : NodeRow) (taken running : List Held)
    → length (fold (λ taken held. tables_with_counted t name row.capability taken (counted_in t name held)) taken running) ≤ length taken + length running
few_taken t name row taken [] = omega arith
few_taken t name row taken (held ∷ running) =
    let one = few_counted t name row.capability taken (counted_in t name held) in
    let more = few_taken t name row (tables_with_counted t name row.capability taken (counted_in t name held)) running in
    omega (arith, one, more)

few_filtered : {X : Type 0} (p : X → Bool) (xs : List X) → length (filter p xs) ≤ length xs
few_filtered p [] = omega arith
few_filtered p (x ∷ xs) = by (p x) refl (few_filtered p xs)
  where
    by : (b : Bool) → p x ≡ b → length (filter p xs) ≤ length xs → length (filter p (x ∷ xs)) ≤ length (x ∷ xs)
    by true e rest = rw e (omega (arith, rest))
    by false e rest = rw e (omega (arith, rest))

long_taken : (added : ℕ) (name : List ℕ) (taken : List Held) → length (taken_rows added name taken) ≡ length taken
long_taken added name [] = refl
long_taken added name (held ∷ taken) = let more = long_taken (added + 1) name taken in omega (arith, more)

-- as many rows enter the book as are granted, each with a MasterGranted at most; the rows of applications weigh the same
long_granted : (added : ℕ) (grants : List Grant) → length (granted_rows added grants) ≡ length grants
long_granted added [] = refl
long_granted added (grant ∷ grants) = let more = long_granted (added + 1) grants in omega (arith, more)

granted_weigh : (most : ℕ) (rows : List (AppId × Option AppRow)) (grants : List Grant) → sum_by (main_measure most) (masters_granted rows grants) ≤ 2 * length grants
granted_weigh most rows [] = omega arith
granted_weigh most rows (grant ∷ grants) = by (waits_for_master (row_of rows grant.id.attempt.app)) refl (granted_weigh most rows grants)
  where
    by : (b : Bool) → waits_for_master (row_of rows grant.id.attempt.app) ≡ b → sum_by (main_measure most) (masters_granted rows grants) ≤ 2 * length grants
        → sum_by (main_measure most) (masters_granted rows (grant ∷ grants)) ≤ 2 * length (grant ∷ grants)
    by true e rest = rw e (omega (arith, rest, sum_by-cons (main_measure most) (mains.MasterGranted grant.id) (masters_granted rows grants)))
    by false e rest = rw e (omega (arith, rest))

rows_granted : (most : ℕ) (rows : List (AppId × Option AppRow)) (grants : List Grant) → rows_measure most (fold rows_after_grant rows grants) ≤ rows_measure most rows
rows_granted most rows [] = omega arith
rows_granted most rows (grant ∷ grants) =
    let one = row_rises most 0 (changed (of_app.OfAttempt (of_attempt.Grant grant.id))) grant.id.attempt.app rows (λ row. omega (arith, granted_same most row grant.id)) in
    let more = rows_granted most (rows_after_grant rows grant) grants in
    omega (arith, one, more)

-- where none leave, all rows stay
none_leave : (rows : List BookRow) → length (left_of [] rows) + length {A = ContainerId} [] ≤ length rows
none_leave rows = omega (arith, few_filtered (λ row. not (list_any (λ id. is_container id row.id) [])) rows)

module _ (t : Tables) (e : SchedEvent) (rest : List SchedEvent) (front : t.sched ≡ e ∷ rest) where
  abbrev Decreases : Entry × Tables → Type 0
  Decreases done = measure (sched_worked done).1 < measure t

  -- an event that posts nothing, and may change the asks
  asked : (asks : List AsksOf) → 1 ≤ sched_measure e → measure (record (sched_popped t) { asks = asks }) < measure t
  asked asks one = let f = sched_front t.sched e rest front in omega (arith, f, one)

  -- containers leave, each with its row or paid for by the event
  ended : (cause : Cause) (id : ContainerId) (ids : List ContainerId) → length (left_of (id ∷ ids) t.book.rows) + length (id ∷ ids) < length t.book.rows + sched_measure e → Decreases (Ended cause (id ∷ ids), left_all cause (id ∷ ids) t)
  ended cause id ids go =
      let f = sched_front t.sched e rest front in
      let posted = sum_by-append (main_measure t.settings.max_attempts) t.main (losts_of t.tree.apps (id ∷ ids)) in
      let losts = losts_weigh t.settings.max_attempts t.tree.apps (id ∷ ids) in
      let rows = closed_weighs t.settings.max_attempts t.rows (closings_of t.tree.apps cause (id ∷ ids)) in
      omega (arith, f, go, posted, losts, rows)

-- each event weighs something
weighs : (e : SchedEvent) → 1 ≤ sched_measure e
weighs (scheds.AppAdded id) = omega arith
weighs _ = omega arith

-- each once is no more
few_once : (ids : List ContainerId) → length (once ids) ≤ length ids
few_once [] = omega arith
few_once (id ∷ ids) = let more = few_once ids in omega (arith, more, few_filtered (λ other. not (is_container other id)) (once ids))

-- the containers that end by an event each have a row, and leave with it, or the event weighs as much
ending_leaves : (t : Tables) (e : SchedEvent) (list : List ContainerId) → EndsByEvent e t list → (cause : Cause) (ids : List ContainerId) → leaving_by e list t ≡ Some (cause, ids) → length (left_of ids t.book.rows) + length ids < length t.book.rows + sched_measure e
ending_leaves t e list ends cause ids is = subst (λ (all : List ContainerId). length (left_of all t.book.rows) + length all < length t.book.rows + sched_measure e) (ap ids_in is) (by e ends)
  where
    all_once : (p : ContainerId → Bool) (list : List ContainerId) → ((id : ContainerId) → p id ≡ true → list_any (is_of id) t.book.rows ≡ true) → length (left_of (once (filter p list)) t.book.rows) + length (once (filter p list)) ≤ length t.book.rows
    all_once p list each = each_leaves t.book.rows (once (filter p list)) (once_leave t.book.rows (filter p list) (passing_have t.book.rows p each list))

    by : (e : SchedEvent) → EndsByEvent e t list → length (left_of (ids_in (leaving_by e list t)) t.book.rows) + length (ids_in (leaving_by e list t)) < length t.book.rows + sched_measure e
    by (scheds.AttemptRemoved id) ends = let go = all_leave (λ row. is_app row.id.attempt.app id.app && is_stale_in t.tree.apps row.id) t.book.rows list ends.same in omega (arith, go)
    by (scheds.Release attempt released) ends =
        let go = all_once (is_released attempt t) released (λ id h. and_first (has_row t.book id) (is_at_disposal_in t.tree.apps attempt id && not (is_masters_in t.tree.apps id)) h) in
        omega (arith, go)
    by (scheds.NodeDone node done) ends =
        let ended : List ContainerId = once (filter (ends_as_done node t) done) in
        omega (arith, few_filtered (λ row. not (list_any (λ id. is_container id row.id) ended)) t.book.rows, few_once (filter (ends_as_done node t) done), few_filtered (ends_as_done node t) done)
    by (scheds.NodeLost node) ends = let go = all_leave (λ row. bytes_eq row.node node) t.book.rows list ends.same in omega (arith, go)
    by e ends = let go = none_leave t.book.rows in let one = weighs e in omega (arith, go, one)

-- each event
pub sched_lighter : (t : Tables) → FewReported t → FewGranted t → (e : SchedEvent) (rest : List SchedEvent) → t.sched ≡ e ∷ rest → (list : List ContainerId) → EndsByEvent e t list
    → measure (sched_worked (sched_step e list t)).1 < measure t
sched_lighter t reported granted e rest front list ends = by e (sched_step e list t) front ends (sched_outcome t list e)
  where
    by : (e : SchedEvent) (done : Entry × Tables) → t.sched ≡ e ∷ rest → EndsByEvent e t list → SchedOutcome t list e done → measure (sched_worked done).1 < measure t
    by e done front ends (outcomes.idles one nothing) = asked t one rest front t.asks (weighs one)
    by e done front ends (outcomes.posts id) = let f = sched_front t.sched (scheds.AppAdded id) rest front in omega (arith, f, main_push t.settings.max_attempts t.main (mains.AppAccepted id))
    by e done front ends (outcomes.asks id row current is state number) = asked t (scheds.AttemptAdded id) rest front (master_asked id (found_in t id.app) t.asks) (weighs (scheds.AttemptAdded id))
    by e done front ends (outcomes.ends one cause id ids is) = ended t one rest front cause id ids (ending_leaves t one list ends cause (id ∷ ids) is)
    by e done front ends (outcomes.absorbs name turn row found waits) =
        let f = sched_front t.sched (scheds.NodeAdded name turn) rest front in
        let few = reported name row found in
        let taken : List Held = taken_in t name row in
        let posted = sum_by-append (main_measure t.settings.max_attempts) t.main (losts_of t.tree.apps list) in
        let losts = losts_weigh t.settings.max_attempts t.tree.apps list in
        let rows = closed_weighs t.settings.max_attempts t.rows (closings_of t.tree.apps causes.Gone list) in
        let stays = length-map (left_of list t.book.rows) (book_row_taken taken) in
        let enters = long_taken t.book.added name (entering t.book taken) in
        let both = length-append (map (book_row_taken taken) (left_of list t.book.rows)) (taken_rows t.book.added name (entering t.book taken)) in
        let some : length (entering t.book taken) ≤ length taken = few_filtered (λ held. not (has_row t.book held.id)) taken in
        let told : length taken ≤ length row.running = omega (arith, few_taken t name row [] row.running) in
        let same = filtered_ids (λ id. not (is_held taken id)) (λ one. bytes_eq one.node name) t.book.rows in
        let ascend : Ascend (book_not_taken t.book name (taken_in t name row)) list = rw (found, waits) at ends in
        let go = all_leave (λ one. bytes_eq one.node name && not (is_held taken one.id)) t.book.rows list (rw same at ascend.same) in
        omega (arith, f, few, posted, losts, rows, stays, enters, both, some, told, go)
    by e done front ends (outcomes.grants name row found) =
        let f = sched_front t.sched (scheds.NodeUpdate name) rest front in
        let grants : List Grant = grants_on name row t in
        let posted = sum_by-append (main_measure t.settings.max_attempts) t.main (masters_granted t.rows grants) in
        let given = granted_weigh t.settings.max_attempts t.rows grants in
        let rows = rows_granted t.settings.max_attempts t.rows grants in
        let enters = long_granted t.book.added grants in
        let both = length-append t.book.rows (granted_rows t.book.added grants) in
        let limit : length grants ≤ most_grants = granted name row found in
        omega (arith, f, posted, given, rows, enters, both, limit)
