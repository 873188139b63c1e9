-- What each event of the scheduler's queue may change: rows, by endings to be told or by grants; nodes, by launches that go and by a report that is
-- absorbed; what is asked for, the book, and the main queue, by events that start and begin nothing. All else stays.
use Rattle.rm_invariant.proofs.Common.{◌≡◌, ℕ, List, [], ◌∷◌, ◌++◌, Bool, false, ◌||◌, ◌∙◌, flat_map-append, list_any-append, Option, None, Some, filter, fold, map, list_any, flat_map, refl, sym, ap, Grant, Entry, AppId, ContainerId, BookRow, BookOf, after, MainEvent, SchedEvent, NodeRow, AppRow, Tables, Absorb, Unlaunch, History, live_state, changed, changed_row, closed, closed_in, closed_one, closings_of, grants_on, is_masters_in, losts_of, masters_granted, rows_after_grant, row_of, sched_step, unlaunched, unlaunched_at, unlaunched_here, unlaunched_on, unlaunched_one, waits_for_master, with_node, with_row, taken_in, Resource, Held}
use Rattle.std.proofs.lemmas.List.{append-nil}
use Rattle.rm_types.specs.declared.containers.Cause.TheVariants as causes
use Rattle.rm_types.specs.declared.containers.ClosingOf.{ClosingOf}
use Rattle.rm_book.specs.Books.{book_row as book_row_of, without_rows, book_with_taken, with_grants}
use Rattle.rm_tables.specs.declared.changes.AttemptChange.TheVariants as of_attempt
use Rattle.rm_tables.specs.declared.changes.RowChange.TheVariants as of_app
use Rattle.rm_tables.specs.declared.events.MainEvent.TheVariants as mains
use Rattle.rm_invariant.specs.Invariant.{is_epoch_start}
use Rattle.rm_invariant.specs.apps.Submissions.{starting}
use Rattle.rm_invariant.specs.auxiliary.Parts.{fixed_parts, parts_in}
use Rattle.rm_invariant.specs.events.SchedOutcomes.{SchedOutcome}
use Rattle.rm_invariant.specs.events.SchedOutcomes as outcomes
use Rattle.rm_invariant.proofs.events.SchedOutcomes.{sched_outcome}

-- WHAT IS KEPT BY EACH CHANGE

-- of rows: where endings are to be told, and where containers are granted
pub closed_keeps : (R : List (AppId × Option AppRow) → Type 0) → ((one : ClosingOf) (rows : List (AppId × Option AppRow)) → R rows → R (with_row (closed one) one.attempt.app rows))
    → (closings : List ClosingOf) (rows : List (AppId × Option AppRow)) → R rows → R (closed_in rows closings)
closed_keeps R keeps [] rows before = before
closed_keeps R keeps (one ∷ closings) rows before = closed_keeps R keeps closings (closed_one rows one) (keeps one rows before)

pub granted_keeps : (R : List (AppId × Option AppRow) → Type 0)
    → ((id : ContainerId) (rows : List (AppId × Option AppRow)) → R rows → R (with_row (changed (of_app.OfAttempt (of_attempt.Grant id))) id.attempt.app rows))
    → (grants : List Grant) (rows : List (AppId × Option AppRow)) → R rows → R (fold rows_after_grant rows grants)
granted_keeps R keeps [] rows before = before
granted_keeps R keeps (grant ∷ grants) rows before = granted_keeps R keeps grants (rows_after_grant rows grant) (keeps grant.id rows before)

-- of nodes: where launches go, each on the node where the book has it, or all on one
module _ (N : List (List ℕ × NodeRow) → Type 0) (keeps : (id : ContainerId) (name : List ℕ) (nodes : List (List ℕ × NodeRow)) → N nodes → N (with_node (changed_row (Unlaunch id)) name nodes)) where
  pub unlaunched_keeps : (book : BookOf) (ids : List ContainerId) (nodes : List (List ℕ × NodeRow)) → N nodes → N (unlaunched book nodes ids)
  unlaunched_keeps book [] nodes before = before
  unlaunched_keeps book (id ∷ ids) nodes before = unlaunched_keeps book ids (unlaunched_one book nodes id) (by (book_row_of book id))
    where
      by : (o : Option BookRow) → N (unlaunched_at o id nodes)
      by None = before
      by (Some row) = keeps id row.node nodes before

  pub here_keeps : (name : List ℕ) (ids : List ContainerId) (nodes : List (List ℕ × NodeRow)) → N nodes → N (unlaunched_on name nodes ids)
  here_keeps name [] nodes before = before
  here_keeps name (id ∷ ids) nodes before = here_keeps name ids (unlaunched_here name nodes id) (keeps id name nodes before)

-- WHAT AN EVENT LEAVES

-- rows of which none changed, or some have more endings to tell, or some were granted containers
pub data RowsAfter (rows : List (AppId × Option AppRow)) : List (AppId × Option AppRow) → Type 0 where
  same : RowsAfter rows rows
  closed_so : (closings : List ClosingOf) → RowsAfter rows (closed_in rows closings)
  granted_so : (grants : List Grant) → RowsAfter rows (fold rows_after_grant rows grants)

-- nodes of which none changed, or launches went, or a report was absorbed as well
pub data NodesAfter (book : BookOf) (nodes : List (List ℕ × NodeRow)) : List (List ℕ × NodeRow) → Type 0 where
  same : NodesAfter book nodes nodes
  left_so : (ids : List ContainerId) → NodesAfter book nodes (unlaunched book nodes ids)
  absorbed_so : (name : List ℕ) (ids : List ContainerId) → NodesAfter book nodes (with_node (changed_row Absorb) name (unlaunched_on name nodes ids))

-- a book that is as it was, or some left, or a report was absorbed, or some were granted
pub data BookAfter (book : BookOf) : BookOf → Type 0 where
  same : BookAfter book book
  left_so : (ids : List ContainerId) → BookAfter book (without_rows book ids)
  absorbed_so : (name : List ℕ) (capability : Resource) (taken : List Held) (ids : List ContainerId) → BookAfter book (book_with_taken book name capability taken ids)
  granted_so : (grants : List Grant) → BookAfter book (with_grants book grants)

-- events of the main queue that start no application and begin nothing
pub record IsQuiet (events : List MainEvent) : Type 0 where
  pub starts : flat_map starting events ≡ []
  pub begins : list_any is_epoch_start events ≡ false

-- what an event did: rows, nodes and the book changed so, these events were posted, and only what is asked for may differ besides
pub record SchedShape (t : Tables) (done : Entry × Tables) : Type 0 where
  pub rows : RowsAfter t.rows done.1.rows
  pub nodes : NodesAfter t.book t.nodes done.1.nodes
  pub book : BookAfter t.book done.1.book
  pub more : List MainEvent
  pub main : done.1.main ≡ t.main ++ more
  pub quiet : IsQuiet more
  pub rest : done.1 ≡ record t { rows = done.1.rows; nodes = done.1.nodes; book = done.1.book; main = done.1.main; asks = done.1.asks; departed = done.1.departed }

-- what is posted of masters' containers that left or were granted
made_quiet : {X : Type 0} (make : X → MainEvent) → ((x : X) → IsQuiet (make x ∷ [])) → (xs : List X) → IsQuiet (map make xs)
made_quiet make none [] = record { starts = refl; begins = refl }
made_quiet make none (x ∷ xs) =
    let here = none x in
    let rest = made_quiet make none xs in
    record {
      starts = flat_map-append starting (make x ∷ []) (map make xs) ∙ ap (λ (ids : List AppId). ids ++ flat_map starting (map make xs)) here.starts ∙ rest.starts;
      begins = list_any-append is_epoch_start (make x ∷ []) (map make xs) ∙ ap (λ (b : Bool). b || list_any is_epoch_start (map make xs)) here.begins ∙ rest.begins;
    }

pub losts_quiet : (t : Tables) (ids : List ContainerId) → IsQuiet (losts_of t.tree.apps ids)
losts_quiet t ids = made_quiet (λ id. mains.MasterLost id) (λ id. record { starts = refl; begins = refl }) (filter (is_masters_in t.tree.apps) ids)

pub grants_quiet : (t : Tables) (grants : List Grant) → IsQuiet (masters_granted t.rows grants)
grants_quiet t grants = made_quiet (λ grant. mains.MasterGranted grant.id) (λ grant. record { starts = refl; begins = refl }) (filter (λ grant. waits_for_master (row_of t.rows grant.id.attempt.app)) grants)

module _ (t : Tables) (list : List ContainerId) where
  no_events : IsQuiet []
  no_events = record { starts = refl; begins = refl }

  shape_of : (e : SchedEvent) (done : Entry × Tables) → SchedOutcome t list e done → SchedShape t done
  shape_of e done (outcomes.idles one nothing) = record { rows = RowsAfter.same; nodes = NodesAfter.same; book = BookAfter.same; more = []; main = sym (append-nil t.main); quiet = no_events; rest = refl }
  shape_of e done (outcomes.posts id) = record { rows = RowsAfter.same; nodes = NodesAfter.same; book = BookAfter.same; more = mains.AppAccepted id ∷ []; main = refl; quiet = record { starts = refl; begins = refl }; rest = refl }
  shape_of e done (outcomes.asks id row current is state number) = record { rows = RowsAfter.same; nodes = NodesAfter.same; book = BookAfter.same; more = []; main = sym (append-nil t.main); quiet = no_events; rest = refl }
  shape_of e done (outcomes.ends one cause id ids is) =
      record {
        rows = RowsAfter.closed_so (closings_of t.tree.apps cause (id ∷ ids));
        nodes = NodesAfter.left_so (id ∷ ids);
        book = BookAfter.left_so (id ∷ ids);
        more = losts_of t.tree.apps (id ∷ ids);
        main = refl;
        quiet = losts_quiet t (id ∷ ids);
        rest = refl;
      }
  shape_of e done (outcomes.absorbs name turn row found waits) =
      record {
        rows = RowsAfter.closed_so (closings_of t.tree.apps causes.Gone list);
        nodes = NodesAfter.absorbed_so name list;
        book = BookAfter.absorbed_so name row.capability (taken_in t name row) list;
        more = losts_of t.tree.apps list;
        main = refl;
        quiet = losts_quiet t list;
        rest = refl;
      }
  shape_of e done (outcomes.grants name row found) =
      record {
        rows = RowsAfter.granted_so (grants_on name row t);
        nodes = NodesAfter.same;
        book = BookAfter.granted_so (grants_on name row t);
        more = masters_granted t.rows (grants_on name row t);
        main = refl;
        quiet = grants_quiet t (grants_on name row t);
        rest = refl;
      }

  pub sched_shape : (e : SchedEvent) → SchedShape t (sched_step e list t)
  sched_shape e = shape_of e (sched_step e list t) (sched_outcome t list e)

-- what the life remembers of what was recorded, removed, submitted and released stays
pub sched_parts : (h : History) (t : Tables) (list : List ContainerId) (e : SchedEvent) (done : Entry × Tables) → SchedOutcome t list e done → parts_in (after (live_state h t) done.0) ≡ Some (fixed_parts h)
sched_parts h t list e done (outcomes.idles one nothing) = refl
sched_parts h t list e done _ = refl

-- what each such change keeps is kept by an event
pub rows_keep : (R : List (AppId × Option AppRow) → Type 0) → ((one : ClosingOf) (rows : List (AppId × Option AppRow)) → R rows → R (with_row (closed one) one.attempt.app rows))
    → ((id : ContainerId) (rows : List (AppId × Option AppRow)) → R rows → R (with_row (changed (of_app.OfAttempt (of_attempt.Grant id))) id.attempt.app rows))
    → (rows next : List (AppId × Option AppRow)) → R rows → RowsAfter rows next → R next
rows_keep R closes grants rows next before RowsAfter.same = before
rows_keep R closes grants rows next before (RowsAfter.closed_so closings) = closed_keeps R closes closings rows before
rows_keep R closes grants rows next before (RowsAfter.granted_so some) = granted_keeps R grants some rows before

pub nodes_keep : (N : List (List ℕ × NodeRow) → Type 0) → ((id : ContainerId) (name : List ℕ) (nodes : List (List ℕ × NodeRow)) → N nodes → N (with_node (changed_row (Unlaunch id)) name nodes))
    → ((name : List ℕ) (nodes : List (List ℕ × NodeRow)) → N nodes → N (with_node (changed_row Absorb) name nodes)) → (book : BookOf) (nodes next : List (List ℕ × NodeRow)) → N nodes → NodesAfter book nodes next → N next
nodes_keep N goes absorbed book nodes next before NodesAfter.same = before
nodes_keep N goes absorbed book nodes next before (NodesAfter.left_so ids) = unlaunched_keeps N goes book ids nodes before
nodes_keep N goes absorbed book nodes next before (NodesAfter.absorbed_so name ids) = absorbed name (unlaunched_on name nodes ids) (here_keeps N goes name ids nodes before)
