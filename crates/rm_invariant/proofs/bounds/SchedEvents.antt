-- Each event of the scheduler's queue keeps what is in its range.
use Rattle.rm_invariant.proofs.Common.{◌≡◌, ◌≤◌, ◌*◌, ◌^◌, ◌-◌, ℕ, suc, ◌+◌, List, [], ◌∷◌, ◌++◌, Bool, true, false, Option, None, Some, drop, fold, length, refl, sym, ◌∙◌, ap, subst, arith, if◌then◌else◌, nat_tests, Ask, Grant, AppId, AttemptId, ContainerId, Settings, Node, is_app, is_attempt, by_priority, IsContainerId, IsText, IsWithin, AttemptState, AsksOf, attempt_asks, BookOf, with_grants, book_with_taken, without_rows, MainEvent, SchedEvent, Absorb, NodeRow, AppRow, Current, Tables, taken_in, unlaunched_on, found_in, sched_popped, sched_worked, changed, granted_at, closed_in, closings_of, losts_of, unlaunched, changed_row, node_row, with_node, granted_number, granted_to, grants_on, masters_granted, rows_after_grant, turns_in, table_without_granted, row_of, master_asked, sched_step, grants_of, History, abstract_life, IsSize, Entry, passed_with, Unlaunch}
use Rattle.std.proofs.Common.{◌==◌, count_by}
use Rattle.rm_types.specs.declared.containers.Cause.TheVariants as causes
use Rattle.rm_types.specs.Ranges.{IsAttemptId}
use Rattle.rm_states.specs.declared.attempt.states.AttemptState.TheVariants as attempts
use Rattle.rm_tables.specs.declared.changes.AttemptChange.TheVariants as of_attempt
use Rattle.rm_tables.specs.declared.changes.RowChange.TheVariants as of_app
use Rattle.rm_tables.specs.declared.events.MainEvent.TheVariants as mains
use Rattle.rm_tables.specs.declared.events.SchedEvent.TheVariants as scheds
use Rattle.rm_tables.specs.ContainerSets.{with_containers}
use Rattle.rm_tables.specs.Leaving.{departing}
use Rattle.rm_invariant.specs.apps.View.{changed_if, one_if}
use Rattle.rm_invariant.proofs.apps.Counts.{at_end, at_front}
use Rattle.rm_invariant.proofs.apps.Found.{row_changed}
use Rattle.rm_invariant.specs.nodes.Book.{All}
use Rattle.rm_invariant.proofs.nodes.Entries.{AllOn}
use Rattle.rm_invariant.specs.events.Asking.{AreNext, is_current_number, is_numbered, is_numbered_in}
use Rattle.rm_invariant.specs.events.SchedFacts.{SchedFacts}
use Rattle.rm_invariant.specs.Core.{CoreInvariant}
use Rattle.rm_invariant.proofs.events.Askers.{askers_current}
use Rattle.rm_invariant.proofs.events.Next.{grants_next}
use Rattle.rm_invariant.proofs.events.OnNode.{EachAsk, all_now, all_on, grants_each, pass_at}
use Rattle.rm_invariant.proofs.events.Turns.{first_seq}
use Rattle.rm_invariant.specs.bounds.InBounds.{AreAsked, AreGrants, AreNodes, AreRows, IfThere, IsAsked, IsBooked, IsCurrent, IsNode, IsOffer, InBounds, is_update}
use Rattle.rm_invariant.proofs.bounds.AskRanges.{asked_granted, asked_master, by_priority_asked}
use Rattle.rm_invariant.proofs.bounds.BookRanges.{IsGrant, booked_granted, booked_taken, booked_without, held_taken, offers_with}
use Rattle.rm_invariant.proofs.bounds.FewGrants.{pass_few}
use Rattle.rm_invariant.proofs.bounds.MainEvents.{found_is}
use Rattle.rm_invariant.proofs.bounds.NodeRanges.{nodes_changed}
use Rattle.rm_invariant.proofs.bounds.Passable.{can_pass}
use Rattle.rm_invariant.proofs.bounds.RowRanges.{NoMoreGranted, grants_closed, grants_less, rows_changed, rows_closed}
use Rattle.rm_invariant.specs.events.SchedOutcomes.{SchedOutcome}
use Rattle.rm_invariant.specs.events.SchedOutcomes as outcomes
use Rattle.rm_invariant.proofs.events.SchedOutcomes.{sched_outcome}
use Rattle.rm_invariant.proofs.events.SchedShapes.{here_keeps, unlaunched_keeps}

-- the tables after an event of the scheduler's queue, where these parts of them may have changed
pub worked : (t : Tables) → InBounds t → (rows : List (AppId × Option AppRow)) (asks : List AsksOf) (book : BookOf) (nodes : List (List ℕ × NodeRow)) (main : List MainEvent) (sched : List SchedEvent) (departed : List ContainerId)
    → AreRows rows → AreGrants rows sched t.served → AreAsked asks → All IsBooked book.rows → All IsOffer book.nodes → AreNodes nodes
    → InBounds (record t { rows = rows; asks = asks; book = book; nodes = nodes; main = main; sched = sched; departed = departed })
worked t r rows asks book nodes main sched departed are grants asked booked offers told =
    record {
      tree = r.tree;
      awaiting = r.awaiting;
      ended = r.ended;
      rows = are;
      grants = grants;
      asks = asked;
      book = booked;
      offers = offers;
      nodes = told;
      counts = record { epoch = r.counts.epoch; served = r.counts.served; given = r.counts.given; clock = r.counts.clock };
    }

-- the queue without its first event
fewer_updates : (sched : List SchedEvent) → count_by is_update (drop 1 sched) ≤ count_by is_update sched
fewer_updates [] = omega arith
fewer_updates (e ∷ rest) = let first = at_front is_update e rest in by (is_update e) first
  where
    by : (b : Bool) → count_by is_update (e ∷ rest) ≡ one_if b (count_by is_update rest) → count_by is_update rest ≤ count_by is_update (e ∷ rest)
    by true f = omega (arith, f)
    by false f = omega (arith, f)

popped_grants : (rows now : List (AppId × Option AppRow)) (sched : List SchedEvent) (served : ℕ) → NoMoreGranted rows now → AreGrants rows sched served → AreGrants now (drop 1 sched) served
popped_grants rows now sched served less are = let fewer = fewer_updates sched in grants_less rows now sched (drop 1 sched) served served less (omega (arith, fewer)) (omega arith) are

module _ (t : Tables) (r : InBounds t) where
  same_grants : AreGrants t.rows (drop 1 t.sched) t.served
  same_grants = popped_grants t.rows t.rows t.sched t.served (λ q. omega arith) r.grants

  -- an event that is no beat
  ranged_so : (list : List ContainerId) (e : SchedEvent) (done : Entry × Tables) → ((name : List ℕ) (row : NodeRow) → e ≡ scheds.NodeUpdate name → node_row t.nodes name ≡ Some row → InBounds (sched_popped (passed_with (grants_on name row t) t))) → SchedOutcome t list e done → InBounds (sched_worked done).1
  ranged_so list e done update (outcomes.idles one nothing) = worked t r t.rows t.asks t.book t.nodes t.main (drop 1 t.sched) t.departed r.rows same_grants r.asks r.book r.offers r.nodes
  ranged_so list e done update (outcomes.posts id) = worked t r t.rows t.asks t.book t.nodes (t.main ++ mains.AppAccepted id ∷ []) (drop 1 t.sched) t.departed r.rows same_grants r.asks r.book r.offers r.nodes
  ranged_so list e done update (outcomes.asks id row current is state number) =
      worked t r t.rows (master_asked id (found_in t id.app) t.asks) t.book t.nodes t.main (drop 1 t.sched) t.departed r.rows same_grants (asked_master id (found_in t id.app) t.asks (found_is t r.tree id.app) r.asks) r.book r.offers r.nodes
  ranged_so list e done update (outcomes.ends one cause id ids is) =
      let closings = closings_of t.tree.apps cause (id ∷ ids) in
      worked t r (closed_in t.rows closings) t.asks (without_rows t.book (id ∷ ids)) (unlaunched t.book t.nodes (id ∷ ids)) (t.main ++ losts_of t.tree.apps (id ∷ ids)) (drop 1 t.sched) (with_containers t.departed (departing t (id ∷ ids)))
      (rows_closed closings t.rows r.rows) (popped_grants t.rows (closed_in t.rows closings) t.sched t.served (grants_closed closings t.rows) r.grants) r.asks
      (booked_without t.book (id ∷ ids) r.book) r.offers (unlaunched_keeps AreNodes (λ id. nodes_changed (Unlaunch id)) t.book (id ∷ ids) t.nodes r.nodes)
  ranged_so list e done update (outcomes.absorbs name turn row found waits) =
      let own = r.nodes.each name row found in
      let closings = closings_of t.tree.apps causes.Gone list in
      worked t r (closed_in t.rows closings) t.asks (book_with_taken t.book name row.capability (taken_in t name row) list) (with_node (changed_row Absorb) name (unlaunched_on name t.nodes list))
      (t.main ++ losts_of t.tree.apps list) (drop 1 t.sched) (with_containers t.departed (departing t list)) (rows_closed closings t.rows r.rows) (popped_grants t.rows (closed_in t.rows closings) t.sched t.served (grants_closed closings t.rows) r.grants) r.asks
      (booked_taken t.book name row.capability (taken_in t name row) list own.named (held_taken t name row r.book own.running) r.book) (offers_with name row.capability t.book.nodes own.named own.size r.offers)
      (nodes_changed Absorb name (unlaunched_on name t.nodes list) (here_keeps AreNodes (λ id. nodes_changed (Unlaunch id)) name list t.nodes r.nodes))
  ranged_so list e done update (outcomes.grants name row found) = update name row refl found

-- A PASS

-- the sequences of what is granted in order
next_bound : (rows : List (AppId × Option AppRow)) (top bound : ℕ) (grants : List Grant) (granted : List ContainerId) → ((a : AttemptId) → is_current_number rows a ≡ true → grants_of granted a ≤ bound)
    → bound + length grants ≤ top → AreNext rows granted grants → All (λ grant. IsWithin 1 top grant.id.seq) grants
next_bound rows top bound [] granted few room next = tt
next_bound rows top bound (grant ∷ grants) granted few room next =
    let own = few grant.id.attempt next.0 in
    let seq = next.1 in
    ((omega (arith, seq), omega (arith, seq, own, room)), next_bound rows top (bound + 1) grants (granted ++ grant.id ∷ []) more (omega (arith, room)) next.2)
  where
    by : (a : AttemptId) (b : Bool) → grants_of (granted ++ grant.id ∷ []) a ≡ one_if b (grants_of granted a) → grants_of granted a ≤ bound → grants_of (granted ++ grant.id ∷ []) a ≤ bound + 1
    by a true e old = omega (arith, e, old)
    by a false e old = omega (arith, e, old)

    more : (a : AttemptId) → is_current_number rows a ≡ true → grants_of (granted ++ grant.id ∷ []) a ≤ bound + 1
    more a is = by a (is_attempt grant.id.attempt a) (at_end (λ (one : ContainerId). is_attempt one.attempt a) granted grant.id) (few a is)

-- a current attempt has its parts in their ranges
current_ranged : (rows : List (AppId × Option AppRow)) → AreRows rows → (a : AttemptId) → is_current_number rows a ≡ true → IsAttemptId a
current_ranged rows are a is = by (row_of rows a.app) refl is
  where
    at : (o : Option Current) → IfThere IsCurrent o → is_numbered a.number o ≡ true → IsWithin 1 (2 ^ 31 - 1) a.number
    at None own e = cc
    at (Some current) own e = let same : current.number ≡ a.number = grind (arith, nat_tests) in subst (IsWithin 1 (2 ^ 31 - 1)) same own.number

    by : (o : Option AppRow) → row_of rows a.app ≡ o → is_numbered_in a.number o ≡ true → IsAttemptId a
    by None e f = cc
    by (Some row) e f = let own = are.each a.app row e in record { app = own.named; number = at row.current own.current f }

-- the ids of what is granted
grants_ids : (rows : List (AppId × Option AppRow)) → AreRows rows → (epoch top : ℕ) → epoch ≤ 2 ^ 24 - 1 → top ≤ 2 ^ 40 - 1 → (grants : List Grant) (granted : List ContainerId) → AreNext rows granted grants
    → All (λ grant. IsWithin 1 top grant.id.seq) grants → All (λ grant. grant.id.epoch ≡ epoch) grants → All (λ grant. IsContainerId grant.id) grants
grants_ids rows are epoch top early low [] granted next seqs now = tt
grants_ids rows are epoch top early low (grant ∷ grants) granted next seqs now =
    let own = now.0 in
    let seq = seqs.0 in (
      record { attempt = current_ranged rows are grant.id.attempt next.0; epoch = (omega arith, omega (arith, own, early)); seq = (seq.0, let most = seq.1 in omega (arith, most, low)) },
      grants_ids rows are epoch top early low grants (granted ++ grant.id ∷ []) next.2 seqs.1 now.1,
    )

grants_are : (name : List ℕ) → IsText Node name → (grants : List Grant) → All (λ grant. IsContainerId grant.id) grants → All (λ grant. IsSize grant.size) grants → AllOn name grants → All IsGrant grants
grants_are name is [] ids sizes on = tt
grants_are name is (grant ∷ grants) ids sizes on =
    (record { id = ids.0; node = subst (IsText Node) (sym on.0) is; size = sizes.0 }, grants_are name is grants ids.1 sizes.1 on.1)

-- the rows after the grants
rows_granted : (grants : List Grant) (rows : List (AppId × Option AppRow)) → All (λ grant. IsContainerId grant.id) grants → AreRows rows → AreRows (fold rows_after_grant rows grants)
rows_granted [] rows ids are = are
rows_granted (grant ∷ grants) rows ids are =
    rows_granted grants (rows_after_grant rows grant) ids.1 (rows_changed (of_app.OfAttempt (of_attempt.Grant grant.id)) grant.id.attempt.app rows ids.0 are)

-- and how many are granted then
granted_most : (top : ℕ) (grants : List Grant) (rows : List (AppId × Option AppRow)) → All (λ grant. IsWithin 1 top grant.id.seq) grants → ((q : AttemptId) → granted_number q.number (row_of rows q.app) ≤ top)
    → (q : AttemptId) → granted_number q.number (row_of (fold rows_after_grant rows grants) q.app) ≤ top
granted_most top [] rows seqs few q = few q
granted_most top (grant ∷ grants) rows seqs few q = granted_most top grants (rows_after_grant rows grant) seqs.1 more q
  where
    pick : (b : Bool) (n : ℕ) → n ≤ top → (if b then n else 0) ≤ top
    pick true n less = less
    pick false n less = omega arith

    at : (s : AttemptState) (current : Current) (number : ℕ) → granted_to number (Some (granted_at s grant.id current)) ≤ top
    at attempts.Scheduled current number = pick (current.number == number) grant.id.seq seqs.0.1
    at _ current number = pick (current.number == number) grant.id.seq seqs.0.1

    with : (row : AppRow) (o : Option Current) → row.current ≡ o → (number : ℕ) → granted_number number (Some (changed (of_app.OfAttempt (of_attempt.Grant grant.id)) row)) ≤ top
    with row None e number = rw e (omega arith)
    with row (Some current) e number = rw e (at current.state current number)

    by : (a : AttemptId) (b : Bool) (o : Option AppRow) → granted_number a.number o ≤ top → granted_number a.number (changed_if b (changed (of_app.OfAttempt (of_attempt.Grant grant.id))) o) ≤ top
    by a true None less = less
    by a true (Some row) less = with row row.current refl a.number
    by a false o less = less

    more : (a : AttemptId) → granted_number a.number (row_of (rows_after_grant rows grant) a.app) ≤ top
    more a =
        let same : granted_number a.number (row_of (rows_after_grant rows grant) a.app) ≡ granted_number a.number (changed_if (is_app grant.id.attempt.app a.app) (changed (of_app.OfAttempt (of_attempt.Grant grant.id))) (row_of rows a.app)) =
        ap (granted_number a.number) (row_changed (changed (of_app.OfAttempt (of_attempt.Grant grant.id))) grant.id.attempt.app a.app rows) in
        let less = by a (is_app grant.id.attempt.app a.app) (row_of rows a.app) (few a) in
        omega (arith, same, less)

module _ (settings : Settings) (h : History) (t : Tables) (w : CoreInvariant settings h t) (f : SchedFacts settings h t) (r : InBounds t) where
  -- a size that is granted is one that is asked for
  grants_sized : (name : List ℕ) (row : NodeRow) → All (λ grant. IsSize grant.size) (grants_on name row t)
  grants_sized name row = grants_each t name row (λ grant. IsSize grant.size) (λ capability. by capability (turns_in t))
    where
      asked : (capability : _) (turn : _) (asks : List Ask) → All IsAsked asks → EachAsk (λ grant. IsSize grant.size) (pass_at t name row capability) turn asks
      asked capability turn [] all = tt
      asked capability turn (ask ∷ asks) all = ((λ seq. all.0), asked capability turn asks all.1)

      by : (capability : _) (turns : List _) → All (λ turn. EachAsk (λ grant. IsSize grant.size) (pass_at t name row capability) turn (by_priority (attempt_asks t.asks turn.attempt))) turns
      by capability [] = tt
      by capability (turn ∷ turns) =
          (asked capability turn (by_priority (attempt_asks t.asks turn.attempt)) (by_priority_asked (attempt_asks t.asks turn.attempt) (r.asks.each turn.attempt)), by capability turns)

  -- a pass answers a beat
  update_ranged : (name : List ℕ) (rest : List SchedEvent) → t.sched ≡ scheds.NodeUpdate name ∷ rest → (row : NodeRow) → node_row t.nodes name ≡ Some row → InBounds (sched_popped (passed_with (grants_on name row t) t))
  update_ranged name rest front row found =
      worked t r (fold rows_after_grant t.rows grants) (fold table_without_granted t.asks grants) (with_grants t.book grants) t.nodes (t.main ++ masters_granted t.rows grants) (drop 1 t.sched) t.departed
      (rows_granted grants t.rows ids r.rows) (record { each = λ q. let most = granted_most top grants t.rows seqs all_few q in let low = room in omega (arith, most, low) })
      (asked_granted grants t.asks r.asks) (booked_granted t.book grants (grants_are name own.named grants ids (grants_sized name row) (all_on t name row)) r.book) r.offers r.nodes
    where
      grants : List Grant
      grants = grants_on name row t

      own : IsNode name row
      own = r.nodes.each name row found

      updates : ℕ
      updates = count_by is_update (drop 1 t.sched)

      -- what may be granted before and after
      top : ℕ
      top = 256 * t.served - 256 * updates

      counted : count_by is_update t.sched ≡ suc updates
      counted = ap (count_by is_update) front ∙ at_front is_update (scheds.NodeUpdate name) rest ∙ ap (λ (l : List SchedEvent). suc (count_by is_update (drop 1 l))) (sym front)

      none : AttemptId
      none = record { app = record { stamp = 0; number = 0 }; number = 0 }

      room : top + 256 * updates ≤ 256 * t.served
      room = let all = r.grants.each none in let is = counted in omega (arith, all, is)

      all_few : (q : AttemptId) → granted_number q.number (row_of t.rows q.app) ≤ top
      all_few q = let all = r.grants.each q in let is = counted in omega (arith, all, is)

      next : AreNext t.rows h.granted grants
      next = grants_next (abstract_life h t) t w.agrees (askers_current settings h t w.keeps.all w.agrees.asks f.current) name row

      before : (a : AttemptId) → is_current_number t.rows a ≡ true → grants_of h.granted a ≤ 256 * t.served - 256 * suc updates
      before a is =
          let first = first_seq (abstract_life h t) t w.agrees a is in
          let all = r.grants.each a in
          let many = counted in
          omega (arith, first, all, many)

      seqs : All (λ grant. IsWithin 1 top grant.id.seq) grants
      seqs =
          let few = pass_few t (can_pass settings h t w f r) name row in
          let all = r.grants.each none in
          let is = counted in
          next_bound t.rows top (256 * t.served - 256 * suc updates) grants h.granted before (omega (arith, few, all, is)) next

      ids : All (λ grant. IsContainerId grant.id) grants
      ids =
          let epoch = r.counts.epoch in
          let served = r.counts.served in
          grants_ids t.rows r.rows t.epoch top (omega (arith, epoch)) (omega (arith, served)) grants h.granted next seqs (all_now t name row)

  -- each event of the scheduler's queue
  pub sched_ranged : (e : SchedEvent) (rest : List SchedEvent) → t.sched ≡ e ∷ rest → (list : List ContainerId) → InBounds (sched_worked (sched_step e list t)).1
  sched_ranged e rest front list =
      ranged_so t r list e (sched_step e list t) (λ name row is found. update_ranged name rest (front ∙ ap (λ (one : SchedEvent). one ∷ rest) is) row found) (sched_outcome t list e)
