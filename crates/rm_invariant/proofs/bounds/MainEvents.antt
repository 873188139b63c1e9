-- Each event of the main queue keeps what is in its range.
use Rattle.rm_invariant.proofs.Common.{◌≡◌, ◌≤◌, ◌<◌, ◌^◌, ◌-◌, ◌⊎◌, inl, inr, ℕ, ◌+◌, List, [], ◌∷◌, ◌++◌, Bool, true, false, nat_le, Option, None, Some, drop, length, refl, sym, ◌∙◌, ap, subst, arith, if◌then◌else◌, nat_tests, Entry, AppId, AttemptId, ContainerId, BookRow, How, Op, AppRecord, AttemptRecord, Settings, Node, Note, IsAppId, IsContainerId, IsOperation, IsText, IsWithin, last_attempt, AsksOf, without_asks_of, BookOf, is_of, AppState, attempts_in, reaches_bound, expired_text, killed_text, lost_text, MainEvent, SchedEvent, NodeRow, AppRow, Current, Tables, found_in, main_popped, main_worked, next_in, changed, ordered_row, with_node, end_with, finishing_in, is_master_of, last_end_in, main_step, node_at, with_row, History}
use Rattle.std.proofs.Common.{◌≢◌, ◌==◌, count_by, is_some, min}
use Rattle.std.specs.Prelude.{option_and_then}
use Rattle.rm_types.specs.declared.operations.How.TheVariants as ways
use Rattle.rm_types.specs.declared.operations.Op.TheVariants as ops
use Rattle.rm_types.specs.Ranges.{IsAttemptId, IsSubmission}
use Rattle.rm_book.specs.Books.{book_row as book_row_of}
use Rattle.rm_states.specs.declared.app.states.AppState.TheVariants as apps
use Rattle.rm_states.specs.declared.attempt.states.AttemptState.TheVariants as attempts
use Rattle.rm_tables.specs.declared.changes.AttemptChange.TheVariants as of_attempt
use Rattle.rm_tables.specs.declared.changes.RowChange.TheVariants as of_app
use Rattle.rm_tables.specs.declared.events.MainEvent.TheVariants as mains
use Rattle.rm_tables.specs.declared.events.SchedEvent.TheVariants as scheds
use Rattle.rm_invariant.specs.apps.Invariant.{ActiveInvariant, CurrentInvariant, AllHaveEnded as HasStoppedRecord, RowInvariant, StateInvariant, is_active}
use Rattle.rm_invariant.specs.apps.View.{one_if, view}
use Rattle.rm_invariant.proofs.apps.Counts.{at_end}
use Rattle.rm_invariant.specs.nodes.Book.{All}
use Rattle.rm_invariant.proofs.nodes.Holds.{all_append}
use Rattle.rm_invariant.proofs.masters.Sounding.{ended_last}
use Rattle.rm_invariant.specs.Core.{CoreInvariant}
use Rattle.rm_invariant.specs.messages.Ranges.{KeepsLimits}
use Rattle.rm_invariant.specs.events.Outcomes.{IsCurrentOf, IsEndOfApp, IsEndOfAttempt, Outcome, accepts, adds, delays, ends, ends_one, follows, idles, issues, kills, loses, orders, removes, requeues, saves}
use Rattle.rm_invariant.proofs.events.Outcomes.{main_outcome}
use Rattle.rm_invariant.specs.bounds.InBounds.{AreAsked, AreGrants, AreNodes, AreRecords, AreRows, IfThere, IsAppRecord, IsAttemptRecord, IsBooked, IsCurrent, IsEnd, InBounds, is_update}
use Rattle.rm_invariant.proofs.bounds.BookRanges.{found_one}
use Rattle.rm_invariant.proofs.bounds.AskRanges.{asked_without}
use Rattle.rm_invariant.proofs.bounds.NodeRanges.{nodes_ordered}
use Rattle.rm_invariant.proofs.bounds.Passable.{record_found}
use Rattle.rm_invariant.proofs.bounds.RowRanges.{NoMoreGranted, grants_changed, grants_less, rows_changed}

-- the tables after an event of the main queue, where these parts of them may have changed
pub moved : (t : Tables) → InBounds t → (rows : List (AppId × Option AppRow)) (asks : List AsksOf) (nodes : List (List ℕ × NodeRow)) (awaiting : List Op) (ended : List AppId) (main : List MainEvent) (sched : List SchedEvent)
    → AreRows rows → AreGrants rows sched t.served → AreAsked asks → AreNodes nodes → All IsOperation awaiting → All IsAppId ended
    → InBounds (record t { rows = rows; asks = asks; nodes = nodes; awaiting = awaiting; ended = ended; main = main; sched = sched })
moved t r rows asks nodes awaiting ended main sched are grants asked told ops_ ids =
    record {
      tree = r.tree;
      awaiting = ops_;
      ended = ids;
      rows = are;
      grants = grants;
      asks = asked;
      book = r.book;
      offers = r.offers;
      nodes = told;
      counts = record { epoch = r.counts.epoch; served = r.counts.served; given = r.counts.given; clock = r.counts.clock };
    }

-- one more operation awaits
pub op_more : (awaiting : List Op) (op : Op) → All IsOperation awaiting → IsOperation op → All IsOperation (awaiting ++ op ∷ [])
op_more awaiting op all is = all_append IsOperation awaiting (op ∷ []) all (is, tt)

-- nothing more is granted, with one more event that makes no pass
same_updates : (rows now : List (AppId × Option AppRow)) (sched : List SchedEvent) (served : ℕ) → NoMoreGranted rows now → AreGrants rows sched served → AreGrants now sched served
same_updates rows now sched served less are = grants_less rows now sched sched served served less (omega arith) (omega arith) are

one_event : (rows now : List (AppId × Option AppRow)) (sched : List SchedEvent) (e : SchedEvent) (served : ℕ) → is_update e ≡ false → NoMoreGranted rows now → AreGrants rows sched served
    → AreGrants now (sched ++ e ∷ []) served
one_event rows now sched e served is less are =
    let same : count_by is_update (sched ++ e ∷ []) ≡ count_by is_update sched = at_end is_update sched e ∙ ap (λ (b : Bool). one_if b (count_by is_update sched)) is in
    grants_less rows now sched (sched ++ e ∷ []) served served less (omega (arith, same)) (omega arith) are

-- TEXTS

killed_note : IsText Note killed_text
killed_note = refl

lost_note : IsText Note lost_text
lost_note = refl

expired_note : IsText Note expired_text
expired_note = refl

-- the text of the last end of a record
pub last_found : (attempts : List AttemptRecord) (one : AttemptRecord) → All IsAttemptRecord attempts → last_attempt attempts ≡ Some one → IsAttemptRecord one
last_found [] one all e = cc
last_found (x ∷ []) one all e = let same : x ≡ one = cc in subst IsAttemptRecord same all.0
last_found (x ∷ y ∷ more) one all e = last_found (y ∷ more) one all.1 e

ended_with : (o : Option (How × List ℕ)) (how : How) (text : List ℕ) → IfThere IsEnd o → o ≡ Some (how, text) → IsText Note text
ended_with None how text is e = cc
ended_with (Some end) how text is e =
    let same : ◌≡◌ {A = Option (How × List ℕ)} (Some end) (Some (how, text)) = e in
    let own : ◌≡◌ {A = How × List ℕ} end (how, text) = cc in
    subst IsEnd own is

last_note : (apps : List AppRecord) → AreRecords apps → (o : Option AppRecord) → IfThere IsAppRecord o → (how : How) (text : List ℕ) → last_end_in o ≡ Some (how, text) → IsText Note text
last_note apps all None is how text e = cc
last_note apps all (Some app) is how text e = by (last_attempt app.attempts) refl e
  where
    by : (l : Option AttemptRecord) → last_attempt app.attempts ≡ l → option_and_then (λ (one : AttemptRecord). one.ending) l ≡ Some (how, text) → IsText Note text
    by None f g = cc
    by (Some one) f g = ended_with one.ending how text (last_found app.attempts one is.attempts f).ending g

-- what is found of an application is in its range
pub found_is : (t : Tables) → AreRecords t.tree.apps → (id : AppId) → IfThere IsAppRecord (found_in t id)
found_is t all id = by (found_in t id) refl
  where
    by : (o : Option AppRecord) → found_in t id ≡ o → IfThere IsAppRecord o
    by None e = tt
    by (Some app) e = record_found t.tree.apps id app all e

-- the end of an application, and of an attempt
end_note : (t : Tables) → InBounds t → (id : AppId) (how : How) (text : List ℕ) → IsEndOfApp t id how text → IsText Note text
end_note t r id how text (inl killed) = subst (IsText Note) (sym killed.1) killed_note
end_note t r id how text (inr last) = last_note t.tree.apps r.tree (found_in t id) (found_is t r.tree id) how text last

said_there : (o : Option (List ℕ)) (text : List ℕ) → IfThere (IsText Note) o → o ≡ Some text → IsText Note text
said_there None text is e = cc
said_there (Some own) text is e = let same : own ≡ text = cc in subst (IsText Note) same is

attempt_note : (row : AppRow) → IfThere (IsText Note) (finishing_in row.dialogue) → (how : How) (text : List ℕ) → IsEndOfAttempt row how text → IsText Note text
attempt_note row said how text (inl killed) = subst (IsText Note) (sym killed.1) killed_note
attempt_note row said how text (inr (inl failed)) = by failed.1
  where
    by : (text ≡ lost_text) ⊎ (text ≡ expired_text) → IsText Note text
    by (inl lost) = subst (IsText Note) (sym lost) lost_note
    by (inr expired) = subst (IsText Note) (sym expired) expired_note
attempt_note row said how text (inr (inr finished)) = said_there (finishing_in row.dialogue) text said finished.1

-- IDS

there : {X : Type 0} (P : X → Type 0) (o : Option X) (x : X) → IfThere P o → o ≡ Some x → P x
there P None x is e = cc
there P (Some y) x is e = let same : y ≡ x = cc in subst P same is

-- the current attempt of a row
attempt_at : (t : Tables) → InBounds t → (id : AttemptId) (row : AppRow) (current : Current) → IsCurrentOf t id.app row current → current.number ≡ id.number → IsAttemptId id
attempt_at t r id row current at same =
    let own = r.rows.each id.app row at.found in
    let is = there IsCurrent row.current current own.current at.is in
    record { app = own.named; number = subst (IsWithin 1 (2 ^ 31 - 1)) same is.number }

-- its master's container
mine_is : (container : ContainerId) (o : Option ContainerId) → IfThere IsContainerId o → is_master_of container o ≡ true → IsContainerId container
mine_is container None is e = cc
mine_is container (Some one) is e = let same : one ≡ container = grind (arith, nat_tests) in subst IsContainerId same is

-- the node of a container in the book
node_found : (book : BookOf) (container : ContainerId) (node : List ℕ) → All IsBooked book.rows → node_at book container ≡ Some node → IsText Node node
node_found book container node all e = by (book_row_of book container) refl e
  where
    by : (o : Option BookRow) → book_row_of book container ≡ o → node_at book container ≡ Some node → IsText Node node
    by None f g = let x = rw f at g in cc
    by (Some row) f g =
        let is : Some row.node ≡ Some node = rw f at g in
        let same : row.node ≡ node = cc in
        subst (IsText Node) same (found_one IsBooked (is_of container) book.rows row all f).node

-- NUMBERS

-- an attempt may follow where the bound isn't reached
few_before : (settings : Settings) → KeepsLimits settings → (o : Option AppRecord) → reaches_bound settings o ≡ false → length (attempts_in o) ≤ 100
few_before settings limits None e = omega arith
few_before settings limits (Some app) e = by (app.submission.attempts == 0) e
  where
    by : (b : Bool) → nat_le (if b then settings.max_attempts else min settings.max_attempts app.submission.attempts) (length app.attempts) ≡ false → length app.attempts ≤ 100
    by true f = let most = limits.1 in let less : length app.attempts < settings.max_attempts = grind (arith, nat_tests) in omega (arith, most, less)
    by false f = let most = limits.1 in let less : length app.attempts < min settings.max_attempts app.submission.attempts = grind (arith, nat_tests) in omega (arith, most, less)

-- where an application has a last end, and does not end, the bound isn't reached
goes_on : (settings : Settings) → KeepsLimits settings → (wish : Bool) (found : Option AppRecord) (end : Option (How × List ℕ)) → is_some end ≡ true → end_with settings wish found end ≡ None
    → length (attempts_in found) ≤ 100
goes_on settings limits wish found None some e = cc
goes_on settings limits wish found (Some (ways.Finished, text)) some e = cc
goes_on settings limits wish found (Some (ways.Killed, text)) some e = cc
goes_on settings limits true found (Some (ways.Failed, text)) some e = cc
goes_on settings limits false found (Some (ways.Failed, text)) some e = by (reaches_bound settings found) refl e
  where
    by : (b : Bool) → reaches_bound settings found ≡ b → ◌≡◌ {A = Option (How × List ℕ)} (if b then Some (ways.Failed, text) else None) None → length (attempts_in found) ≤ 100
    by true f g = cc
    by false f g = few_before settings limits found f

-- where all attempts have ended, and there is one, there is a last end
last_ended : (o : Option AppRecord) → HasStoppedRecord o → 1 ≤ length (attempts_in o) → is_some (last_end_in o) ≡ true
last_ended None stopped some = absurd (omega (arith, some))
last_ended (Some app) stopped some = by (last_attempt app.attempts) refl
  where
    empty : (attempts : List AttemptRecord) → last_attempt attempts ≡ None → 1 ≤ length attempts → ⊥
    empty [] e few = omega (arith, few)
    empty (x ∷ []) e few = cc
    empty (x ∷ y ∷ more) e few = empty (y ∷ more) e (omega arith)

    by : (l : Option AttemptRecord) → last_attempt app.attempts ≡ l → is_some (option_and_then (λ (one : AttemptRecord). one.ending) l) ≡ true
    by None e = absurd (empty app.attempts e some)
    by (Some one) e = ended_last app.attempts one stopped.2 e

-- so the next attempt's number is in its range
next_few : (settings : Settings) (h : History) (t : Tables) → CoreInvariant settings h t → KeepsLimits t.settings → (id : AppId) (row : AppRow) (current : Current) → IsCurrentOf t id row current → is_active row.state ≡ true
    → current.state ≡ attempts.Ended → end_with t.settings row.wish (found_in t id) (last_end_in (found_in t id)) ≡ None → length (attempts_in (found_in t id)) ≤ 100
next_few settings h t w limits id row current at going ended none = by row.state refl going says.1
  where
    q : AttemptId
    q = record { app = id; number = current.number }

    says : RowInvariant settings q (Some row) (view h t q)
    says = let x = w.keeps.all q in let found = at.found in rw found at x

    active : ActiveInvariant settings q row.current row.wish (view h t q) → length (attempts_in (found_in t id)) ≤ 100
    active says =
        let own : ActiveInvariant settings q (Some current) row.wish (view h t q) = let is = at.is in rw is at says in
        let stopped : CurrentInvariant settings attempts.Ended (record { app = id; number = current.number }) row.wish (view h t q) = rw ended at own.0 in
        let number = stopped.1 in
        let one = stopped.2 in
        let some : 1 ≤ length (attempts_in (found_in t id)) = omega (arith, number, one) in
        goes_on t.settings limits row.wish (found_in t id) (last_end_in (found_in t id)) (last_ended (found_in t id) stopped.0 some) none

    by : (s : AppState) → row.state ≡ s → is_active s ≡ true → StateInvariant settings q s row (view h t q) → length (attempts_in (found_in t id)) ≤ 100
    by apps.Accepted e g says = active says.3
    by apps.Running e g says = active says.3
    by apps.Killing e g says = active says.5
    by _ e g says = cc

-- EVENTS

-- whatever an event comes to
outcome_ranged : (settings : Settings) (h : History) (t : Tables) → CoreInvariant settings h t → KeepsLimits t.settings → InBounds t → (done : Entry × Tables) → Outcome t done → InBounds (main_popped done.1)
outcome_ranged settings h t w limits r _ idles = moved t r t.rows t.asks t.nodes t.awaiting t.ended (drop 1 t.main) t.sched r.rows r.grants r.asks r.nodes r.awaiting r.ended
outcome_ranged settings h t w limits r _ (saves id row submission rest found pending front) =
    let own = r.rows.each id row found in
    moved t r (with_row (changed of_app.Issue) id t.rows) t.asks t.nodes (t.awaiting ++ ops.App id submission ∷ []) t.ended (drop 1 t.main) t.sched
    (rows_changed of_app.Issue id t.rows tt r.rows) (same_updates t.rows (with_row (changed of_app.Issue) id t.rows) t.sched t.served (grants_changed of_app.Issue id t.rows refl) r.grants) r.asks r.nodes
    (op_more t.awaiting (ops.App id submission) r.awaiting (own.named, there IsSubmission row.pending submission own.pending pending)) r.ended
outcome_ranged settings h t w limits r _ (adds id row behind found submitted at_front) =
    moved t r t.rows t.asks t.nodes t.awaiting t.ended (drop 1 t.main) (t.sched ++ scheds.AppAdded id ∷ []) r.rows (one_event t.rows t.rows t.sched (scheds.AppAdded id) t.served refl (λ q. omega arith) r.grants) r.asks r.nodes r.awaiting r.ended
outcome_ranged settings h t w limits r _ (accepts id row found submitted) =
    moved t r (with_row (changed (of_app.Schedule 1)) id t.rows) t.asks t.nodes t.awaiting t.ended (drop 1 t.main) (t.sched ++ scheds.AttemptAdded (record { app = id; number = 1 }) ∷ [])
    (rows_changed (of_app.Schedule 1) id t.rows (omega arith, omega arith) r.rows)
    (one_event t.rows (with_row (changed (of_app.Schedule 1)) id t.rows) t.sched (scheds.AttemptAdded (record { app = id; number = 1 })) t.served refl (grants_changed (of_app.Schedule 1) id t.rows refl) r.grants) r.asks r.nodes r.awaiting r.ended
outcome_ranged settings h t w limits r _ (ends id row how text found stopped end) =
    let own = r.rows.each id row found in
    moved t r (with_row (changed of_app.End) id t.rows) (without_asks_of (next_in t id) t.asks) t.nodes (t.awaiting ++ ops.AppEnd id how text ∷ []) t.ended (drop 1 t.main) t.sched
    (rows_changed of_app.End id t.rows tt r.rows) (same_updates t.rows (with_row (changed of_app.End) id t.rows) t.sched t.served (grants_changed of_app.End id t.rows refl) r.grants)
    (asked_without (next_in t id) t.asks r.asks) r.nodes (op_more t.awaiting (ops.AppEnd id how text) r.awaiting (own.named, end_note t r id how text end)) r.ended
outcome_ranged settings h t w limits r _ (kills id row current at same alive going) =
    moved t r (with_row (changed of_app.Kill) id.app t.rows) t.asks t.nodes (t.awaiting ++ ops.AttemptEnd id ways.Killed killed_text ∷ []) t.ended (drop 1 t.main) t.sched
    (rows_changed of_app.Kill id.app t.rows tt r.rows) (same_updates t.rows (with_row (changed of_app.Kill) id.app t.rows) t.sched t.served (grants_changed of_app.Kill id.app t.rows refl) r.grants) r.asks r.nodes
    (op_more t.awaiting (ops.AttemptEnd id ways.Killed killed_text) r.awaiting (attempt_at t r id row current at same, killed_note)) r.ended
outcome_ranged settings h t w limits r _ (delays id row current at waits going) =
    moved t r (with_row (changed of_app.Kill) id t.rows) t.asks t.nodes t.awaiting t.ended (drop 1 t.main) t.sched
    (rows_changed of_app.Kill id t.rows tt r.rows) (same_updates t.rows (with_row (changed of_app.Kill) id t.rows) t.sched t.served (grants_changed of_app.Kill id t.rows refl) r.grants) r.asks r.nodes r.awaiting r.ended
outcome_ranged settings h t w limits r _ (issues container node row current at granted number mine on) =
    let own = r.rows.each container.attempt.app row at.found in
    let current_is = there IsCurrent row.current current own.current at.is in
    let is : IsContainerId container = mine_is container current.master current_is.master mine in
    moved t r (with_row (changed (of_app.OfAttempt of_attempt.Issue)) container.attempt.app t.rows) t.asks t.nodes (t.awaiting ++ ops.Attempt container.attempt container node ∷ []) t.ended (drop 1 t.main) t.sched
    (rows_changed (of_app.OfAttempt of_attempt.Issue) container.attempt.app t.rows tt r.rows)
    (same_updates t.rows (with_row (changed (of_app.OfAttempt of_attempt.Issue)) container.attempt.app t.rows) t.sched t.served (grants_changed (of_app.OfAttempt of_attempt.Issue) container.attempt.app t.rows refl) r.grants) r.asks r.nodes
    (op_more t.awaiting (ops.Attempt container.attempt container node) r.awaiting (is.attempt, record { container = is; attempt = refl }, node_found t.book container node r.book on)) r.ended
outcome_ranged settings h t w limits r _ (requeues container row current behind at granted number mine gone at_front) =
    moved t r (with_row (changed (of_app.OfAttempt of_attempt.Requeue)) container.attempt.app t.rows) t.asks t.nodes t.awaiting t.ended (drop 1 t.main) (t.sched ++ scheds.AttemptAdded container.attempt ∷ [])
    (rows_changed (of_app.OfAttempt of_attempt.Requeue) container.attempt.app t.rows tt r.rows)
    (one_event t.rows (with_row (changed (of_app.OfAttempt of_attempt.Requeue)) container.attempt.app t.rows) t.sched (scheds.AttemptAdded container.attempt) t.served refl
    (grants_changed (of_app.OfAttempt of_attempt.Requeue) container.attempt.app t.rows refl) r.grants) r.asks r.nodes r.awaiting r.ended
outcome_ranged settings h t w limits r _ (orders id container node row current at number alive master on) =
    moved t r t.rows t.asks (with_node (ordered_row container) node t.nodes) t.awaiting t.ended (drop 1 t.main) t.sched r.rows r.grants r.asks (nodes_ordered container node t.nodes r.nodes) r.awaiting r.ended
outcome_ranged settings h t w limits r _ (ends_one id row current how text at number alive end) =
    let own = r.rows.each id.app row at.found in
    let same : current.number ≡ id.number = grind (arith, nat_tests) in
    moved t r (with_row (changed (of_app.OfAttempt (of_attempt.End how))) id.app t.rows) t.asks t.nodes (t.awaiting ++ ops.AttemptEnd id how text ∷ []) t.ended (drop 1 t.main) t.sched
    (rows_changed (of_app.OfAttempt (of_attempt.End how)) id.app t.rows tt r.rows)
    (same_updates t.rows (with_row (changed (of_app.OfAttempt (of_attempt.End how))) id.app t.rows) t.sched t.served (grants_changed (of_app.OfAttempt (of_attempt.End how)) id.app t.rows refl) r.grants) r.asks r.nodes
    (op_more t.awaiting (ops.AttemptEnd id how text) r.awaiting (attempt_at t r id row current at same, attempt_note row own.said how text end)) r.ended
outcome_ranged settings h t w limits r _ (loses container row current at saving number mine) =
    moved t r (with_row (changed (of_app.OfAttempt of_attempt.Lose)) container.attempt.app t.rows) t.asks t.nodes t.awaiting t.ended (drop 1 t.main) t.sched
    (rows_changed (of_app.OfAttempt of_attempt.Lose) container.attempt.app t.rows tt r.rows)
    (same_updates t.rows (with_row (changed (of_app.OfAttempt of_attempt.Lose)) container.attempt.app t.rows) t.sched t.served (grants_changed (of_app.OfAttempt of_attempt.Lose) container.attempt.app t.rows refl) r.grants)
    r.asks r.nodes r.awaiting r.ended
outcome_ranged settings h t w limits r _ (follows id row current at going ended none) =
    let few = next_few settings h t w limits id row current at going ended none in
    let number : ℕ = length (attempts_in (found_in t id)) + 1 in
    moved t r (with_row (changed (of_app.Schedule number)) id t.rows) t.asks t.nodes t.awaiting t.ended (drop 1 t.main) (t.sched ++ scheds.AttemptAdded (next_in t id) ∷ [])
    (rows_changed (of_app.Schedule number) id t.rows (omega arith, omega (arith, few)) r.rows)
    (one_event t.rows (with_row (changed (of_app.Schedule number)) id t.rows) t.sched (scheds.AttemptAdded (next_in t id)) t.served refl (grants_changed (of_app.Schedule number) id t.rows refl) r.grants) r.asks r.nodes r.awaiting r.ended
outcome_ranged settings h t w limits r _ (removes id more first many) =
    let ids : All IsAppId (id ∷ more) = subst (λ (l : List AppId). All IsAppId l) first r.ended in
    moved t r t.rows t.asks t.nodes (t.awaiting ++ ops.Remove id ∷ []) more (drop 1 (t.main ++ mains.Retire ∷ [])) t.sched r.rows r.grants r.asks r.nodes (op_more t.awaiting (ops.Remove id) r.awaiting ids.0) ids.1

-- each event of the main queue but EpochStart
pub main_ranged : (settings : Settings) (h : History) (t : Tables) → CoreInvariant settings h t → KeepsLimits t.settings → InBounds t → (e : MainEvent) (rest : List MainEvent) → t.main ≡ e ∷ rest → e ≢ mains.EpochStart → InBounds (main_worked (main_step e t)).1
main_ranged settings h t w limits r e rest front other = outcome_ranged settings h t w limits r (main_step e t) (main_outcome t e rest front other)

-- and EpochStart, where the life's stamp is in its range
pub epoch_ranged : (t : Tables) → InBounds t → IsWithin 1 (2 ^ 63 - 1) t.stamp → InBounds (main_worked (main_step mains.EpochStart t)).1
epoch_ranged t r stamp =
    moved t r t.rows t.asks t.nodes (t.awaiting ++ ops.Epoch (t.epoch + 1) t.stamp ∷ []) t.ended (drop 1 t.main) t.sched r.rows r.grants r.asks r.nodes
    (op_more t.awaiting (ops.Epoch (t.epoch + 1) t.stamp) r.awaiting (let epoch = r.counts.epoch in ((omega arith, omega (arith, epoch)), stamp))) r.ended
