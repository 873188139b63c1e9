-- Each row with the released mark has its release on its way: what keeps it, whatever the step.
use Rattle.rm_invariant.proofs.Common.{◌≡◌, List, [], ◌∷◌, ◌++◌, Bool, true, false, ◌||◌, Some, refl, sym, ◌∙◌, ap, subst, list_any, false≢true, list_any-append, Entry, AppRecord, Settings, after, Row, SchedEvent, Tables, History, live_state, AppId, AttemptId, ContainerId, and_false, is_app, is_attempt, record_of, same_app, ◌&&◌}
use Rattle.rm_model.specs.Containers.{is_earlier}
use Rattle.rm_model.specs.Facts.{keeps}
use Rattle.rm_tables.specs.Leaving.{is_stale_in}
use Rattle.rm_tables.specs.Missing.{is_at_disposal_in}
use Rattle.rm_invariant.specs.nodes.Book.{All}
use Rattle.rm_invariant.specs.Core.{PreservesCore}
use Rattle.rm_invariant.specs.messages.Released.{IsOnWay, ReleasesOnWay, is_release_of, keeps_in}
use Rattle.rm_invariant.proofs.messages.Shapes.{book_of}
use Rattle.rm_invariant.proofs.events.Entering.{all_weaker}

-- a release is on its way still where more is behind it
pub later_on_way : (apps : List AppRecord) (sched more : List SchedEvent) (row : Row) → IsOnWay apps sched row → IsOnWay apps (sched ++ more) row
later_on_way apps sched more row h marked fresh =
    let on = h marked fresh in
    (list_any-append (is_release_of (keeps_in apps row.id) row.id) sched more ∙ ap (λ (b : Bool). b || list_any (is_release_of (keeps_in apps row.id) row.id) more) on.0, on.1)

pub all_later : (apps : List AppRecord) (sched more : List SchedEvent) (book : List Row) → All (IsOnWay apps sched) book → All (IsOnWay apps (sched ++ more)) book
all_later apps sched more book h = all_weaker (IsOnWay apps sched) (IsOnWay apps (sched ++ more)) (later_on_way apps sched more) book h

-- the history that a step goes to has the book that the judge has after its entry
pub step_on_way : (settings : Settings) (h : History) (t : Tables) (entry : Entry) (next : Tables) (s : PreservesCore settings h t (entry, next)) (book : List Row) → book_of (after (live_state h t) entry) ≡ Some book
    → All (IsOnWay next.tree.apps next.sched) book → ReleasesOnWay s.next next
step_on_way settings h t entry next s book is on =
    let some : Some s.next.book ≡ Some book = sym (ap book_of s.step.same) ∙ is in
    let same : s.next.book ≡ book = cc in
    subst (All (IsOnWay next.tree.apps next.sched)) (sym same) on

-- whatever leaves the judge's book, what is recorded and the scheduler's queue
pub still_on_way : (h g : History) (t next : Tables) → g.book ≡ h.book → next.tree ≡ t.tree → next.sched ≡ t.sched → ReleasesOnWay h t → ReleasesOnWay g next
still_on_way h g t next book tree sched on = rw (book, tree, sched) on

-- where the queue is empty no row has the mark that isn't stale
pub none_marked : (h : History) (t : Tables) → ReleasesOnWay h t → t.sched ≡ [] → All (λ row. is_stale_in t.tree.apps row.id ≡ false → row.released ≡ false) h.book
none_marked h t on empty = all_weaker (IsOnWay t.tree.apps t.sched) (λ row. is_stale_in t.tree.apps row.id ≡ false → row.released ≡ false) unmarked h.book on
  where
    unmarked : (row : Row) → IsOnWay t.tree.apps t.sched row → is_stale_in t.tree.apps row.id ≡ false → row.released ≡ false
    unmarked row on fresh = by row.released refl
      where
        by : (b : Bool) → row.released ≡ b → row.released ≡ false
        by false e = e
        by true e = let some = (on e fresh).0 in let none : false ≡ true = rw empty at some in absurd (false≢true none)

-- what an attempt may release, by the application of a container and by its own
pub at_same : (apps : List AppRecord) (attempt : AttemptId) (id : ContainerId) → (is_attempt id.attempt attempt || (keeps_in apps id && is_earlier id.attempt attempt)) ≡ is_at_disposal_in apps attempt id
at_same apps attempt id = by (is_app id.attempt.app attempt.app) refl
  where
    by : (b : Bool) → is_app id.attempt.app attempt.app ≡ b → (is_attempt id.attempt attempt || (keeps_in apps id && is_earlier id.attempt attempt)) ≡ is_at_disposal_in apps attempt id
    by false e = rw (e, and_false (keeps_in apps id), and_false (keeps (record_of apps attempt.app))) refl
    by true e =
        let same : id.attempt.app ≡ attempt.app = same_app id.attempt.app attempt.app e in
        ap (λ (a : AppId). is_attempt id.attempt attempt || (keeps (record_of apps a) && is_earlier id.attempt attempt)) same

-- each row is found among all
pub all_found : (alike : Row → Row → Bool) → ((row : Row) → alike row row ≡ true) → (rows : List Row) → All (λ row. list_any (λ one. alike one row) rows ≡ true) rows
all_found alike itself [] = tt
all_found alike itself (row ∷ rows) = (
  (let own = itself row in rw own refl),
  all_weaker (λ one. list_any (λ other. alike other one) rows ≡ true) (λ one. list_any (λ other. alike other one) (row ∷ rows) ≡ true) (λ one found. or_last (alike row one) (list_any (λ other. alike other one) rows) found) rows
      (all_found alike itself rows),
)
  where
    or_last : (a b : Bool) → b ≡ true → (a || b) ≡ true
    or_last true b e = refl
    or_last false b e = e

pub all_both : {X : Type 0} (P Q : X → Type 0) (xs : List X) → All P xs → All Q xs → All (λ x. P x × Q x) xs
all_both P Q [] h k = tt
all_both P Q (x ∷ xs) h k = ((h.0, k.0), all_both P Q xs h.1 k.1)
