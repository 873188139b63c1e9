-- Each event keeps what tables and judge tell alike around a restart.
use Rattle.rm_invariant.proofs.Common.{◌≡◌, ◌≤◌, ◌⊎◌, inl, inr, ℕ, ◌+◌, List, [], ◌∷◌, ◌++◌, Bool, true, false, ◌&&◌, ◌||◌, not, Option, None, Some, map, filter, length, drop, refl, sym, ◌∙◌, ap, subst, arith, list_any, Entry, AppId, AttemptId, ContainerId, Grant, Held, is_container, BookRow, BookOf, Row, Records, record_of, has_container, AppRow, row_of, Scene, LifeState, Manager, Settings, Tables, History, abstract_scene, abstract_life, live_state, after, attempt_was_first, was_first, left_all, sched_worked, sched_step, same_container, list_any-append, SchedEvent, Cause, Ended, Resource, false≢true, is_living, SameRows, closings_of, grants_on, passed_with, taken_in, main_worked, main_step, MainEvent}
use Rattle.std.proofs.Common.{nat_lt, option_map}
use Rattle.rm_types.specs.declared.containers.Cause.TheVariants as causes
use Rattle.rm_model.specs.Absorbing.{book_taken}
use Rattle.rm_model.specs.Facts.{app_goes_on}
use Rattle.rm_model.specs.Passing.{row_granted}
use Rattle.rm_tables.specs.declared.nodes.NodeRow.{NodeRow}
use Rattle.rm_tables.specs.Absorbing.{absorption_step}
use Rattle.rm_book.specs.Books.{book_row_taken, entering}
use Rattle.rm_book.proofs.Rows.{told_filter}
use Rattle.rm_types.specs.declared.entries.Entry.TheVariants.{Pass}
use Rattle.rm_refinement.proofs.Late.{numbers_kept}
use Rattle.rm_invariant.specs.events.SchedOutcomes.{SchedOutcome}
use Rattle.rm_invariant.specs.events.SchedOutcomes as outcomes
use Rattle.rm_invariant.proofs.events.SchedOutcomes.{sched_outcome}
use Rattle.rm_invariant.proofs.events.Next.{grants_next}
use Rattle.rm_invariant.proofs.auxiliary.AroundBook.{late_absorbed, late_by, late_granted, late_left, late_told_by, taken_number, told_granted, told_taken}
use Rattle.rm_model.specs.MasterReplies.{is_late}
use Rattle.rm_tables.specs.LateRows.{is_late_row}
use Rattle.rm_tables.specs.declared.changes.AttemptChange.TheVariants as of_attempt
use Rattle.rm_tables.specs.declared.changes.RowChange.TheVariants as of_app
use Rattle.rm_tables.specs.ContainerSets.{with_containers}
use Rattle.rm_tables.proofs.ContainerSets.{among_joined}
use Rattle.rm_tables.specs.Leaving.{departing, is_noted}
use Rattle.rm_book.specs.Books.{TellUpTo}
use Rattle.rm_refinement.specs.Services.{lives_by}
use Rattle.rm_invariant.specs.auxiliary.Around.{AreToldUpTo, AroundInvariant}
use Rattle.rm_invariant.proofs.auxiliary.Around.{RowsGoOn, late_stays, told_still, closed_go, granted_go, none_go, same_around, changed_go}
use Rattle.rm_invariant.specs.Core.{CoreInvariant, PreservesCore}
use Rattle.rm_invariant.specs.events.Here.{FirstsKnown}
use Rattle.rm_invariant.specs.events.Asking.{AskersCurrent}
use Rattle.rm_invariant.proofs.events.Knowing.{rows_know}
use Rattle.rm_invariant.specs.events.Outcomes.{Outcome, accepts, adds, delays, ends, ends_one, follows, idles, issues, kills, loses, orders, removes, requeues, saves}

-- of a set with more containers that pass a test, of one that passes
noted_among : (t : Tables) (ids : List ContainerId) (id : ContainerId) → is_noted t id ≡ true → has_container (departing t ids) id ≡ has_container ids id
noted_among t [] id noted = refl
noted_among t (one ∷ ids) id noted = by (is_container one id) refl (noted_among t ids id noted)
  where
    other : (b : Bool) → is_noted t one ≡ b → has_container (departing t ids) id ≡ has_container ids id → is_container one id ≡ false → has_container (departing t (one ∷ ids)) id ≡ has_container (one ∷ ids) id
    other true e rest apart = rw (e, apart) rest
    other false e rest apart = rw (e, apart) rest

    by : (b : Bool) → is_container one id ≡ b → has_container (departing t ids) id ≡ has_container ids id → has_container (departing t (one ∷ ids)) id ≡ has_container (one ∷ ids) id
    by true e rest = let own : is_noted t one ≡ true = rw (same_container one id e) noted in rw (own, e) refl
    by false e rest = other (is_noted t one) refl rest e

-- where so many left, those of former epochs departed
pub departed_more : (t : Tables) (left ids : List ContainerId) (id : ContainerId) → t.settings.recover_ended_containers ≡ true → nat_lt id.epoch t.epoch ≡ true → has_container t.departed id ≡ has_container left id
    → has_container (with_containers t.departed (departing t ids)) id ≡ has_container (left ++ ids) id
departed_more t left ids id recovers below same =
    let noted : is_noted t id ≡ true = rw (recovers, below) refl in
    among_joined (departing t ids) t.departed id
    ∙ ap (λ (b : Bool). b || has_container (departing t ids) id) same
    ∙ ap (λ (b : Bool). has_container left id || b) (noted_among t ids id noted)
    ∙ sym (list_any-append (λ one. is_container one id) left ids)

-- what a life tells of it
abbrev pub around_in : Manager → Option (List Row × List ContainerId × List ContainerId)
around_in s = option_map (λ (life : LifeState). (life.book, life.endings.left, life.endings.pending)) s.life

-- put together after a step
module _ (h g : History) (t next : Tables) (settings : next.settings ≡ t.settings) (pending : next.pending ≡ t.pending) (waiting : g.endings.pending ≡ h.endings.pending) (more : t.book.added ≤ next.book.added) (goes : RowsGoOn t.rows next.rows)
    (firsts : (id : AttemptId) → app_goes_on (record_of next.tree.apps id.app) ≡ true → was_first id (row_of next.rows id.app) ≡ attempt_was_first (abstract_scene g next) id)
    (departed : t.settings.recover_ended_containers ≡ true → (id : ContainerId) → nat_lt id.epoch next.epoch ≡ true → has_container next.departed id ≡ has_container g.endings.left id)
    (numbers : t.settings.recover_ended_containers ≡ true → TellUpTo 0 next.book.added next.book.rows)
    (still : (q : AttemptId) (since : ℕ) → since ≤ t.book.added → lives_by q (row_of t.rows q.app) ≡ true
    → map (is_late_row t q since) t.book.rows ≡ map (is_late (abstract_scene h t) q) h.book → map (is_late_row next q since) next.book.rows ≡ map (is_late (abstract_scene g next) q) g.book) where
  recovers : next.settings.recover_ended_containers ≡ true → t.settings.recover_ended_containers ≡ true
  recovers r = ap (λ (s : Settings). s.recover_ended_containers) (sym settings) ∙ r

  pub moved_around : AroundInvariant h t → AroundInvariant g next
  moved_around a =
      record {
        agrees = record {
          firsts = firsts;
          departed = λ r. departed (recovers r);
          pending = λ r id. ap (λ (ids : List ContainerId). has_container ids id) pending ∙ a.agrees.pending (recovers r) id ∙ ap (λ (ids : List ContainerId). has_container ids id) (sym waiting);
          numbers = λ r. numbers (recovers r);
          late = λ r. late_stays (abstract_scene h t) (abstract_scene g next) t next goes a.told (λ q since few was is. still q since few was) (a.agrees.late (recovers r));
        };
        told = told_still t.book.added next.book.added t.rows next.rows more goes a.told;
      }

-- which attempts were kept when the life began, of applications that go on
pub firsts_told : (settings : Settings) (h : History) (t : Tables) → CoreInvariant settings h t → FirstsKnown (abstract_scene h t) t.rows → (id : AttemptId) → app_goes_on (record_of t.tree.apps id.app) ≡ true
    → was_first id (row_of t.rows id.app) ≡ attempt_was_first (abstract_scene h t) id
firsts_told settings h t w firsts id goes = by (row_of t.rows id.app) refl
  where
    by : (o : Option AppRow) → row_of t.rows id.app ≡ o → was_first id (row_of t.rows id.app) ≡ attempt_was_first (abstract_scene h t) id
    by None e =
        let unknown = rows_know settings h t w.keeps id.app e in
        absurd (false≢true (let x : false ≡ true = rw unknown at goes in x))
    by (Some row) e = ap (was_first id) e ∙ sym (firsts id row e)

pub same_some : {X : Type 0} {a b : X} → Some a ≡ Some b → a ≡ b
same_some e = cc

module _ (h : History) (t : Tables) (w : CoreInvariant t.settings h t) (a : AroundInvariant h t) where
  -- a step that leaves the book and what left as they were
  still_around : (entry : Entry) (next : Tables) (s : PreservesCore t.settings h t (entry, next)) → around_in (after (live_state h t) entry) ≡ Some (h.book, h.endings.left, h.endings.pending) → next.settings ≡ t.settings → next.epoch ≡ t.epoch
      → next.departed ≡ t.departed → next.pending ≡ t.pending → next.book ≡ t.book → next.tree ≡ t.tree → RowsGoOn t.rows next.rows → FirstsKnown (abstract_scene s.next next) next.rows → AroundInvariant s.next next
  still_around entry next s was settings epoch departed pending book tree goes firsts =
      let told : (h.book, h.endings.left, h.endings.pending) ≡ (s.next.book, s.next.endings.left, s.next.endings.pending) = same_some (sym was ∙ ap around_in s.step.same) in
      let in_book : s.next.book ≡ h.book = sym (ap (λ (p : List Row × List ContainerId × List ContainerId). p.0) told) in
      let left : s.next.endings.left ≡ h.endings.left = sym (ap (λ (p : List Row × List ContainerId × List ContainerId). p.1) told) in
      let waiting : s.next.endings.pending ≡ h.endings.pending = sym (ap (λ (p : List Row × List ContainerId × List ContainerId). p.2) told) in
      same_around h s.next t next settings epoch departed pending book tree in_book left waiting goes
      (firsts_told t.settings s.next next s.whole firsts) a

  -- AN EVENT OF THE MAIN QUEUE

  pub main_keeps : (done : Entry × Tables) → Outcome t done → (s : PreservesCore t.settings h t (main_worked done)) → FirstsKnown (abstract_scene s.next (main_worked done).1) (main_worked done).1.rows → AroundInvariant s.next (main_worked done).1
  main_keeps done (saves id row submission rest found waits front) s firsts = still_around _ _ s refl refl refl refl refl refl refl (changed_go id of_app.Issue refl t.rows) firsts
  main_keeps done (accepts id row found state) s firsts = still_around _ _ s refl refl refl refl refl refl refl (changed_go id (of_app.Schedule 1) refl t.rows) firsts
  main_keeps done (ends id row how text found stopped said) s firsts = still_around _ _ s refl refl refl refl refl refl refl (changed_go id of_app.End refl t.rows) firsts
  main_keeps done (kills id row current is number alive goes) s firsts = still_around _ _ s refl refl refl refl refl refl refl (changed_go id.app of_app.Kill refl t.rows) firsts
  main_keeps done (delays id row current is waits goes) s firsts = still_around _ _ s refl refl refl refl refl refl refl (changed_go id of_app.Kill refl t.rows) firsts
  main_keeps done (issues container node row current is state number mine on) s firsts = still_around _ _ s refl refl refl refl refl refl refl (changed_go container.attempt.app (of_app.OfAttempt of_attempt.Issue) refl t.rows) firsts
  main_keeps done (requeues container row current behind is state number mine on at_front) s firsts = still_around _ _ s refl refl refl refl refl refl refl (changed_go container.attempt.app (of_app.OfAttempt of_attempt.Requeue) refl t.rows) firsts
  main_keeps done (ends_one id row current how text is number alive said) s firsts = still_around _ _ s refl refl refl refl refl refl refl (changed_go id.app (of_app.OfAttempt (of_attempt.End how)) refl t.rows) firsts
  main_keeps done (loses container row current is state number mine) s firsts = still_around _ _ s refl refl refl refl refl refl refl (changed_go container.attempt.app (of_app.OfAttempt of_attempt.Lose) refl t.rows) firsts
  main_keeps done (follows id row current is goes state none) s firsts = still_around _ _ s refl refl refl refl refl refl refl (changed_go id (of_app.Schedule _) refl t.rows) firsts
  main_keeps done (idles) s firsts = still_around _ _ s refl refl refl refl refl refl refl (none_go t.rows) firsts
  main_keeps done (adds id row rest found state front) s firsts = still_around _ _ s refl refl refl refl refl refl refl (none_go t.rows) firsts
  main_keeps done (orders id container node row current is number alive mine on) s firsts = still_around _ _ s refl refl refl refl refl refl refl (none_go t.rows) firsts
  main_keeps done (removes id more is few) s firsts = still_around _ _ s refl refl refl refl refl refl refl (none_go t.rows) firsts

-- AN EVENT OF THE SCHEDULER'S QUEUE

module _ (h : History) (t : Tables) (w : CoreInvariant t.settings h t) (a : AroundInvariant h t) (current : AskersCurrent t) (list : List ContainerId) where
  -- what each of the things that an event may come to keeps
  abbrev Keeps : Entry × Tables → Type 0
  Keeps done = (s : PreservesCore t.settings h t (sched_worked done)) → FirstsKnown (abstract_scene s.next (sched_worked done).1) (sched_worked done).1.rows → AroundInvariant s.next (sched_worked done).1

  left_keeps : (cause : Cause) (ids : List ContainerId) → Keeps (Ended cause ids, left_all cause ids t)
  left_keeps cause ids s firsts =
      let next : Tables = (sched_worked (Ended cause ids, left_all cause ids t)).1 in
      let told : (filter (λ (row : Row). not (has_container ids row.id)) h.book, h.endings.left ++ ids, h.endings.pending) ≡ (s.next.book, s.next.endings.left, s.next.endings.pending) = same_some (ap around_in s.step.same) in
      let book : filter (λ (row : Row). not (has_container ids row.id)) h.book ≡ s.next.book = ap (λ (p : List Row × List ContainerId × List ContainerId). p.0) told in
      let left : h.endings.left ++ ids ≡ s.next.endings.left = ap (λ (p : List Row × List ContainerId × List ContainerId). p.1) told in
      let waiting : s.next.endings.pending ≡ h.endings.pending = sym (ap (λ (p : List Row × List ContainerId × List ContainerId). p.2) told) in
      moved_around h s.next t next refl refl waiting (omega arith) (closed_go (closings_of t.tree.apps cause ids) t.rows) (firsts_told t.settings s.next next s.whole firsts)
      (λ r id below. departed_more t h.endings.left ids id r below (a.agrees.departed r id below) ∙ ap (λ (l : List ContainerId). has_container l id) left)
      (λ r. told_filter 0 t.book.added (λ row. not (list_any (λ id. is_container id row.id) ids)) t.book.rows (a.agrees.numbers r))
      (λ q since few was e.
      subst (λ (rows : List Row). map (late_by t.tree.apps q since) next.book.rows ≡ map (late_told_by t.tree q) rows) book
      (late_left (late_by t.tree.apps q since) (late_told_by t.tree q) ids t.book.rows h.book w.agrees.rows e))
      a

  absorbed_keeps : (name : List ℕ) (capability : Resource) (taken : List Held) → Keeps (absorption_step name capability taken list t)
  absorbed_keeps name capability taken s firsts =
      let next : Tables = (sched_worked (absorption_step name capability taken list t)).1 in
      let stay : List Row = filter (λ (row : Row). not (has_container list row.id)) h.book in
      let ys : List Held = filter (λ (held : Held). not (is_living stay held.id)) taken in
      let xs : List Held = entering t.book taken in
      let told : (book_taken name taken stay, h.endings.left ++ list, h.endings.pending) ≡ (s.next.book, s.next.endings.left, s.next.endings.pending) = same_some (ap around_in s.step.same) in
      let book : book_taken name taken stay ≡ s.next.book = ap (λ (p : List Row × List ContainerId × List ContainerId). p.0) told in
      let left : h.endings.left ++ list ≡ s.next.endings.left = ap (λ (p : List Row × List ContainerId × List ContainerId). p.1) told in
      let waiting : s.next.endings.pending ≡ h.endings.pending = sym (ap (λ (p : List Row × List ContainerId × List ContainerId). p.2) told) in
      let after_it : SameRows next.book.rows (book_taken name taken stay) = subst (λ (rows : List Row). SameRows next.book.rows rows) (sym book) s.whole.agrees.rows in
      moved_around h s.next t next refl refl waiting (omega arith) (closed_go (closings_of t.tree.apps causes.Gone list) t.rows) (firsts_told t.settings s.next next s.whole firsts)
      (λ r id below. departed_more t h.endings.left list id r below (a.agrees.departed r id below) ∙ ap (λ (l : List ContainerId). has_container l id) left)
      (λ r. told_taken name (map (book_row_taken taken) (filter (λ row. not (list_any (λ id. is_container id row.id) list)) t.book.rows)) t.book.added xs
      (numbers_kept (book_row_taken taken) (taken_number taken) 0 t.book.added (filter (λ row. not (list_any (λ id. is_container id row.id) list)) t.book.rows)
      (told_filter 0 t.book.added (λ row. not (list_any (λ id. is_container id row.id) list)) t.book.rows (a.agrees.numbers r))))
      (λ q since few was e.
      subst (λ (rows : List Row). map (late_by t.tree.apps q since) next.book.rows ≡ map (late_told_by t.tree q) rows) book
      (late_absorbed t.tree q since t.book.added name taken xs ys list t.book.rows h.book few w.agrees.rows after_it e))
      a

  granted_keeps : (name : List ℕ) (row : NodeRow) → Keeps (Pass name (grants_on name row t), passed_with (grants_on name row t) t)
  granted_keeps name row s firsts =
      let grants : List Grant = grants_on name row t in
      let next : Tables = (sched_worked (Pass name grants, passed_with grants t)).1 in
      let told : (h.book ++ map row_granted grants, h.endings.left, h.endings.pending) ≡ (s.next.book, s.next.endings.left, s.next.endings.pending) = same_some (ap around_in s.step.same) in
      let book : h.book ++ map row_granted grants ≡ s.next.book = ap (λ (p : List Row × List ContainerId × List ContainerId). p.0) told in
      let left : h.endings.left ≡ s.next.endings.left = ap (λ (p : List Row × List ContainerId × List ContainerId). p.1) told in
      let waiting : s.next.endings.pending ≡ h.endings.pending = sym (ap (λ (p : List Row × List ContainerId × List ContainerId). p.2) told) in
      moved_around h s.next t next refl refl waiting (omega arith) (granted_go grants t.rows) (firsts_told t.settings s.next next s.whole firsts)
      (λ r id below. a.agrees.departed r id below ∙ ap (λ (l : List ContainerId). has_container l id) left)
      (λ r. told_granted t.book.rows t.book.added grants (a.agrees.numbers r))
      (λ q since few was e.
      subst (λ (rows : List Row). map (late_by t.tree.apps q since) next.book.rows ≡ map (late_told_by t.tree q) rows) book
      (late_granted t.tree q since t.book.added t.rows h.granted grants t.book.rows h.book was (grants_next (abstract_life h t) t w.agrees current name row) e))
      a

  keeps_each : (e : SchedEvent) (done : Entry × Tables) → SchedOutcome t list e done → Keeps done
  keeps_each e done (outcomes.idles one nothing) s firsts = still_around h t w a _ _ s refl refl refl refl refl refl refl (none_go t.rows) firsts
  keeps_each e done (outcomes.posts id) s firsts = still_around h t w a _ _ s refl refl refl refl refl refl refl (none_go t.rows) firsts
  keeps_each e done (outcomes.asks id row current is state number) s firsts = still_around h t w a _ _ s refl refl refl refl refl refl refl (none_go t.rows) firsts
  keeps_each e done (outcomes.ends one cause id ids is) s firsts = left_keeps cause (id ∷ ids) s firsts
  keeps_each e done (outcomes.absorbs name turn row found waits) s firsts = absorbed_keeps name row.capability (taken_in t name row) s firsts
  keeps_each e done (outcomes.grants name row found) s firsts = granted_keeps name row s firsts

  pub sched_around : (e : SchedEvent) → Keeps (sched_step e list t)
  sched_around e = keeps_each e (sched_step e list t) (sched_outcome t list e)
