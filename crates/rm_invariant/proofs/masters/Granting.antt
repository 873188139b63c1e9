-- One container enters the book: it is granted to an attempt as its master's, or to one that lives, or is taken of a node's report. What
-- holds of attempts and of containers holds after it.
use Rattle.rm_invariant.proofs.Common.{◌≡◌, ◌⊎◌, inl, inr, ◌||◌, List, [], ◌∷◌, ◌++◌, Bool, true, false, Some, refl, sym, ◌∙◌, subst, arith, list_any, nat_tests, AskOf, AttemptId, ContainerId, Settings, is_app, is_attempt, is_container, same_app, same_container, attempt_was_first, is_living, has_container, Row, AppState, AttemptState, is_alive, AppRow, Current, Tables, changed, row_of, with_row, is_ending, History, abstract_scene}
use Rattle.std.proofs.Common.{◌==◌, count_by}
use Rattle.rm_states.specs.declared.attempt.states.AttemptState.TheVariants as attempts
use Rattle.rm_tables.specs.declared.changes.RowChange.TheVariants as of_app
use Rattle.rm_tables.specs.declared.changes.AttemptChange.TheVariants as of_attempt
use Rattle.rm_tables.specs.declared.events.MainEvent.TheVariants as mains
use Rattle.rm_tables.specs.Leaving.{is_stale_in}
use Rattle.rm_invariant.specs.apps.View.{is_ask, View, set_if, changed_if, counts, one_if, view}
use Rattle.rm_invariant.specs.apps.Invariant.{ActiveInvariant, RowInvariant, StateInvariant, is_active, AttemptsInvariant}
use Rattle.rm_invariant.proofs.apps.Own.{active_row}
use Rattle.rm_invariant.proofs.apps.Found.{row_changed}
use Rattle.rm_invariant.proofs.apps.Effects as views
use Rattle.rm_invariant.specs.masters.Invariant.{ContainersInvariant, ContainerInvariant, RemovalInvariant}
use Rattle.rm_invariant.specs.masters.View.{ContainerView, container_view}
use Rattle.rm_invariant.proofs.masters.Ends.{Alive}
use Rattle.rm_invariant.proofs.masters.Saying.{active_of, goes_on}
use Rattle.rm_invariant.proofs.masters.Tests.{any_end}
use Rattle.rm_invariant.proofs.masters.Crossing.{counted_marks, entering_marks, granting_marks, granting_says}
use Rattle.rm_invariant.proofs.masters.Effects.{main_posted}
use Rattle.rm_invariant.proofs.masters.Stepping.{marks_changed}

-- an attempt that lives, or whose end is issued, may hold one more container
holding_says : (settings : Settings) (q : AttemptId) (row : AppRow) (current : Current) (v : View) (is : row.current ≡ Some current) (a : is_active row.state ≡ true)
    → (s : AttemptState) → current.state ≡ s → Alive s ⊎ (s ≡ attempts.Ending) → (b : Bool) → (current.number == q.number) ≡ b → RowInvariant settings q (Some row) v → RowInvariant settings q (Some row) (record v { held = set_if b v.held })
holding_says settings q row current v is a s e st false n good = good
holding_says settings q row current v is a s e st true n good =
    let known = good.0 in
    let active = active_row settings q row v a good in
    let says : ActiveInvariant settings q (Some current) row.wish v = rw is at active.current in
    (record { wish = known.wish; pending = known.pending; stays = known.stays; one_kill = known.one_kill; killed = known.killed }, held_state settings q row current v is a s e st n says row.state good.1)
  where
    held_state : (settings : Settings) (q : AttemptId) (row : AppRow) (current : Current) (v : View) (is : row.current ≡ Some current) (a : is_active row.state ≡ true) (s : AttemptState) → current.state ≡ s → Alive s ⊎ (s ≡ attempts.Ending)
        → (current.number == q.number) ≡ true → ActiveInvariant settings q (Some current) row.wish v → (state : AppState) → StateInvariant settings q state row v → StateInvariant settings q state row (record v { held = true })
    held_state settings q row current v is a s e st n says state good = grind (arith, nat_tests)

-- and its row counts the grant
counted_says : (settings : Settings) (q : AttemptId) (row : AppRow) (current : Current) (v : View) (is : row.current ≡ Some current) (a : is_active row.state ≡ true)
    → (s : AttemptState) → current.state ≡ s → Alive s ⊎ (s ≡ attempts.Ending) → (new : ContainerId) → RowInvariant settings q (Some row) v → RowInvariant settings q (Some (changed (of_app.OfAttempt (of_attempt.Grant new)) row)) v
counted_says settings q row current v is a s e st new good =
    let known = good.0 in
    let active = active_row settings q row v a good in
    let says : ActiveInvariant settings q (Some current) row.wish v = rw is at active.current in
    rw is (grind (arith, nat_tests))

alive_or_ending : (s : AttemptState) → Alive s ⊎ (s ≡ attempts.Ending) → (is_alive s || is_ending s) ≡ true
alive_or_ending s (inl (inl e)) = rw e refl
alive_or_ending s (inl (inr (inl e))) = rw e refl
alive_or_ending s (inl (inr (inr e))) = rw e refl
alive_or_ending s (inr e) = rw e refl

goes_by : (s : AttemptState) → Alive s ⊎ (s ≡ attempts.Ending) → goes_on s ≡ true
goes_by s (inl (inl e)) = rw e refl
goes_by s (inl (inr (inl e))) = rw e refl
goes_by s (inl (inr (inr e))) = rw e refl
goes_by s (inr e) = rw e refl

-- A container enters the book with a row of its own, while these asks are left. Its attempt is the current one of its application.
module _ (settings : Settings) (h : History) (t : Tables) (says : AttemptsInvariant settings h t) (all : ContainersInvariant h t) (entry : Row) (asks : List AskOf) (granted : List ContainerId)
    (row : AppRow) (found : row_of t.rows entry.id.attempt.app ≡ Some row) (current : Current) (is : row.current ≡ Some current) (n : (current.number == entry.id.attempt.number) ≡ true) (clean : is_stale_in t.tree.apps entry.id ≡ false) where
  -- the history after it
  abbrev pub entered : History
  entered = record h { granted = granted; asks = asks; book = h.book ++ entry ∷ [] }

  number : current.number ≡ entry.id.attempt.number
  number = grind (arith, nat_tests)

  held_now : (q : AttemptId) → list_any (λ row. is_attempt row.id.attempt q) (h.book ++ entry ∷ []) ≡ set_if (is_attempt entry.id.attempt q) (list_any (λ row. is_attempt row.id.attempt q) h.book)
  held_now q = any_end (λ row. is_attempt row.id.attempt q) h.book entry

  living_now : (c : ContainerId) → is_living (h.book ++ entry ∷ []) c ≡ set_if (is_container entry.id c) (is_living h.book c)
  living_now c = any_end (λ row. is_container row.id c) h.book entry

  here_number : (c : ContainerId) → is_container entry.id c ≡ true → (current.number == c.attempt.number) ≡ true
  here_number c e = let same = same_container entry.id c e in rw (← same) n

  good_here : RowInvariant settings entry.id.attempt (Some row) (view h t entry.id.attempt)
  good_here = rw found at (says entry.id.attempt)

  apart : (c : ContainerId) → is_app entry.id.attempt.app c.attempt.app ≡ false → is_container entry.id c ≡ false
  apart c other = rw other refl

  -- it isn't stale
  enters_clean : (c : ContainerId) → RemovalInvariant c (container_view h t c) → RemovalInvariant c (record (container_view h t c) { living = set_if (is_container entry.id c) (container_view h t c).living })
  enters_clean c over = by (is_container entry.id c) refl
    where
      by : (b : Bool) → is_container entry.id c ≡ b → RemovalInvariant c (record (container_view h t c) { living = set_if b (container_view h t c).living })
      by false e = over
      by true e = λ s l. let fresh = subst (λ (d : ContainerId). is_stale_in t.tree.apps d ≡ false) (same_container entry.id c e) clean in absurd (cc)

  -- it is its master's, for which the attempt waits
  module _ (st : current.state ≡ attempts.Scheduled) (asked : (q : AttemptId) → count_by (is_ask q) h.asks ≡ one_if (is_attempt entry.id.attempt q) (count_by (is_ask q) asks)) (fresh : has_container h.endings.left entry.id ≡ false) where
    abbrev change : AppRow → AppRow
    change = changed (of_app.OfAttempt (of_attempt.Grant entry.id))

    abbrev pub granted_master : Tables
    granted_master = record t { rows = with_row change entry.id.attempt.app t.rows; main = t.main ++ mains.MasterGranted entry.id ∷ [] }

    goes : is_active row.state ≡ true
    goes = active_of settings entry.id.attempt row (view h t entry.id.attempt) current is (rw st refl) good_here

    -- the view without the ask
    abbrev asking : AttemptId → View
    asking q = record (view h t q) { count = record (counts h t q) { asks = count_by (is_ask q) asks } }

    view_was : (q : AttemptId) → view h t q ≡ record (asking q) { count = record (asking q).count { asks = one_if (is_attempt entry.id.attempt q) (asking q).count.asks } }
    view_was q = rw (asked q) refl

    view_now : (q : AttemptId) → view entered granted_master q ≡ record (asking q) { held = set_if (is_attempt entry.id.attempt q) (asking q).held; count = record (asking q).count { grants = one_if (is_attempt entry.id.attempt q) (asking q).count.grants } }
    view_now q = rw (views.main_posted entered (record t { rows = with_row change entry.id.attempt.app t.rows }) q (mains.MasterGranted entry.id), held_now q) refl

    marks_now : (c : ContainerId) → container_view entered granted_master c ≡ record (container_view h t c) { living = set_if (is_container entry.id c) (container_view h t c).living; grants = one_if (is_container entry.id c) (container_view h t c).grants }
    marks_now c = rw (main_posted entered (record t { rows = with_row change entry.id.attempt.app t.rows }) c (mains.MasterGranted entry.id), living_now c) refl

    pub master_says : AttemptsInvariant settings entered granted_master
    master_says q = rw (row_changed change entry.id.attempt.app q.app t.rows) (by (is_app entry.id.attempt.app q.app) refl)
      where
        by : (b : Bool) → is_app entry.id.attempt.app q.app ≡ b → RowInvariant settings q (changed_if b change (row_of t.rows q.app)) (view entered granted_master q)
        by true same =
            let here : row_of t.rows q.app ≡ Some row = rw (← same_app entry.id.attempt.app q.app same) found in
            let old : RowInvariant settings q (Some row) (view h t q) = rw here at (says q) in
            let test : is_attempt entry.id.attempt q ≡ (current.number == q.number) = rw (same, ← number) refl in
            let before : RowInvariant settings q (Some row) (record (asking q) { count = record (asking q).count { asks = one_if (current.number == q.number) (asking q).count.asks } }) =
            subst (λ (b : Bool). RowInvariant settings q (Some row) (record (asking q) { count = record (asking q).count { asks = one_if b (asking q).count.asks } })) test (subst (λ (v : View). RowInvariant settings q (Some row) v) (view_was q) old) in
            rw here (subst (λ (v : View). RowInvariant settings q (Some (change row)) v) (sym (view_now q))
            (subst (λ (b : Bool). RowInvariant settings q (Some (change row)) (record (asking q) { held = set_if b (asking q).held; count = record (asking q).count { grants = one_if b (asking q).count.grants } })) (sym test)
            (granting_says settings q row current (asking q) is goes st entry.id (current.number == q.number) refl before)))
        by false other =
            let after : view entered granted_master q ≡ asking q = view_now q ∙ rw other refl in
            let before : view h t q ≡ asking q = view_was q ∙ rw other refl in
            let same : view entered granted_master q ≡ view h t q = after ∙ sym before in
            subst (λ (v : View). RowInvariant settings q (row_of t.rows q.app) v) (sym same) (says q)

    pub master_marks : ContainersInvariant entered granted_master
    master_marks =
        marks_changed h entered t granted_master entry.id.attempt.app change (Some row) (λ q. row_changed change entry.id.attempt.app q t.rows) found
        (λ c other. marks_now c ∙ rw (apart c other) refl)
        (λ c same marks_say.
        subst (λ (v : ContainerView). ContainerInvariant c (Some (change row)) v) (sym (marks_now c))
        (granting_marks c row current (container_view h t c) is st entry.id (is_container entry.id c) (current.number == c.attempt.number) refl refl (λ e. left_none c e) (here_number c) marks_say))
        (λ c same over. subst (λ (v : ContainerView). RemovalInvariant c v) (sym (marks_now c)) (enters_clean c over)) all
      where
        left_none : (c : ContainerId) → is_container entry.id c ≡ true → has_container h.endings.left c ≡ false
        left_none c e = let same = same_container entry.id c e in rw (← same) fresh

  -- it is another one of an attempt that lives, or whose end is issued: it is new, or the attempt was kept when the life began
  module _ (st : Alive current.state ⊎ (current.state ≡ attempts.Ending)) (asked : (q : AttemptId) → count_by (is_ask q) asks ≡ count_by (is_ask q) h.asks)
      (fresh : ((is_living h.book entry.id ≡ false) × (has_container h.endings.left entry.id ≡ false)) ⊎ (attempt_was_first (abstract_scene h t) entry.id.attempt ≡ true)) where
    goes_too : is_active row.state ≡ true
    goes_too = active_of settings entry.id.attempt row (view h t entry.id.attempt) current is (goes_by current.state st) good_here

    taken_view : (q : AttemptId) → view entered t q ≡ record (view h t q) { held = set_if (is_attempt entry.id.attempt q) (view h t q).held }
    taken_view q = rw (held_now q, asked q) refl

    taken_mark : (c : ContainerId) → container_view entered t c ≡ record (container_view h t c) { living = set_if (is_container entry.id c) (container_view h t c).living }
    taken_mark c = rw (living_now c) refl

    held_here : (q : AttemptId) → is_app entry.id.attempt.app q.app ≡ true → RowInvariant settings q (Some row) (view h t q) → RowInvariant settings q (Some row) (view entered t q)
    held_here q same old =
        let test : is_attempt entry.id.attempt q ≡ (current.number == q.number) = rw (same, ← number) refl in
        subst (λ (v : View). RowInvariant settings q (Some row) v) (sym (taken_view q))
        (subst (λ (b : Bool). RowInvariant settings q (Some row) (record (view h t q) { held = set_if b (view h t q).held })) (sym test) (holding_says settings q row current (view h t q) is goes_too current.state refl st (current.number == q.number) refl old))

    living_here : (c : ContainerId) → is_app entry.id.attempt.app c.attempt.app ≡ true → ContainerInvariant c (Some row) (container_view h t c) → ContainerInvariant c (Some row) (container_view entered t c)
    living_here c same old =
        subst (λ (v : ContainerView). ContainerInvariant c (Some row) v) (sym (taken_mark c))
        (entering_marks c row current (container_view h t c) is (alive_or_ending current.state st) (is_container entry.id c) (here_number c) (λ e. new_here c e) old)
      where
        new_here : (c : ContainerId) → is_container entry.id c ≡ true → ((is_living h.book c ≡ false) × (has_container h.endings.left c ≡ false)) ⊎ (attempt_was_first (abstract_scene h t) c.attempt ≡ true)
        new_here c e =
            subst (λ (d : ContainerId). ((is_living h.book d ≡ false) × (has_container h.endings.left d ≡ false)) ⊎ (attempt_was_first (abstract_scene h t) d.attempt ≡ true)) (same_container entry.id c e) fresh

    -- or it is granted
    abbrev counting : AppRow → AppRow
    counting = changed (of_app.OfAttempt (of_attempt.Grant entry.id))

    abbrev pub granted_more : Tables
    granted_more = record t { rows = with_row counting entry.id.attempt.app t.rows }

    pub granted_says : AttemptsInvariant settings entered granted_more
    granted_says q = rw (row_changed counting entry.id.attempt.app q.app t.rows) (by (is_app entry.id.attempt.app q.app) refl)
      where
        by : (b : Bool) → is_app entry.id.attempt.app q.app ≡ b → RowInvariant settings q (changed_if b counting (row_of t.rows q.app)) (view entered granted_more q)
        by true same =
            let here : row_of t.rows q.app ≡ Some row = rw (← same_app entry.id.attempt.app q.app same) found in
            let old : RowInvariant settings q (Some row) (view h t q) = rw here at (says q) in
            rw here (counted_says settings q row current (view entered t q) is goes_too current.state refl st entry.id (held_here q same old))
        by false other = subst (λ (v : View). RowInvariant settings q (row_of t.rows q.app) v) (sym (taken_view q ∙ rw other refl)) (says q)

    pub granted_more_marks : ContainersInvariant entered granted_more
    granted_more_marks =
        marks_changed h entered t granted_more entry.id.attempt.app counting (Some row) (λ q. row_changed counting entry.id.attempt.app q t.rows) found
        (λ c other. taken_mark c ∙ rw (apart c other) refl)
        (λ c same marks_say. counted_marks c row current (container_view entered t c) is (alive_or_ending current.state st) entry.id (living_here c same marks_say))
        (λ c same over. subst (λ (v : ContainerView). RemovalInvariant c v) (sym (taken_mark c)) (enters_clean c over)) all
