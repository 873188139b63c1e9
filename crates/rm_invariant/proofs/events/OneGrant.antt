-- One grant of a pass, to an attempt that is ready for it: what holds of every attempt and of every container holds after it, and the other
-- attempts stay ready.
use Rattle.rm_invariant.proofs.Common.{◌≡◌, ◌≤◌, ◌⊎◌, inl, inr, ℕ, ◌+◌, ◌-◌, ◌||◌, List, [], ◌∷◌, ◌++◌, Bool, true, false, Option, None, Some, filter, find, map, refl, sym, ◌∙◌, ap, subst, arith, if◌then◌else◌, list_any, false≢true, nat_tests, Ask, AskOf, Grant, AppId, AttemptId, ContainerId, Resource, Settings, is_app, is_attempt, by_priority, same_attempt, same_app, AttemptState, is_size, MainEvent, AppRow, Current, Tables, granted, granted_at, masters_granted, rows_after_grant, waits_for_master, row_of, grants_of, History, abstract_life}
use Rattle.std.proofs.Common.{◌==◌, nat_lt, count_by, cond, append-nil}
use Rattle.rm_book.proofs.Lists.{any_filter}
use Rattle.rm_states.specs.declared.attempt.states.AttemptState.TheVariants as attempts
use Rattle.rm_model.specs.Containers.{is_same_ask}
use Rattle.rm_model.specs.Passing.{answered_ask, ask_lessened, asks_lessened, asks_of as asks_told, row_granted as row_told, without_granted as without_told}
use Rattle.rm_tables.specs.declared.events.MainEvent.TheVariants as mains
use Rattle.rm_tables.specs.Passing.{waits_at, waits_with}
use Rattle.rm_invariant.specs.apps.Invariant.{AttemptsInvariant, RowInvariant}
use Rattle.rm_invariant.specs.apps.View.{changed_if, is_ask, one_if, view}
use Rattle.rm_invariant.proofs.apps.Counts.{fails_never, none_under}
use Rattle.rm_invariant.proofs.apps.Found.{row_changed}
use Rattle.rm_invariant.specs.nodes.Book.{BookInvariant}
use Rattle.rm_invariant.proofs.nodes.Holds.{IsNew, not_left, not_living}
use Rattle.rm_invariant.specs.masters.Invariant.{ContainersInvariant}
use Rattle.rm_invariant.proofs.masters.Ends.{Alive}
use Rattle.rm_invariant.proofs.masters.Granting.{granted_more_marks, granted_says, master_marks, master_says}
use Rattle.rm_invariant.specs.Core.{Nothing}
use Rattle.rm_invariant.proofs.events.Answered.{other_lessened, own_lessened}
use Rattle.rm_invariant.proofs.events.Granting.{counting, granted_keeps}
use Rattle.rm_invariant.proofs.events.Waiting.{Ready, Waits, asks_say, count_told, is_zero, line_of}
use Rattle.rm_invariant.specs.masters.Sound.{RecordsAreSound}
use Rattle.rm_invariant.proofs.masters.Clean.{waiting_clean, going_clean}

-- WHAT IS ASKED FOR

-- other attempts ask for the same after a grant
pub other_told : (asks : List AskOf) (grant : Grant) (q : AttemptId) → is_attempt grant.id.attempt q ≡ false → asks_told (without_told asks grant) q ≡ asks_told asks q
other_told asks grant q apart = by (answered_ask asks grant)
  where
    by : (o : Option Ask) → asks_told (asks_lessened grant.id.attempt asks o) q ≡ asks_told asks q
    by None = refl
    by (Some ask) = other_lessened grant.id.attempt q apart ask asks

-- an attempt that asks for its master alone asks for nothing after it is granted
own_told : (asks : List AskOf) (grant : Grant) → asks_told asks grant.id.attempt ≡ line_of grant.size ∷ [] → asks_told (without_told asks grant) grant.id.attempt ≡ []
own_told asks grant line =
    let size : is_size grant.size grant.size ≡ true = grind (arith, nat_tests) in
    let answered : answered_ask asks grant ≡ Some (line_of grant.size) = ap (λ (l : List Ask). find (λ one. is_size one.size grant.size) (by_priority l)) line ∙ rw size refl in
    let own : is_same_ask (line_of grant.size) (line_of grant.size) ≡ true = size in
    ap (λ (o : Option Ask). asks_told (asks_lessened grant.id.attempt asks o) grant.id.attempt) answered
    ∙ own_lessened grant.id.attempt (line_of grant.size) asks
    ∙ ap (λ (l : List Ask). filter (λ one. nat_lt 0 one.count) (map (ask_lessened (line_of grant.size)) l)) line
    ∙ rw own refl

-- an attempt that doesn't ask for its master doesn't after a grant
no_master_told : (asks : List AskOf) (grant : Grant) → list_any is_zero (asks_told asks grant.id.attempt) ≡ false → list_any is_zero (asks_told (without_told asks grant) grant.id.attempt) ≡ false
no_master_told asks grant none = by (answered_ask asks grant)
  where
    kept : (ask one : Ask) (b : Bool) → (if b then record one { count = one.count - 1 } else one).priority ≡ one.priority
    kept ask one true = refl
    kept ask one false = refl

    less : (ask : Ask) (list : List Ask) → list_any is_zero list ≡ false → list_any is_zero (map (ask_lessened ask) list) ≡ false
    less ask [] none = none
    less ask (one ∷ list) none =
        let same : (ask_lessened ask one).priority ≡ one.priority = kept ask one (is_same_ask ask one) in
        rw same (more (one.priority == 0) refl (less ask list))
      where
        more : (b : Bool) → (one.priority == 0) ≡ b → (list_any is_zero list ≡ false → list_any is_zero (map (ask_lessened ask) list) ≡ false) → ((one.priority == 0) || list_any is_zero (map (ask_lessened ask) list)) ≡ false
        more true e rest = absurd (let x : true ≡ false = rw e at none in false≢true (sym x))
        more false e rest = rw e (rest (rw e at none))

    by : (o : Option Ask) → list_any is_zero (asks_told (asks_lessened grant.id.attempt asks o) grant.id.attempt) ≡ false
    by None = none
    by (Some ask) =
        ap (list_any is_zero) (own_lessened grant.id.attempt ask asks)
        ∙ any_filter is_zero (λ one. nat_lt 0 one.count) (map (ask_lessened ask) (asks_told asks grant.id.attempt)) (less ask (asks_told asks grant.id.attempt) none)

module _ (asks : List AskOf) (grant : Grant) where
  -- a master's ask is counted no more after its grant
  asked_master : asks_told asks grant.id.attempt ≡ line_of grant.size ∷ [] → (q : AttemptId) → count_by (is_ask q) asks ≡ one_if (is_attempt grant.id.attempt q) (count_by (is_ask q) (without_told asks grant))
  asked_master line q = by (is_attempt grant.id.attempt q) refl
    where
      own : count_by (is_ask grant.id.attempt) asks ≡ one_if true (count_by (is_ask grant.id.attempt) (without_told asks grant))
      own = count_told grant.id.attempt asks ∙ ap (count_by is_zero) line ∙ ap (one_if true) (sym (count_told grant.id.attempt (without_told asks grant) ∙ ap (count_by is_zero) (own_told asks grant line)))

      by : (b : Bool) → is_attempt grant.id.attempt q ≡ b → count_by (is_ask q) asks ≡ one_if b (count_by (is_ask q) (without_told asks grant))
      by true e = subst (λ (a : AttemptId). count_by (is_ask a) asks ≡ one_if true (count_by (is_ask a) (without_told asks grant))) (same_attempt grant.id.attempt q e) own
      by false e = count_told q asks ∙ ap (count_by is_zero) (sym (other_told asks grant q e)) ∙ sym (count_told q (without_told asks grant))

  -- and no ask for a master falls by a grant to an attempt that doesn't ask for its own
  asked_more : count_by (is_ask grant.id.attempt) asks ≡ 0 → (q : AttemptId) → count_by (is_ask q) (without_told asks grant) ≡ count_by (is_ask q) asks
  asked_more none q = by (is_attempt grant.id.attempt q) refl
    where
      own : count_by (is_ask grant.id.attempt) (without_told asks grant) ≡ count_by (is_ask grant.id.attempt) asks
      own =
          let before : list_any is_zero (asks_told asks grant.id.attempt) ≡ false = none_under is_zero is_zero (λ one e. e) (asks_told asks grant.id.attempt) (sym (count_told grant.id.attempt asks) ∙ none) in
          count_told grant.id.attempt (without_told asks grant)
          ∙ fails_never is_zero (asks_told (without_told asks grant) grant.id.attempt) (no_master_told asks grant before) ∙ sym none

      by : (b : Bool) → is_attempt grant.id.attempt q ≡ b → count_by (is_ask q) (without_told asks grant) ≡ count_by (is_ask q) asks
      by true e = subst (λ (a : AttemptId). count_by (is_ask a) (without_told asks grant) ≡ count_by (is_ask a) asks) (same_attempt grant.id.attempt q e) own
      by false e = count_told q (without_told asks grant) ∙ ap (count_by is_zero) (other_told asks grant q e) ∙ sym (count_told q asks)

-- WHO IS READY

-- the attempt of a grant is ready for it
abbrev pub IsReady : List (AppId × Option AppRow) → List AskOf → Grant → Type 0
IsReady rows asks grant = Ready (row_of rows grant.id.attempt.app) (asks_told asks grant.id.attempt) grant.id.attempt.number grant.size

-- whether it waits, by its state
waits_is : (o : Option AppRow) (asks : List Ask) (number : ℕ) (size : Resource) (r : Ready o asks number size) → waits_for_master o ≡ waits_at r.current.state
waits_is o asks number size r = ap waits_for_master r.found ∙ ap waits_with r.is

going_waits : (s : AttemptState) → Alive s ⊎ (s ≡ attempts.Ending) → waits_at s ≡ false
going_waits s (inl (inl e)) = rw e refl
going_waits s (inl (inr (inl e))) = rw e refl
going_waits s (inl (inr (inr e))) = rw e refl
going_waits s (inr e) = rw e refl

-- a grant leaves the state of one that lives, or whose end is issued
going_state : (id : ContainerId) (one : Current) (s : AttemptState) → Alive s ⊎ (s ≡ attempts.Ending) → one.state ≡ s → (granted_at s id one).state ≡ s
going_state id one s (inl (inl e)) is = rw e (is ∙ e)
going_state id one s (inl (inr (inl e))) is = rw e (is ∙ e)
going_state id one s (inl (inr (inr e))) is = rw e (is ∙ e)
going_state id one s (inr e) is = rw e (is ∙ e)

-- one that waits after a grant waited before it
pub waited : (grant : Grant) (rows : List (AppId × Option AppRow)) (id : AppId) → waits_for_master (row_of (rows_after_grant rows grant) id) ≡ true → waits_for_master (row_of rows id) ≡ true
waited grant rows id e = by (is_app grant.id.attempt.app id) (row_of rows id) (sym (ap waits_for_master (row_changed (counting grant) grant.id.attempt.app id rows)) ∙ e)
  where
    at : (s : AttemptState) (one : Current) → one.state ≡ s → waits_at (granted_at s grant.id one).state ≡ true → waits_at s ≡ true
    at attempts.Scheduled one is e = refl
    at _ one is e = subst (λ (s : AttemptState). waits_at s ≡ true) is e

    with : (row : AppRow) (o : Option Current) → row.current ≡ o → waits_for_master (Some (counting grant row)) ≡ true → waits_for_master (Some row) ≡ true
    with row None is e = absurd (let x : false ≡ true = rw is at e in false≢true x)
    with row (Some one) is e = let f : waits_at (granted_at one.state grant.id one).state ≡ true = rw is at e in rw is (at one.state one refl f)

    by : (b : Bool) (o : Option AppRow) → waits_for_master (changed_if b (counting grant) o) ≡ true → waits_for_master o ≡ true
    by true None e = e
    by true (Some row) e = with row row.current refl e
    by false o e = e

-- an attempt that is ready after another's grant, and whether it waits
pub record Still (rows : List (AppId × Option AppRow)) (asks : List AskOf) (grant next : Grant) : Type 0 where
  pub ready : IsReady (rows_after_grant rows grant) (without_told asks grant) next
  pub waits : waits_for_master (row_of (rows_after_grant rows grant) next.id.attempt.app) ≡ waits_for_master (row_of rows next.id.attempt.app)

pub still_ready : (rows : List (AppId × Option AppRow)) (asks : List AskOf) (grant next : Grant) → IsReady rows asks grant → IsReady rows asks next
    → (waits_for_master (row_of rows grant.id.attempt.app) ≡ true → is_app grant.id.attempt.app next.id.attempt.app ≡ false) → Still rows asks grant next
still_ready rows asks grant next own r apart = by (is_app grant.id.attempt.app next.id.attempt.app) refl
  where
    after : row_of (rows_after_grant rows grant) next.id.attempt.app ≡ changed_if (is_app grant.id.attempt.app next.id.attempt.app) (counting grant) (row_of rows next.id.attempt.app)
    after = row_changed (counting grant) grant.id.attempt.app next.id.attempt.app rows

    goes : (b : Bool) → waits_for_master (row_of rows grant.id.attempt.app) ≡ b → is_app grant.id.attempt.app next.id.attempt.app ≡ true → Alive own.current.state ⊎ (own.current.state ≡ attempts.Ending)
    goes true e same = absurd (false≢true (sym (apart e) ∙ same))
    goes false e same = kind own.kind
      where
        kind : Waits own.current.state (asks_told asks grant.id.attempt) grant.size ⊎ (Alive own.current.state ⊎ (own.current.state ≡ attempts.Ending)) → Alive own.current.state ⊎ (own.current.state ≡ attempts.Ending)
        kind (inl w) =
            let waits : waits_for_master (row_of rows grant.id.attempt.app) ≡ true = waits_is _ _ _ _ own ∙ ap waits_at w.is in
            absurd (false≢true (sym e ∙ waits))
        kind (inr state) = state

    by : (b : Bool) → is_app grant.id.attempt.app next.id.attempt.app ≡ b → Still rows asks grant next
    by false e =
        let row : row_of (rows_after_grant rows grant) next.id.attempt.app ≡ row_of rows next.id.attempt.app = after ∙ ap (λ (b : Bool). changed_if b (counting grant) (row_of rows next.id.attempt.app)) e in
        let other : is_attempt grant.id.attempt next.id.attempt ≡ false = rw e refl in
        record {
          ready =
              subst (λ (o : Option AppRow). Ready o (asks_told (without_told asks grant) next.id.attempt) next.id.attempt.number next.size) (sym row)
              (subst (λ (l : List Ask). Ready (row_of rows next.id.attempt.app) l next.id.attempt.number next.size) (sym (other_told asks grant next.id.attempt other)) r);
          waits = ap waits_for_master row;
        }
    by true e =
        let here : Some own.row ≡ Some r.row = sym own.found ∙ ap (row_of rows) (same_app grant.id.attempt.app next.id.attempt.app e) ∙ r.found in
        let row : own.row ≡ r.row = cc in
        let one : Some own.current ≡ Some r.current = sym own.is ∙ ap (λ (x : AppRow). x.current) row ∙ r.is in
        let current : own.current ≡ r.current = cc in
        let state : Alive r.current.state ⊎ (r.current.state ≡ attempts.Ending) =
        subst (λ (x : Current). Alive x.state ⊎ (x.state ≡ attempts.Ending)) current (goes (waits_for_master (row_of rows grant.id.attempt.app)) refl e) in
        let now : (granted grant.id r.current).state ≡ r.current.state = going_state grant.id r.current r.current.state state refl in
        let found : row_of (rows_after_grant rows grant) next.id.attempt.app ≡ Some (counting grant r.row) =
        after ∙ ap (λ (b : Bool). changed_if b (counting grant) (row_of rows next.id.attempt.app)) e ∙ ap (changed_if true (counting grant)) r.found in
        let is : (counting grant r.row).current ≡ Some (granted grant.id r.current) = rw r.is refl in
        record {
          ready =
              record {
                row = counting grant r.row;
                found = found;
                current = granted grant.id r.current;
                is = is;
                numbered = ap (λ (n : ℕ). n == next.id.attempt.number) (granted_keeps r.current.state grant.id r.current).0 ∙ r.numbered;
                kind = inr (subst (λ (s : AttemptState). Alive s ⊎ (s ≡ attempts.Ending)) (sym now) state);
              };
          waits = ap waits_for_master found ∙ ap waits_with is ∙ ap waits_at now ∙ sym (waits_is _ _ _ _ r);
        }

-- ONE GRANT

module _ (h : History) (t : Tables) (grant : Grant) where
  -- the history and the tables after it
  abbrev pub history_with : History
  history_with = record h { granted = h.granted ++ grant.id ∷ []; asks = without_told h.asks grant; book = h.book ++ row_told grant ∷ [] }

  abbrev pub tables_with : Tables
  tables_with = record t { rows = rows_after_grant t.rows grant; main = t.main ++ masters_granted t.rows (grant ∷ []) }

  module _ (settings : Settings) (says : AttemptsInvariant settings h t) (all : ContainersInvariant h t) (each : RecordsAreSound t.tree.apps) (book : BookInvariant (abstract_life h t) Nothing) (epoch : grant.id.epoch ≡ t.epoch)
      (seq : grant.id.seq ≡ grants_of h.granted grant.id.attempt + 1) (ready : IsReady t.rows h.asks grant) where
    new : IsNew (abstract_life h t) grant.id
    new = (epoch, omega (arith, seq))

    -- all holds after it
    pub one_says : AttemptsInvariant settings history_with tables_with × ContainersInvariant history_with tables_with
    one_says = by ready.kind
      where
        posts : (b : Bool) → waits_for_master (row_of t.rows grant.id.attempt.app) ≡ b → masters_granted t.rows (grant ∷ []) ≡ cond b (mains.MasterGranted grant.id ∷ []) []
        posts true e = rw e refl
        posts false e = rw e refl

        by : Waits ready.current.state (asks_told h.asks grant.id.attempt) grant.size ⊎ (Alive ready.current.state ⊎ (ready.current.state ≡ attempts.Ending))
            → AttemptsInvariant settings history_with tables_with × ContainersInvariant history_with tables_with
        by (inl w) =
            let posted : masters_granted t.rows (grant ∷ []) ≡ mains.MasterGranted grant.id ∷ [] = posts true (waits_is _ _ _ _ ready ∙ ap waits_at w.is) in
            let fresh = not_left (abstract_life h t) h.endings.left grant.id new book.left in
            let asked = asked_master h.asks grant w.line in
            subst (λ (events : List MainEvent).
            AttemptsInvariant settings history_with (record t { rows = rows_after_grant t.rows grant; main = t.main ++ events }) × ContainersInvariant history_with (record t { rows = rows_after_grant t.rows grant; main = t.main ++ events })) (sym posted) (
              master_says settings h t says all (row_told grant) (without_told h.asks grant) (h.granted ++ grant.id ∷ []) ready.row ready.found ready.current ready.is ready.numbered (waiting_clean settings h t says each grant.id ready.row ready.found ready.current ready.is ready.numbered w.is) w.is asked fresh,
              master_marks settings h t says all (row_told grant) (without_told h.asks grant) (h.granted ++ grant.id ∷ []) ready.row ready.found ready.current ready.is ready.numbered (waiting_clean settings h t says each grant.id ready.row ready.found ready.current ready.is ready.numbered w.is) w.is asked fresh,
            )
        by (inr state) =
            let posted : masters_granted t.rows (grant ∷ []) ≡ [] = posts false (waits_is _ _ _ _ ready ∙ going_waits ready.current.state state) in
            let same : t.main ++ masters_granted t.rows (grant ∷ []) ≡ t.main = ap (λ (events : List MainEvent). t.main ++ events) posted ∙ append-nil t.main in
            let left = not_left (abstract_life h t) h.endings.left grant.id new book.left in
            let living = not_living (abstract_life h t) Nothing h.book grant.id new book.rows in
            let asked = asked_more h.asks grant (none state) in
            subst (λ (events : List MainEvent).
            AttemptsInvariant settings history_with (record t { rows = rows_after_grant t.rows grant; main = events }) × ContainersInvariant history_with (record t { rows = rows_after_grant t.rows grant; main = events })) (sym same) (
              granted_says settings h t says all (row_told grant) (without_told h.asks grant) (h.granted ++ grant.id ∷ []) ready.row ready.found ready.current ready.is ready.numbered (going_clean settings h t says each grant.id ready.row ready.found ready.current ready.is ready.numbered state) state asked (inl (living, left)),
              granted_more_marks settings h t says all (row_told grant) (without_told h.asks grant) (h.granted ++ grant.id ∷ []) ready.row ready.found ready.current ready.is ready.numbered (going_clean settings h t says each grant.id ready.row ready.found ready.current ready.is ready.numbered state) state asked (inl (living, left)),
            )
          where
            none : Alive ready.current.state ⊎ (ready.current.state ≡ attempts.Ending) → count_by (is_ask grant.id.attempt) h.asks ≡ 0
            none state =
                off (asks_say settings grant.id.attempt ready.row ready.current (view h t grant.id.attempt) ready.is ready.numbered
                (subst (λ (o : Option AppRow). RowInvariant settings grant.id.attempt o (view h t grant.id.attempt)) ready.found (says grant.id.attempt)))
              where
                off : ((ready.current.state ≡ attempts.Scheduled) × (count_by (is_ask grant.id.attempt) h.asks ≤ 1)) ⊎ (count_by (is_ask grant.id.attempt) h.asks ≡ 0) → count_by (is_ask grant.id.attempt) h.asks ≡ 0
                off (inl w) = absurd (false≢true (sym (going_waits ready.current.state state) ∙ ap waits_at w.0))
                off (inr e) = e
