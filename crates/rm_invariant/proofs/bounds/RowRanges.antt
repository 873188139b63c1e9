-- The rows of applications stay in their ranges by each change, and nothing more is granted by any but a grant.
use Rattle.rm_invariant.proofs.Common.{◌≡◌, ◌≤◌, ◌^◌, ◌-◌, ◌⊎◌, inl, inr, ℕ, ◌+◌, List, [], ◌∷◌, ◌++◌, Bool, true, false, Option, None, Some, refl, sym, ◌∙◌, ap, subst, arith, if◌then◌else◌, AppId, AttemptId, ContainerId, Submission, Reply, Note, is_app, IsContainerId, IsText, IsWithin, same_app, AttemptState, AttemptChange, RowChange, SchedEvent, AppRow, Current, Dialogue, attempt_after, changed, current_after, granted_at, closed, closed_in, closed_one, finishing_in, granted_number, granted_to, row_in, row_of, with_row, without_row, dialogue_begun, registered_row, said_row, told_row, with_answer, with_text, without_closings}
use Rattle.std.proofs.Common.{◌==◌, count_by}
use Rattle.rm_types.specs.Ranges.{IsSubmission}
use Rattle.rm_states.specs.declared.attempt.states.AttemptState.TheVariants as attempts
use Rattle.rm_tables.specs.declared.changes.AttemptChange.TheVariants as of_attempt
use Rattle.rm_tables.specs.declared.changes.RowChange.TheVariants as of_app
use Rattle.rm_tables.specs.Changes.{dialogue_after, pending_after}
use Rattle.rm_invariant.specs.apps.View.{changed_if, gone_if}
use Rattle.rm_invariant.proofs.apps.Found.{row_changed}
use Rattle.rm_invariant.proofs.apps.Removing.{row_gone}
use Rattle.rm_invariant.specs.bounds.InBounds.{AreGrants, AreRows, IfThere, IsCurrent, IsRow, is_update}
use Rattle.rm_types.specs.declared.containers.ClosingOf.{ClosingOf}

-- ROWS THAT CHANGE

-- the row of an application changes
pub rows_with : (f : AppRow → AppRow) (id : AppId) (rows : List (AppId × Option AppRow)) → ((row : AppRow) → row_of rows id ≡ Some row → IsRow id row → IsRow id (f row)) → AreRows rows → AreRows (with_row f id rows)
rows_with f id rows keeps are = record { each = λ q row found. by q row (is_app id q) refl (row_of rows q) refl (sym (row_changed f id q rows) ∙ found) }
  where
    by : (q : AppId) (row : AppRow) (b : Bool) → is_app id q ≡ b → (o : Option AppRow) → row_of rows q ≡ o → changed_if b f o ≡ Some row → IsRow q row
    by q row true e None g is = cc
    by q row true e (Some one) g is =
        let same : f one ≡ row = cc in
        let here : id ≡ q = same_app id q e in
        let found : row_of rows id ≡ Some one = ap (row_of rows) here ∙ g in
        subst (IsRow q) same (subst (λ (x : AppId). IsRow x (f one)) here (keeps one found (are.each id one found)))
    by q row false e o g is = are.each q row (g ∙ is)

-- nothing more is granted in these rows
abbrev pub NoMoreGranted : List (AppId × Option AppRow) → List (AppId × Option AppRow) → Type 0
NoMoreGranted rows now = (q : AttemptId) → granted_number q.number (row_of now q.app) ≤ granted_number q.number (row_of rows q.app)

abbrev pub GrantsNoMore : (AppRow → AppRow) → Type 0
GrantsNoMore f = (row : AppRow) (number : ℕ) → granted_to number (f row).current ≤ granted_to number row.current

pub grants_with : (f : AppRow → AppRow) (id : AppId) (rows : List (AppId × Option AppRow)) → GrantsNoMore f → NoMoreGranted rows (with_row f id rows)
grants_with f id rows less q =
    let here = by (is_app id q.app) (row_of rows q.app) in
    let same : granted_number q.number (row_of (with_row f id rows) q.app) ≡ granted_number q.number (changed_if (is_app id q.app) f (row_of rows q.app)) = ap (granted_number q.number) (row_changed f id q.app rows) in
    omega (arith, here, same)
  where
    by : (b : Bool) (o : Option AppRow) → granted_number q.number (changed_if b f o) ≤ granted_number q.number o
    by true None = omega arith
    by true (Some row) = less row q.number
    by false o = omega arith

-- what was granted stays within what messages allow
pub grants_less : (rows now : List (AppId × Option AppRow)) (sched queue : List SchedEvent) (served count : ℕ) → NoMoreGranted rows now → count_by is_update queue + served ≤ count_by is_update sched + count → served ≤ count
    → AreGrants rows sched served → AreGrants now queue count
grants_less rows now sched queue served count less fewer later are =
    record { each = λ q. let a = less q in let b = are.each q in omega (arith, a, b, fewer, later) }

-- THE CHANGES OF AN APPLICATION

-- a change has its parts in their ranges
abbrev pub IsAttemptChange : AttemptChange → Type 0
IsAttemptChange (of_attempt.Grant container) = IsContainerId container
IsAttemptChange of_attempt.Requeue = Unit {0}
IsAttemptChange of_attempt.Issue = Unit {0}
IsAttemptChange of_attempt.Lose = Unit {0}
IsAttemptChange of_attempt.Keep = Unit {0}
IsAttemptChange of_attempt.Finish = Unit {0}
IsAttemptChange (of_attempt.End how) = Unit {0}
IsAttemptChange (of_attempt.KeepEnd how) = Unit {0}

abbrev pub IsChange : RowChange → Type 0
IsChange of_app.Issue = Unit {0}
IsChange of_app.Keep = Unit {0}
IsChange of_app.Wish = Unit {0}
IsChange of_app.Kill = Unit {0}
IsChange (of_app.Schedule number) = IsWithin 1 (2 ^ 31 - 1) number
IsChange of_app.Register = Unit {0}
IsChange of_app.End = Unit {0}
IsChange (of_app.KeepEnd how) = Unit {0}
IsChange (of_app.OfAttempt change) = IsAttemptChange change

granted_is : (s : AttemptState) (container : ContainerId) (current : Current) → IsContainerId container → IsCurrent current → IsCurrent (granted_at s container current)
granted_is attempts.Scheduled container current is own = record { number = own.number; master = is }
granted_is _ container current is own = record { number = own.number; master = own.master }

attempt_is : (change : AttemptChange) (current : Current) → IsAttemptChange change → IsCurrent current → IsCurrent (attempt_after change current)
attempt_is (of_attempt.Grant container) current is own = granted_is current.state container current is own
attempt_is of_attempt.Requeue current is own = record { number = own.number; master = tt }
attempt_is _ current is own = record { number = own.number; master = own.master }

current_is : (change : RowChange) (o : Option Current) → IsChange change → IfThere IsCurrent o → IfThere IsCurrent (current_after change o)
current_is (of_app.Schedule number) o is own = record { number = is; master = tt }
current_is of_app.Issue (Some current) is own = own
current_is of_app.Keep (Some current) is own = own
current_is of_app.Wish (Some current) is own = own
current_is of_app.Kill (Some current) is own = record { number = own.number; master = own.master }
current_is of_app.Register (Some current) is own = record { number = own.number; master = own.master }
current_is of_app.End (Some current) is own = record { number = own.number; master = own.master }
current_is (of_app.KeepEnd how) (Some current) is own = own
current_is (of_app.OfAttempt change) (Some current) is own = attempt_is change current is own
current_is _ None is own = tt

pending_is : (change : RowChange) (o : Option Submission) → IfThere IsSubmission o → IfThere IsSubmission (pending_after change o)
pending_is of_app.Keep o is = tt
pending_is _ o is = is

said_is : (change : RowChange) (o : Option Dialogue) → IfThere (IsText Note) (finishing_in o) → IfThere (IsText Note) (finishing_in (dialogue_after change o))
said_is (of_app.Schedule number) o is = tt
said_is _ o is = is

-- a row stays in its range by it
pub changed_is : (change : RowChange) (id : AppId) (row : AppRow) → IsChange change → IsRow id row → IsRow id (changed change row)
changed_is change id row is own =
    record { named = own.named; pending = pending_is change row.pending own.pending; current = current_is change row.current is own.current; said = said_is change row.dialogue own.said }

-- and so do all rows
pub rows_changed : (change : RowChange) (id : AppId) (rows : List (AppId × Option AppRow)) → IsChange change → AreRows rows → AreRows (with_row (changed change) id rows)
rows_changed change id rows is are = rows_with (changed change) id rows (λ row found own. changed_is change id row is own) are

-- the change is no grant
abbrev pub is_no_grant_to : AttemptChange → Bool
is_no_grant_to (of_attempt.Grant container) = false
is_no_grant_to of_attempt.Requeue = true
is_no_grant_to of_attempt.Issue = true
is_no_grant_to of_attempt.Lose = true
is_no_grant_to of_attempt.Keep = true
is_no_grant_to of_attempt.Finish = true
is_no_grant_to (of_attempt.End how) = true
is_no_grant_to (of_attempt.KeepEnd how) = true

abbrev pub is_no_grant : RowChange → Bool
is_no_grant of_app.Issue = true
is_no_grant of_app.Keep = true
is_no_grant of_app.Wish = true
is_no_grant of_app.Kill = true
is_no_grant (of_app.Schedule number) = true
is_no_grant of_app.Register = true
is_no_grant of_app.End = true
is_no_grant (of_app.KeepEnd how) = true
is_no_grant (of_app.OfAttempt change) = is_no_grant_to change

none_granted : (b : Bool) (n : ℕ) → (if b then 0 else 0) ≤ n
none_granted true n = omega arith
none_granted false n = omega arith

attempt_less : (change : AttemptChange) (current : Current) (number : ℕ) → is_no_grant_to change ≡ true → granted_to number (Some (attempt_after change current)) ≤ granted_to number (Some current)
attempt_less (of_attempt.Grant container) current number is = cc
attempt_less _ current number is = omega arith

current_less : (change : RowChange) (o : Option Current) (number : ℕ) → is_no_grant change ≡ true → granted_to number (current_after change o) ≤ granted_to number o
current_less (of_app.Schedule next) o number is = none_granted (next == number) (granted_to number o)
current_less of_app.Issue None number is = omega arith
current_less of_app.Issue (Some current) number is = omega arith
current_less of_app.Keep None number is = omega arith
current_less of_app.Keep (Some current) number is = omega arith
current_less of_app.Wish None number is = omega arith
current_less of_app.Wish (Some current) number is = omega arith
current_less of_app.Kill None number is = omega arith
current_less of_app.Kill (Some current) number is = omega arith
current_less of_app.Register None number is = omega arith
current_less of_app.Register (Some current) number is = omega arith
current_less of_app.End None number is = omega arith
current_less of_app.End (Some current) number is = omega arith
current_less (of_app.KeepEnd how) None number is = omega arith
current_less (of_app.KeepEnd how) (Some current) number is = omega arith
current_less (of_app.OfAttempt change) None number is = omega arith
current_less (of_app.OfAttempt change) (Some current) number is = attempt_less change current number is

pub grants_changed : (change : RowChange) (id : AppId) (rows : List (AppId × Option AppRow)) → is_no_grant change ≡ true → NoMoreGranted rows (with_row (changed change) id rows)
grants_changed change id rows is = grants_with (changed change) id rows (λ row number. current_less change row.current number is)

-- ENDINGS TO BE TOLD

pub rows_closed : (closings : List ClosingOf) (rows : List (AppId × Option AppRow)) → AreRows rows → AreRows (closed_in rows closings)
rows_closed [] rows are = are
rows_closed (closing ∷ closings) rows are =
    rows_closed closings (closed_one rows closing)
    (rows_with (closed closing) closing.attempt.app rows (λ row found own. record { named = own.named; pending = own.pending; current = own.current; said = own.said }) are)

pub grants_closed : (closings : List ClosingOf) (rows : List (AppId × Option AppRow)) → NoMoreGranted rows (closed_in rows closings)
grants_closed [] rows q = omega arith
grants_closed (closing ∷ closings) rows q =
    let first = grants_with (closed closing) closing.attempt.app rows (λ row number. omega arith) q in
    let rest = grants_closed closings (closed_one rows closing) q in
    omega (arith, first, rest)

-- WHAT IS SAID TO A MASTER AND BY IT

pub rows_registered : (reply : Reply) (told : ℕ) (id : AppId) (rows : List (AppId × Option AppRow)) → AreRows rows → AreRows (with_row (registered_row (dialogue_begun reply told)) id rows)
rows_registered reply told id rows are =
    rows_with (registered_row (dialogue_begun reply told)) id rows (λ row found own. record { named = own.named; pending = own.pending; current = current_is of_app.Register row.current tt own.current; said = tt }) are

pub rows_said : (text : List ℕ) → IsText Note text → (id : AppId) (rows : List (AppId × Option AppRow)) → AreRows rows → AreRows (with_row (said_row (with_text text)) id rows)
rows_said text is id rows are =
    rows_with (said_row (with_text text)) id rows
    (λ row found own. record { named = own.named; pending = own.pending; current = current_is (of_app.OfAttempt of_attempt.Finish) row.current tt own.current; said = by row.dialogue }) are
  where
    by : (o : Option Dialogue) → IfThere (IsText Note) (finishing_in (with_text text o))
    by None = tt
    by (Some one) = is

pub rows_answered : (attempt : AttemptId) (next : ℕ) (reply : Reply) (told : ℕ) (id : AppId) (rows : List (AppId × Option AppRow)) → AreRows rows
    → AreRows (with_row (told_row (with_answer next reply told) (without_closings attempt)) id rows)
rows_answered attempt next reply told id rows are =
    rows_with (told_row (with_answer next reply told) (without_closings attempt)) id rows
    (λ row found own. record { named = own.named; pending = own.pending; current = own.current; said = by row.dialogue own.said }) are
  where
    by : (o : Option Dialogue) → IfThere (IsText Note) (finishing_in o) → IfThere (IsText Note) (finishing_in (with_answer next reply told o))
    by None is = tt
    by (Some one) is = is

pub grants_registered : (reply : Reply) (told : ℕ) (id : AppId) (rows : List (AppId × Option AppRow)) → NoMoreGranted rows (with_row (registered_row (dialogue_begun reply told)) id rows)
grants_registered reply told id rows = grants_with (registered_row (dialogue_begun reply told)) id rows (λ row number. current_less of_app.Register row.current number refl)

pub grants_said : (text : List ℕ) (id : AppId) (rows : List (AppId × Option AppRow)) → NoMoreGranted rows (with_row (said_row (with_text text)) id rows)
grants_said text id rows = grants_with (said_row (with_text text)) id rows (λ row number. current_less (of_app.OfAttempt of_attempt.Finish) row.current number refl)

pub grants_answered : (attempt : AttemptId) (next : ℕ) (reply : Reply) (told : ℕ) (id : AppId) (rows : List (AppId × Option AppRow))
    → NoMoreGranted rows (with_row (told_row (with_answer next reply told) (without_closings attempt)) id rows)
grants_answered attempt next reply told id rows = grants_with (told_row (with_answer next reply told) (without_closings attempt)) id rows (λ row number. omega arith)

-- ROWS THAT COME AND GO

pub rows_gone : (id : AppId) (rows : List (AppId × Option AppRow)) → AreRows rows → AreRows (without_row id rows)
rows_gone id rows are = record { each = λ q row found. by q row (is_app id q) (sym (row_gone id q rows) ∙ found) }
  where
    by : (q : AppId) (row : AppRow) (b : Bool) → gone_if b (row_of rows q) ≡ Some row → IsRow q row
    by q row true e = cc
    by q row false e = are.each q row e

pub grants_gone : (id : AppId) (rows : List (AppId × Option AppRow)) → NoMoreGranted rows (without_row id rows)
grants_gone id rows q =
    let same : granted_number q.number (row_of (without_row id rows) q.app) ≡ granted_number q.number (gone_if (is_app id q.app) (row_of rows q.app)) = ap (granted_number q.number) (row_gone id q.app rows) in
    let here = by (is_app id q.app) (row_of rows q.app) in
    omega (arith, same, here)
  where
    by : (b : Bool) (o : Option AppRow) → granted_number q.number (gone_if b o) ≤ granted_number q.number o
    by true o = omega arith
    by false o = omega arith

-- the row of an application is one of the old ones, or is the new one
row_more : (id q : AppId) (new row : AppRow) (rows : List (AppId × Option AppRow)) → row_of (rows ++ (id, Some new) ∷ []) q ≡ Some row → (row_of rows q ≡ Some row) ⊎ ((id ≡ q) × (new ≡ row))
row_more id q new row [] e = by (is_app q id) refl e
  where
    by : (b : Bool) → is_app q id ≡ b → row_in (if b then Some (Some new) else None) ≡ Some row → (row_of [] q ≡ Some row) ⊎ ((id ≡ q) × (new ≡ row))
    by true f is = let same : new ≡ row = cc in inr (sym (same_app q id f), same)
    by false f is = cc
row_more id q new row (one ∷ rows) e = by (is_app q one.0) refl (row_more id q new row rows)
  where
    by : (b : Bool) → is_app q one.0 ≡ b → (row_of (rows ++ (id, Some new) ∷ []) q ≡ Some row → (row_of rows q ≡ Some row) ⊎ ((id ≡ q) × (new ≡ row)))
        → (row_of (one ∷ rows) q ≡ Some row) ⊎ ((id ≡ q) × (new ≡ row))
    by true f rest = rw f (inl (rw f at e))
    by false f rest = rw f (rest (rw f at e))

pub rows_put : (id : AppId) (new : AppRow) (rows : List (AppId × Option AppRow)) → IsRow id new → AreRows rows → AreRows (rows ++ (id, Some new) ∷ [])
rows_put id new rows is are = record { each = λ q row found. by q row (row_more id q new row rows found) }
  where
    by : (q : AppId) (row : AppRow) → (row_of rows q ≡ Some row) ⊎ ((id ≡ q) × (new ≡ row)) → IsRow q row
    by q row (inl old) = are.each q row old
    by q row (inr both) = subst (IsRow q) both.1 (subst (λ (x : AppId). IsRow x new) both.0 is)

pub grants_put : (id : AppId) (new : AppRow) (rows : List (AppId × Option AppRow)) → new.current ≡ None → NoMoreGranted rows (rows ++ (id, Some new) ∷ [])
grants_put id new rows none q = by (row_of (rows ++ (id, Some new) ∷ []) q.app) refl
  where
    by : (o : Option AppRow) → row_of (rows ++ (id, Some new) ∷ []) q.app ≡ o → granted_number q.number o ≤ granted_number q.number (row_of rows q.app)
    by None e = omega arith
    by (Some row) e = at (row_more id q.app new row rows e)
      where
        at : (row_of rows q.app ≡ Some row) ⊎ ((id ≡ q.app) × (new ≡ row)) → granted_number q.number (Some row) ≤ granted_number q.number (row_of rows q.app)
        at (inl old) = let same : granted_number q.number (row_of rows q.app) ≡ granted_number q.number (Some row) = ap (granted_number q.number) old in omega (arith, same)
        at (inr both) =
            let nothing : granted_to q.number row.current ≡ 0 = ap (granted_to q.number) (ap (λ (r : AppRow). r.current) (sym both.1) ∙ none) in
            omega (arith, nothing)
