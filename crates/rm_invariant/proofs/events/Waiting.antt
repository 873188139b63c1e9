-- An attempt that asks for something waits for its master, for which it asks by its only line, or it lives, or its end is issued.
use Rattle.rm_invariant.proofs.Common.{◌≡◌, ◌≤◌, ◌⊎◌, inl, inr, ℕ, ◌||◌, List, [], ◌∷◌, Bool, true, false, not, Option, None, Some, refl, sym, ◌∙◌, ap, subst, arith, false≢true, nat_tests, Ask, AskOf, AttemptId, Resource, Settings, is_attempt, is_nil, by_priority, attempt_asks, AppState, AttemptState, is_alive, AppRow, Current, Tables, asks_some, waits_for_master, row_of, SameAsks, is_ending, History}
use Rattle.std.proofs.Common.{◌==◌, count_by}
use Rattle.rm_states.specs.declared.app.states.AppState.TheVariants as apps
use Rattle.rm_states.specs.declared.attempt.states.AttemptState.TheVariants as attempts
use Rattle.rm_model.specs.Passing.{asks_of as asks_told}
use Rattle.rm_invariant.specs.apps.Invariant.{ActiveInvariant, AttemptsInvariant, AttemptCounts, EndIssuedInvariant, RowInvariant, StateInvariant}
use Rattle.rm_invariant.specs.apps.View.{View, is_ask, one_if, view}
use Rattle.rm_invariant.proofs.apps.Counts.{at_front}
use Rattle.rm_invariant.specs.nodes.Book.{All}
use Rattle.rm_invariant.proofs.masters.Ends.{Alive}
use Rattle.rm_invariant.specs.events.Asking.{asks_others, is_current_number, is_numbered, is_numbered_in}
use Rattle.rm_invariant.specs.events.Masters.{MastersAskOnce, are_single, goes_in, goes_with}
use Rattle.rm_invariant.proofs.events.OnNode.{all_each}

-- an ask for a master
abbrev pub is_zero : Ask → Bool
is_zero one = one.priority == 0

-- the line by which an attempt asks for its master
abbrev pub line_of : Resource → Ask
line_of size = record { priority = 0; count = 1; size = size }

-- how many lines of an attempt ask for its master
pub count_told : (q : AttemptId) (asks : List AskOf) → count_by (is_ask q) asks ≡ count_by is_zero (asks_told asks q)
count_told q [] = refl
count_told q (one ∷ asks) = by (is_attempt one.attempt q) refl (count_told q asks)
  where
    by : (b : Bool) → is_attempt one.attempt q ≡ b → count_by (is_ask q) asks ≡ count_by is_zero (asks_told asks q) → count_by (is_ask q) (one ∷ asks) ≡ count_by is_zero (asks_told (one ∷ asks) q)
    by true e rest =
        let test : is_ask q one ≡ is_zero one.ask = rw e refl in
        let list : asks_told (one ∷ asks) q ≡ one.ask ∷ asks_told asks q = rw e refl in
        at_front (is_ask q) one asks ∙ ap (λ (c : Bool). one_if c (count_by (is_ask q) asks)) test ∙ ap (one_if (is_zero one.ask)) rest ∙ sym (at_front is_zero one.ask (asks_told asks q)) ∙ ap (count_by is_zero) (sym list)
    by false e rest =
        let test : is_ask q one ≡ false = rw e refl in
        let list : asks_told (one ∷ asks) q ≡ asks_told asks q = rw e refl in
        at_front (is_ask q) one asks ∙ ap (λ (c : Bool). one_if c (count_by (is_ask q) asks)) test ∙ rest ∙ ap (count_by is_zero) (sym list)

-- what the current attempt of an application may ask for
pub asks_say : (settings : Settings) (q : AttemptId) (row : AppRow) (current : Current) (v : View) → row.current ≡ Some current → (current.number == q.number) ≡ true → RowInvariant settings q (Some row) v
    → ((current.state ≡ attempts.Scheduled) × (v.count.asks ≤ 1)) ⊎ (v.count.asks ≡ 0)
asks_say settings q row current v is number says = by row.state says.1
  where
    at : (s : AttemptState) → current.state ≡ s → AttemptCounts q.number true s row.wish v → ((current.state ≡ attempts.Scheduled) × (v.count.asks ≤ 1)) ⊎ (v.count.asks ≡ 0)
    at attempts.Scheduled e here = let n = here.0 in inl (e, omega (arith, n))
    at attempts.Ended e here = inr (omega (arith, here))
    at attempts.Dropped e here = inr here
    at _ e here = let n = here.0 in inr (omega (arith, n))

    active : ActiveInvariant settings q row.current row.wish v → ((current.state ≡ attempts.Scheduled) × (v.count.asks ≤ 1)) ⊎ (v.count.asks ≡ 0)
    active old =
        let here : ActiveInvariant settings q (Some current) row.wish v = subst (λ (o : Option Current). ActiveInvariant settings q o row.wish v) is old in
        at current.state refl (subst (λ (b : Bool). AttemptCounts q.number b current.state row.wish v) number here.1)

    over : EndIssuedInvariant row.current v → ((current.state ≡ attempts.Scheduled) × (v.count.asks ≤ 1)) ⊎ (v.count.asks ≡ 0)
    over old = let here : EndIssuedInvariant (Some current) v = subst (λ (o : Option Current). EndIssuedInvariant o v) is old in inr here.1

    by : (state : AppState) → StateInvariant settings q state row v → ((current.state ≡ attempts.Scheduled) × (v.count.asks ≤ 1)) ⊎ (v.count.asks ≡ 0)
    by apps.New says = let none = says.0.none_queued in inr (omega (arith, none))
    by apps.NewSaving says = let none = says.0.none_queued in inr (omega (arith, none))
    by apps.Submitted says = let none = says.9 in inr (omega (arith, none))
    by apps.Accepted says = active says.3
    by apps.Running says = active says.3
    by apps.Killing says = active says.5
    by apps.FinalSaving says = over says.6
    by _ says = over says.5

-- the only line is a master's
only_line : (asks : List Ask) → asks_others asks ≡ false → count_by is_zero asks ≤ 1 → are_single asks ≡ true → not (is_nil asks) ≡ true → (size : Resource) × (asks ≡ line_of size ∷ [])
only_line [] none few single some = absurd (false≢true some)
only_line (one ∷ []) none few single some = by (one.priority == 0) refl (one.count == 1) refl
  where
    by : (b : Bool) → (one.priority == 0) ≡ b → (c : Bool) → (one.count == 1) ≡ c → (size : Resource) × (one ∷ [] ≡ line_of size ∷ [])
    by true e true f =
        let zero : one.priority ≡ 0 = grind (arith, nat_tests) in
        let first : one.count ≡ 1 = grind (arith, nat_tests) in
        (one.size, ap (λ (n : ℕ). record { priority = n; count = one.count; size = one.size } ∷ []) zero ∙ ap (λ (n : ℕ). record { priority = 0; count = n; size = one.size } ∷ []) first)
    by true e false f = absurd (let x : false ≡ true = rw (e, f) at single in false≢true x)
    by false e c f = absurd (let x : true ≡ false = rw e at none in false≢true (sym x))
only_line (one ∷ two ∷ asks) none few single some = by (one.priority == 0) refl (two.priority == 0) refl
  where
    by : (b : Bool) → (one.priority == 0) ≡ b → (c : Bool) → (two.priority == 0) ≡ c → (size : Resource) × (one ∷ two ∷ asks ≡ line_of size ∷ [])
    by true e true f =
        let first = at_front is_zero one (two ∷ asks) ∙ ap (λ (b : Bool). one_if b (count_by is_zero (two ∷ asks))) e in
        let second = at_front is_zero two asks ∙ ap (λ (b : Bool). one_if b (count_by is_zero asks)) f in
        absurd (omega (arith, few, first, second))
    by true e false f = absurd (let x : true ≡ false = rw (e, f) at none in false≢true (sym x))
    by false e c f = absurd (let x : true ≡ false = rw e at none in false≢true (sym x))

-- where none asks for a master, some ask for something else
others_some : (asks : List Ask) → not (is_nil asks) ≡ true → count_by is_zero asks ≡ 0 → asks_others asks ≡ true
others_some [] some none = absurd (false≢true some)
others_some (one ∷ asks) some none = by (one.priority == 0) refl
  where
    by : (b : Bool) → (one.priority == 0) ≡ b → asks_others (one ∷ asks) ≡ true
    by true e =
        let first = at_front is_zero one asks ∙ ap (λ (b : Bool). one_if b (count_by is_zero asks)) e in
        absurd (omega (arith, none, first))
    by false e = rw e refl

-- it waits for its master, and asks for a container of this size alone
pub record Waits (state : AttemptState) (asks : List Ask) (size : Resource) : Type 0 where
  pub is : state ≡ attempts.Scheduled
  pub line : asks ≡ line_of size ∷ []

-- an attempt by its application's row, its asks and its number: it is the current one, and waits for its master of this size, lives, or its
-- end is issued
pub record Ready (o : Option AppRow) (asks : List Ask) (number : ℕ) (size : Resource) : Type 0 where
  pub row : AppRow
  pub found : o ≡ Some row
  pub current : Current
  pub is : row.current ≡ Some current
  pub numbered : (current.number == number) ≡ true
  pub kind : Waits current.state asks size ⊎ (Alive current.state ⊎ (current.state ≡ attempts.Ending))

-- a state in which it lives, or its end is issued
goes_at : (s : AttemptState) → (is_alive s || is_ending s) ≡ true → Alive s ⊎ (s ≡ attempts.Ending)
goes_at attempts.Live e = inl (inl refl)
goes_at attempts.Registered e = inl (inr (inl refl))
goes_at attempts.Finishing e = inl (inr (inr refl))
goes_at attempts.Ending e = inr refl
goes_at _ e = cc

-- the row and the current attempt, found
pub record Found (o : Option AppRow) (number : ℕ) : Type 0 where
  pub row : AppRow
  pub found : o ≡ Some row
  pub current : Current
  pub is : row.current ≡ Some current
  pub numbered : (current.number == number) ≡ true

find_current : (number : ℕ) (o : Option AppRow) → is_numbered_in number o ≡ true → Found o number
find_current number None e = absurd (false≢true e)
find_current number (Some row) e = by row.current refl e
  where
    by : (o : Option Current) → row.current ≡ o → is_numbered number o ≡ true → Found (Some row) number
    by None is e = absurd (false≢true e)
    by (Some current) is e = record { row = row; found = refl; current = current; is = is; numbered = e }

-- what is said of an attempt that asks for something: it is ready for each ask that a pass comes to, and where it waits for its master
-- there is one, for one container
pub record Asker (o : Option AppRow) (asks : List Ask) (number : ℕ) : Type 0 where
  pub each : All (λ ask. Ready o asks number ask.size) (by_priority asks)
  pub alone : waits_for_master o ≡ true → (size : Resource) × (asks ≡ line_of size ∷ [])

not_waiting : (current : Current) (row : AppRow) (o : Option AppRow) → o ≡ Some row → row.current ≡ Some current → Alive current.state ⊎ (current.state ≡ attempts.Ending) → waits_for_master o ≡ false
not_waiting current row o found is (inl (inl e)) = rw (found, is, e) refl
not_waiting current row o found is (inl (inr (inl e))) = rw (found, is, e) refl
not_waiting current row o found is (inl (inr (inr e))) = rw (found, is, e) refl
not_waiting current row o found is (inr e) = rw (found, is, e) refl

module _ (settings : Settings) (h : History) (t : Tables) (says : AttemptsInvariant settings h t) (same : SameAsks t.asks h.asks) (once : MastersAskOnce t) (q : AttemptId) (some : asks_some t.asks q ≡ true)
    (at : is_current_number t.rows q ≡ true) where
  -- each attempt that asks for something
  pub asker : Asker (row_of t.rows q.app) (attempt_asks t.asks q) q.number
  asker = by (find_current q.number (row_of t.rows q.app) at)
    where
      counted : count_by (is_ask q) h.asks ≡ count_by is_zero (attempt_asks t.asks q)
      counted = count_told q h.asks ∙ ap (count_by is_zero) (sym (same q))

      by : Found (row_of t.rows q.app) q.number → Asker (row_of t.rows q.app) (attempt_asks t.asks q) q.number
      by f = kind (asks_say settings q f.row f.current (view h t q) f.is f.numbered (subst (λ (o : Option AppRow). RowInvariant settings q o (view h t q)) f.found (says q)))
        where
          goes : goes_in (row_of t.rows q.app) ≡ true → (is_alive f.current.state || is_ending f.current.state) ≡ true
          goes e = sym (ap goes_in f.found ∙ ap goes_with f.is) ∙ e

          alive : Alive f.current.state ⊎ (f.current.state ≡ attempts.Ending) → Asker (row_of t.rows q.app) (attempt_asks t.asks q) q.number
          alive state =
              record {
                each =
                    all_each (λ ask. Ready (row_of t.rows q.app) (attempt_asks t.asks q) q.number ask.size)
                    (λ ask. record { row = f.row; found = f.found; current = f.current; is = f.is; numbered = f.numbered; kind = inr state }) (by_priority (attempt_asks t.asks q));
                alone = λ e. absurd (false≢true (sym (not_waiting f.current f.row (row_of t.rows q.app) f.found f.is state) ∙ e));
              }

          scheduled : f.current.state ≡ attempts.Scheduled → (size : Resource) × (attempt_asks t.asks q ≡ line_of size ∷ []) → Asker (row_of t.rows q.app) (attempt_asks t.asks q) q.number
          scheduled st line =
              record {
                each =
                    subst (λ (l : List Ask). All (λ ask. Ready (row_of t.rows q.app) (attempt_asks t.asks q) q.number ask.size) (by_priority l)) (sym line.1)
                    (record { row = f.row; found = f.found; current = f.current; is = f.is; numbered = f.numbered; kind = inl (record { is = st; line = line.1 }) }, tt);
                alone = λ e. line;
              }

          waiting : f.current.state ≡ attempts.Scheduled → count_by (is_ask q) h.asks ≤ 1 → (b : Bool) → asks_others (attempt_asks t.asks q) ≡ b → Asker (row_of t.rows q.app) (attempt_asks t.asks q) q.number
          waiting st few true e =
              let busy = goes (once.others q e) in
              absurd (false≢true (sym (ap (λ (s : AttemptState). is_alive s || is_ending s) st) ∙ busy))
          waiting st few false e = scheduled st (only_line (attempt_asks t.asks q) e (subst (λ (n : ℕ). n ≤ 1) counted few) (once.single q) some)

          kind : ((f.current.state ≡ attempts.Scheduled) × (count_by (is_ask q) h.asks ≤ 1)) ⊎ (count_by (is_ask q) h.asks ≡ 0) → Asker (row_of t.rows q.app) (attempt_asks t.asks q) q.number
          kind (inl w) = waiting w.0 w.1 (asks_others (attempt_asks t.asks q)) refl
          kind (inr none) = alive (goes_at f.current.state (goes (once.others q (others_some (attempt_asks t.asks q) some (sym counted ∙ none)))))
