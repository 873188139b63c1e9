-- What holds of each row holds after one changes: whether it is there, whether its attempt goes on, and what it says of the end that awaits.
use Rattle.rm_invariant.proofs.Common.{◌≡◌, ℕ, List, ◌∷◌, [], ◌++◌, Bool, true, false, ◌||◌, Option, None, Some, refl, sym, ◌∙◌, ap, subst, arith, list_any, list_any-append, AppId, AttemptId, Op, is_app, Records, is_finished_op, AttemptState, is_alive, AppRow, Current, killed_state, row_of, with_row, finishes_by, is_ending, SchedEvent, bytes_eq, and_parts, same_app, same_text, NodeRow, node_row, with_node, other_row, own_row}
use Rattle.std.proofs.Common.{◌==◌, option_map}
use Rattle.rm_states.specs.declared.attempt.states.AttemptEvent.TheVariants as attempt_events
use Rattle.rm_states.specs.attempt.Table.{next_attempt_state as next_attempt_state}
use Rattle.rm_invariant.specs.events.MainFacts.{is_unissued}
use Rattle.rm_invariant.specs.apps.View.{changed_if}
use Rattle.rm_invariant.proofs.apps.Found.{retired_changed, row_changed}
use Rattle.rm_model.specs.State.{Release}
use Rattle.rm_tables.specs.declared.events.SchedEvent.TheVariants as scheds
use Rattle.rm_invariant.specs.events.Here.{AreServed}
use Rattle.rm_invariant.specs.auxiliary.Invariant.{NoneFirst, RetiredKnown, goes_by, goes_numbered}

-- an application is without a row after a change only where it was before
pub still_none : (f : AppRow → AppRow) (id q : AppId) (rows : List (AppId × Option AppRow)) → row_of (with_row f id rows) q ≡ None → row_of rows q ≡ None
still_none f id q rows e = by (is_app id q) (row_of rows q) (sym (row_changed f id q rows) ∙ e)
  where
    by : (b : Bool) (o : Option AppRow) → changed_if b f o ≡ None → o ≡ None
    by true None e = refl
    by true (Some row) e = cc
    by false o e = e

pub none_first_with : (first : Records) (retired : List AppId) (f : AppRow → AppRow) (id : AppId) (rows : List (AppId × Option AppRow)) → NoneFirst first retired rows → NoneFirst first retired (with_row f id rows)
none_first_with first retired f id rows before q none out = before q (still_none f id q rows none) out

pub retired_with : (retired : List AppId) (f : AppRow → AppRow) (id : AppId) (rows : List (AppId × Option AppRow)) → RetiredKnown retired rows → RetiredKnown retired (with_row f id rows)
retired_with retired f id rows before q = retired_changed f id q rows ∙ before q

module _ (f : AppRow → AppRow) (id : AppId) (rows : List (AppId × Option AppRow)) (row : AppRow) (found : row_of rows id ≡ Some row) where
  same_row : (q : AppId) (one : AppRow) → is_app id q ≡ true → row_of rows q ≡ Some one → row ≡ one
  same_row q one e there =
      let also : row_of rows id ≡ Some one = ap (row_of rows) (same_app id q e) ∙ there in
      let x : Some row ≡ Some one = sym found ∙ also in
      cc

  -- a number that a row goes by
  pub goes_with_row : (n : ℕ) (q : AppId) → (goes_by n (Some row) ≡ true → goes_by n (Some (f row)) ≡ true) → goes_by n (row_of rows q) ≡ true → goes_by n (row_of (with_row f id rows) q) ≡ true
  goes_with_row n q keeps goes = ap (goes_by n) (row_changed f id q rows) ∙ by (is_app id q) refl (row_of rows q) refl goes
    where
      by : (b : Bool) → is_app id q ≡ b → (o : Option AppRow) → row_of rows q ≡ o → goes_by n o ≡ true → goes_by n (changed_if b f o) ≡ true
      by true e None is g = g
      by true e (Some was) is g =
          let own : row ≡ was = same_row q was e is in
          subst (λ (r : AppRow). goes_by n (Some (f r)) ≡ true) own (keeps (subst (λ (r : AppRow). goes_by n (Some r) ≡ true) (sym own) g))
      by false e o is g = g

  -- what it says of an end that awaits
  pub finishes_with_row : (q : AttemptId) → (is_app id q.app ≡ true → finishes_by q (Some (f row)) ≡ finishes_by q (Some row)) → finishes_by q (row_of (with_row f id rows) q.app) ≡ finishes_by q (row_of rows q.app)
  finishes_with_row q keeps = ap (finishes_by q) (row_changed f id q.app rows) ∙ by (is_app id q.app) refl (row_of rows q.app) refl
    where
      by : (b : Bool) → is_app id q.app ≡ b → (o : Option AppRow) → row_of rows q.app ≡ o → finishes_by q (changed_if b f o) ≡ finishes_by q o
      by true e None is = refl
      by true e (Some was) is =
          let own : row ≡ was = same_row q.app was e is in
          subst (λ (r : AppRow). finishes_by q (Some (f r)) ≡ finishes_by q (Some r)) own (keeps e)
      by false e o is = refl

-- an attempt goes on
pub goes_on : (n : ℕ) (c d : Current) → d.number ≡ c.number → ((is_alive c.state || is_ending c.state) ≡ true → (is_alive d.state || is_ending d.state) ≡ true) → goes_numbered n (Some c) ≡ true → goes_numbered n (Some d) ≡ true
goes_on n c d number state goes =
    let x = and_parts (c.number == n) (is_alive c.state || is_ending c.state) goes in
    let a : (d.number == n) ≡ true = ap (λ (m : ℕ). m == n) number ∙ x.0 in
    let b = state x.1 in
    rw (a, b) refl

pub killed_goes : (s : AttemptState) → (is_alive s || is_ending s) ≡ true → (is_alive (killed_state s) || is_ending (killed_state s)) ≡ true
killed_goes s e = grind arith

-- what events do to an attempt that lives, goes on or isn't over
pub register_lives : (s : AttemptState) → is_alive s ≡ true → is_alive (next_attempt_state s attempt_events.Register) ≡ true
register_lives s e = grind arith

pub finish_lives : (s : AttemptState) → is_alive s ≡ true → is_alive (next_attempt_state s attempt_events.Finish) ≡ true
finish_lives s e = grind arith

pub alive_issued : (s : AttemptState) → is_alive s ≡ true → is_unissued s ≡ false
alive_issued s e = grind arith

pub kept_goes : (s : AttemptState) → (is_alive s || is_ending s) ≡ true → (is_alive (next_attempt_state s attempt_events.Kept) || is_ending (next_attempt_state s attempt_events.Kept)) ≡ true
kept_goes s e = grind arith

-- no end that awaits is FINISHED of one more operation than before, where that isn't such an end
pub none_finished : (q : AttemptId) (op : Op) (awaiting : List Op) → is_finished_op q op ≡ false → list_any (is_finished_op q) (awaiting ++ op ∷ []) ≡ list_any (is_finished_op q) awaiting
none_finished q op awaiting none = list_any-append (is_finished_op q) awaiting (op ∷ []) ∙ rw none (by (list_any (is_finished_op q) awaiting))
  where
    by : (b : Bool) → (b || (false || false)) ≡ b
    by true = refl
    by false = refl

-- what is released and on its way was served, where that is so of both parts of a queue
pub served_append : (releases : List Release) (xs ys : List SchedEvent) → AreServed releases xs → AreServed releases ys → AreServed releases (xs ++ ys)
served_append releases [] ys before more = more
served_append releases (scheds.Release attempt list ∷ xs) ys before more = (before.0, served_append releases xs ys before.1 more)
served_append releases (_ ∷ xs) ys before more = served_append releases xs ys before more

-- a node is there after a change of one exactly where it was
pub still_node : (f : NodeRow → NodeRow) (name q : List ℕ) (nodes : List (List ℕ × NodeRow)) → node_row (with_node f name nodes) q ≡ None → node_row nodes q ≡ None
still_node f name q nodes e = by (bytes_eq name q) refl
  where
    mapped : (o : Option NodeRow) → option_map f o ≡ None → o ≡ None
    mapped None x = refl
    mapped (Some row) x = cc

    by : (b : Bool) → bytes_eq name q ≡ b → node_row nodes q ≡ None
    by true same =
        let is : name ≡ q = same_text name q same in
        let here : node_row (with_node f name nodes) name ≡ None = subst (λ (n : List ℕ). node_row (with_node f name nodes) n ≡ None) (sym is) e in
        subst (λ (n : List ℕ). node_row nodes n ≡ None) is (mapped (node_row nodes name) (sym (own_row f name nodes) ∙ here))
    by false apart = sym (other_row f name q nodes apart) ∙ e

-- what is read off a row is read off it after a change that leaves it, whichever row changes
pub same_with : {X : Type 0} (g : Option AppRow → X) (f : AppRow → AppRow) (id q : AppId) (rows : List (AppId × Option AppRow)) → ((row : AppRow) → g (Some (f row)) ≡ g (Some row)) → g (row_of (with_row f id rows) q) ≡ g (row_of rows q)
same_with g f id q rows keeps = ap g (row_changed f id q rows) ∙ by (is_app id q) (row_of rows q)
  where
    by : (b : Bool) (o : Option AppRow) → g (changed_if b f o) ≡ g o
    by true None = refl
    by true (Some row) = keeps row
    by false o = refl

-- an attempt goes on after a change of a row after which each that goes on does
pub goes_every : (f : AppRow → AppRow) (id q : AppId) (rows : List (AppId × Option AppRow)) (n : ℕ) → ((row : AppRow) → goes_by n (Some row) ≡ true → goes_by n (Some (f row)) ≡ true) → goes_by n (row_of rows q) ≡ true
    → goes_by n (row_of (with_row f id rows) q) ≡ true
goes_every f id q rows n keeps goes = ap (goes_by n) (row_changed f id q rows) ∙ by (is_app id q) (row_of rows q) goes
  where
    by : (b : Bool) (o : Option AppRow) → goes_by n o ≡ true → goes_by n (changed_if b f o) ≡ true
    by true None e = e
    by true (Some row) e = keeps row e
    by false o e = e
