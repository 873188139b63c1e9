-- Why a Remove may be issued of the application whose end was kept first, and the event Retire as a whole step.
use Rattle.rm_invariant.proofs.Common.{◌≡◌, ◌≤◌, ◌<◌, ℕ, ◌&&◌, suc, List, [], ◌∷◌, ◌++◌, Bool, true, false, not, Option, None, Some, filter, map, nat_le, drop, length, refl, sym, ◌∙◌, ap, subst, arith, list_any, list_all, flat_map, length-map, nat_tests, Issued, AppId, AttemptId, AppRecord, Settings, is_app, is_some_and, record_of, same_app, app_itself, end_in, AppState, MainEvent, AppRow, Tables, row_of, History, abstract_scene}
use Rattle.std.proofs.Common.{◌==◌, is_some, cond, count_by}
use Rattle.std.proofs.lemmas.List.Sums.{length-filter}
use Rattle.rm_types.specs.declared.operations.Op.TheVariants as ops
use Rattle.rm_model.specs.Facts.{completed, is_completed, is_remove_op}
use Rattle.rm_model.specs.Issuing.{MayIssueRemove, is_completed_before}
use Rattle.rm_tables.specs.declared.events.MainEvent.TheVariants as mains
use Rattle.rm_invariant.specs.apps.View.{View, view, counts, one_if, op_view}
use Rattle.rm_invariant.specs.apps.Invariant.{RowInvariant, StateInvariant}
use Rattle.rm_invariant.specs.Step.{AppsInvariant, Step}
use Rattle.rm_invariant.proofs.apps.Counts.{at_front, fails_never, passes_once}
use Rattle.rm_invariant.proofs.apps.Effects.{main_end, main_taken, op_end}
use Rattle.rm_invariant.proofs.apps.Found.{same_test}
use Rattle.rm_invariant.proofs.apps.Keeping.{in_scene}
use Rattle.rm_invariant.proofs.opening.Apps.{if_true, posted}
use Rattle.rm_invariant.specs.apps.Completed.{AllLater, Completes, completion_order}
use Rattle.rm_invariant.proofs.apps.AtStates.{remove_issued}
use Rattle.rm_invariant.proofs.apps.Completions.{swap}

-- lists of ids with the same count of each have the same length
abbrev count_of : AppId → List AppId → ℕ
count_of q ids = count_by (λ id. is_app id q) ids

abbrev without_one : AppId → List AppId → List AppId
without_one x [] = []
without_one x (y ∷ ys) = cond (is_app y x) ys (y ∷ without_one x ys)

one_less : (x q : AppId) (ys : List AppId) → 1 ≤ count_of x ys → (count_of q ys ≡ one_if (is_app x q) (count_of q (without_one x ys))) × (length ys ≡ suc (length (without_one x ys)))
one_less x q [] n = absurd (omega (arith, n))
one_less x q (y ∷ ys) n = by (is_app y x) refl (one_less x q ys)
  where
    by : (b : Bool) → is_app y x ≡ b → (1 ≤ count_of x ys → (count_of q ys ≡ one_if (is_app x q) (count_of q (without_one x ys))) × (length ys ≡ suc (length (without_one x ys))))
        → (count_of q (y ∷ ys) ≡ one_if (is_app x q) (count_of q (without_one x (y ∷ ys)))) × (length (y ∷ ys) ≡ suc (length (without_one x (y ∷ ys))))
    by true e rest =
        let same : is_app y q ≡ is_app x q = same_test y x q e in
        let front : count_of q (y ∷ ys) ≡ one_if (is_app x q) (count_of q ys) = at_front (λ (id : AppId). is_app id q) y ys ∙ ap (λ b. one_if b (count_of q ys)) same in
        rw e (front, refl)
    by false e rest =
        let here : count_of x (y ∷ ys) ≡ count_of x ys = at_front (λ (id : AppId). is_app id x) y ys ∙ rw e refl in
        let more = rest (omega (arith, n, here)) in
        let old = at_front (λ (id : AppId). is_app id q) y ys in
        let new = at_front (λ (id : AppId). is_app id q) y (without_one x ys) in
        rw e (old ∙ ap (one_if (is_app y q)) more.0 ∙ swap (is_app y q) (is_app x q) (count_of q (without_one x ys)) ∙ ap (one_if (is_app x q)) (sym new), ap suc more.1)

less_if : (b : Bool) (m n : ℕ) → one_if b m ≡ one_if b n → m ≡ n
less_if true m n e = omega (arith, e)
less_if false m n e = e

pub same_length : (xs ys : List AppId) → ((q : AppId) → count_of q xs ≡ count_of q ys) → length xs ≡ length ys
same_length [] [] same = refl
same_length [] (y ∷ ys) same =
    let here : count_of y (y ∷ ys) ≡ suc (count_of y ys) = at_front (λ (id : AppId). is_app id y) y ys ∙ rw (app_itself y) refl in
    absurd (let s = same y in omega (arith, s, here))
same_length (x ∷ xs) ys same =
    let here : count_of x (x ∷ xs) ≡ suc (count_of x xs) = at_front (λ (id : AppId). is_app id x) x xs ∙ rw (app_itself x) refl in
    let some : 1 ≤ count_of x ys = let s = same x in omega (arith, s, here) in
    let shorter = (one_less x x ys some).1 in
    let rest = same_length xs (without_one x ys) (λ q. less_if (is_app x q) (count_of q xs) (count_of q (without_one x ys)) (sym (at_front (λ (id : AppId). is_app id q) x xs) ∙ same q ∙ (one_less x q ys some).0)) in
    omega (arith, shorter, rest)

-- how often an application stands among the completed
module _ (settings : Settings) (q : AttemptId) (v : View) where
  state_completed : (s : AppState) (row : AppRow) → StateInvariant settings q s row v → v.count.completed ≡ one_if (is_some (end_in v.found) && (v.count.removes == 0)) 0
  state_completed s row says = grind (arith, nat_tests)

  pub completed_is : (row : Option AppRow) → RowInvariant settings q row v → v.count.completed ≡ one_if (is_some (end_in v.found) && (v.count.removes == 0)) 0
  completed_is None good = grind (arith, nat_tests)
  completed_is (Some row) good = state_completed row.state row good.1

-- the records that pass a test, by their ids
module _ (test : AppRecord → Bool) where
  abbrev chosen : AppRecord → List AppId
  chosen one = cond (test one) (one.id ∷ []) []

  chosen_all : (apps : List AppRecord) → flat_map chosen apps ≡ map (λ one. one.id) (filter test apps)
  chosen_all [] = refl
  chosen_all (one ∷ apps) = by (test one) refl (chosen_all apps)
    where
      by : (b : Bool) → test one ≡ b → flat_map chosen apps ≡ map (λ one. one.id) (filter test apps) → flat_map chosen (one ∷ apps) ≡ map (λ one. one.id) (filter test (one ∷ apps))
      by true e more = rw e (ap (λ ids. one.id ∷ ids) more)
      by false e more = rw e more

  chosen_each : (q : AppId) (one : AppRecord) → count_of q (chosen one) ≡ one_if (is_app one.id q && test one) 0
  chosen_each q one = by (test one) refl (is_app one.id q) refl
    where
      by : (b : Bool) → test one ≡ b → (c : Bool) → is_app one.id q ≡ c → count_of q (chosen one) ≡ one_if (is_app one.id q && test one) 0
      by true e c f = rw e (at_front (λ (id : AppId). is_app id q) one.id [] ∙ if_true (is_app one.id q))
      by false e true f = rw (e, f) refl
      by false e false f = rw (e, f) refl

  pub chosen_count : (q : AppId) (apps : List AppRecord) → count_by (λ app. is_app app.id q) apps ≤ 1 → count_of q (map (λ one. one.id) (filter test apps)) ≡ one_if (is_some_and test (record_of apps q)) 0
  chosen_count q apps once = sym (ap (count_of q) (chosen_all apps)) ∙ posted chosen (λ id. is_app id q) q test (chosen_each q) apps once

pub found_id : (apps : List AppRecord) (q : AppId) (one : AppRecord) → record_of apps q ≡ Some one → one.id ≡ q
found_id [] q one e = cc
found_id (app ∷ apps) q one e = by (is_app app.id q) refl (found_id apps q one)
  where
    by : (b : Bool) → is_app app.id q ≡ b → (record_of apps q ≡ Some one → one.id ≡ q) → one.id ≡ q
    by true f more =
        let same : app ≡ one = let x = rw f at e in cc in
        let here : app.id ≡ q = same_app app.id q f in
        subst (λ (a : AppRecord). a.id ≡ q) same here
    by false f more = more (rw f at e)

any_counted : {X : Type 0} (p : X → Bool) (xs : List X) (b : Bool) → list_any p xs ≡ b → (count_by p xs == 0) ≡ not b
any_counted p xs true e =
    let n = passes_once p xs e in
    grind (arith, nat_tests)
any_counted p xs false e =
    let n = fails_never p xs e in
    grind (arith, nat_tests)

module _ (settings : Settings) (h : History) (t : Tables) (k : AppsInvariant settings h t) (c : Completes t) where
  abbrev done : AppRecord → Bool
  done = is_completed (abstract_scene h t)

  -- an application stands among the completed as often as it is completed
  pub ended_is : (q : AppId) → count_of q t.ended ≡ one_if (is_some_and done (record_of t.tree.apps q)) 0
  ended_is q = here ∙ sym (by (record_of t.tree.apps q) refl)
    where
      here : count_of q t.ended ≡ one_if (is_some (end_in (record_of t.tree.apps q)) && (count_by (is_remove_op q) t.awaiting == 0)) 0
      here = completed_is settings (record { app = q; number = 0 }) (view h t (record { app = q; number = 0 })) (row_of t.rows q) (k.all (record { app = q; number = 0 }))

      by : (found : Option AppRecord) → record_of t.tree.apps q ≡ found → one_if (is_some_and done (record_of t.tree.apps q)) 0 ≡ one_if (is_some (end_in (record_of t.tree.apps q)) && (count_by (is_remove_op q) t.awaiting == 0)) 0
      by None e = rw e refl
      by (Some one) e =
          let same = found_id t.tree.apps q one e in
          let none = any_counted (is_remove_op q) t.awaiting (list_any (is_remove_op q) t.awaiting) refl in
          rw (e, none, same) refl

  -- as many are completed as stand there
  pub as_many : completed (abstract_scene h t) ≡ length t.ended
  as_many =
      sym (same_length t.ended (map (λ one. one.id) (filter done t.tree.apps)) (λ q. ended_is q ∙ sym (chosen_count done q t.tree.apps (c.once q)))
      ∙ length-map (filter done t.tree.apps) (λ one. one.id) ∙ length-filter done t.tree.apps)

-- each of these records is the one that is found by its id
abbrev AllKnown : List AppRecord → List AppRecord → Type 0
AllKnown apps [] = Unit {0}
AllKnown apps (one ∷ more) = (record_of apps one.id ≡ Some one) × AllKnown apps more

known_under : (app : AppRecord) (apps more : List AppRecord) → count_by (λ one. is_app one.id app.id) more ≡ 0 → AllKnown apps more → AllKnown (app ∷ apps) more
known_under app apps [] n k = tt
known_under app apps (one ∷ more) n k =
    let g = at_front (λ (x : AppRecord). is_app x.id app.id) one more in
    (by (is_app app.id one.id) refl, known_under app apps more (rest (is_app one.id app.id) g) k.1)
  where
    rest : (b : Bool) → count_by (λ (x : AppRecord). is_app x.id app.id) (one ∷ more) ≡ one_if b (count_by (λ (x : AppRecord). is_app x.id app.id) more) → count_by (λ (x : AppRecord). is_app x.id app.id) more ≡ 0
    rest true g = absurd (omega (arith, g, n))
    rest false g = sym g ∙ n

    by : (b : Bool) → is_app app.id one.id ≡ b → record_of (app ∷ apps) one.id ≡ Some one
    by true e =
        let f : is_app one.id app.id ≡ true = grind (arith, nat_tests) in
        let g : count_by (λ (x : AppRecord). is_app x.id app.id) (one ∷ more) ≡ suc (count_by (λ (x : AppRecord). is_app x.id app.id) more) = at_front (λ (x : AppRecord). is_app x.id app.id) one more ∙ rw f refl in
        absurd (omega (arith, g, n))
    by false e = rw e k.0

known_all : (apps : List AppRecord) → ((q : AppId) → count_by (λ one. is_app one.id q) apps ≤ 1) → AllKnown apps apps
known_all [] once = tt
known_all (app ∷ apps) once =
    let own : is_app app.id app.id ≡ true = app_itself app.id in
    let g : count_by (λ (x : AppRecord). is_app x.id app.id) (app ∷ apps) ≡ suc (count_by (λ (x : AppRecord). is_app x.id app.id) apps) = at_front (λ (x : AppRecord). is_app x.id app.id) app apps ∙ rw own refl in
    let n : count_by (λ (x : AppRecord). is_app x.id app.id) apps ≡ 0 = let o = once app.id in omega (arith, g, o) in
    (rw own refl, known_under app apps apps n (known_all apps (λ q. fewer app apps q (is_app app.id q) refl (once q))))
  where
    fewer : (app : AppRecord) (apps : List AppRecord) (q : AppId) (b : Bool) → is_app app.id q ≡ b → count_by (λ (x : AppRecord). is_app x.id q) (app ∷ apps) ≤ 1 → count_by (λ (x : AppRecord). is_app x.id q) apps ≤ 1
    fewer app apps q true e o =
        let g : count_by (λ (x : AppRecord). is_app x.id q) (app ∷ apps) ≡ suc (count_by (λ (x : AppRecord). is_app x.id q) apps) = at_front (λ (x : AppRecord). is_app x.id q) app apps ∙ rw e refl in
        omega (arith, g, o)
    fewer app apps q false e o =
        let g : count_by (λ (x : AppRecord). is_app x.id q) (app ∷ apps) ≡ count_by (λ (x : AppRecord). is_app x.id q) apps = at_front (λ (x : AppRecord). is_app x.id q) app apps ∙ rw e refl in
        omega (arith, g, o)

later_than : (apps : List AppRecord) (n : ℕ) (ids : List AppId) (q : AppId) → AllLater apps n ids → 1 ≤ count_of q ids → n ≤ completion_order apps q
later_than apps n [] q l c = absurd (omega (arith, c))
later_than apps n (id ∷ ids) q l c = by (is_app id q) refl (later_than apps n ids q l.1)
  where
    by : (b : Bool) → is_app id q ≡ b → (1 ≤ count_of q ids → n ≤ completion_order apps q) → n ≤ completion_order apps q
    by true e rest = let same : id ≡ q = same_app id q e in rw (← same) l.0
    by false e rest =
        let g : count_of q (id ∷ ids) ≡ count_of q ids = at_front (λ (x : AppId). is_app x q) id ids ∙ rw e refl in
        rest (omega (arith, g, c))

-- a completed application is before no other that comes later
module _ (settings : Settings) (h : History) (t : Tables) (k : AppsInvariant settings h t) (c : Completes t) (id : AppId) (more : List AppId) (front : t.ended ≡ id ∷ more) where
  ordered_front : AllLater t.tree.apps (completion_order t.tree.apps id) more
  ordered_front = let o = rw front at c.in_order in o.0

  not_before : (one : AppRecord) → record_of t.tree.apps one.id ≡ Some one → is_completed (abstract_scene h t) one ≡ true → completion_order t.tree.apps id ≤ one.end_order
  not_before one f n =
      let there : count_of one.id t.ended ≡ 1 = ended_is settings h t k c one.id ∙ rw (f, n) refl in
      let split : count_of one.id t.ended ≡ one_if (is_app id one.id) (count_of one.id more) = rw front (at_front (λ (x : AppId). is_app x one.id) id more) in
      by (is_app id one.id) refl split there
    where
      order_is : completion_order t.tree.apps one.id ≡ one.end_order
      order_is = rw f refl

      by : (b : Bool) → is_app id one.id ≡ b → count_of one.id t.ended ≡ one_if b (count_of one.id more) → count_of one.id t.ended ≡ 1 → completion_order t.tree.apps id ≤ one.end_order
      by true e g n = let here : id ≡ one.id = same_app id one.id e in let o = order_is in rw here (omega (arith, o))
      by false e g n = let o = order_is in let l = later_than t.tree.apps (completion_order t.tree.apps id) more one.id ordered_front (omega (arith, g, n)) in omega (arith, o, l)

  -- each of some records that are found by their ids is one that the application is before
  before_all : (app : AppRecord) → completion_order t.tree.apps id ≡ app.end_order → (some : List AppRecord) → AllKnown t.tree.apps some → list_all (is_completed_before (abstract_scene h t) app) some ≡ true
  before_all app o [] known = refl
  before_all app o (one ∷ some) known = by (is_completed (abstract_scene h t) one) refl (before_all app o some known.1)
    where
      by : (b : Bool) → is_completed (abstract_scene h t) one ≡ b → list_all (is_completed_before (abstract_scene h t) app) some ≡ true → list_all (is_completed_before (abstract_scene h t) app) (one ∷ some) ≡ true
      by true e rest =
          let l = not_before one known.0 e in
          let le : nat_le app.end_order one.end_order ≡ true = grind (arith, nat_tests) in
          rw (e, le) rest
      by false e rest = rw e rest

  pub remove_lawful : settings.max_completed < length t.ended → MayIssueRemove settings (abstract_scene h t) id
  remove_lawful many =
      let all = as_many settings h t k c in
      record { opened = k.is_open; more = omega (arith, all, many); first = by (record_of t.tree.apps id) refl }
    where
      here : 1 ≤ one_if (is_some_and (is_completed (abstract_scene h t)) (record_of t.tree.apps id)) 0
      here =
          let same = ended_is settings h t k c id in
          let split : count_of id t.ended ≡ suc (count_of id more) = rw front (at_front (λ (x : AppId). is_app x id) id more ∙ rw (app_itself id) refl) in
          omega (arith, same, split)

      by : (found : Option AppRecord) → record_of t.tree.apps id ≡ found → is_some_and (λ app. is_completed (abstract_scene h t) app && list_all (is_completed_before (abstract_scene h t) app) t.tree.apps) (record_of t.tree.apps id) ≡ true
      by None e = absurd (let x = rw e at here in omega (arith, x))
      by (Some app) e = at_test (is_completed (abstract_scene h t) app) refl
        where
          order : completion_order t.tree.apps id ≡ app.end_order
          order = rw e refl

          at_test : (b : Bool) → is_completed (abstract_scene h t) app ≡ b → is_some_and (λ app. is_completed (abstract_scene h t) app && list_all (is_completed_before (abstract_scene h t) app) t.tree.apps) (record_of t.tree.apps id) ≡ true
          at_test true f =
              let all = before_all app order t.tree.apps (known_all t.tree.apps c.once) in
              rw (e, f, all) refl
          at_test false f = absurd (let x = rw (e, f) at here in omega (arith, x))

-- Retire, where a Remove is issued
module _ (settings : Settings) (h : History) (t : Tables) (k : AppsInvariant settings h t) (c : Completes t) (rest : List MainEvent) (front : t.main ≡ mains.Retire ∷ rest) (id : AppId) (more : List AppId) (first : t.ended ≡ id ∷ more)
    (many : settings.max_completed < length t.ended) where
  abbrev pub retired : Tables
  retired = record t { ended = more; awaiting = t.awaiting ++ ops.Remove id ∷ []; main = drop 1 t.main ++ mains.Retire ∷ [] }

  abbrev between : Tables
  between = record t { ended = more; main = drop 1 t.main }

  was : (q : AttemptId) → view h t q ≡ record (view h between q) { count = record (counts h between q) { completed = one_if (is_app id q.app) (counts h between q).completed } }
  was q = main_taken h t q mains.Retire rest front ∙ rw (first, at_front (λ (x : AppId). is_app x q.app) id more) refl

  now : (q : AttemptId) → view h retired q ≡ op_view q (ops.Remove id) (view h between q)
  now q =
      let put = main_end h (record between { awaiting = t.awaiting ++ ops.Remove id ∷ [] }) q mains.Retire in
      let issued = op_end h between q (ops.Remove id) in
      rw (put ∙ issued) refl

  pub retire_steps : Step settings h t (Issued (ops.Remove id)) h retired
  retire_steps =
      record {
        lawful = in_scene settings h t k (Issued (ops.Remove id)) (remove_lawful settings h t k c id more first many);
        same = refl;
        keeps = record { is_open = k.is_open; recorded = k.recorded; all = λ q. by q (is_app id q.app) refl };
      }
    where
      by : (q : AttemptId) (b : Bool) → is_app id q.app ≡ b → RowInvariant settings q (row_of t.rows q.app) (view h retired q)
      by q true e =
          let before : view h t q ≡ record (view h between q) { count = record (counts h between q) { completed = suc (counts h between q).completed } } = was q ∙ rw e refl in
          let after : view h retired q ≡ record (view h between q) { count = record (counts h between q) { removes = suc (counts h between q).removes } } = now q ∙ rw e refl in
          subst (λ (v : View). RowInvariant settings q (row_of t.rows q.app) v) (sym after)
          (remove_issued settings q (row_of t.rows q.app) (view h between q) (subst (λ (v : View). RowInvariant settings q (row_of t.rows q.app) v) before (k.all q)))
      by q false e =
          let before : view h t q ≡ view h between q = was q ∙ rw e refl in
          let after : view h retired q ≡ view h between q = now q ∙ rw e refl in
          subst (λ (v : View). RowInvariant settings q (row_of t.rows q.app) v) (before ∙ sym after) (k.all q)
