-- The completed applications as operations are kept: they stay in the order of their ends, and each record is there once.
use Rattle.rm_invariant.proofs.Common.{◌≡◌, ◌≤◌, ℕ, ◌+◌, suc, List, [], ◌∷◌, ◌++◌, Bool, true, false, not, Option, None, Some, is_none, filter, drop, refl, sym, ◌∙◌, ap, subst, arith, if◌then◌else◌, AppId, How, Submission, AppRecord, is_app, new_record, record_of, with_record, same_app, app_itself, MainEvent, Tables, going_in}
use Rattle.std.proofs.Common.{is_some, option_map, cond, count_by}
use Rattle.rm_invariant.specs.apps.Completed.{AllLater, Completes, InOrder, is_retire, order_in, completion_order}
use Rattle.rm_invariant.specs.apps.View.{changed_if, gone_if, one_if, put_if}
use Rattle.rm_invariant.proofs.apps.Counts.{at_end, at_front}
use Rattle.rm_invariant.proofs.apps.Found.{found_gone, record_put}

-- an event that looks for one to remove is left where another one goes, and where one more is posted
pub retire_left : (main : List MainEvent) (e : MainEvent) (rest : List MainEvent) → main ≡ e ∷ rest → is_retire e ≡ false → 1 ≤ count_by is_retire main → 1 ≤ count_by is_retire (drop 1 main)
retire_left main e rest front not some =
    let all : count_by is_retire main ≡ count_by is_retire rest = ap (count_by is_retire) front ∙ at_front is_retire e rest ∙ rw not refl in
    let left : count_by is_retire (drop 1 main) ≡ count_by is_retire rest = rw front refl in
    omega (arith, some, all, left)

one_at_least : (b : Bool) (n : ℕ) → n ≤ one_if b n
one_at_least true n = omega arith
one_at_least false n = omega arith

pub retire_still : (main : List MainEvent) (e : MainEvent) → 1 ≤ count_by is_retire main → 1 ≤ count_by is_retire (main ++ e ∷ [])
retire_still main e some =
    let all = at_end is_retire main e in
    let more = one_at_least (is_retire e) (count_by is_retire main) in
    omega (arith, some, all, more)

pub retire_posted : (main : List MainEvent) (e : MainEvent) → is_retire e ≡ true → 1 ≤ count_by is_retire (main ++ e ∷ [])
retire_posted main e is =
    let all : count_by is_retire (main ++ e ∷ []) ≡ suc (count_by is_retire main) = at_end is_retire main e ∙ rw is refl in
    omega (arith, all)

-- nothing is completed or removed by a step
pub completes_still : (t next : Tables) → Completes t → next.tree ≡ t.tree → next.ended ≡ t.ended → next.settings ≡ t.settings → (1 ≤ count_by is_retire t.main → 1 ≤ count_by is_retire next.main) → Completes next
completes_still t next c tree ended settings more =
    record { once = rw tree c.once; in_order = rw (tree, ended) c.in_order; early = rw tree c.early; retires = rw (ended, settings) (λ many. more (c.retires many)) }

-- THE ORDER OF ENDS
later_same : (apps others : List AppRecord) → (n : ℕ) (ids : List AppId) → ((q : AppId) → 1 ≤ count_by (λ id. is_app id q) ids → completion_order others q ≡ completion_order apps q) → AllLater apps n ids → AllLater others n ids
later_same apps others n [] same l = tt
later_same apps others n (id ∷ ids) same l =
    let here : completion_order others id ≡ completion_order apps id = same id (let g : count_by (λ (x : AppId). is_app x id) (id ∷ ids) ≡ suc (count_by (λ (x : AppId). is_app x id) ids) = at_front (λ (x : AppId). is_app x id) id ids ∙ rw (app_itself id) refl in omega (arith, g)) in
    (rw here l.0, later_same apps others n ids (λ q some. same q (let g = at_front (λ (x : AppId). is_app x q) id ids in let m = one_at_least (is_app id q) (count_by (λ (x : AppId). is_app x q) ids) in omega (arith, some, g, m))) l.1)

pub order_same : (apps others : List AppRecord) (ids : List AppId) → ((q : AppId) → 1 ≤ count_by (λ id. is_app id q) ids → completion_order others q ≡ completion_order apps q) → InOrder apps ids → InOrder others ids
order_same apps others [] same o = tt
order_same apps others (id ∷ ids) same o =
    let here : completion_order others id ≡ completion_order apps id = same id (let g : count_by (λ (x : AppId). is_app x id) (id ∷ ids) ≡ suc (count_by (λ (x : AppId). is_app x id) ids) = at_front (λ (x : AppId). is_app x id) id ids ∙ rw (app_itself id) refl in omega (arith, g)) in
    let under : (q : AppId) → 1 ≤ count_by (λ (x : AppId). is_app x q) ids → completion_order others q ≡ completion_order apps q = λ q some. same q (let g = at_front (λ (x : AppId). is_app x q) id ids in let m = one_at_least (is_app id q) (count_by (λ (x : AppId). is_app x q) ids) in omega (arith, some, g, m)) in
    (rw here (later_same apps others (completion_order apps id) ids under o.0), order_same apps others ids under o.1)

later_push : (apps : List AppRecord) (n : ℕ) (ids : List AppId) (id : AppId) → AllLater apps n ids → n ≤ completion_order apps id → AllLater apps n (ids ++ id ∷ [])
later_push apps n [] id l m = (m, tt)
later_push apps n (one ∷ ids) id l m = (l.0, later_push apps n ids id l.1 m)

order_push : (apps : List AppRecord) (ids : List AppId) (id : AppId) → InOrder apps ids → ((q : AppId) → completion_order apps q ≤ completion_order apps id) → InOrder apps (ids ++ id ∷ [])
order_push apps [] id o last = (tt, tt)
order_push apps (one ∷ ids) id o last = (later_push apps (completion_order apps one) ids id o.0 (last one), order_push apps ids id o.1 last)

-- A NEW RECORD has no end
pub order_new : (apps : List AppRecord) (id q : AppId) (s : Submission) → completion_order (apps ++ new_record id s ∷ []) q ≡ completion_order apps q
order_new apps id q s = ap order_in (record_put (new_record id s) q apps) ∙ by (is_app id q) (record_of apps q)
  where
    by : (b : Bool) (o : Option AppRecord) → order_in (put_if b (new_record id s) o) ≡ order_in o
    by true None = refl
    by true (Some one) = refl
    by false o = refl

-- how often an application is recorded
abbrev pub kept_at : AppId → List AppRecord → ℕ
kept_at q apps = count_by (λ app. is_app app.id q) apps

found_none : (apps : List AppRecord) (id : AppId) → record_of apps id ≡ None → kept_at id apps ≡ 0
found_none [] id e = refl
found_none (app ∷ apps) id e = by (is_app app.id id) refl (found_none apps id)
  where
    by : (b : Bool) → is_app app.id id ≡ b → (record_of apps id ≡ None → kept_at id apps ≡ 0) → kept_at id (app ∷ apps) ≡ 0
    by true f rest = absurd (let x = rw f at e in cc)
    by false f rest = at_front (λ (one : AppRecord). is_app one.id id) app apps ∙ rw f (rest (rw f at e))

once_new : (apps : List AppRecord) (id : AppId) (s : Submission) (q : AppId) → record_of apps id ≡ None → kept_at q apps ≤ 1 → kept_at q (apps ++ new_record id s ∷ []) ≤ 1
once_new apps id s q none once = by (is_app id q) refl
  where
    by : (b : Bool) → is_app id q ≡ b → kept_at q (apps ++ new_record id s ∷ []) ≤ 1
    by true e =
        let zero_ : kept_at q apps ≡ 0 = subst (λ (x : AppId). kept_at x apps ≡ 0) (same_app id q e) (found_none apps id none) in
        let g : kept_at q (apps ++ new_record id s ∷ []) ≡ suc (kept_at q apps) = at_end (λ (one : AppRecord). is_app one.id q) apps (new_record id s) ∙ rw e refl in
        omega (arith, g, zero_)
    by false e =
        let g : kept_at q (apps ++ new_record id s ∷ []) ≡ kept_at q apps = at_end (λ (one : AppRecord). is_app one.id q) apps (new_record id s) ∙ rw e refl in
        omega (arith, g, once)

-- an App is kept
pub completes_new : (t next : Tables) (id : AppId) (s : Submission) → Completes t → record_of t.tree.apps id ≡ None → next.tree.apps ≡ t.tree.apps ++ new_record id s ∷ [] → next.tree.applied ≡ t.tree.applied + 1
    → next.ended ≡ t.ended → next.settings ≡ t.settings → (1 ≤ count_by is_retire t.main → 1 ≤ count_by is_retire next.main) → Completes next
completes_new t next id s c none apps applied ended settings more =
    record {
      once = λ q. rw apps (once_new t.tree.apps id s q none (c.once q));
      in_order = rw (apps, ended) (order_same t.tree.apps (t.tree.apps ++ new_record id s ∷ []) t.ended (λ q some. order_new t.tree.apps id q s) c.in_order);
      early = λ q. rw apps (let e = order_new t.tree.apps id q s in let old = c.early q in omega (arith, applied, e, old));
      retires = rw (ended, settings) (λ many. more (c.retires many));
    }

-- A CHANGE OF A RECORD that keeps its id
abbrev KeepsId : (AppRecord → AppRecord) → Type 0
KeepsId change = (app : AppRecord) → (change app).id ≡ app.id

module _ (change : AppRecord → AppRecord) (keeps : KeepsId change) (id : AppId) where
  abbrev at_id : AppRecord → AppRecord
  at_id app = if is_app app.id id then change app else app

  id_stays : (app : AppRecord) → (at_id app).id ≡ app.id
  id_stays app = by (is_app app.id id)
    where
      by : (b : Bool) → (cond b (change app) app).id ≡ app.id
      by true = keeps app
      by false = refl

  pub once_changed : (q : AppId) (apps : List AppRecord) → kept_at q (with_record change id apps) ≡ kept_at q apps
  once_changed q [] = refl
  once_changed q (app ∷ apps) =
      at_front (λ (one : AppRecord). is_app one.id q) (at_id app) (with_record change id apps)
      ∙ ap (λ (x : AppId). one_if (is_app x q) (kept_at q (with_record change id apps))) (id_stays app)
      ∙ ap (one_if (is_app app.id q)) (once_changed q apps)
      ∙ sym (at_front (λ (one : AppRecord). is_app one.id q) app apps)

  -- where the application isn't recorded nothing changes
  none_changed : (test : AppRecord → Bool) (apps : List AppRecord) → kept_at id apps ≡ 0 → count_by test (with_record change id apps) ≡ count_by test apps
  none_changed test [] n = refl
  none_changed test (app ∷ apps) n = by (is_app app.id id) refl (none_changed test apps)
    where
      front : kept_at id (app ∷ apps) ≡ one_if (is_app app.id id) (kept_at id apps)
      front = at_front (λ (one : AppRecord). is_app one.id id) app apps

      by : (b : Bool) → is_app app.id id ≡ b → (kept_at id apps ≡ 0 → count_by test (with_record change id apps) ≡ count_by test apps) → count_by test (with_record change id (app ∷ apps)) ≡ count_by test (app ∷ apps)
      by true e rest = absurd (let f : kept_at id (app ∷ apps) ≡ suc (kept_at id apps) = front ∙ rw e refl in omega (arith, f, n))
      by false e rest =
          let f : kept_at id (app ∷ apps) ≡ kept_at id apps = front ∙ rw e refl in
          let more = rest (sym f ∙ n) in
          let left = at_front test app (with_record change id apps) in
          let right = at_front test app apps in
          rw e (left ∙ ap (one_if (test app)) more ∙ sym right)

  -- one passes a test less, which was recorded once and passed
  pub one_less : (test : AppRecord → Bool) → ((app : AppRecord) → test (change app) ≡ false) → (apps : List AppRecord) (one : AppRecord) → kept_at id apps ≤ 1 → record_of apps id ≡ Some one → test one ≡ true
      → count_by test (with_record change id apps) + 1 ≡ count_by test apps
  one_less test fails [] one once found passes = cc
  one_less test fails (app ∷ apps) one once found passes = by (is_app app.id id) refl (one_less test fails apps one)
    where
      front : kept_at id (app ∷ apps) ≡ one_if (is_app app.id id) (kept_at id apps)
      front = at_front (λ (one : AppRecord). is_app one.id id) app apps

      by : (b : Bool) → is_app app.id id ≡ b → (kept_at id apps ≤ 1 → record_of apps id ≡ Some one → test one ≡ true → count_by test (with_record change id apps) + 1 ≡ count_by test apps)
          → count_by test (with_record change id (app ∷ apps)) + 1 ≡ count_by test (app ∷ apps)
      by true e rest =
          let same : app ≡ one = let x = rw e at found in cc in
          let here : test app ≡ true = rw same passes in
          let f : kept_at id (app ∷ apps) ≡ suc (kept_at id apps) = front ∙ rw e refl in
          let none = none_changed test apps (omega (arith, f, once)) in
          let gone = fails app in
          let left : count_by test (change app ∷ with_record change id apps) ≡ count_by test (with_record change id apps) = at_front test (change app) (with_record change id apps) ∙ rw gone refl in
          let right : count_by test (app ∷ apps) ≡ suc (count_by test apps) = at_front test app apps ∙ rw here refl in
          rw e (omega (arith, left, right, none))
      by false e rest =
          let f : kept_at id (app ∷ apps) ≡ kept_at id apps = front ∙ rw e refl in
          let more = rest (omega (arith, f, once)) (rw e at found) passes in
          let left = at_front test app (with_record change id apps) in
          let right = at_front test app apps in
          rw e (by_test (test app) left right more)
        where
          by_test : (c : Bool) → count_by test (app ∷ with_record change id apps) ≡ one_if c (count_by test (with_record change id apps)) → count_by test (app ∷ apps) ≡ one_if c (count_by test apps)
              → count_by test (with_record change id apps) + 1 ≡ count_by test apps → count_by test (app ∷ with_record change id apps) + 1 ≡ count_by test (app ∷ apps)
          by_test true l r m = omega (arith, l, r, m)
          by_test false l r m = omega (arith, l, r, m)

-- THE END OF AN APPLICATION
abbrev pub with_end_at : How → List ℕ → ℕ → AppRecord → AppRecord
with_end_at how text n app = record app { ending = Some (how, text); end_order = n }

-- as an AppEnd is kept: the application is the last of the completed
pub completes_ended : (t next : Tables) (id : AppId) (how : How) (text : List ℕ) → Completes t → is_some (record_of t.tree.apps id) ≡ true → count_by (λ one. is_app one id) t.ended ≡ 0
    → ((q : AppId) → record_of next.tree.apps q ≡ changed_if (is_app id q) (with_end_at how text t.tree.applied) (record_of t.tree.apps q)) → ((q : AppId) → kept_at q next.tree.apps ≡ kept_at q t.tree.apps)
    → next.tree.applied ≡ t.tree.applied + 1 → next.ended ≡ t.ended ++ id ∷ [] → 1 ≤ count_by is_retire next.main → Completes next
completes_ended t next id how text c there none found once applied ended retires =
    record {
      once = λ q. let same = once q in let old = c.once q in omega (arith, same, old);
      in_order = rw ended (order_push next.tree.apps t.ended id (order_same t.tree.apps next.tree.apps t.ended same c.in_order) (λ q. rw (last) (low q)));
      early = λ q. let l = low q in omega (arith, applied, l);
      retires = λ many. retires;
    }
  where
    ended_at : (o : Option AppRecord) → is_some o ≡ true → order_in (option_map (with_end_at how text t.tree.applied) o) ≡ t.tree.applied
    ended_at None e = cc
    ended_at (Some one) e = refl

    last : completion_order next.tree.apps id ≡ t.tree.applied
    last = ap order_in (found id) ∙ rw (app_itself id) (ended_at (record_of t.tree.apps id) there)

    same : (q : AppId) → 1 ≤ count_by (λ one. is_app one q) t.ended → completion_order next.tree.apps q ≡ completion_order t.tree.apps q
    same q some = ap order_in (found q) ∙ by (is_app id q) refl
      where
        by : (b : Bool) → is_app id q ≡ b → order_in (changed_if b (with_end_at how text t.tree.applied) (record_of t.tree.apps q)) ≡ completion_order t.tree.apps q
        by true e = absurd (let n : count_by (λ (one : AppId). is_app one q) t.ended ≡ 0 = subst (λ (x : AppId). count_by (λ (one : AppId). is_app one x) t.ended ≡ 0) (same_app id q e) none in omega (arith, n, some))
        by false e = refl

    low : (q : AppId) → completion_order next.tree.apps q ≤ t.tree.applied
    low q = by (is_app id q) refl
      where
        by : (b : Bool) → is_app id q ≡ b → completion_order next.tree.apps q ≤ t.tree.applied
        by true e =
            let here : completion_order next.tree.apps q ≡ t.tree.applied = subst (λ (x : AppId). completion_order next.tree.apps x ≡ t.tree.applied) (same_app id q e) last in
            omega (arith, here)
        by false e =
            let here : completion_order next.tree.apps q ≡ completion_order t.tree.apps q = ap order_in (found q) ∙ rw e refl in
            let old = c.early q in
            omega (arith, here, old)

-- A REMOVAL
fewer : (test : AppRecord → Bool) (q : AppId) (apps : List AppRecord) → kept_at q (filter test apps) ≤ kept_at q apps
fewer test q [] = omega arith
fewer test q (app ∷ apps) = by (test app) refl (fewer test q apps)
  where
    right : kept_at q (app ∷ apps) ≡ one_if (is_app app.id q) (kept_at q apps)
    right = at_front (λ (one : AppRecord). is_app one.id q) app apps

    by_id : (c : Bool) (m n : ℕ) → m ≤ n → one_if c m ≤ one_if c n
    by_id true m n l = omega (arith, l)
    by_id false m n l = l

    by : (b : Bool) → test app ≡ b → kept_at q (filter test apps) ≤ kept_at q apps → kept_at q (filter test (app ∷ apps)) ≤ kept_at q (app ∷ apps)
    by true e less =
        let left = at_front (λ (one : AppRecord). is_app one.id q) app (filter test apps) in
        let m = by_id (is_app app.id q) (kept_at q (filter test apps)) (kept_at q apps) less in
        rw e (omega (arith, left, right, m))
    by false e less = let m = one_at_least (is_app app.id q) (kept_at q apps) in rw e (omega (arith, right, m, less))

-- as a Remove is kept of an application that isn't among the completed
pub completes_removed : (t next : Tables) (id : AppId) → Completes t → count_by (λ one. is_app one id) t.ended ≡ 0 → next.tree.apps ≡ filter (λ app. not (is_app app.id id)) t.tree.apps
    → next.tree.applied ≡ t.tree.applied + 1 → next.ended ≡ t.ended → next.settings ≡ t.settings → (1 ≤ count_by is_retire t.main → 1 ≤ count_by is_retire next.main) → Completes next
completes_removed t next id c none apps applied ended settings more =
    record {
      once = λ q. rw apps (let l = fewer (λ app. not (is_app app.id id)) q t.tree.apps in let old = c.once q in omega (arith, l, old));
      in_order = rw (apps, ended) (order_same t.tree.apps (filter (λ app. not (is_app app.id id)) t.tree.apps) t.ended same c.in_order);
      early = λ q. rw apps (low q);
      retires = rw (ended, settings) (λ many. more (c.retires many));
    }
  where
    found : (q : AppId) → record_of (filter (λ app. not (is_app app.id id)) t.tree.apps) q ≡ gone_if (is_app id q) (record_of t.tree.apps q)
    found q = found_gone (λ (one : AppRecord). one.id) id q t.tree.apps

    same : (q : AppId) → 1 ≤ count_by (λ one. is_app one q) t.ended → completion_order (filter (λ app. not (is_app app.id id)) t.tree.apps) q ≡ completion_order t.tree.apps q
    same q some = ap order_in (found q) ∙ by (is_app id q) refl
      where
        by : (b : Bool) → is_app id q ≡ b → order_in (gone_if b (record_of t.tree.apps q)) ≡ completion_order t.tree.apps q
        by true e = absurd (let n : count_by (λ (one : AppId). is_app one q) t.ended ≡ 0 = subst (λ (x : AppId). count_by (λ (one : AppId). is_app one x) t.ended ≡ 0) (same_app id q e) none in omega (arith, n, some))
        by false e = refl

    low : (q : AppId) → completion_order (filter (λ app. not (is_app app.id id)) t.tree.apps) q ≤ next.tree.applied
    low q = by (is_app id q) refl
      where
        by : (b : Bool) → is_app id q ≡ b → completion_order (filter (λ app. not (is_app app.id id)) t.tree.apps) q ≤ next.tree.applied
        by true e = let here : completion_order (filter (λ app. not (is_app app.id id)) t.tree.apps) q ≡ 0 = ap order_in (found q) ∙ rw e refl in omega (arith, here)
        by false e =
            let here : completion_order (filter (λ app. not (is_app app.id id)) t.tree.apps) q ≡ completion_order t.tree.apps q = ap order_in (found q) ∙ rw e refl in
            let old = c.early q in
            omega (arith, here, old, applied)

-- as many go on after a removal of one that has ended
pub going_removed : (apps : List AppRecord) (id : AppId) (one : AppRecord) → kept_at id apps ≤ 1 → record_of apps id ≡ Some one → is_some one.ending ≡ true
    → going_in (filter (λ app. not (is_app app.id id)) apps) ≡ going_in apps
going_removed [] id one once found ended = cc
going_removed (app ∷ apps) id one once found ended = by (is_app app.id id) refl (going_removed apps id one)
  where
    front : kept_at id (app ∷ apps) ≡ one_if (is_app app.id id) (kept_at id apps)
    front = at_front (λ (one : AppRecord). is_app one.id id) app apps

    none_gone : (xs : List AppRecord) → kept_at id xs ≡ 0 → going_in (filter (λ app. not (is_app app.id id)) xs) ≡ going_in xs
    none_gone [] n = refl
    none_gone (x ∷ xs) n = at_test (is_app x.id id) refl (none_gone xs)
      where
        f : kept_at id (x ∷ xs) ≡ one_if (is_app x.id id) (kept_at id xs)
        f = at_front (λ (one : AppRecord). is_app one.id id) x xs

        at_test : (b : Bool) → is_app x.id id ≡ b → (kept_at id xs ≡ 0 → going_in (filter (λ app. not (is_app app.id id)) xs) ≡ going_in xs) → going_in (filter (λ app. not (is_app app.id id)) (x ∷ xs)) ≡ going_in (x ∷ xs)
        at_test true e rest = absurd (let g : kept_at id (x ∷ xs) ≡ suc (kept_at id xs) = f ∙ rw e refl in omega (arith, g, n))
        at_test false e rest =
            let g : kept_at id (x ∷ xs) ≡ kept_at id xs = f ∙ rw e refl in
            let more = rest (sym g ∙ n) in
            let left = at_front (λ (one : AppRecord). is_none one.ending) x (filter (λ app. not (is_app app.id id)) xs) in
            let right = at_front (λ (one : AppRecord). is_none one.ending) x xs in
            rw e (left ∙ ap (one_if (is_none x.ending)) more ∙ sym right)

    by : (b : Bool) → is_app app.id id ≡ b → (kept_at id apps ≤ 1 → record_of apps id ≡ Some one → is_some one.ending ≡ true → going_in (filter (λ app. not (is_app app.id id)) apps) ≡ going_in apps)
        → going_in (filter (λ app. not (is_app app.id id)) (app ∷ apps)) ≡ going_in (app ∷ apps)
    by true e rest =
        let same : app ≡ one = let x = rw e at found in cc in
        let here : is_none app.ending ≡ false = rw same (ended_not one.ending ended) in
        let f : kept_at id (app ∷ apps) ≡ suc (kept_at id apps) = front ∙ rw e refl in
        let none = none_gone apps (omega (arith, f, once)) in
        let right : going_in (app ∷ apps) ≡ going_in apps = at_front (λ (one : AppRecord). is_none one.ending) app apps ∙ rw here refl in
        rw e (none ∙ sym right)
      where
        ended_not : (o : Option (How × List ℕ)) → is_some o ≡ true → is_none o ≡ false
        ended_not None e = cc
        ended_not (Some x) e = refl
    by false e rest =
        let f : kept_at id (app ∷ apps) ≡ kept_at id apps = front ∙ rw e refl in
        let more = rest (omega (arith, f, once)) (rw e at found) ended in
        let left = at_front (λ (one : AppRecord). is_none one.ending) app (filter (λ app. not (is_app app.id id)) apps) in
        let right = at_front (λ (one : AppRecord). is_none one.ending) app apps in
        rw e (left ∙ ap (one_if (is_none app.ending)) more ∙ sym right)
