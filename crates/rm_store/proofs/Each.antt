-- Operations of which none is stray have one record of each application at most.
use Rattle.rm_store.proofs.Common.{◌≡◌, ℕ, ◌+◌, ◌≤◌, Bool, true, false, List, [], ◌∷◌, ◌++◌, map, filter, fold, not, None, Some, is_none, refl, ap, subst, arith, if◌then◌else◌, AppId, Op, Epoch, App, Attempt, AttemptEnd, AppEnd, Remove, AppRecord, is_app, Records, no_records, records, recorded, record_of, with_record, fits_records, with_end, stray, stray_from}
use Rattle.std.proofs.Common.{cond, count_by}
use Rattle.std.proofs.lemmas.List.Sums.{sum_by-append, sum_by-cons}
use Rattle.rm_types.proofs.TestLemmas.{none_from_is_none}
use Rattle.rm_types.proofs.IdLemmas.{same_app}

-- how many records an application has
abbrev pub count_of : AppId → List AppRecord → ℕ
count_of id apps = count_by (λ app. is_app app.id id) apps

count_front : (id : AppId) (app : AppRecord) (apps : List AppRecord) → count_of id (app ∷ apps) ≡ cond (is_app app.id id) 1 0 + count_of id apps
count_front id app apps = sum_by-cons (λ (a : AppRecord). cond (is_app a.id id) 1 0) app apps

-- an application whose record isn't found has none
not_found : (apps : List AppRecord) (id : AppId) → record_of apps id ≡ None → count_of id apps ≡ 0
not_found [] id none = refl
not_found (app ∷ apps) id none = by (is_app app.id id) refl (not_found apps id)
  where
    by : (b : Bool) → is_app app.id id ≡ b → (record_of apps id ≡ None → count_of id apps ≡ 0) → count_of id (app ∷ apps) ≡ 0
    by true e more = absurd (let f = rw e at none in cc)
    by false e more = rw e (more (rw e at none))

-- a change of records that keeps their ids keeps the counts
count_kept : (change : AppRecord → AppRecord) → ((app : AppRecord) → (change app).id ≡ app.id) → (apps : List AppRecord) (id : AppId) → count_of id (map change apps) ≡ count_of id apps
count_kept change same [] id = refl
count_kept change same (app ∷ apps) id =
    let first : cond {A = ℕ} (is_app (change app).id id) 1 0 ≡ cond {A = ℕ} (is_app app.id id) 1 0 = ap (λ (i : AppId). cond {A = ℕ} (is_app i id) 1 0) (same app) in
    omega (arith, first, count_kept change same apps id, count_front id (change app) (map change apps), count_front id app apps)

count_changed : (change : AppRecord → AppRecord) → ((app : AppRecord) → (change app).id ≡ app.id) → (one : AppId) (apps : List AppRecord) (id : AppId) → count_of id (with_record change one apps) ≡ count_of id apps
count_changed change same one apps id = count_kept (λ app. if is_app app.id one then change app else app) (λ app. by app (is_app app.id one)) apps id
  where
    by : (app : AppRecord) (b : Bool) → (if b then change app else app).id ≡ app.id
    by app true = same app
    by app false = refl

-- fewer records have no higher counts
count_fewer : (test : AppRecord → Bool) (apps : List AppRecord) (id : AppId) → count_of id (filter test apps) ≤ count_of id apps
count_fewer test [] id = omega arith
count_fewer test (app ∷ apps) id = by (test app) refl (count_fewer test apps id)
  where
    by : (b : Bool) → test app ≡ b → count_of id (filter test apps) ≤ count_of id apps → count_of id (filter test (app ∷ apps)) ≤ count_of id (app ∷ apps)
    by true e le = rw e (omega (arith, le, count_front id app apps, count_front id app (filter test apps)))
    by false e le = rw e (omega (arith, le, count_front id app apps))

-- one record more
count_more : (apps : List AppRecord) (app : AppRecord) (id : AppId) → count_of id (apps ++ app ∷ []) ≡ count_of id apps + cond (is_app app.id id) 1 0
count_more apps app id =
    let e : count_of id (apps ++ app ∷ []) ≡ count_of id apps + count_of id (app ∷ []) = sum_by-append (λ (a : AppRecord). cond (is_app a.id id) 1 0) apps (app ∷ []) in
    omega (arith, e)

-- no application has two records
abbrev OneEach : List AppRecord → Type 0
OneEach apps = (id : AppId) → count_of id apps ≤ 1

one_new : (apps : List AppRecord) (app : AppRecord) → is_none (record_of apps app.id) ≡ true → OneEach apps → OneEach (apps ++ app ∷ [])
one_new apps app none one id = by (is_app app.id id) refl
  where
    by : (b : Bool) → is_app app.id id ≡ b → count_of id (apps ++ app ∷ []) ≤ 1
    by true e =
        let absent = not_found apps id (subst (λ (i : AppId). record_of apps i ≡ None) (same_app app.id id e) (none_from_is_none (record_of apps app.id) none)) in
        let more = rw e at (count_more apps app id) in
        omega (arith, absent, more)
    by false e =
        let more = rw e at (count_more apps app id) in
        omega (arith, one id, more)

-- an operation that fits keeps it so
one_more : (r : Records) (op : Op) → fits_records r op ≡ true → OneEach r.apps → OneEach (recorded r op).apps
one_more r (Epoch next stamp) fits one = one
one_more r (App id submission) fits one = one_new r.apps (record { id = id; submission = submission; attempts = []; ending = None; end_order = 0 }) fits one
one_more r (Attempt id master node) fits one =
    λ q. let same = count_changed (λ app. record app { attempts = app.attempts ++ record { id = id; master = master; node = node; ending = None } ∷ [] }) (λ app. refl) id.app r.apps q in omega (arith, same, one q)
one_more r (AttemptEnd id how text) fits one =
    λ q. let same = count_changed (λ app. record app { attempts = map (with_end id how text) app.attempts }) (λ app. refl) id.app r.apps q in omega (arith, same, one q)
one_more r (AppEnd id how text) fits one =
    λ q. let same = count_changed (λ app. record app { ending = Some (how, text); end_order = r.applied }) (λ app. refl) id r.apps q in omega (arith, same, one q)
one_more r (Remove id) fits one = λ q. let fewer = count_fewer (λ app. not (is_app app.id id)) r.apps q in omega (arith, fewer, one q)

one_from : (r : Records) (ops : List Op) → stray_from r ops ≡ None → OneEach r.apps → OneEach (fold recorded r ops).apps
one_from r [] none one = one
one_from r (op ∷ ops) none one = by (fits_records r op) refl (one_from (recorded r op) ops)
  where
    by : (b : Bool) → fits_records r op ≡ b → (stray_from (recorded r op) ops ≡ None → OneEach (recorded r op).apps → OneEach (fold recorded (recorded r op) ops).apps)
        → OneEach (fold recorded (recorded r op) ops).apps
    by true e more = more (let none' = rw e at none in none') (one_more r op e one)
    by false e more = absurd (let none' = rw e at none in cc)

pub one_record_each : (ops : List Op) → stray ops ≡ None → (id : AppId) → count_by (λ app. is_app app.id id) (records ops).apps ≤ 1
one_record_each ops none id = one_from no_records ops none (λ q. omega arith) id
