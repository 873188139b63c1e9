-- What a store's operations amount to has each application once, with sound attempts and parts in their ranges, and no end was kept after them.
use Rattle.std.proofs.Common.{◌≡◌, ℕ, ◌+◌, ◌≤◌, List, [], ◌∷◌, ◌++◌, Bool, true, false, not, cond, fold, map, filter, find, is_none, is_some, None, Some, Option, if◌then◌else◌, count_by, refl, sym, ◌∙◌, ap, subst, arith}
use Rattle.std.proofs.lemmas.List.Sums.{sum_by-append, sum_by-cons}
use Rattle.rm_types.specs.declared.ids.AppId.{AppId}
use Rattle.rm_types.specs.declared.operations.Op.{Op}
use Rattle.rm_types.specs.declared.operations.Op.TheVariants.{Epoch, App, Attempt, AttemptEnd, AppEnd, Remove}
use Rattle.rm_types.specs.declared.operations.Submission.{Submission}
use Rattle.rm_types.specs.declared.records.AppRecord.{AppRecord}
use Rattle.rm_types.specs.Ids.{is_app}
use Rattle.rm_types.specs.Records.{Records, records, recorded, no_records, new_record, record_of, fits_records, stray_from, with_record, with_end}
use Rattle.rm_types.proofs.TestLemmas.{is_some-find}
use Rattle.rm_types.proofs.IdLemmas.{same_app}
use Rattle.rm_core.specs.Moves.{CanBeginOver}
use Rattle.rm_invariant.proofs.apps.Counts.{fails_never}
use Rattle.rm_invariant.specs.apps.Completed.{order_in, completion_order}
use Rattle.rm_invariant.specs.apps.View.{changed_if, gone_if}
use Rattle.rm_invariant.proofs.apps.Completing.{order_new}
use Rattle.rm_invariant.proofs.apps.Found.{found_gone}
use Rattle.rm_invariant.proofs.apps.Recorded.{record_changed}
use Rattle.rm_invariant.specs.masters.Invariant.{MastersAreOwn}
use Rattle.rm_invariant.specs.masters.Sound.{RecordsAreSound}
use Rattle.rm_invariant.specs.opening.Begun.{IsStored}
use Rattle.rm_invariant.specs.bounds.InBounds.{AreRecords}
use Rattle.rm_invariant.proofs.opening.Stores.{stored_apt, stored_records, stored_sound}

-- how often an application is recorded
abbrev kept_at : AppId → List AppRecord → ℕ
kept_at q apps = count_by (λ app. is_app app.id q) apps

count_front : {X : Type 0} (p : X → Bool) (x : X) (xs : List X) → count_by p (x ∷ xs) ≡ cond (p x) 1 0 + count_by p xs
count_front p x xs = sum_by-cons (λ y. cond (p y) 1 0) x xs

count_end : {X : Type 0} (p : X → Bool) (xs : List X) (x : X) → count_by p (xs ++ x ∷ []) ≡ count_by p xs + cond (p x) 1 0
count_end p xs x =
    let e : count_by p (xs ++ x ∷ []) ≡ count_by p xs + count_by p (x ∷ []) = sum_by-append (λ y. cond (p y) 1 0) xs (x ∷ []) in
    let f = count_front p x [] in
    omega (arith, e, f)

-- each application is there once at most
abbrev pub EachOnce : List AppRecord → Type 0
EachOnce apps = (q : AppId) → kept_at q apps ≤ 1

-- a change of records keeps their ids
abbrev KeepsIds : (AppRecord → AppRecord) → Type 0
KeepsIds f = (app : AppRecord) → (f app).id ≡ app.id

kept_at-map : (f : AppRecord → AppRecord) → KeepsIds f → (q : AppId) (apps : List AppRecord) → kept_at q (map f apps) ≡ kept_at q apps
kept_at-map f keeps q [] = refl
kept_at-map f keeps q (app ∷ apps) =
    let a = count_front (λ (one : AppRecord). is_app one.id q) (f app) (map f apps) in
    let b = count_front (λ (one : AppRecord). is_app one.id q) app apps in
    let same : ◌≡◌ {A = ℕ} (cond (is_app (f app).id q) 1 0) (cond (is_app app.id q) 1 0) = ap (λ (id : AppId). let n : ℕ = cond (is_app id q) 1 0 in n) (keeps app) in
    omega (arith, a, b, same, kept_at-map f keeps q apps)

by_test : (change : AppRecord → AppRecord) → KeepsIds change → (app : AppRecord) (b : Bool) → (cond b (change app) app).id ≡ app.id
by_test change keeps app true = keeps app
by_test change keeps app false = refl

changed_once : (change : AppRecord → AppRecord) → KeepsIds change → (id : AppId) (apps : List AppRecord) → EachOnce apps → EachOnce (with_record change id apps)
changed_once change keeps id apps once q =
    let same = kept_at-map (λ app. if is_app app.id id then change app else app) (λ app. by_test change keeps app (is_app app.id id)) q apps in
    omega (arith, same, once q)

less_one : (app : AppRecord) (apps : List AppRecord) (test : AppRecord → Bool) (q : AppId) (b : Bool) → test app ≡ b
    → kept_at q (filter test apps) ≤ kept_at q apps → kept_at q (filter test (app ∷ apps)) ≤ kept_at q (app ∷ apps)
less_one app apps test q true e h =
    let a = count_front (λ (one : AppRecord). is_app one.id q) app (filter test apps) in
    let b = count_front (λ (one : AppRecord). is_app one.id q) app apps in
    rw e (omega (arith, a, b, h))
less_one app apps test q false e h =
    let b = count_front (λ (one : AppRecord). is_app one.id q) app apps in
    rw e (omega (arith, b, h))

filter_less : (test : AppRecord → Bool) (q : AppId) (apps : List AppRecord) → kept_at q (filter test apps) ≤ kept_at q apps
filter_less test q [] = omega arith
filter_less test q (app ∷ apps) = less_one app apps test q (test app) refl (filter_less test q apps)

none_there : (apps : List AppRecord) (id : AppId) (o : Option AppRecord) → find (λ (app : AppRecord). is_app app.id id) apps ≡ o → is_none o ≡ true → kept_at id apps ≡ 0
none_there apps id None e h =
    fails_never (λ (app : AppRecord). is_app app.id id) apps (sym (is_some-find (λ (app : AppRecord). is_app app.id id) apps) ∙ ap (λ (o : Option AppRecord). is_some o) e)
none_there apps id (Some app) e h = cc

added_at : (apps : List AppRecord) (id : AppId) (s : Submission) (q : AppId) (b : Bool) → is_app id q ≡ b → kept_at id apps ≡ 0 → EachOnce apps
    → kept_at q (apps ++ new_record id s ∷ []) ≤ 1
added_at apps id s q true e none once =
    let at : kept_at q apps ≡ 0 = rw (← same_app id q e) none in
    let c = count_end (λ (one : AppRecord). is_app one.id q) apps (new_record id s) in
    let z : ◌≡◌ {A = ℕ} (cond (is_app id q) 1 0) 1 = rw e refl in
    omega (arith, at, c, z)
added_at apps id s q false e none once =
    let c = count_end (λ (one : AppRecord). is_app one.id q) apps (new_record id s) in
    let z : ◌≡◌ {A = ℕ} (cond (is_app id q) 1 0) 0 = rw e refl in
    omega (arith, once q, c, z)

-- an operation that fits leaves each once
once_more : (r : Records) (op : Op) → EachOnce r.apps → fits_records r op ≡ true → EachOnce (recorded r op).apps
once_more r (Epoch next stamp) once fits = once
once_more r (App id s) once fits = λ q. added_at r.apps id s q (is_app id q) refl (none_there r.apps id (record_of r.apps id) refl fits) once
once_more r (Attempt id master node) once fits =
    changed_once (λ app. record app { attempts = app.attempts ++ record { id = id; master = master; node = node; ending = None } ∷ [] }) (λ app. refl) id.app r.apps once
once_more r (AttemptEnd id how text) once fits = changed_once (λ app. record app { attempts = map (with_end id how text) app.attempts }) (λ app. refl) id.app r.apps once
once_more r (AppEnd id how text) once fits = changed_once (λ app. record app { ending = Some (how, text); end_order = r.applied }) (λ app. refl) id r.apps once
once_more r (Remove id) once fits = λ q. let less = filter_less (λ app. not (is_app app.id id)) q r.apps in omega (arith, less, once q)

once_step : (op : Op) (ops : List Op) (r : Records) (b : Bool) → fits_records r op ≡ b → EachOnce r.apps → stray_from r (op ∷ ops) ≡ None
    → (EachOnce (recorded r op).apps → stray_from (recorded r op) ops ≡ None → EachOnce (fold recorded (recorded r op) ops).apps)
    → EachOnce (fold recorded r (op ∷ ops)).apps
once_step op ops r true e once none more = more (once_more r op once e) (rw e at none)
once_step op ops r false e once none more = absurd (let x = rw e at none in cc)

once_from : (ops : List Op) (r : Records) → EachOnce r.apps → stray_from r ops ≡ None → EachOnce (fold recorded r ops).apps
once_from [] r once none = once
once_from (op ∷ ops) r once none = once_step op ops r (fits_records r op) refl once none (once_from ops (recorded r op))

-- a life begins over records of which no two are of one application
pub each_once : (tree : Records) → CanBeginOver tree → EachOnce tree.apps
each_once tree over =
    let store = over.of_store in
    let none : EachOnce no_records.apps = λ q. omega arith in
    let once : EachOnce (records store.ops).apps = once_from store.ops no_records none store.none_stray in
    rw store.amounts once

-- no end was kept after what is recorded
abbrev AllEarly : Records → Type 0
AllEarly r = (q : AppId) → completion_order r.apps q ≤ r.applied

-- a change that keeps when an application ended
order_stays : (change : AppRecord → AppRecord) → KeepsIds change → ((app : AppRecord) → (change app).end_order ≡ app.end_order) → (id q : AppId) (apps : List AppRecord) → completion_order (with_record change id apps) q ≡ completion_order apps q
order_stays change keeps ends id q apps = ap order_in (record_changed change keeps id q apps) ∙ by (is_app id q) (record_of apps q)
  where
    by : (b : Bool) (o : Option AppRecord) → order_in (changed_if b change o) ≡ order_in o
    by true None = refl
    by true (Some one) = ends one
    by false o = refl

early_more : (r : Records) (op : Op) → AllEarly r → AllEarly (recorded r op)
early_more r (Epoch next stamp) early = λ q. let e = early q in omega (arith, e)
early_more r (App id s) early = λ q. let e = early q in let same = order_new r.apps id q s in omega (arith, e, same)
early_more r (Attempt id master node) early = λ q.
    let e = early q in
    let same = order_stays (λ app. record app { attempts = app.attempts ++ record { id = id; master = master; node = node; ending = None } ∷ [] }) (λ app. refl) (λ app. refl) id.app q r.apps in
    omega (arith, e, same)
early_more r (AttemptEnd id how text) early = λ q.
    let e = early q in
    let same = order_stays (λ app. record app { attempts = map (with_end id how text) app.attempts }) (λ app. refl) (λ app. refl) id.app q r.apps in
    omega (arith, e, same)
early_more r (AppEnd id how text) early = λ q.
    let e = early q in
    let n = by (is_app id q) (record_of r.apps q) e in
    let same = ap order_in (record_changed (λ app. record app { ending = Some (how, text); end_order = r.applied }) (λ app. refl) id q r.apps) in
    omega (arith, n, same)
  where
    by : (b : Bool) (o : Option AppRecord) → order_in o ≤ r.applied → order_in (changed_if b (λ app. record app { ending = Some (how, text); end_order = r.applied }) o) ≤ r.applied
    by true None l = l
    by true (Some one) l = omega arith
    by false o l = l
early_more r (Remove id) early = λ q.
    let e = early q in
    let n = by (is_app id q) (record_of r.apps q) e in
    let same = ap order_in (found_gone (λ (app : AppRecord). app.id) id q r.apps) in
    omega (arith, n, same)
  where
    by : (b : Bool) (o : Option AppRecord) → order_in o ≤ r.applied → order_in (gone_if b o) ≤ r.applied
    by true o l = omega arith
    by false o l = l

early_from : (ops : List Op) (r : Records) → AllEarly r → AllEarly (fold recorded r ops)
early_from [] r early = early
early_from (op ∷ ops) r early = early_from ops (recorded r op) (early_more r op early)

-- a life begins over records of which none ended after what is recorded
pub each_early : (tree : Records) → CanBeginOver tree → AllEarly tree
each_early tree over =
    let store = over.of_store in
    let early : AllEarly (records store.ops) = early_from store.ops no_records (λ q. omega arith) in
    rw store.amounts early

-- what a life begins over is what a store may hold, with its parts in their ranges
pub stored : (tree : Records) → CanBeginOver tree → IsStored tree
stored tree over =
    let store = over.of_store in
    record {
      once = each_once tree over;
      early = each_early tree over;
      sound = subst (λ (r : Records). RecordsAreSound r.apps) (sym store.amounts) (stored_sound store.ops store.none_stray);
      apt = subst (λ (r : Records). MastersAreOwn r.apps) (sym store.amounts) (stored_apt store.ops store.framed);
    }

pub stored_ranges : (tree : Records) → CanBeginOver tree → AreRecords tree.apps
stored_ranges tree over = let store = over.of_store in subst (λ (r : Records). AreRecords r.apps) (sym store.amounts) (stored_records store.ops store.framed)
