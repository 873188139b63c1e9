-- What is recorded of an application after the record of this or another one was changed.
use Rattle.rm_invariant.proofs.Common.{◌≡◌, List, [], ◌∷◌, Bool, true, false, None, refl, sym, ◌∙◌, arith, nat_tests, AppId, AppRecord, is_app, record_of, with_record}
use Rattle.rm_invariant.specs.apps.View.{changed_if}
use Rattle.rm_invariant.proofs.apps.Found.{same_test}

record_more : (change : AppRecord → AppRecord) → ((app : AppRecord) → (change app).id ≡ app.id) → (id q : AppId) (app : AppRecord) (apps : List AppRecord) (b c : Bool) → is_app app.id id ≡ b → is_app app.id q ≡ c
    → record_of (with_record change id apps) q ≡ changed_if (is_app id q) change (record_of apps q)
    → record_of (with_record change id (app ∷ apps)) q ≡ changed_if (is_app id q) change (record_of (app ∷ apps) q)
record_more change k id q app apps true true e f h =
    let d : is_app (change app).id q ≡ true = rw (k app) f in
    let own : is_app id q ≡ true = sym (same_test app.id id q e) ∙ f in
    rw (e, d, f, own) refl
record_more change k id q app apps true false e f h =
    let d : is_app (change app).id q ≡ false = rw (k app) f in
    rw (e, d, f) h
record_more change k id q app apps false true e f h =
    let other : is_app id q ≡ false = grind (arith, nat_tests) in
    rw (e, f, other) refl
record_more change k id q app apps false false e f h = rw (e, f) h

pub record_changed : (change : AppRecord → AppRecord) → ((app : AppRecord) → (change app).id ≡ app.id) → (id q : AppId) (apps : List AppRecord)
    → record_of (with_record change id apps) q ≡ changed_if (is_app id q) change (record_of apps q)
record_changed change k id q [] = by (is_app id q)
  where
    by : (b : Bool) → None ≡ changed_if b change None
    by true = refl
    by false = refl
record_changed change k id q (app ∷ apps) = record_more change k id q app apps (is_app app.id id) (is_app app.id q) refl refl (record_changed change k id q apps)
