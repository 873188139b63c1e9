-- What is found of an application after a change.
use Rattle.rm_invariant.proofs.Common.{◌≡◌, List, [], ◌∷◌, ◌++◌, Bool, true, false, not, Option, None, Some, filter, find, refl, sym, ◌∙◌, ap, arith, lookup-set_value, nat_tests, AppId, Submission, Submitted, AppRecord, is_app, record_of, same_app, app_itself, has_app, waiting_submission, AppRow, slot_of, row_in, row_of, is_empty_slot, is_retired, with_row}
use Rattle.std.proofs.Common.{cond, option_map}
use Rattle.std.specs.Cmp.{IsEquivalence}
use Rattle.std.specs.Option.{IsSome}
use Rattle.rm_tables.specs.Rows.{with_slot}
use Rattle.rm_invariant.specs.apps.View.{changed_if, put_if, gone_if, set_if}

pub same_test : (a b q : AppId) → is_app a b ≡ true → is_app a q ≡ is_app b q
same_test a b q h = grind (arith, nat_tests)

pub ids_alike : IsEquivalence is_app
ids_alike = record { refl = app_itself; symm = λ x y. grind (arith, nat_tests); congr = same_test }

-- a row
pub some_is : {X : Type 0} (o : Option X) (x : X) → o ≡ Some x → IsSome o
some_is o x e = rw e refl

slot_more : (change : AppRow → AppRow) (id q : AppId) (rows : List (AppId × Option AppRow)) (slot : Option AppRow) → slot_of rows id ≡ Some slot → (b : Bool) → is_app id q ≡ b
    → row_in (cond b (Some (option_map change slot)) (slot_of rows q)) ≡ changed_if b change (row_of rows q)
slot_more change id q rows slot f true e =
    let same : id ≡ q = same_app id q e in
    let g : slot_of rows q ≡ Some slot = rw (← same) f in
    rw g refl
slot_more change id q rows slot f false e = refl

-- the row of an application, after the row of this or another one was changed
pub row_changed : (change : AppRow → AppRow) (id q : AppId) (rows : List (AppId × Option AppRow)) → row_of (with_row change id rows) q ≡ changed_if (is_app id q) change (row_of rows q)
row_changed change id q rows = by (slot_of rows id) refl
  where
    none : (b : Bool) → is_app id q ≡ b → slot_of rows id ≡ None → row_of rows q ≡ changed_if b change (row_of rows q)
    none true e f =
        let same : id ≡ q = same_app id q e in
        let g : slot_of rows q ≡ None = rw (← same) f in
        rw g refl
    none false e f = refl

    by : (o : Option (Option AppRow)) → slot_of rows id ≡ o → row_of (with_slot change id rows o) q ≡ changed_if (is_app id q) change (row_of rows q)
    by None f = none (is_app id q) refl f
    by (Some slot) f =
        ap row_in (lookup-set_value ids_alike (is_app id) (λ x y h. same_test id x y h) q (option_map change slot) rows (some_is (slot_of rows id) slot f))
        ∙ slot_more change id q rows slot f (is_app id q) refl

empty_more : (change : AppRow → AppRow) (id q : AppId) (rows : List (AppId × Option AppRow)) (slot : Option AppRow) → slot_of rows id ≡ Some slot → (b : Bool) → is_app id q ≡ b
    → is_empty_slot (cond b (Some (option_map change slot)) (slot_of rows q)) ≡ is_retired rows q
empty_more change id q rows slot f true e =
    let same : id ≡ q = same_app id q e in
    let g : slot_of rows q ≡ Some slot = rw (← same) f in
    rw g (by slot)
  where
    by : (o : Option AppRow) → is_empty_slot (Some (option_map change o)) ≡ is_empty_slot (Some o)
    by None = refl
    by (Some row) = refl
empty_more change id q rows slot f false e = refl

-- no application is retired, and none is not, by a change of a row
pub retired_changed : (change : AppRow → AppRow) (id q : AppId) (rows : List (AppId × Option AppRow)) → is_retired (with_row change id rows) q ≡ is_retired rows q
retired_changed change id q rows = by (slot_of rows id) refl
  where
    by : (o : Option (Option AppRow)) → slot_of rows id ≡ o → is_retired (with_slot change id rows o) q ≡ is_retired rows q
    by None f = refl
    by (Some slot) f =
        ap is_empty_slot (lookup-set_value ids_alike (is_app id) (λ x y h. same_test id x y h) q (option_map change slot) rows (some_is (slot_of rows id) slot f))
        ∙ empty_more change id q rows slot f (is_app id q) refl

-- a record
put_more : (one : AppRecord) (q : AppId) (app : AppRecord) (apps : List AppRecord) (c : Bool) → is_app app.id q ≡ c
    → record_of (apps ++ one ∷ []) q ≡ put_if (is_app one.id q) one (record_of apps q)
    → record_of ((app ∷ apps) ++ one ∷ []) q ≡ put_if (is_app one.id q) one (record_of (app ∷ apps) q)
put_more one q app apps true e h = rw e (by (is_app one.id q))
  where
    by : (b : Bool) → Some app ≡ put_if b one (Some app)
    by true = refl
    by false = refl
put_more one q app apps false e h = rw e h

pub record_put : (one : AppRecord) (q : AppId) (apps : List AppRecord) → record_of (apps ++ one ∷ []) q ≡ put_if (is_app one.id q) one (record_of apps q)
record_put one q [] = by (is_app one.id q) refl
  where
    by : (b : Bool) → is_app one.id q ≡ b → record_of (one ∷ []) q ≡ put_if b one None
    by true e = rw e refl
    by false e = rw e refl
record_put one q (app ∷ apps) = put_more one q app apps (is_app app.id q) refl (record_put one q apps)

-- what a filter takes out
gone_more : {X : Type 0} (key : X → AppId) (id q : AppId) (x : X) (xs : List X) (b c : Bool) → is_app (key x) id ≡ b → is_app (key x) q ≡ c
    → find (λ y. is_app (key y) q) (filter (λ y. not (is_app (key y) id)) xs) ≡ gone_if (is_app id q) (find (λ y. is_app (key y) q) xs)
    → find (λ y. is_app (key y) q) (filter (λ y. not (is_app (key y) id)) (x ∷ xs)) ≡ gone_if (is_app id q) (find (λ y. is_app (key y) q) (x ∷ xs))
gone_more key id q x xs true true e f h =
    let own : is_app id q ≡ true = sym (same_test (key x) id q e) ∙ f in
    rw (e, f, own) (let g = rw own at h in g)
gone_more key id q x xs true false e f h = rw (e, f) h
gone_more key id q x xs false true e f h =
    let other : is_app id q ≡ false = grind (arith, nat_tests) in
    rw (e, f, other) refl
gone_more key id q x xs false false e f h = rw (e, f) h

pub found_gone : {X : Type 0} (key : X → AppId) (id q : AppId) (xs : List X)
    → find (λ y. is_app (key y) q) (filter (λ y. not (is_app (key y) id)) xs) ≡ gone_if (is_app id q) (find (λ y. is_app (key y) q) xs)
found_gone {X = X} key id q [] = by (is_app id q)
  where
    by : (b : Bool) → ◌≡◌ {A = Option X} None (gone_if b None)
    by true = refl
    by false = refl
found_gone key id q (x ∷ xs) = gone_more key id q x xs (is_app (key x) id) (is_app (key x) q) refl refl (found_gone key id q xs)

-- what waits goes
pub waiting_gone : (id q : AppId) (submitted : List Submitted) → waiting_submission (filter (λ one. not (is_app one.id id)) submitted) q ≡ gone_if (is_app id q) (waiting_submission submitted q)
waiting_gone id q submitted = ap (option_map (λ one. one.submission)) (found_gone (λ (one : Submitted). one.id) id q submitted) ∙ by (is_app id q)
  where
    by : (b : Bool) → option_map (λ (one : Submitted). one.submission) (gone_if b (find (λ one. is_app one.id q) submitted)) ≡ gone_if b (waiting_submission submitted q)
    by true = refl
    by false = refl

-- one more of a list
has_more : (one : AppId) (ids : List AppId) (id q : AppId) (b : Bool) → is_app one q ≡ b → has_app (ids ++ id ∷ []) q ≡ set_if (is_app id q) (has_app ids q)
    → has_app ((one ∷ ids) ++ id ∷ []) q ≡ set_if (is_app id q) (has_app (one ∷ ids) q)
has_more one ids id q true e h = rw e (by (is_app id q))
  where
    by : (b : Bool) → true ≡ set_if b true
    by true = refl
    by false = refl
has_more one ids id q false e h = rw e h

pub has_end : (ids : List AppId) (id q : AppId) → has_app (ids ++ id ∷ []) q ≡ set_if (is_app id q) (has_app ids q)
has_end [] id q = by (is_app id q) refl
  where
    by : (b : Bool) → is_app id q ≡ b → has_app (id ∷ []) q ≡ set_if b false
    by true e = rw e refl
    by false e = rw e refl
has_end (one ∷ ids) id q = has_more one ids id q (is_app one q) refl (has_end ids id q)

-- a slot at the end of the map
slot_put_more : (id q : AppId) (slot : Option AppRow) (one : AppId × Option AppRow) (rows : List (AppId × Option AppRow)) (b : Bool) → is_app q one.0 ≡ b
    → slot_of (rows ++ (id, slot) ∷ []) q ≡ put_if (is_app id q) slot (slot_of rows q) → slot_of ((one ∷ rows) ++ (id, slot) ∷ []) q ≡ put_if (is_app id q) slot (slot_of (one ∷ rows) q)
slot_put_more id q slot one rows true e h = rw e (by (is_app id q))
  where
    by : (c : Bool) → Some one.1 ≡ put_if c slot (Some one.1)
    by true = refl
    by false = refl
slot_put_more id q slot one rows false e h = rw e h

slot_put : (id q : AppId) (slot : Option AppRow) (rows : List (AppId × Option AppRow)) → slot_of (rows ++ (id, slot) ∷ []) q ≡ put_if (is_app id q) slot (slot_of rows q)
slot_put id q slot [] = by (is_app id q) refl
  where
    by : (c : Bool) → is_app id q ≡ c → slot_of ((id, slot) ∷ []) q ≡ put_if c slot None
    by true e = let f : is_app q id ≡ true = grind (arith, nat_tests) in rw f refl
    by false e = let f : is_app q id ≡ false = grind (arith, nat_tests) in rw f refl
slot_put id q slot (one ∷ rows) = slot_put_more id q slot one rows (is_app q one.0) refl (slot_put id q slot rows)

-- the row of an application that is put, whose id isn't retired
pub row_put : (id q : AppId) (row : AppRow) (rows : List (AppId × Option AppRow)) → is_retired rows id ≡ false
    → row_of (rows ++ (id, Some row) ∷ []) q ≡ put_if (is_app id q) row (row_of rows q)
row_put id q row rows fresh = ap row_in (slot_put id q (Some row) rows) ∙ by (is_app id q) refl (slot_of rows q) refl
  where
    by : (b : Bool) → is_app id q ≡ b → (o : Option (Option AppRow)) → slot_of rows q ≡ o → row_in (put_if b (Some row) o) ≡ put_if b row (row_in o)
    by false e o f = refl
    by true e None f = refl
    by true e (Some (Some one)) f = refl
    by true e (Some None) f =
        let same : id ≡ q = same_app id q e in
        let g : slot_of rows id ≡ Some None = rw same f in
        absurd (let x = rw g at fresh in cc)

-- no application is retired, and none is not, by a row that is put
pub retired_put : (id q : AppId) (row : AppRow) (rows : List (AppId × Option AppRow)) → is_retired (rows ++ (id, Some row) ∷ []) q ≡ is_retired rows q
retired_put id q row rows = ap is_empty_slot (slot_put id q (Some row) rows) ∙ by (is_app id q) (slot_of rows q)
  where
    by : (b : Bool) (o : Option (Option AppRow)) → is_empty_slot (put_if b (Some row) o) ≡ is_empty_slot o
    by false o = refl
    by true None = refl
    by true (Some None) = refl
    by true (Some (Some one)) = refl

-- a submission that waits
pub waiting_put : (id q : AppId) (s : Submission) (submitted : List Submitted) → waiting_submission (submitted ++ record { id = id; submission = s } ∷ []) q ≡ put_if (is_app id q) s (waiting_submission submitted q)
waiting_put id q s [] = by (is_app id q) refl
  where
    by : (c : Bool) → is_app id q ≡ c → waiting_submission (record { id = id; submission = s } ∷ []) q ≡ put_if c s None
    by true e = rw e refl
    by false e = rw e refl
waiting_put id q s (one ∷ more) = by (is_app one.id q) refl (waiting_put id q s more)
  where
    by : (b : Bool) → is_app one.id q ≡ b → waiting_submission (more ++ record { id = id; submission = s } ∷ []) q ≡ put_if (is_app id q) s (waiting_submission more q)
        → waiting_submission ((one ∷ more) ++ record { id = id; submission = s } ∷ []) q ≡ put_if (is_app id q) s (waiting_submission (one ∷ more) q)
    by true e h = rw e (inner (is_app id q))
      where
        inner : (c : Bool) → Some one.submission ≡ put_if c s (Some one.submission)
        inner true = refl
        inner false = refl
    by false e h = rw e h
