-- What entries with distinct ids give of one application: what is found, and what a change or a removal leaves.
use Rattle.std.proofs.Common.{◌≡◌, Bool, true, false, List, [], ◌∷◌, ◌++◌, map, filter, not, Option, None, Some, Result, Ok, Err, OnOk, OnErr, IfSome, IfNone, is_some, unwrap_or, refl, sym, ap, subst, ◌∙◌, arith}
use Rattle.std.specs.List.{AllByRecursion, IsDistinct}
use Rattle.std.proofs.lemmas.Bool.Decides.{nat_tests}
use Rattle.std.proofs.lemmas.List.{map-append}
use Rattle.std.specs.Map.{keys_of, values_of, lookup, set_value, remove_entry}
use Rattle.std.proofs.lemmas.Map.Keys.{IsDistinct-head, IsDistinct-tail}
use Rattle.rm_types.specs.declared.ids.AppId.{AppId}
use Rattle.rm_types.specs.declared.records.AppRecord.{AppRecord}
use Rattle.rm_types.specs.declared.duplicate.NoMemory.{NoMemory}
use Rattle.rm_types.specs.Ids.{is_app}
use Rattle.rm_types.specs.Records.{record_of, with_record, is_some_and}
use Rattle.rm_types.proofs.IdLemmas.{app_itself, app_back}
use Rattle.rm_tree.specs.Numbers.{AreAttemptsFrom, AreApart, AreNumbered}
use Rattle.rm_tree.specs.Entries.{RecordEntry, IsRecordOf, AreOwn}

-- the records without an application's
abbrev pub without : AppId → List AppRecord → List AppRecord
without id apps = filter (λ app. not (is_app app.id id)) apps

-- the id of an entry's record, tested from its record
own_test : (id : AppId) (entry : RecordEntry) (b : Bool) → IsRecordOf entry.0 entry.1 → is_app id entry.0 ≡ b → is_app entry.1.id id ≡ b
own_test id entry b o e = rw o.same (sym (app_back id entry.0) ∙ e)

-- where an application has no record, a change of it and its removal leave the records as they are
pub none_there : (change : AppRecord → AppRecord) (apps : List AppRecord) (id : AppId) → record_of apps id ≡ None
    → (with_record change id apps ≡ apps) × (without id apps ≡ apps)
none_there change [] id n = (refl, refl)
none_there change (app ∷ apps) id n = by (is_app app.id id) refl (none_there change apps id)
  where
    by : (b : Bool) → is_app app.id id ≡ b → (record_of apps id ≡ None → (with_record change id apps ≡ apps) × (without id apps ≡ apps))
        → (with_record change id (app ∷ apps) ≡ app ∷ apps) × (without id (app ∷ apps) ≡ app ∷ apps)
    by true e h = absurd (let f = rw e at n in cc)
    by false e h =
        let g = h (rw e at n) in
        (rw e (ap (λ more. app ∷ more) g.0), rw e (ap (λ more. app ∷ more) g.1))

module _ (id : AppId) where
  -- what is found under an id is the application's record
  pub found : (entries : List RecordEntry) → AreOwn entries → record_of (values_of entries) id ≡ lookup (is_app id) entries
  found [] o = refl
  found (entry ∷ entries) o = by (is_app id entry.0) refl (found entries o.1)
    where
      by : (b : Bool) → is_app id entry.0 ≡ b → record_of (values_of entries) id ≡ lookup (is_app id) entries → record_of (values_of (entry ∷ entries)) id ≡ lookup (is_app id) (entry ∷ entries)
      by true e rest = rw (e, own_test id entry true o.0 e) refl
      by false e rest = rw (e, own_test id entry false o.0 e) rest

  -- an id that is the same as one that no key is, is no key either
  absent : (entries : List RecordEntry) (key : AppId) → is_app id key ≡ true → AllByRecursion (λ y. is_app key y ≡ false) (keys_of entries) → lookup (is_app id) entries ≡ None
  absent [] key e d = refl
  absent (entry ∷ entries) key e d = let other : is_app id entry.0 ≡ false = different id key entry.0 e d.0 in rw other (absent entries key e d.1)
    where
      different : (id key y : AppId) → is_app id key ≡ true → is_app key y ≡ false → is_app id y ≡ false
      different id key y e f = grind (arith, nat_tests)

  later_absent : (entry : RecordEntry) (entries : List RecordEntry) → IsDistinct is_app (keys_of (entry ∷ entries)) → AreOwn entries → is_app id entry.0 ≡ true
      → record_of (values_of entries) id ≡ None
  later_absent entry entries d o e = found entries o ∙ absent entries entry.0 e (IsDistinct-head is_app entry.0 (keys_of entries) d)

  -- a change under an id is one of the application's record
  pub changed : (change : AppRecord → AppRecord) (entries : List RecordEntry) (app : AppRecord) → IsDistinct is_app (keys_of entries) → AreOwn entries
      → lookup (is_app id) entries ≡ Some app → values_of (set_value (is_app id) entries (change app)) ≡ with_record change id (values_of entries)
  changed change [] app d o l = cc
  changed change (entry ∷ entries) app d o l = by (is_app id entry.0) refl (changed change entries app (IsDistinct-tail is_app entry.0 (keys_of entries) d) o.1)
    where
      by : (b : Bool) → is_app id entry.0 ≡ b → (lookup (is_app id) entries ≡ Some app → values_of (set_value (is_app id) entries (change app)) ≡ with_record change id (values_of entries))
          → values_of (set_value (is_app id) (entry ∷ entries) (change app)) ≡ with_record change id (values_of (entry ∷ entries))
      by true e more =
          let is : entry.1 ≡ app = (let l' = rw e at l in cc) in
          let rest = (none_there change (values_of entries) id (later_absent entry entries d o.1 e)).0 in
          rw (e, own_test id entry true o.0 e) (rw rest (ap (λ v. change v ∷ values_of entries) (sym is)))
      by false e more =
          let l' = rw e at l in
          rw (e, own_test id entry false o.0 e) (ap (λ apps. entry.1 ∷ apps) (more l'))

  -- a value set to what it is
  pub same_set : (entries : List RecordEntry) (app : AppRecord) → lookup (is_app id) entries ≡ Some app → set_value (is_app id) entries app ≡ entries
  same_set [] app l = refl
  same_set (entry ∷ entries) app l = by (is_app id entry.0) refl (same_set entries app)
    where
      by : (b : Bool) → is_app id entry.0 ≡ b → (lookup (is_app id) entries ≡ Some app → set_value (is_app id) entries app ≡ entries) → set_value (is_app id) (entry ∷ entries) app ≡ entry ∷ entries
      by true e more = let is : entry.1 ≡ app = (let l' = rw e at l in cc) in rw e (ap (λ v. (entry.0, v) ∷ entries) (sym is))
      by false e more = let l' = rw e at l in rw e (ap (λ xs. entry ∷ xs) (more l'))

  -- a removal under an id is one of the application's record
  pub removed : (entries : List RecordEntry) → IsDistinct is_app (keys_of entries) → AreOwn entries → values_of (remove_entry (is_app id) entries) ≡ without id (values_of entries)
  removed [] d o = refl
  removed (entry ∷ entries) d o = by (is_app id entry.0) refl (removed entries (IsDistinct-tail is_app entry.0 (keys_of entries) d) o.1)
    where
      by : (b : Bool) → is_app id entry.0 ≡ b → values_of (remove_entry (is_app id) entries) ≡ without id (values_of entries)
          → values_of (remove_entry (is_app id) (entry ∷ entries)) ≡ without id (values_of (entry ∷ entries))
      by true e more =
          let rest = (none_there (λ app. app) (values_of entries) id (later_absent entry entries d o.1 e)).1 in
          rw (e, own_test id entry true o.0 e) (sym rest)
      by false e more = rw (e, own_test id entry false o.0 e) (ap (λ apps. entry.1 ∷ apps) more)

  pub own_removed : (entries : List RecordEntry) → AreOwn entries → AreOwn (remove_entry (is_app id) entries)
  own_removed [] o = tt
  own_removed (entry ∷ entries) o = by (is_app id entry.0) refl (own_removed entries o.1)
    where
      by : (b : Bool) → is_app id entry.0 ≡ b → AreOwn (remove_entry (is_app id) entries) → AreOwn (remove_entry (is_app id) (entry ∷ entries))
      by true e rest = rw e o.1
      by false e rest = rw e (o.0, rest)

  -- a record of an application that stays its own leaves each its own
  pub own_set : (entries : List RecordEntry) (app new : AppRecord) → lookup (is_app id) entries ≡ Some app → AreOwn entries → (IsRecordOf id app → IsRecordOf id new)
      → AreOwn (set_value (is_app id) entries new)
  own_set [] app new l o keeps = tt
  own_set (entry ∷ entries) app new l o keeps = by (is_app id entry.0) refl (λ l. own_set entries app new l o.1 keeps)
    where
      same_id : (a b : AppId) → is_app a b ≡ true → b ≡ a
      same_id a b e = grind (arith, nat_tests)

      by : (b : Bool) → is_app id entry.0 ≡ b → (lookup (is_app id) entries ≡ Some app → AreOwn (set_value (is_app id) entries new)) → AreOwn (set_value (is_app id) (entry ∷ entries) new)
      by true e rest =
          let is : entry.1 ≡ app = (let l' = rw e at l in cc) in
          let key = same_id id entry.0 e in
          let own : IsRecordOf id app = subst (λ k. IsRecordOf k app) key (subst (IsRecordOf entry.0) is o.0) in
          let kept : IsRecordOf entry.0 new = subst (λ k. IsRecordOf k new) (sym key) (keeps own) in
          rw e (kept, o.1)
      by false e rest = let l' = rw e at l in rw e (o.0, rest l')

  -- the record that was found is the application's
  pub own_found : (entries : List RecordEntry) (app : AppRecord) → AreOwn entries → lookup (is_app id) entries ≡ Some app → IsRecordOf id app
  own_found [] app o l = cc
  own_found (entry ∷ entries) app o l = by (is_app id entry.0) refl (own_found entries app o.1)
    where
      same_id : (a b : AppId) → is_app a b ≡ true → b ≡ a
      same_id a b e = grind (arith, nat_tests)

      by : (b : Bool) → is_app id entry.0 ≡ b → (lookup (is_app id) entries ≡ Some app → IsRecordOf id app) → IsRecordOf id app
      by true e rest = let is : entry.1 ≡ app = (let l' = rw e at l in cc) in subst (λ k. IsRecordOf k app) (same_id id entry.0 e) (subst (IsRecordOf entry.0) is o.0)
      by false e rest = rest (rw e at l)

-- no two records are of one application
pub apart : (entries : List RecordEntry) → IsDistinct is_app (keys_of entries) → AreOwn entries → AreApart (values_of entries)
apart [] d o = tt
apart (entry ∷ entries) d o = (
  rw o.0.same (later_absent entry.0 entry entries d o.1 (app_itself entry.0)),
  apart entries (IsDistinct-tail is_app entry.0 (keys_of entries) d) o.1,
)

-- and the attempts of each are numbered
pub numbered : (entries : List RecordEntry) → AreOwn entries → AreNumbered (values_of entries)
numbered [] o = tt
numbered (entry ∷ entries) o = let own = o.0 in (rw own.same own.numbered, numbered entries o.1)

pub found_numbered : (id : AppId) (entries : List RecordEntry) → AreOwn entries → IfSome (lookup (is_app id) entries) (λ app. AreAttemptsFrom app.id 0 app.attempts)
found_numbered id entries o = by (lookup (is_app id) entries) (λ app l. own_found id entries app o l)
  where
    by : (v : Option AppRecord) → ((app : AppRecord) → v ≡ Some app → IsRecordOf id app) → IfSome v (λ app. AreAttemptsFrom app.id 0 app.attempts)
    by None h = tt
    by (Some app) h = let own = h app refl in rw own.same own.numbered

-- a test that the record found passes
pub passes_found : (test : AppRecord → Bool) (v : Option AppRecord) (app : AppRecord) → is_some_and test v ≡ true → v ≡ Some app → test app ≡ true
passes_found test None app e l = cc
passes_found test (Some one) app e l = let same : one ≡ app = cc in subst (λ a. test a ≡ true) same e

-- the ids of the entries are those of the records
pub ids_are : (entries : List RecordEntry) → AreOwn entries → keys_of entries ≡ map (λ app. app.id) (values_of entries)
ids_are [] o = refl
ids_are (entry ∷ entries) o = rw o.0.same (ap (λ more. entry.0 ∷ more) (ids_are entries o.1))

-- one more entry at the end
pub own_end : (entries : List RecordEntry) (entry : RecordEntry) → AreOwn entries → IsRecordOf entry.0 entry.1 → AreOwn (entries ++ entry ∷ [])
own_end [] entry o h = (h, tt)
own_end (one ∷ entries) entry o h = (o.0, own_end entries entry o.1 h)

pub values_end : (entries : List RecordEntry) (entry : RecordEntry) → values_of (entries ++ entry ∷ []) ≡ values_of entries ++ entry.1 ∷ []
values_end entries entry = map-append (λ (e : RecordEntry). e.1) entries (entry ∷ [])

-- after a new record, or without it where there was no memory for it
pub added : (old new : List RecordEntry) (app : AppRecord) (r : Result (Unit {0}) NoMemory) → AreOwn old → app.attempts ≡ [] → OnOk r (new ≡ old ++ (app.id, app) ∷ []) → OnErr r (new ≡ old) → AreOwn new
added old new app (Ok done) o first ok err = subst AreOwn (sym ok) (own_end old (app.id, app) o (record { same = refl; numbered = rw first tt }))
added old new app (Err refused) o first ok err = subst AreOwn (sym err) o

pub added_entries : (old new : List RecordEntry) (app : AppRecord) (r : Result (Unit {0}) NoMemory) → OnOk r (new ≡ old ++ (app.id, app) ∷ []) → OnOk r (values_of new ≡ values_of old ++ app ∷ [])
added_entries old new app (Ok done) ok = ap values_of ok ∙ values_end old (app.id, app)
added_entries old new app (Err refused) ok = tt

pub not_added : (old new : List RecordEntry) (r : Result (Unit {0}) NoMemory) → OnErr r (new ≡ old) → OnErr r (values_of new ≡ values_of old)
not_added old new (Ok done) err = tt
not_added old new (Err refused) err = ap values_of err

-- after a change of one application's record: each record is its own, and the records are those with the change
pub record IsChanged (change : AppRecord → AppRecord) (id : AppId) (old new : List RecordEntry) : Type 0 where
  pub own : AreOwn new
  pub records : values_of new ≡ with_record change id (values_of old)

pub entry_changed : (change : AppRecord → AppRecord) (id : AppId) (old new : List RecordEntry) (app changed_app : AppRecord) → IsDistinct is_app (keys_of old) → AreOwn old → (IsRecordOf id app → IsRecordOf id (change app))
    → lookup (is_app id) old ≡ Some app → changed_app ≡ change app → new ≡ set_value (is_app id) old changed_app → IsChanged change id old new
entry_changed change id old new app changed_app d o keeps l is e =
    let set : new ≡ set_value (is_app id) old (change app) = e ∙ ap (set_value (is_app id) old) is in
    record {
      own = subst AreOwn (sym set) (own_set id old app (change app) l o keeps);
      records = ap values_of set ∙ changed id change old app d o l;
    }

pub entry_unchanged : (change : AppRecord → AppRecord) (id : AppId) (old new : List RecordEntry) → AreOwn old → lookup (is_app id) old ≡ None → new ≡ old → IsChanged change id old new
entry_unchanged change id old new o l e = record {
  own = subst AreOwn (sym e) o;
  records = ap values_of e ∙ sym (none_there change (values_of old) id (found id old o ∙ l)).0;
}

-- after a change that may find no memory: made, or not
pub record IsTried (change : AppRecord → AppRecord) (id : AppId) (old new : List RecordEntry) (r : Result (Unit {0}) NoMemory) : Type 0 where
  pub own : AreOwn new
  pub ok : OnOk r (values_of new ≡ with_record change id (values_of old))
  pub err : OnErr r (values_of new ≡ values_of old)

pub entry_tried : (change : AppRecord → AppRecord) (id : AppId) (old new : List RecordEntry) (app changed_app : AppRecord) (r : Result (Unit {0}) NoMemory) → IsDistinct is_app (keys_of old) → AreOwn old → (IsRecordOf id app → IsRecordOf id (change app))
    → lookup (is_app id) old ≡ Some app → OnOk r (changed_app ≡ change app) → OnErr r (changed_app ≡ app) → new ≡ set_value (is_app id) old changed_app → IsTried change id old new r
entry_tried change id old new app changed_app (Ok done) d o keeps l ok err e =
    let h = entry_changed change id old new app changed_app d o keeps l ok e in record { own = h.own; ok = h.records; err = tt }
entry_tried change id old new app changed_app (Err refused) d o keeps l ok err e =
    let same : new ≡ old = e ∙ ap (set_value (is_app id) old) err ∙ same_set id old app l in record { own = subst AreOwn (sym same) o; ok = tt; err = ap values_of same }

-- the same of a change that was handed on to what keeps the entries
pub tried_by : (change : AppRecord → AppRecord) (id : AppId) (old new : List RecordEntry) (r : Option (Result (Unit {0}) NoMemory)) (P : AppRecord → Result (Unit {0}) NoMemory → AppRecord → Type 0) → IsDistinct is_app (keys_of old) → AreOwn old
    → ((app : AppRecord) → lookup (is_app id) old ≡ Some app → IfSome r (λ done. (x : AppRecord) × P app done x × (new ≡ set_value (is_app id) old x)))
    → is_some r ≡ is_some (lookup (is_app id) old) → IfNone r (new ≡ old)
    → ((app : AppRecord) → lookup (is_app id) old ≡ Some app → IsRecordOf id app → IsRecordOf id (change app))
    → ((app x : AppRecord) (done : Result (Unit {0}) NoMemory) → lookup (is_app id) old ≡ Some app → IsRecordOf id app → P app done x → OnOk done (x ≡ change app) × OnErr done (x ≡ app))
    → IsTried change id old new (unwrap_or r (Ok tt))
tried_by change id old new r P d o there some none keeps means = by (lookup (is_app id) old) r refl some there none
  where
    by : (l : Option AppRecord) (r : Option (Result (Unit {0}) NoMemory)) → lookup (is_app id) old ≡ l → is_some r ≡ is_some (lookup (is_app id) old)
        → ((app : AppRecord) → lookup (is_app id) old ≡ Some app → IfSome r (λ done. (x : AppRecord) × P app done x × (new ≡ set_value (is_app id) old x))) → IfNone r (new ≡ old)
        → IsTried change id old new (unwrap_or r (Ok tt))
    by None None l some there none = let h = entry_unchanged change id old new o l none in record { own = h.own; ok = h.records; err = tt }
    by None (Some done) l some there none = absurd (let s = rw l at some in cc)
    by (Some app) None l some there none = absurd (let s = rw l at some in cc)
    by (Some app) (Some done) l some there none =
        let t = there app l in
        let own = own_found id old app o l in
        let m = means app t.0 done l own t.1 in
        entry_tried change id old new app t.0 done d o (keeps app l) l m.0 m.1 t.2

-- and of one that needs no memory
pub changed_by : {R : Type 0} (change : AppRecord → AppRecord) (id : AppId) (old new : List RecordEntry) (r : Option R) (P : AppRecord → R → AppRecord → Type 0) → IsDistinct is_app (keys_of old) → AreOwn old
    → ((app : AppRecord) → lookup (is_app id) old ≡ Some app → IfSome r (λ done. (x : AppRecord) × P app done x × (new ≡ set_value (is_app id) old x)))
    → is_some r ≡ is_some (lookup (is_app id) old) → IfNone r (new ≡ old)
    → ((app : AppRecord) → IsRecordOf id app → IsRecordOf id (change app))
    → ((app x : AppRecord) (done : R) → P app done x → x ≡ change app)
    → IsChanged change id old new
changed_by {R} change id old new r P d o there some none keeps means = by (lookup (is_app id) old) r refl some there none
  where
    by : (l : Option AppRecord) (r : Option R) → lookup (is_app id) old ≡ l → is_some r ≡ is_some (lookup (is_app id) old)
        → ((app : AppRecord) → lookup (is_app id) old ≡ Some app → IfSome r (λ done. (x : AppRecord) × P app done x × (new ≡ set_value (is_app id) old x))) → IfNone r (new ≡ old)
        → IsChanged change id old new
    by None None l some there none = entry_unchanged change id old new o l none
    by None (Some done) l some there none = absurd (let s = rw l at some in cc)
    by (Some app) None l some there none = absurd (let s = rw l at some in cc)
    by (Some app) (Some done) l some there none =
        let t = there app l in
        entry_changed change id old new app t.0 d o (keeps app) l (means app t.0 done t.1) t.2
