-- What a list of operations amounts to, and what it amounts to once it is folded.
use Rattle.rm_store.proofs.Common.{◌≡◌, ℕ, Bool, true, false, List, [], ◌∷◌, ◌++◌, map, filter, fold, not, ◌&&◌, Option, None, Some, is_none, is_some, refl, sym, ◌∙◌, ap, subst, arith, if◌then◌else◌, length, option_map, ◌+◌, nat_tests, AppId, Op, Epoch, App, Attempt, AttemptEnd, AppEnd, Remove, AppRecord, is_app, Records, record_of, with_record, with_end, fits_records, recorded, stray_from, stray, no_records, stays, folded}
use Rattle.std.proofs.Common.{◌||◌, ◌==◌}
use Rattle.std.specs.List.{list_any}
use Rattle.std.proofs.lemmas.List.{map-append}
use Rattle.std.proofs.lemmas.Bool.{not-false, not-true}
use Rattle.rm_types.specs.Ids.{is_attempt}
use Rattle.rm_types.specs.Records.{new_record, apps_recorded, epoch_recorded, stamp_recorded, is_some_and, all_ended, last_attempt}
use Rattle.rm_store.specs.compaction.Amounts.{Amounts, amounted, amounts, no_amounts}
use Rattle.rm_types.specs.Folded.{is_epoch, is_removal, is_gone, put_where}
use Rattle.rm_store.proofs.compaction.Filters.{filter_all, filter_both, filter_push, passing, passing_changed, passing_apart, passing_found}

abbrev lasts : List Op → AppId → Bool
lasts later id = not (is_gone id later)

-- what is left of amounts, where these operations come
abbrev pub narrowed : List Op → Amounts → Amounts
narrowed later a =
    record {
      next_epoch = if list_any is_epoch later then 0 else a.next_epoch;
      stamp = if list_any is_epoch later then 0 else a.stamp;
      apps = passing (lasts later) a.apps;
      completed = filter (lasts later) a.completed;
    }

abbrev moved : Bool → Amounts → Op → Amounts
moved true a op = amounted a op
moved false a op = a

-- amounts as records without numbers
abbrev pub plain_records : Amounts → Records
plain_records a = record { next_epoch = a.next_epoch; stamp = a.stamp; apps = a.apps; applied = 0 }

abbrev amounts_of : ℕ → ℕ → List AppRecord → List AppId → Amounts
amounts_of epoch stamp apps completed = record { next_epoch = epoch; stamp = stamp; apps = apps; completed = completed }

parts_same : (e e' s s' : ℕ) (l l' : List AppRecord) (c c' : List AppId) → e ≡ e' → s ≡ s' → l ≡ l' → c ≡ c' → amounts_of e s l c ≡ amounts_of e' s' l' c'
parts_same e e' s s' l l' c c' epoch stamp apps completed = rw (epoch, stamp, apps, completed) refl

amounts_same : (a b : Amounts) → a.next_epoch ≡ b.next_epoch → a.stamp ≡ b.stamp → a.apps ≡ b.apps → a.completed ≡ b.completed → a ≡ b
amounts_same a b epoch stamp apps completed = parts_same a.next_epoch b.next_epoch a.stamp b.stamp a.apps b.apps a.completed b.completed epoch stamp apps completed

-- one operation on the record of an application
module _ (rest : List Op) (change : AppRecord → AppRecord) (keeps : (app : AppRecord) → (change app).id ≡ app.id) (id : AppId) (apps : List AppRecord) where
  changed_left : (g : Bool) → is_gone id rest ≡ g → passing (lasts rest) (with_record change id apps) ≡ (if not g then with_record change id (passing (lasts rest) apps) else passing (lasts rest) apps)
  changed_left true gone = passing_changed (lasts rest) change keeps id apps ∙ passing_apart (lasts rest) change keeps id (rw gone refl) apps
  changed_left false gone = passing_changed (lasts rest) change keeps id apps

step : (op : Op) (rest : List Op) (a : Amounts) → narrowed rest (amounted a op) ≡ moved (stays op rest) (narrowed (op ∷ rest) a) op
step (Epoch next stamp) rest a = by (list_any is_epoch rest) refl
  where
    by : (b : Bool) → list_any is_epoch rest ≡ b → narrowed rest (amounted a (Epoch next stamp)) ≡ moved (not b) (narrowed (Epoch next stamp ∷ rest) a) (Epoch next stamp)
    by true e = rw e refl
    by false e = rw e refl
step (App id submission) rest a = by (is_gone id rest) refl
  where
    by : (g : Bool) → is_gone id rest ≡ g → narrowed rest (amounted a (App id submission)) ≡ moved (not g) (narrowed (App id submission ∷ rest) a) (App id submission)
    by true gone = amounts_same _ _ refl refl (filter_push (λ (app : AppRecord). lasts rest app.id) a.apps (new_record id submission) false (rw gone refl)) refl
    by false gone = amounts_same _ _ refl refl (filter_push (λ (app : AppRecord). lasts rest app.id) a.apps (new_record id submission) true (rw gone refl)) refl
step (Attempt id master node) rest a = by (is_gone id.app rest) refl
  where
    by : (g : Bool) → is_gone id.app rest ≡ g → narrowed rest (amounted a (Attempt id master node)) ≡ moved (not g) (narrowed (Attempt id master node ∷ rest) a) (Attempt id master node)
    by true gone = amounts_same _ _ refl refl (changed_left rest (λ app. record app { attempts = app.attempts ++ record { id = id; master = master; node = node; ending = None } ∷ [] }) (λ app. refl) id.app a.apps true gone) refl
    by false gone = amounts_same _ _ refl refl (changed_left rest (λ app. record app { attempts = app.attempts ++ record { id = id; master = master; node = node; ending = None } ∷ [] }) (λ app. refl) id.app a.apps false gone) refl
step (AttemptEnd id how text) rest a = by (is_gone id.app rest) refl
  where
    by : (g : Bool) → is_gone id.app rest ≡ g → narrowed rest (amounted a (AttemptEnd id how text)) ≡ moved (not g) (narrowed (AttemptEnd id how text ∷ rest) a) (AttemptEnd id how text)
    by true gone = amounts_same _ _ refl refl (changed_left rest (λ app. record app { attempts = map (with_end id how text) app.attempts }) (λ app. refl) id.app a.apps true gone) refl
    by false gone = amounts_same _ _ refl refl (changed_left rest (λ app. record app { attempts = map (with_end id how text) app.attempts }) (λ app. refl) id.app a.apps false gone) refl
step (AppEnd id how text) rest a = by (is_gone id rest) refl
  where
    by : (g : Bool) → is_gone id rest ≡ g → narrowed rest (amounted a (AppEnd id how text)) ≡ moved (not g) (narrowed (AppEnd id how text ∷ rest) a) (AppEnd id how text)
    by true gone = amounts_same _ _ refl refl (changed_left rest (λ app. record app { ending = Some (how, text); end_order = 0 }) (λ app. refl) id a.apps true gone) (filter_push (lasts rest) a.completed id false (rw gone refl))
    by false gone = amounts_same _ _ refl refl (changed_left rest (λ app. record app { ending = Some (how, text); end_order = 0 }) (λ app. refl) id a.apps false gone) (filter_push (lasts rest) a.completed id true (rw gone refl))
step (Remove id) rest a =
    amounts_same _ _ refl refl
    (filter_both (λ (app : AppRecord). not (is_app app.id id)) (λ app. lasts rest app.id) (λ app. lasts (Remove id ∷ rest) app.id) (λ app. by (is_app app.id id) (is_gone app.id rest)) a.apps)
    (filter_both (λ (one : AppId). not (is_app one id)) (lasts rest) (lasts (Remove id ∷ rest)) (λ one. by (is_app one id) (is_gone one rest)) a.completed)
  where
    by : (b g : Bool) → not (b || g) ≡ (if not b then not g else false)
    by true g = refl
    by false g = refl

narrowed_none : (a : Amounts) → narrowed [] a ≡ a
narrowed_none a = amounts_same _ _ refl refl (filter_all (λ (app : AppRecord). lasts [] app.id) (λ app. refl) a.apps) (filter_all (lasts []) (λ id. refl) a.completed)

narrowed_first : (later : List Op) → narrowed later no_amounts ≡ no_amounts
narrowed_first later = by (list_any is_epoch later) refl
  where
    by : (b : Bool) → list_any is_epoch later ≡ b → narrowed later no_amounts ≡ no_amounts
    by true e = rw e refl
    by false e = rw e refl

folded_from : (ops : List Op) (a : Amounts) → fold amounted (narrowed ops a) (folded ops) ≡ fold amounted a ops
folded_from [] a = narrowed_none a
folded_from (op ∷ ops) a = by (stays op ops) refl (step op ops a) (folded_from ops (amounted a op))
  where
    by : (b : Bool) → stays op ops ≡ b → narrowed ops (amounted a op) ≡ moved (stays op ops) (narrowed (op ∷ ops) a) op → fold amounted (narrowed ops (amounted a op)) (folded ops) ≡ fold amounted (amounted a op) ops
        → fold amounted (narrowed (op ∷ ops) a) (folded (op ∷ ops)) ≡ fold amounted a (op ∷ ops)
    by true e is more = let one : narrowed ops (amounted a op) ≡ amounted (narrowed (op ∷ ops) a) op = is ∙ rw e refl in
        ap (λ (l : List Op). fold amounted (narrowed (op ∷ ops) a) l) (ap (λ (c : Bool). put_where c op (folded ops)) e) ∙ ap (λ (x : Amounts). fold amounted x (folded ops)) (sym one) ∙ more
    by false e is more = let one : narrowed ops (amounted a op) ≡ narrowed (op ∷ ops) a = is ∙ rw e refl in
        ap (λ (l : List Op). fold amounted (narrowed (op ∷ ops) a) l) (ap (λ (c : Bool). put_where c op (folded ops)) e) ∙ ap (λ (x : Amounts). fold amounted x (folded ops)) (sym one) ∙ more

-- a folded list amounts to what it amounted to: stray or not
pub folded_amounts : (ops : List Op) → amounts (folded ops) ≡ amounts ops
folded_amounts ops = ap (λ (x : Amounts). fold amounted x (folded ops)) (sym (narrowed_first ops)) ∙ folded_from ops no_amounts

-- a record without the number of its end
abbrev pub bare : AppRecord → AppRecord
bare app = record app { end_order = 0 }

-- amounts tell of records all but the numbers
pub record Tells (r : Records) (a : Amounts) : Type 0 where
  pub epoch : r.next_epoch ≡ a.next_epoch
  pub stamp : r.stamp ≡ a.stamp
  pub apps : map bare r.apps ≡ a.apps

pub bare_found : (apps : List AppRecord) (id : AppId) → record_of (map bare apps) id ≡ option_map bare (record_of apps id)
bare_found [] id = refl
bare_found (app ∷ apps) id = by (is_app app.id id) refl (bare_found apps id)
  where
    by : (b : Bool) → is_app app.id id ≡ b → record_of (map bare apps) id ≡ option_map bare (record_of apps id) → record_of (map bare (app ∷ apps)) id ≡ option_map bare (record_of (app ∷ apps) id)
    by true e h = rw e refl
    by false e h = rw e h

-- whether an operation fits doesn't rest on the numbers
fits_bare : (r : Records) (op : Op) → fits_records r op ≡ fits_records (record { next_epoch = r.next_epoch; stamp = r.stamp; apps = map bare r.apps; applied = 0 }) op
fits_bare r (Epoch next stamp) = refl
fits_bare r (App id submission) = rw (bare_found r.apps id) (by (record_of r.apps id))
  where
    by : (o : Option AppRecord) → is_none o ≡ is_none (option_map bare o)
    by None = refl
    by (Some app) = refl
fits_bare r (Attempt id master node) = rw (bare_found r.apps id.app) (by (record_of r.apps id.app))
  where
    by : (o : Option AppRecord) → is_some_and (λ app. is_none app.ending && (all_ended app.attempts && (id.number == length app.attempts + 1))) o
        ≡ is_some_and (λ app. is_none app.ending && (all_ended app.attempts && (id.number == length app.attempts + 1))) (option_map bare o)
    by None = refl
    by (Some app) = refl
fits_bare r (AttemptEnd id how text) = rw (bare_found r.apps id.app) (by (record_of r.apps id.app))
  where
    by : (o : Option AppRecord) → is_some_and (λ app. is_some_and (λ last. is_attempt last.id id && is_none last.ending) (last_attempt app.attempts)) o
        ≡ is_some_and (λ app. is_some_and (λ last. is_attempt last.id id && is_none last.ending) (last_attempt app.attempts)) (option_map bare o)
    by None = refl
    by (Some app) = refl
fits_bare r (AppEnd id how text) = rw (bare_found r.apps id) (by (record_of r.apps id))
  where
    by : (o : Option AppRecord) → is_some_and (λ app. is_none app.ending && all_ended app.attempts) o ≡ is_some_and (λ app. is_none app.ending && all_ended app.attempts) (option_map bare o)
    by None = refl
    by (Some app) = refl
fits_bare r (Remove id) = rw (bare_found r.apps id) (by (record_of r.apps id))
  where
    by : (o : Option AppRecord) → is_some_and (λ app. is_some app.ending) o ≡ is_some_and (λ app. is_some app.ending) (option_map bare o)
    by None = refl
    by (Some app) = refl

pub fits_told : (r : Records) (a : Amounts) (op : Op) → Tells r a → fits_records r op ≡ fits_records (plain_records a) op
fits_told r a op t = fits_bare r op ∙ ap (λ (x : Amounts). fits_records (plain_records x) op) (amounts_same (amounts_of r.next_epoch r.stamp (map bare r.apps) a.completed) a t.epoch t.stamp t.apps refl)

bare_changed : (change plain : AppRecord → AppRecord) → ((app : AppRecord) → bare (change app) ≡ plain (bare app)) → (id : AppId) (apps : List AppRecord)
    → map bare (with_record change id apps) ≡ with_record plain id (map bare apps)
bare_changed change plain same id [] = refl
bare_changed change plain same id (app ∷ apps) = by (is_app app.id id) refl (bare_changed change plain same id apps)
  where
    by : (b : Bool) → is_app app.id id ≡ b → map bare (with_record change id apps) ≡ with_record plain id (map bare apps) → map bare (with_record change id (app ∷ apps)) ≡ with_record plain id (map bare (app ∷ apps))
    by true e h = rw e (ap (λ (l : List AppRecord). bare (change app) ∷ l) h ∙ ap (λ (x : AppRecord). x ∷ with_record plain id (map bare apps)) (same app))
    by false e h = rw e (ap (λ (l : List AppRecord). bare app ∷ l) h)

bare_left : (id : AppId) (apps : List AppRecord) → map bare (filter (λ app. not (is_app app.id id)) apps) ≡ filter (λ app. not (is_app app.id id)) (map bare apps)
bare_left id [] = refl
bare_left id (app ∷ apps) = by (is_app app.id id) refl (bare_left id apps)
  where
    by : (b : Bool) → is_app app.id id ≡ b → map bare (filter (λ app. not (is_app app.id id)) apps) ≡ filter (λ app. not (is_app app.id id)) (map bare apps)
        → map bare (filter (λ app. not (is_app app.id id)) (app ∷ apps)) ≡ filter (λ app. not (is_app app.id id)) (map bare (app ∷ apps))
    by true e h = rw e h
    by false e h = rw e (ap (λ (l : List AppRecord). bare app ∷ l) h)

bare_apps : (apps : List AppRecord) (applied : ℕ) (op : Op) → map bare (apps_recorded apps applied op) ≡ apps_recorded (map bare apps) 0 op
bare_apps apps applied (Epoch next stamp) = refl
bare_apps apps applied (App id submission) = map-append bare apps (new_record id submission ∷ [])
bare_apps apps applied (Attempt id master node) =
    bare_changed (λ app. record app { attempts = app.attempts ++ record { id = id; master = master; node = node; ending = None } ∷ [] })
    (λ app. record app { attempts = app.attempts ++ record { id = id; master = master; node = node; ending = None } ∷ [] }) (λ app. refl) id.app apps
bare_apps apps applied (AttemptEnd id how text) =
    bare_changed (λ app. record app { attempts = map (with_end id how text) app.attempts }) (λ app. record app { attempts = map (with_end id how text) app.attempts }) (λ app. refl) id.app apps
bare_apps apps applied (AppEnd id how text) =
    bare_changed (λ app. record app { ending = Some (how, text); end_order = applied }) (λ app. record app { ending = Some (how, text); end_order = 0 }) (λ app. refl) id apps
bare_apps apps applied (Remove id) = bare_left id apps

pub tells_more : (r : Records) (a : Amounts) (op : Op) → Tells r a → Tells (recorded r op) (amounted a op)
tells_more r a op t = record {
  epoch = ap (λ (k : ℕ). epoch_recorded k op) t.epoch;
  stamp = ap (λ (k : ℕ). stamp_recorded k op) t.stamp;
  apps = bare_apps r.apps r.applied op ∙ ap (λ (l : List AppRecord). apps_recorded l 0 op) t.apps;
}

-- an operation that is left fits what is left
fits_left : (op : Op) (rest : List Op) (a : Amounts) → stays op rest ≡ true → fits_records (plain_records a) op ≡ true → fits_records (plain_records (narrowed (op ∷ rest) a)) op ≡ true
fits_left (Epoch next stamp) rest a left fits = grind (arith, nat_tests)
fits_left (App id submission) rest a left fits =
    rw (passing_found (lasts (App id submission ∷ rest)) id left a.apps) fits
fits_left (Attempt id master node) rest a left fits = rw (passing_found (lasts (Attempt id master node ∷ rest)) id.app left a.apps) fits
fits_left (AttemptEnd id how text) rest a left fits = rw (passing_found (lasts (AttemptEnd id how text ∷ rest)) id.app left a.apps) fits
fits_left (AppEnd id how text) rest a left fits = rw (passing_found (lasts (AppEnd id how text ∷ rest)) id left a.apps) fits
fits_left (Remove id) rest a left fits = cc

none_first : (r : Records) (op : Op) (ops : List Op) → stray_from r (op ∷ ops) ≡ None → (fits_records r op ≡ true) × (stray_from (recorded r op) ops ≡ None)
none_first r op ops none = by (fits_records r op) refl
  where
    by : (b : Bool) → fits_records r op ≡ b → (fits_records r op ≡ true) × (stray_from (recorded r op) ops ≡ None)
    by true e = (e, (let x = rw e at none in x))
    by false e = absurd (let x = rw e at none in cc)

none_more : (r : Records) (op : Op) (ops : List Op) → fits_records r op ≡ true → stray_from (recorded r op) ops ≡ None → stray_from r (op ∷ ops) ≡ None
none_more r op ops fits none = rw fits none

folded_stray : (ops : List Op) (r s : Records) (a : Amounts) → Tells r a → Tells s (narrowed ops a) → stray_from r ops ≡ None → stray_from s (folded ops) ≡ None
folded_stray [] r s a t u none = refl
folded_stray (op ∷ ops) r s a t u none =
    let first = none_first r op ops none in
    by (stays op ops) refl (step op ops a) first.0 (λ s' u'. folded_stray ops (recorded r op) s' (amounted a op) (tells_more r a op t) u' first.1)
  where
    by : (b : Bool) → stays op ops ≡ b → narrowed ops (amounted a op) ≡ moved (stays op ops) (narrowed (op ∷ ops) a) op → fits_records r op ≡ true
        → ((s' : Records) → Tells s' (narrowed ops (amounted a op)) → stray_from s' (folded ops) ≡ None) → stray_from s (folded (op ∷ ops)) ≡ None
    by true e is fits more =
        let one : narrowed ops (amounted a op) ≡ amounted (narrowed (op ∷ ops) a) op = is ∙ rw e refl in
        let plain : fits_records (plain_records a) op ≡ true = sym (fits_told r a op t) ∙ fits in
        let fits' : fits_records s op ≡ true = fits_told s (narrowed (op ∷ ops) a) op u ∙ fits_left op ops a e plain in
        rw e (none_more s op (folded ops) fits' (more (recorded s op) (subst (λ (x : Amounts). Tells (recorded s op) x) (sym one) (tells_more s (narrowed (op ∷ ops) a) op u))))
    by false e is fits more =
        let one : narrowed ops (amounted a op) ≡ narrowed (op ∷ ops) a = is ∙ rw e refl in
        rw e (more s (subst (λ (x : Amounts). Tells s x) (sym one) u))

pub folded_none_stray : (ops : List Op) → stray ops ≡ None → stray (folded ops) ≡ None
folded_none_stray ops none =
    folded_stray ops no_records no_records no_amounts (record { epoch = refl; stamp = refl; apps = refl })
    (subst (λ (x : Amounts). Tells no_records x) (sym (narrowed_first ops)) (record { epoch = refl; stamp = refl; apps = refl })) none

-- what was folded, and goes on
any_append : (test : Op → Bool) (one two : List Op) → list_any test (one ++ two) ≡ list_any test one || list_any test two
any_append test [] two = refl
any_append test (op ∷ one) two = by (test op) refl (any_append test one two)
  where
    by : (b : Bool) → test op ≡ b → list_any test (one ++ two) ≡ list_any test one || list_any test two → list_any test ((op ∷ one) ++ two) ≡ list_any test (op ∷ one) || list_any test two
    by true e h = rw e refl
    by false e h = rw e h

any_folded : (test : Op → Bool) (ops : List Op) → list_any test ops ≡ false → list_any test (folded ops) ≡ false
any_folded test [] none = refl
any_folded test (op ∷ ops) none = by (test op) refl (stays op ops) refl (any_folded test ops)
  where
    by : (b : Bool) → test op ≡ b → (c : Bool) → stays op ops ≡ c → (list_any test ops ≡ false → list_any test (folded ops) ≡ false) → list_any test (folded (op ∷ ops)) ≡ false
    by true e c f h = absurd (let x = rw e at none in cc)
    by false e true f h = rw f (rw e (h (let x = rw e at none in x)))
    by false e false f h = rw f (h (let x = rw e at none in x))

none_removed : (id : AppId) (ops : List Op) → is_gone id (folded ops) ≡ false
none_removed id [] = refl
none_removed id (op ∷ ops) = by (stays op ops) refl (none_removed id ops)
  where
    kept : (op : Op) → stays op ops ≡ true → is_removal id op ≡ false
    kept (Epoch next stamp) left = refl
    kept (App one submission) left = refl
    kept (Attempt one master node) left = refl
    kept (AttemptEnd one how text) left = refl
    kept (AppEnd one how text) left = refl
    kept (Remove one) left = cc

    by : (b : Bool) → stays op ops ≡ b → is_gone id (folded ops) ≡ false → is_gone id (folded (op ∷ ops)) ≡ false
    by true e h = rw e (rw (kept op e) h)
    by false e h = rw e h

gone_again : (id : AppId) (ops more : List Op) → is_gone id ops ≡ false → is_gone id (folded ops ++ more) ≡ is_gone id (ops ++ more)
gone_again id ops more none = any_append (is_removal id) (folded ops) more ∙ rw (none_removed id ops) (sym (any_append (is_removal id) ops more ∙ rw none refl))

gone_still : (test : Op → Bool) (ops more : List Op) → list_any test ops ≡ true → list_any test (ops ++ more) ≡ true
gone_still test ops more some = any_append test ops more ∙ rw some refl

stays_again : (op : Op) (ops more : List Op) → stays op ops ≡ true → stays op (folded ops ++ more) ≡ stays op (ops ++ more)
stays_again (Epoch next stamp) ops more left =
    let none = not-true (list_any is_epoch ops) left in
    ap not (any_append is_epoch (folded ops) more ∙ rw (any_folded is_epoch ops none) (sym (any_append is_epoch ops more ∙ rw none refl)))
stays_again (App id submission) ops more left = ap not (gone_again id ops more (not-true (is_gone id ops) left))
stays_again (Attempt id master node) ops more left = ap not (gone_again id.app ops more (not-true (is_gone id.app ops) left))
stays_again (AttemptEnd id how text) ops more left = ap not (gone_again id.app ops more (not-true (is_gone id.app ops) left))
stays_again (AppEnd id how text) ops more left = ap not (gone_again id ops more (not-true (is_gone id ops) left))
stays_again (Remove id) ops more left = refl

goes_still : (op : Op) (ops more : List Op) → stays op ops ≡ false → stays op (ops ++ more) ≡ false
goes_still (Epoch next stamp) ops more goes = ap not (gone_still is_epoch ops more (not-false (list_any is_epoch ops) goes))
goes_still (App id submission) ops more goes = ap not (gone_still (is_removal id) ops more (not-false (is_gone id ops) goes))
goes_still (Attempt id master node) ops more goes = ap not (gone_still (is_removal id.app) ops more (not-false (is_gone id.app ops) goes))
goes_still (AttemptEnd id how text) ops more goes = ap not (gone_still (is_removal id.app) ops more (not-false (is_gone id.app ops) goes))
goes_still (AppEnd id how text) ops more goes = ap not (gone_still (is_removal id) ops more (not-false (is_gone id ops) goes))
goes_still (Remove id) ops more goes = refl

pub folded_again : (ops more : List Op) → folded (folded ops ++ more) ≡ folded (ops ++ more)
folded_again [] more = refl
folded_again (op ∷ ops) more = by (stays op ops) refl (folded_again ops more)
  where
    by : (b : Bool) → stays op ops ≡ b → folded (folded ops ++ more) ≡ folded (ops ++ more) → folded (folded (op ∷ ops) ++ more) ≡ folded ((op ∷ ops) ++ more)
    by true e h = rw e (rw (stays_again op ops more e) (ap (put_where (stays op (ops ++ more)) op) h))
    by false e h = rw e (rw (goes_still op ops more e) h)
