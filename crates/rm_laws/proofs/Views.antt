-- The record of one application, after operations of it and of others.
use Rattle.rm_laws.proofs.Common.{◌≡◌, List, [], ◌∷◌, ◌++◌, Bool, true, false, ◌||◌, not, cond, if◌then◌else◌, Option, None, Some, filter, fold, refl, sym, ap, subst, arith, ◌∙◌, list_any, nat_tests, AppId, Op, Epoch, App, Attempt, AttemptEnd, AppEnd, Remove, AppRecord, is_app, Records, recorded, record_of, with_record, fits_records, same_app}
use Rattle.std.proofs.Common.{option_map}
use Rattle.rm_types.specs.Records.{stray_from}

-- the operation is one of this application
abbrev pub is_of : AppId → Op → Bool
is_of id (Epoch next stamp) = false
is_of id (App one submission) = is_app one id
is_of id (Attempt one master node) = is_app one.app id
is_of id (AttemptEnd one how text) = is_app one.app id
is_of id (AppEnd one how text) = is_app one id
is_of id (Remove one) = is_app one id

pub apart : (a b c : AppId) → is_app a b ≡ true → is_app c b ≡ false → is_app a c ≡ false
apart a b c h n = grind (arith, nat_tests)

alike : (a b c : AppId) → is_app c b ≡ true → is_app a c ≡ is_app a b
alike a b c h = ap (is_app a) (same_app c b h)

module _ (id : AppId) where
  find_other_end : (apps : List AppRecord) (new : AppRecord) → is_app new.id id ≡ false → record_of (apps ++ new ∷ []) id ≡ record_of apps id
  find_other_end [] new other = rw other refl
  find_other_end (app ∷ apps) new other = ap (λ (o : Option AppRecord). cond (is_app app.id id) (Some app) o) (find_other_end apps new other)

  pub find_own_end : (apps : List AppRecord) (new : AppRecord) → is_app new.id id ≡ true → record_of apps id ≡ None → record_of (apps ++ new ∷ []) id ≡ Some new
  find_own_end [] new own none = rw own refl
  find_own_end (app ∷ apps) new own none = go (is_app app.id id) (find_own_end apps new own) none
    where
      go : (b : Bool) → (record_of apps id ≡ None → record_of (apps ++ new ∷ []) id ≡ Some new) → cond b (Some app) (record_of apps id) ≡ None
          → cond b (Some app) (record_of (apps ++ new ∷ []) id) ≡ Some new
      go true more h = cc
      go false more h = more h

  pub find_changed : (change : AppRecord → AppRecord) → ((app : AppRecord) → (change app).id ≡ app.id) → (one : AppId) (own : Bool) → is_app one id ≡ own → (apps : List AppRecord)
      → record_of (with_record change one apps) id ≡ (if own then option_map change (record_of apps id) else record_of apps id)
  find_changed change ids one true own [] = refl
  find_changed change ids one false own [] = refl
  find_changed change ids one true own (app ∷ apps) = go (is_app app.id id) refl (is_app app.id one) refl (find_changed change ids one true own apps)
    where
      go : (a : Bool) → is_app app.id id ≡ a → (b : Bool) → is_app app.id one ≡ b → record_of (with_record change one apps) id ≡ option_map change (record_of apps id)
          → record_of ((if b then change app else app) ∷ with_record change one apps) id ≡ option_map change (cond a (Some app) (record_of apps id))
      go true e true f more = ap (λ (t : Bool). cond t (Some (change app)) (record_of (with_record change one apps) id)) (ap (λ (i : AppId). is_app i id) (ids app) ∙ e)
      go true e false f more = absurd (let x : is_app app.id one ≡ is_app app.id id = alike app.id id one own in let y : false ≡ true = sym f ∙ x ∙ e in cc)
      go false e true f more = ap (λ (t : Bool). cond t (Some (change app)) (record_of (with_record change one apps) id)) (ap (λ (i : AppId). is_app i id) (ids app) ∙ e) ∙ more
      go false e false f more = rw e more
  find_changed change ids one false own (app ∷ apps) = go (is_app app.id id) refl (is_app app.id one) refl (find_changed change ids one false own apps)
    where
      go : (a : Bool) → is_app app.id id ≡ a → (b : Bool) → is_app app.id one ≡ b → record_of (with_record change one apps) id ≡ record_of apps id
          → record_of ((if b then change app else app) ∷ with_record change one apps) id ≡ cond a (Some app) (record_of apps id)
      go true e true f more = absurd (let x = apart app.id id one e own in let y : true ≡ false = sym f ∙ x in cc)
      go true e false f more = rw e refl
      go false e true f more = ap (λ (t : Bool). cond t (Some (change app)) (record_of (with_record change one apps) id)) (ap (λ (i : AppId). is_app i id) (ids app) ∙ e) ∙ more
      go false e false f more = rw e more

  pub find_left : (one : AppId) (own : Bool) → is_app one id ≡ own → (apps : List AppRecord) → record_of (filter (λ app. not (is_app app.id one)) apps) id ≡ (if own then None else record_of apps id)
  find_left one true own [] = refl
  find_left one false own [] = refl
  find_left one true own (app ∷ apps) = go (is_app app.id id) refl (is_app app.id one) refl (find_left one true own apps)
    where
      go : (a : Bool) → is_app app.id id ≡ a → (b : Bool) → is_app app.id one ≡ b → record_of (filter (λ app. not (is_app app.id one)) apps) id ≡ None
          → record_of (cond (not b) (app ∷ filter (λ app. not (is_app app.id one)) apps) (filter (λ app. not (is_app app.id one)) apps)) id ≡ None
      go a e true f more = more
      go true e false f more = absurd (let x : is_app app.id one ≡ is_app app.id id = alike app.id id one own in let y : false ≡ true = sym f ∙ x ∙ e in cc)
      go false e false f more = rw e more
  find_left one false own (app ∷ apps) = go (is_app app.id id) refl (is_app app.id one) refl (find_left one false own apps)
    where
      go : (a : Bool) → is_app app.id id ≡ a → (b : Bool) → is_app app.id one ≡ b → record_of (filter (λ app. not (is_app app.id one)) apps) id ≡ record_of apps id
          → record_of (cond (not b) (app ∷ filter (λ app. not (is_app app.id one)) apps) (filter (λ app. not (is_app app.id one)) apps)) id ≡ cond a (Some app) (record_of apps id)
      go true e true f more = absurd (let x = apart app.id id one e own in let y : true ≡ false = sym f ∙ x in cc)
      go true e false f more = rw e refl
      go false e true f more = more
      go false e false f more = rw e more

  -- an operation of another application leaves the record
  pub other_view : (r : Records) (op : Op) → is_of id op ≡ false → record_of (recorded r op).apps id ≡ record_of r.apps id
  other_view r (Epoch next stamp) other = refl
  other_view r (App one submission) other = find_other_end r.apps _ other
  other_view r (Attempt one master node) other = find_changed _ (λ app. refl) one.app false other r.apps
  other_view r (AttemptEnd one how text) other = find_changed _ (λ app. refl) one.app false other r.apps
  other_view r (AppEnd one how text) other = find_changed _ (λ app. refl) one false other r.apps
  other_view r (Remove one) other = find_left one false other r.apps

-- no operation of these is stray over records
abbrev pub Fitting : Records → List Op → Type 0
Fitting r [] = Unit {0}
Fitting r (op ∷ ops) = (fits_records r op ≡ true) × Fitting (recorded r op) ops

pub fitting : (r : Records) (ops : List Op) → stray_from r ops ≡ None → Fitting r ops
fitting r [] h = tt
fitting r (op ∷ ops) h = go (fits_records r op) refl (fitting (recorded r op) ops) h
  where
    go : (b : Bool) → fits_records r op ≡ b → (stray_from (recorded r op) ops ≡ None → Fitting (recorded r op) ops) → (if b then stray_from (recorded r op) ops else Some r.applied) ≡ None
        → (fits_records r op ≡ true) × Fitting (recorded r op) ops
    go true e more h = (e, more h)
    go false e more h = cc

pub not_stray : (r : Records) (ops : List Op) → Fitting r ops → stray_from r ops ≡ None
not_stray r [] h = refl
not_stray r (op ∷ ops) h = rw h.0 (not_stray (recorded r op) ops h.1)

pub fitting-append : (r : Records) (xs ys : List Op) → Fitting r xs → Fitting (fold recorded r xs) ys → Fitting r (xs ++ ys)
fitting-append r [] ys a b = b
fitting-append r (op ∷ xs) ys a b = (a.0, fitting-append (recorded r op) xs ys a.1 b)

pub fitting-front : (r : Records) (xs ys : List Op) → Fitting r (xs ++ ys) → Fitting r xs × Fitting (fold recorded r xs) ys
fitting-front r [] ys a = (tt, a)
fitting-front r (op ∷ xs) ys a = let m = fitting-front (recorded r op) xs ys a.1 in ((a.0, m.0), m.1)

-- an application of which no operation among these can fit is left as it is
pub quiet : (id : AppId) (Quiet : Option AppRecord → Type 0) (excluded : Op → Bool)
    → ((r : Records) (op : Op) → Quiet (record_of r.apps id) → is_of id op ≡ true → fits_records r op ≡ true → excluded op ≡ true)
    → (r : Records) (ops : List Op) → Quiet (record_of r.apps id) → Fitting r ops → list_any excluded ops ≡ false → record_of (fold recorded r ops).apps id ≡ record_of r.apps id
quiet id Quiet excluded blocks r [] q fit none = refl
quiet id Quiet excluded blocks r (op ∷ ops) q fit none = go (is_of id op) refl (excluded op) refl none (λ q2 n. quiet id Quiet excluded blocks (recorded r op) ops q2 fit.1 n)
  where
    go : (b : Bool) → is_of id op ≡ b → (x : Bool) → excluded op ≡ x → (x || list_any excluded ops) ≡ false
        → (Quiet (record_of (recorded r op).apps id) → list_any excluded ops ≡ false → record_of (fold recorded (recorded r op) ops).apps id ≡ record_of (recorded r op).apps id)
        → record_of (fold recorded (recorded r op) ops).apps id ≡ record_of r.apps id
    go true e true f n more = cc
    go true e false f n more = absurd (let t = blocks r op q e fit.0 in let y : false ≡ true = sym f ∙ t in cc)
    go false e true f n more = cc
    go false e false f n more =
        let same = other_view id r op e in
        more (subst Quiet (sym same) q) n ∙ same
