-- The kept end of an application stays, until its Remove.
use Rattle.rm_laws.proofs.Common.{◌≡◌, ℕ, ◌+◌, ◌≤◌, List, [], ◌∷◌, ◌++◌, Bool, true, false, not, cond, if◌then◌else◌, Option, None, Some, is_some, map, filter, find, count_by, refl, sym, ap, subst, arith, ◌∙◌, nat_tests, fold_push, AppId, How, Op, Epoch, App, Attempt, AttemptEnd, AppEnd, Remove, AppRecord, is_app, Records, records, recorded, no_records, record_of, with_record, end_in, is_app_end_op, is_remove_op}
use Rattle.rm_laws.proofs.Counts.{count_front, count_one}
use Rattle.rm_laws.proofs.Views.{apart}

-- the end of an application, by these records
abbrev pub end_of : List AppRecord → AppId → Option (How × List ℕ)
end_of apps id = end_in (record_of apps id)

module _ (id : AppId) where
  end-append : (apps : List AppRecord) (new : AppRecord) → new.ending ≡ None → end_of (apps ++ new ∷ []) id ≡ end_of apps id
  end-append [] new none = go (is_app new.id id)
    where
      go : (b : Bool) → end_in (cond b (Some new) None) ≡ None
      go true = none
      go false = refl
  end-append (app ∷ apps) new none = go (is_app app.id id) (end-append apps new none)
    where
      go : (b : Bool) → end_of (apps ++ new ∷ []) id ≡ end_of apps id → end_in (cond b (Some app) (find (λ (one : AppRecord). is_app one.id id) (apps ++ new ∷ []))) ≡ end_in (cond b (Some app) (find (λ (one : AppRecord). is_app one.id id) apps))
      go true more = refl
      go false more = more

  -- a change that keeps ids, and ends or what has this id
  end-map : (f : AppRecord → AppRecord) → ((app : AppRecord) → (f app).id ≡ app.id) → ((app : AppRecord) → is_app app.id id ≡ true → (f app).ending ≡ app.ending)
      → (apps : List AppRecord) → end_of (map f apps) id ≡ end_of apps id
  end-map f ids ends [] = refl
  end-map f ids ends (app ∷ apps) =
      ap (λ (b : Bool). end_in (cond b (Some (f app)) (find (λ (one : AppRecord). is_app one.id id) (map f apps)))) (ap (λ (i : AppId). is_app i id) (ids app))
      ∙ go (is_app app.id id) refl (end-map f ids ends apps)
    where
      go : (b : Bool) → is_app app.id id ≡ b → end_of (map f apps) id ≡ end_of apps id
          → end_in (cond b (Some (f app)) (find (λ (one : AppRecord). is_app one.id id) (map f apps))) ≡ end_in (cond b (Some app) (find (λ (one : AppRecord). is_app one.id id) apps))
      go true e more = ends app e
      go false e more = more

  end-filter : (one : AppId) → is_app one id ≡ false → (apps : List AppRecord) → end_of (filter (λ app. not (is_app app.id one)) apps) id ≡ end_of apps id
  end-filter one other [] = refl
  end-filter one other (app ∷ apps) = go (is_app app.id id) refl (is_app app.id one) refl (end-filter one other apps)
    where
      go : (a : Bool) → is_app app.id id ≡ a → (b : Bool) → is_app app.id one ≡ b → end_of (filter (λ app. not (is_app app.id one)) apps) id ≡ end_of apps id
          → end_of (cond (not b) (app ∷ filter (λ app. not (is_app app.id one)) apps) (filter (λ app. not (is_app app.id one)) apps)) id
          ≡ end_in (cond a (Some app) (find (λ (x : AppRecord). is_app x.id id) apps))
      go true e true f more = absurd (let x = apart app.id id one e other in let y : true ≡ false = sym f ∙ x in cc)
      go true e false f more = rw e refl
      go false e true f more = more
      go false e false f more = rw e more

  end-gone : (one : AppId) → is_app one id ≡ true → (apps : List AppRecord) → end_of (filter (λ app. not (is_app app.id one)) apps) id ≡ None
  end-gone one same [] = refl
  end-gone one same (app ∷ apps) = go (is_app app.id one) refl (end-gone one same apps)
    where
      alike : is_app app.id one ≡ is_app app.id id
      alike = grind (arith, nat_tests)

      go : (b : Bool) → is_app app.id one ≡ b → end_of (filter (λ app. not (is_app app.id one)) apps) id ≡ None
          → end_of (cond (not b) (app ∷ filter (λ app. not (is_app app.id one)) apps) (filter (λ app. not (is_app app.id one)) apps)) id ≡ None
      go true e more = more
      go false e more = let f : is_app app.id id ≡ false = sym alike ∙ e in rw f more

  changed : (change : AppRecord → AppRecord) (one : AppId) → ((app : AppRecord) → (change app).id ≡ app.id) → ((app : AppRecord) → is_app one id ≡ true → (change app).ending ≡ app.ending)
      → (apps : List AppRecord) → end_of (with_record change one apps) id ≡ end_of apps id
  changed change one ids ends apps =
      end-map (λ app. if is_app app.id one then change app else app) (λ app. by_id app (is_app app.id one)) (λ app at. by_end app at (is_app app.id one) refl) apps
    where
      by_id : (app : AppRecord) (b : Bool) → (if b then change app else app).id ≡ app.id
      by_id app true = ids app
      by_id app false = refl

      same : (app : AppRecord) → is_app app.id id ≡ true → is_app app.id one ≡ true → is_app one id ≡ true
      same app a b = grind (arith, nat_tests)

      by_end : (app : AppRecord) → is_app app.id id ≡ true → (b : Bool) → is_app app.id one ≡ b → (if b then change app else app).ending ≡ app.ending
      by_end app at true e = ends app (same app at e)
      by_end app at false e = refl

  -- an operation that isn't the application's AppEnd or Remove leaves its end
  pub end_stays : (r : Records) (op : Op) → is_app_end_op id op ≡ false → is_remove_op id op ≡ false → end_of (recorded r op).apps id ≡ end_of r.apps id
  end_stays r (Epoch next stamp) e m = refl
  end_stays r (App one submission) e m = end-append r.apps _ refl
  end_stays r (Attempt one master node) e m = changed _ one.app (λ app. refl) (λ app same. refl) r.apps
  end_stays r (AttemptEnd one how text) e m = changed _ one.app (λ app. refl) (λ app same. refl) r.apps
  end_stays r (AppEnd one how text) e m = changed _ one (λ app. refl) (λ app same. absurd (let x : true ≡ false = sym same ∙ e in cc)) r.apps
  end_stays r (Remove one) e m = end-filter one m r.apps

  -- and a Remove of it leaves none
  pub end_goes : (r : Records) (op : Op) → is_remove_op id op ≡ true → end_of (recorded r op).apps id ≡ None
  end_goes r (Epoch next stamp) m = cc
  end_goes r (App one submission) m = cc
  end_goes r (Attempt one master node) m = cc
  end_goes r (AttemptEnd one how text) m = cc
  end_goes r (AppEnd one how text) m = cc
  end_goes r (Remove one) m = end-gone one m r.apps

  -- an application's ends, kept and awaiting, are one at most
  abbrev pub ends_at : List AppRecord → ℕ
  ends_at apps = cond (is_some (end_of apps id)) 1 0

  abbrev pub awaiting_ends : List Op → ℕ
  awaiting_ends awaiting = count_by (is_app_end_op id) awaiting

-- an application's ends, kept and awaiting, are one at most
abbrev pub OneEnd : List Op → List Op → Type 0
OneEnd kept awaiting = (id : AppId) → ends_at id (records kept).apps + awaiting_ends id awaiting ≤ 1

pub at_most_one : (o : Option (How × List ℕ)) → cond (is_some o) 1 0 ≤ 1
at_most_one None = omega arith
at_most_one (Some x) = omega arith

-- the first awaiting operation is kept
pub one_end_kept : (kept : List Op) (op : Op) (ops : List Op) → OneEnd kept (op ∷ ops) → OneEnd (kept ++ op ∷ []) ops
one_end_kept kept op ops one id =
    subst (λ (r : Records). ends_at id r.apps + awaiting_ends id ops ≤ 1) (sym (fold_push recorded no_records kept op)) (go (is_app_end_op id op) refl (is_remove_op id op) refl)
  where
    go : (e : Bool) → is_app_end_op id op ≡ e → (m : Bool) → is_remove_op id op ≡ m → ends_at id (recorded (records kept) op).apps + awaiting_ends id ops ≤ 1
    go true e m f =
        let c = count_front (is_app_end_op id) op ops in let o = count_one (is_app_end_op id) op true e in let h = one id in
        let a = at_most_one (end_of (recorded (records kept) op).apps id) in omega (arith, c, o, h, a)
    go false e true f =
        let c = count_front (is_app_end_op id) op ops in let o = count_one (is_app_end_op id) op false e in let h = one id in
        let gone : ◌≡◌ {A = ℕ} (ends_at id (recorded (records kept) op).apps) 0 = ap (λ (x : Option (How × List ℕ)). let n : ℕ = cond (is_some x) 1 0 in n) (end_goes id (records kept) op f) in
        omega (arith, c, o, h, gone)
    go false e false f =
        let c = count_front (is_app_end_op id) op ops in let o = count_one (is_app_end_op id) op false e in let h = one id in
        let same : ◌≡◌ {A = ℕ} (ends_at id (recorded (records kept) op).apps) (ends_at id (records kept).apps) = ap (λ (x : Option (How × List ℕ)). let n : ℕ = cond (is_some x) 1 0 in n) (end_stays id (records kept) op e f) in
        omega (arith, c, o, h, same)
