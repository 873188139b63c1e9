-- The masters that records name stay containers of their attempts, where each Attempt that is kept names such a one.
use Rattle.rm_invariant.proofs.Common.{◌≡◌, ◌⊎◌, inl, inr, ℕ, List, [], ◌∷◌, ◌++◌, Bool, true, false, Option, None, Some, find, map, refl, sym, ◌∙◌, ap, arith, nat_tests, AppId, AttemptId, ContainerId, How, Op, AppRecord, AttemptRecord, is_app, is_attempt, Records, new_record, record_of, recorded, with_end, with_record, attempts_in}
use Rattle.rm_types.specs.declared.operations.Op.TheVariants as ops
use Rattle.rm_invariant.specs.apps.View.{changed_if, gone_if, put_if}
use Rattle.rm_invariant.proofs.apps.Found.{found_gone, record_put}
use Rattle.rm_invariant.proofs.apps.Recorded.{record_changed}
use Rattle.rm_invariant.specs.masters.Invariant.{MastersAreOwn}

-- the master that an Attempt names is a container of its attempt
abbrev pub IsAptOp : Op → Type 0
IsAptOp (ops.Epoch next stamp) = Unit {0}
IsAptOp (ops.App id submission) = Unit {0}
IsAptOp (ops.Attempt id master node) = master.attempt ≡ id
IsAptOp (ops.AttemptEnd id how text) = Unit {0}
IsAptOp (ops.AppEnd id how text) = Unit {0}
IsAptOp (ops.Remove id) = Unit {0}

-- what is found with one more at the end
found_end : (p : AttemptRecord → Bool) (xs : List AttemptRecord) (x one : AttemptRecord) → find p (xs ++ x ∷ []) ≡ Some one → (find p xs ≡ Some one) ⊎ ((x ≡ one) × (p x ≡ true))
found_end p [] x one e = by (p x) refl
  where
    by : (b : Bool) → p x ≡ b → (None ≡ Some one) ⊎ ((x ≡ one) × (p x ≡ true))
    by true f = inr (let g = rw f at e in cc, f)
    by false f = absurd (let g = rw f at e in cc)
found_end p (y ∷ ys) x one e = by (p y) refl (found_end p ys x one)
  where
    by : (b : Bool) → p y ≡ b → (find p (ys ++ x ∷ []) ≡ Some one → (find p ys ≡ Some one) ⊎ ((x ≡ one) × (p x ≡ true))) → (find p (y ∷ ys) ≡ Some one) ⊎ ((x ≡ one) × (p x ≡ true))
    by true f h = inl (rw f (rw f at e))
    by false f h = rw f (h (rw f at e))

-- an end changes neither the id nor the master
end_keeps : (id : AttemptId) (how : How) (text : List ℕ) (one : AttemptRecord) → ((with_end id how text one).id ≡ one.id) × ((with_end id how text one).master ≡ one.master)
end_keeps id how text one = by (is_attempt one.id id) refl
  where
    by : (b : Bool) → is_attempt one.id id ≡ b → ((with_end id how text one).id ≡ one.id) × ((with_end id how text one).master ≡ one.master)
    by true e = (rw e refl, rw e refl)
    by false e = (rw e refl, rw e refl)

found_ended : (id q : AttemptId) (how : How) (text : List ℕ) (xs : List AttemptRecord) (one : AttemptRecord) → find (λ x. is_attempt x.id q) (map (with_end id how text) xs) ≡ Some one
    → (old : AttemptRecord) × (find (λ x. is_attempt x.id q) xs ≡ Some old) × (old.master ≡ one.master)
found_ended id q how text [] one e = cc
found_ended id q how text (x ∷ xs) one e = by (is_attempt x.id q) refl (found_ended id q how text xs one)
  where
    keeps : ((with_end id how text x).id ≡ x.id) × ((with_end id how text x).master ≡ x.master)
    keeps = end_keeps id how text x

    by : (b : Bool) → is_attempt x.id q ≡ b
        → (find (λ x. is_attempt x.id q) (map (with_end id how text) xs) ≡ Some one → (old : AttemptRecord) × (find (λ x. is_attempt x.id q) xs ≡ Some old) × (old.master ≡ one.master))
        → (old : AttemptRecord) × (find (λ x. is_attempt x.id q) (x ∷ xs) ≡ Some old) × (old.master ≡ one.master)
    by true f h =
        let same : is_attempt (with_end id how text x).id q ≡ true = ap (λ (i : AttemptId). is_attempt i q) keeps.0 ∙ f in
        let g : with_end id how text x ≡ one = let y = rw same at e in cc in
        (x, rw f refl, sym keeps.1 ∙ ap (λ (y : AttemptRecord). y.master) g)
    by false f h =
        let other : is_attempt (with_end id how text x).id q ≡ false = ap (λ (i : AttemptId). is_attempt i q) keeps.0 ∙ f in
        let r = h (rw other at e) in
        (r.0, rw f r.1, r.2)

module _ (apps : List AppRecord) (each : MastersAreOwn apps) where
  -- a record changes, and no more is found in it than what is apt
  changed_apt : (change : AppRecord → AppRecord) → ((app : AppRecord) → (change app).id ≡ app.id) → (id : AppId)
      → ((app : AppRecord) (q : AttemptId) (one : AttemptRecord) → is_app id q.app ≡ true → record_of apps q.app ≡ Some app → find (λ x. is_attempt x.id q) (change app).attempts ≡ Some one → one.master.attempt ≡ q)
      → MastersAreOwn (with_record change id apps)
  changed_apt change keeps id own q one e = by (is_app id q.app) refl (record_of apps q.app) refl (rw (record_changed change keeps id q.app apps) at e)
    where
      by : (b : Bool) → is_app id q.app ≡ b → (found : Option AppRecord) → record_of apps q.app ≡ found → find (λ x. is_attempt x.id q) (attempts_in (changed_if (is_app id q.app) change (record_of apps q.app))) ≡ Some one → one.master.attempt ≡ q
      by true i None f g = absurd (let x = rw (i, f) at g in cc)
      by true i (Some app) f g = own app q one i f (let x = rw (i, f) at g in x)
      by false i found f g = each q one (let x = rw i at g in x)

-- each operation of such masters keeps them so
pub apt_step : (r : Records) (op : Op) → MastersAreOwn r.apps → IsAptOp op → MastersAreOwn (recorded r op).apps
apt_step r (ops.Epoch next stamp) each apt = each
apt_step r (ops.App id s) each apt = λ q one e. by q one (is_app id q.app) refl (record_of r.apps q.app) refl (rw (record_put (new_record id s) q.app r.apps) at e)
  where
    by : (q : AttemptId) (one : AttemptRecord) (b : Bool) → is_app id q.app ≡ b → (found : Option AppRecord) → record_of r.apps q.app ≡ found → find (λ x. is_attempt x.id q) (attempts_in (put_if (is_app id q.app) (new_record id s) (record_of r.apps q.app))) ≡ Some one → one.master.attempt ≡ q
    by q one true i None f g = absurd (let x = rw (i, f) at g in cc)
    by q one true i (Some app) f g = each q one (rw f (let x = rw (i, f) at g in x))
    by q one false i None f g = absurd (let x = rw (i, f) at g in cc)
    by q one false i (Some app) f g = each q one (rw f (let x = rw (i, f) at g in x))
apt_step r (ops.Attempt id master node) each apt =
    changed_apt r.apps each (λ app. record app { attempts = app.attempts ++ record { id = id; master = master; node = node; ending = None } ∷ [] }) (λ app. refl) id.app (λ app q one i f g. own app q one i f (found_end (λ x. is_attempt x.id q) app.attempts (record { id = id; master = master; node = node; ending = None }) one g))
  where
    own : (app : AppRecord) (q : AttemptId) (one : AttemptRecord) → is_app id.app q.app ≡ true → record_of r.apps q.app ≡ Some app
        → (find (λ x. is_attempt x.id q) app.attempts ≡ Some one) ⊎ ((record { id = id; master = master; node = node; ending = None } ≡ one) × (is_attempt id q ≡ true)) → one.master.attempt ≡ q
    own app q one i f (inl g) = each q one (rw f g)
    own app q one i f (inr g) =
        let same : id ≡ q = let t = g.1 in grind (arith, nat_tests) in
        let named : master ≡ one.master = ap (λ (x : AttemptRecord). x.master) g.0 in
        ap (λ (c : ContainerId). c.attempt) (sym named) ∙ apt ∙ same
apt_step r (ops.AttemptEnd id how text) each apt =
    changed_apt r.apps each (λ app. record app { attempts = map (with_end id how text) app.attempts }) (λ app. refl) id.app
    (λ app q one i f g.
    let old = found_ended id q how text app.attempts one g in
    ap (λ (c : ContainerId). c.attempt) (sym old.2) ∙ each q old.0 (rw f old.1))
apt_step r (ops.AppEnd id how text) each apt = changed_apt r.apps each (λ app. record app { ending = Some (how, text); end_order = r.applied }) (λ app. refl) id (λ app q one i f g. each q one (rw f g))
apt_step r (ops.Remove id) each apt = λ q one e. by q one (is_app id q.app) refl (rw (found_gone (λ (app : AppRecord). app.id) id q.app r.apps) at e)
  where
    by : (q : AttemptId) (one : AttemptRecord) (b : Bool) → is_app id q.app ≡ b → find (λ x. is_attempt x.id q) (attempts_in (gone_if (is_app id q.app) (record_of r.apps q.app))) ≡ Some one → one.master.attempt ≡ q
    by q one true i g = absurd (let x = rw i at g in cc)
    by q one false i g = each q one (let x = rw i at g in x)
