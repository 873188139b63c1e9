-- An operation that may be issued fits what the kept and the awaiting ones record.
use Rattle.rm_laws.proofs.Common.{◌≡◌, ℕ, ◌+◌, List, [], ◌∷◌, length, Bool, true, false, ◌||◌, ◌&&◌, ◌==◌, Option, None, Some, is_some, is_none, fold, refl, sym, ap, subst, ◌∙◌, list_any, and_parts, AppId, AttemptId, ContainerId, How, Op, Epoch, App, Attempt, AttemptEnd, AppEnd, Remove, Submission, AppRecord, AttemptRecord, is_app, is_attempt, Records, recorded, record_of, fits_records, all_ended, is_some_and, last_attempt, none_from_is_none, same_attempt, is_app_op, is_app_end_op, is_remove_op}
use Rattle.rm_types.proofs.TestLemmas.{number_itself}
use Rattle.rm_model.specs.Facts.{is_attempt_op, is_attempt_end_op}
use Rattle.rm_laws.proofs.Views.{Fitting, is_of, quiet}
use Rattle.rm_laws.proofs.Fine.{FineApp, at_own}

-- an operation fits, by the record of its application alone
abbrev pub fits_view : Option AppRecord → Op → Bool
fits_view v (Epoch next stamp) = false
fits_view v (App id submission) = is_none v
fits_view v (Attempt id master node) = is_some_and (λ app. is_none app.ending && (all_ended app.attempts && (id.number == length app.attempts + 1))) v
fits_view v (AttemptEnd id how text) = is_some_and (λ app. is_some_and (λ last. is_attempt last.id id && is_none last.ending) (last_attempt app.attempts)) v
fits_view v (AppEnd id how text) = is_some_and (λ app. is_none app.ending && all_ended app.attempts) v
fits_view v (Remove id) = is_some_and (λ app. is_some app.ending) v

pub by_view : (id : AppId) (r : Records) (op : Op) → is_of id op ≡ true → fits_records r op ≡ fits_view (record_of r.apps id) op
by_view id r (Epoch next stamp) own = cc
by_view id r (App one submission) own = ap (λ (v : Option AppRecord). fits_view v (App one submission)) (at_own id one r own)
by_view id r (Attempt one master node) own = ap (λ (v : Option AppRecord). fits_view v (Attempt one master node)) (at_own id one.app r own)
by_view id r (AttemptEnd one how text) own = ap (λ (v : Option AppRecord). fits_view v (AttemptEnd one how text)) (at_own id one.app r own)
by_view id r (AppEnd one how text) own = ap (λ (v : Option AppRecord). fits_view v (AppEnd one how text)) (at_own id one r own)
by_view id r (Remove one) own = ap (λ (v : Option AppRecord). fits_view v (Remove one)) (at_own id one r own)

-- the last of ended attempts has ended
last_ended : (attempts : List AttemptRecord) (test : AttemptRecord → Bool) → all_ended attempts ≡ true → is_some_and (λ last. test last && is_none last.ending) (last_attempt attempts) ≡ true → ⊥
last_ended [] test all h = cc
last_ended (one ∷ []) test all h =
    let b = and_parts (is_some one.ending) true all in let c = and_parts (test one) (is_none one.ending) h in
    let n = none_from_is_none one.ending c.1 in let y : false ≡ true = ap (λ (o : Option (How × List ℕ)). is_some o) (sym n) ∙ b.0 in cc
last_ended (one ∷ next ∷ more) test all h = last_ended (next ∷ more) test (and_parts (is_some one.ending) (all_ended (next ∷ more)) all).1 h

not_both : {X : Type 0} (o : Option X) → is_none o ≡ true → is_some o ≡ true → ⊥
not_both None a b = cc
not_both (Some x) a b = cc

-- an application with ended attempts that goes on
pub record IsUnended (app : AppRecord) : Type 0 where
  pub goes : is_none app.ending ≡ true
  pub ended : all_ended app.attempts ≡ true

module _ (id : AppId) (r : Records) (awaiting : List Op) (fit : Fitting r awaiting) where
  -- of an application without a record only an App fits
  none_blocks : (s : Records) (op : Op) → record_of s.apps id ≡ None → is_of id op ≡ true → fits_records s op ≡ true → is_app_op id op ≡ true
  none_blocks s op none own fits = go op own (ap (λ (v : Option AppRecord). fits_view v op) (sym none) ∙ sym (by_view id s op own) ∙ fits)
    where
      go : (op : Op) → is_of id op ≡ true → fits_view None op ≡ true → is_app_op id op ≡ true
      go (Epoch next stamp) own f = cc
      go (App one submission) own f = own
      go (Attempt one master node) own f = cc
      go (AttemptEnd one how text) own f = cc
      go (AppEnd one how text) own f = cc
      go (Remove one) own f = cc

  pub app_fits : (submission : Submission) → record_of r.apps id ≡ None → list_any (is_app_op id) awaiting ≡ false → fits_records (fold recorded r awaiting) (App id submission) ≡ true
  app_fits submission none waits =
      let same = quiet id (λ v. v ≡ None) (is_app_op id) none_blocks r awaiting none fit waits in
      rw (same ∙ none) refl

  -- of an ended one only a Remove fits
  ended_blocks : (app : AppRecord) → is_some app.ending ≡ true → FineApp app → (s : Records) (op : Op) → record_of s.apps id ≡ Some app → is_of id op ≡ true → fits_records s op ≡ true → is_remove_op id op ≡ true
  ended_blocks app ended fine s op is own fits = go op own (ap (λ (v : Option AppRecord). fits_view v op) (sym is) ∙ sym (by_view id s op own) ∙ fits)
    where
      go : (op : Op) → is_of id op ≡ true → fits_view (Some app) op ≡ true → is_remove_op id op ≡ true
      go (Epoch next stamp) own f = cc
      go (App one submission) own f = cc
      go (Attempt one master node) own f = absurd (not_both app.ending (and_parts (is_none app.ending) (all_ended app.attempts && (one.number == length app.attempts + 1)) f).0 ended)
      go (AttemptEnd one how text) own f = absurd (last_ended app.attempts (λ last. is_attempt last.id one) (fine.ended ended) f)
      go (AppEnd one how text) own f = absurd (not_both app.ending (and_parts (is_none app.ending) (all_ended app.attempts) f).0 ended)
      go (Remove one) own f = own

  pub remove_fits : (app : AppRecord) → record_of r.apps id ≡ Some app → is_some app.ending ≡ true → FineApp app → list_any (is_remove_op id) awaiting ≡ false
      → fits_records (fold recorded r awaiting) (Remove id) ≡ true
  remove_fits app is ended fine waits =
      let same = quiet id (λ v. v ≡ Some app) (is_remove_op id) (ended_blocks app ended fine) r awaiting is fit waits in
      ap (λ (v : Option AppRecord). fits_view v (Remove id)) (same ∙ is) ∙ ended

  -- of one that goes on with ended attempts only its next Attempt or its AppEnd fits
  going_blocks : (app : AppRecord) → IsUnended app → (s : Records) (op : Op) → record_of s.apps id ≡ Some app → is_of id op ≡ true → fits_records s op ≡ true
      → (is_app_end_op id op || is_attempt_op (record { app = id; number = length app.attempts + 1 }) op) ≡ true
  going_blocks app g s op is own fits = go op own (ap (λ (v : Option AppRecord). fits_view v op) (sym is) ∙ sym (by_view id s op own) ∙ fits)
    where
      numbered : (one : AttemptId) → is_app one.app id ≡ true → (one.number == length app.attempts + 1) ≡ true → is_attempt one (record { app = id; number = length app.attempts + 1 }) ≡ true
      numbered one a n = rw (a, n) refl

      go : (op : Op) → is_of id op ≡ true → fits_view (Some app) op ≡ true → (is_app_end_op id op || is_attempt_op (record { app = id; number = length app.attempts + 1 }) op) ≡ true
      go (Epoch next stamp) own f = cc
      go (App one submission) own f = cc
      go (Attempt one master node) own f =
          let a = and_parts (is_none app.ending) (all_ended app.attempts && (one.number == length app.attempts + 1)) f in
          numbered one own (and_parts (all_ended app.attempts) (one.number == length app.attempts + 1) a.1).1
      go (AttemptEnd one how text) own f = absurd (last_ended app.attempts (λ last. is_attempt last.id one) g.ended f)
      go (AppEnd one how text) own f = rw own refl
      go (Remove one) own f = absurd (not_both app.ending g.goes f)

  any_either : (p q : Op → Bool) (ops : List Op) → list_any p ops ≡ false → list_any q ops ≡ false → list_any (λ op. p op || q op) ops ≡ false
  any_either p q [] a b = refl
  any_either p q (op ∷ ops) a b = go (p op) refl (q op) refl a b (any_either p q ops)
    where
      go : (x : Bool) → p op ≡ x → (y : Bool) → q op ≡ y → (x || list_any p ops) ≡ false → (y || list_any q ops) ≡ false
          → (list_any p ops ≡ false → list_any q ops ≡ false → list_any (λ one. p one || q one) ops ≡ false) → ((x || y) || list_any (λ one. p one || q one) ops) ≡ false
      go true e y f a b more = cc
      go false e true f a b more = cc
      go false e false f a b more = more a b

  going_same : (app : AppRecord) → record_of r.apps id ≡ Some app → IsUnended app → list_any (is_app_end_op id) awaiting ≡ false
      → list_any (is_attempt_op (record { app = id; number = length app.attempts + 1 })) awaiting ≡ false → record_of (fold recorded r awaiting).apps id ≡ record_of r.apps id
  going_same app is g ends attempts =
      quiet id (λ v. v ≡ Some app) (λ op. is_app_end_op id op || is_attempt_op (record { app = id; number = length app.attempts + 1 }) op) (going_blocks app g) r awaiting is fit
      (any_either (is_app_end_op id) (is_attempt_op (record { app = id; number = length app.attempts + 1 })) awaiting ends attempts)

  pub app_end_fits : (app : AppRecord) → record_of r.apps id ≡ Some app → IsUnended app → list_any (is_app_end_op id) awaiting ≡ false
      → list_any (is_attempt_op (record { app = id; number = length app.attempts + 1 })) awaiting ≡ false → (how : How) (text : List ℕ) → fits_records (fold recorded r awaiting) (AppEnd id how text) ≡ true
  app_end_fits app is g ends attempts how text =
      ap (λ (v : Option AppRecord). fits_view v (AppEnd id how text)) (going_same app is g ends attempts ∙ is) ∙ rw (g.goes, g.ended) refl

  pub attempt_fits : (app : AppRecord) → record_of r.apps id ≡ Some app → IsUnended app → list_any (is_app_end_op id) awaiting ≡ false
      → list_any (is_attempt_op (record { app = id; number = length app.attempts + 1 })) awaiting ≡ false → (master : ContainerId) (node : List ℕ)
      → fits_records (fold recorded r awaiting) (Attempt (record { app = id; number = length app.attempts + 1 }) master node) ≡ true
  attempt_fits app is g ends attempts master node =
      ap (λ (v : Option AppRecord). fits_view v (Attempt (record { app = id; number = length app.attempts + 1 }) master node)) (going_same app is g ends attempts ∙ is) ∙ rw (g.goes, g.ended) (number_itself (length app.attempts + 1))

  -- of one whose last attempt has no end only that attempt's end fits
  live_blocks : (t : AttemptId) (app : AppRecord) → FineApp app → is_some_and (λ last. is_attempt last.id t && is_none last.ending) (last_attempt app.attempts) ≡ true
      → (s : Records) (op : Op) → record_of s.apps id ≡ Some app → is_of id op ≡ true → fits_records s op ≡ true → is_attempt_end_op t op ≡ true
  live_blocks t app fine live s op is own fits = go op own (ap (λ (v : Option AppRecord). fits_view v op) (sym is) ∙ sym (by_view id s op own) ∙ fits)
    where
      go : (op : Op) → is_of id op ≡ true → fits_view (Some app) op ≡ true → is_attempt_end_op t op ≡ true
      go (Epoch next stamp) own f = cc
      go (App one submission) own f = cc
      go (Attempt one master node) own f =
          let a = and_parts (is_none app.ending) (all_ended app.attempts && (one.number == length app.attempts + 1)) f in
          absurd (last_ended app.attempts (λ last. is_attempt last.id t) (and_parts (all_ended app.attempts) (one.number == length app.attempts + 1) a.1).0 live)
      go (AttemptEnd one how text) own f = same_last (last_attempt app.attempts) live f
        where
          same_last : (o : Option AttemptRecord) → is_some_and (λ last. is_attempt last.id t && is_none last.ending) o ≡ true → is_some_and (λ last. is_attempt last.id one && is_none last.ending) o ≡ true → is_attempt one t ≡ true
          same_last None a b = cc
          same_last (Some last) a b =
              let x = same_attempt last.id t (and_parts (is_attempt last.id t) (is_none last.ending) a).0 in
              let y = (and_parts (is_attempt last.id one) (is_none last.ending) b).0 in
              let z = same_attempt last.id one y in
              subst (λ (i : AttemptId). is_attempt i t ≡ true) z (and_parts (is_attempt last.id t) (is_none last.ending) a).0
      go (AppEnd one how text) own f = absurd (last_ended app.attempts (λ last. is_attempt last.id t) (and_parts (is_none app.ending) (all_ended app.attempts) f).1 live)
      go (Remove one) own f = absurd (last_ended app.attempts (λ last. is_attempt last.id t) (fine.ended f) live)

  pub attempt_end_fits : (t : AttemptId) (app : AppRecord) → is_app t.app id ≡ true → record_of r.apps id ≡ Some app → FineApp app → is_some_and (λ last. is_attempt last.id t && is_none last.ending) (last_attempt app.attempts) ≡ true
      → list_any (is_attempt_end_op t) awaiting ≡ false → (how : How) (text : List ℕ) → fits_records (fold recorded r awaiting) (AttemptEnd t how text) ≡ true
  attempt_end_fits t app own is fine live waits how text =
      let same = quiet id (λ v. v ≡ Some app) (is_attempt_end_op t) (live_blocks t app fine live) r awaiting is fit waits in
      by_view id (fold recorded r awaiting) (AttemptEnd t how text) own ∙ ap (λ (v : Option AppRecord). fits_view v (AttemptEnd t how text)) (same ∙ is) ∙ live
