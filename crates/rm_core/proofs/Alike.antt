-- Records that are alike: as equal ones are, and they show the same operations.
use Rattle.std.proofs.Common.{◌≡◌, ℕ, Bool, true, false, not, List, [], ◌∷◌, map, length, nat_lt, Option, None, Some, is_some, is_none, refl, sym, ◌∙◌, ap, subst, option_map}
use Rattle.std.proofs.lemmas.List.{length-map}
use Rattle.rm_types.specs.declared.ids.AppId.{AppId}
use Rattle.rm_types.specs.declared.operations.Op.{Op}
use Rattle.rm_types.specs.declared.operations.Op.TheVariants.{Epoch, App, Attempt, AttemptEnd, AppEnd, Remove}
use Rattle.rm_types.specs.declared.records.AppRecord.{AppRecord}
use Rattle.rm_types.specs.Ids.{is_app}
use Rattle.rm_types.specs.Records.{Records, is_some_and, record_of}
use Rattle.rm_tree.specs.Changes.{is_end_recorded}
use Rattle.rm_tree.specs.Shows.{shows}
use Rattle.rm_types.specs.Alike.{IsAlike, without_end_order}

pub like_itself : (r : Records) → IsAlike r r
like_itself r = record { epoch = refl; stamp = refl; apps = refl; order = λ first next. refl }

pub like_same : (r s : Records) → r ≡ s → IsAlike r s
like_same r s e = subst (IsAlike r) e (like_itself r)

pub like_back : (r s : Records) → IsAlike r s → IsAlike s r
like_back r s l = record { epoch = sym l.epoch; stamp = sym l.stamp; apps = sym l.apps; order = λ first next. sym (l.order first next) }

pub like_on : (r s u : Records) → IsAlike r s → IsAlike s u → IsAlike r u
like_on r s u l m = record { epoch = l.epoch ∙ m.epoch; stamp = l.stamp ∙ m.stamp; apps = l.apps ∙ m.apps; order = λ first next. l.order first next ∙ m.order first next }

-- they have as many applications
pub like_length : (r s : Records) → IsAlike r s → length r.apps ≡ length s.apps
like_length r s l = sym (length-map r.apps without_end_order) ∙ ap (λ (x : List AppRecord). length x) l.apps ∙ length-map s.apps without_end_order

bare_found : (apps : List AppRecord) (id : AppId) → record_of (map without_end_order apps) id ≡ option_map without_end_order (record_of apps id)
bare_found [] id = refl
bare_found (app ∷ apps) id = by (is_app app.id id) refl (bare_found apps id)
  where
    by : (b : Bool) → is_app app.id id ≡ b → record_of (map without_end_order apps) id ≡ option_map without_end_order (record_of apps id) → record_of (map without_end_order (app ∷ apps)) id ≡ option_map without_end_order (record_of (app ∷ apps) id)
    by true e h = rw e refl
    by false e h = rw e h

-- an operation shows or not, whatever the numbers are
shows_bare : (r : Records) (op : Op) → shows r op ≡ shows (record { next_epoch = r.next_epoch; stamp = r.stamp; apps = map without_end_order r.apps; applied = 0 }) op
shows_bare r (Epoch next stamp) = refl
shows_bare r (App id submission) = rw (bare_found r.apps id) (by (record_of r.apps id))
  where
    by : (o : Option AppRecord) → is_some o ≡ is_some (option_map without_end_order o)
    by None = refl
    by (Some app) = refl
shows_bare r (Attempt id master node) = rw (bare_found r.apps id.app) (by (record_of r.apps id.app))
  where
    by : (o : Option AppRecord) → is_some_and (λ app. not (nat_lt (length app.attempts) id.number)) o ≡ is_some_and (λ app. not (nat_lt (length app.attempts) id.number)) (option_map without_end_order o)
    by None = refl
    by (Some app) = refl
shows_bare r (AttemptEnd id how text) = rw (bare_found r.apps id.app) (by (record_of r.apps id.app))
  where
    by : (o : Option AppRecord) → is_some_and (λ app. is_end_recorded id app) o ≡ is_some_and (λ app. is_end_recorded id app) (option_map without_end_order o)
    by None = refl
    by (Some app) = refl
shows_bare r (AppEnd id how text) = rw (bare_found r.apps id) (by (record_of r.apps id))
  where
    by : (o : Option AppRecord) → is_some_and (λ app. is_some app.ending) o ≡ is_some_and (λ app. is_some app.ending) (option_map without_end_order o)
    by None = refl
    by (Some app) = refl
shows_bare r (Remove id) = rw (bare_found r.apps id) (by (record_of r.apps id))
  where
    by : (o : Option AppRecord) → is_none o ≡ is_none (option_map without_end_order o)
    by None = refl
    by (Some app) = refl

pub shows_like : (r s : Records) (op : Op) → IsAlike r s → shows r op ≡ shows s op
shows_like r s op l = shows_bare r op ∙ parts r.next_epoch s.next_epoch r.stamp s.stamp (map without_end_order r.apps) (map without_end_order s.apps) l.epoch l.stamp l.apps ∙ sym (shows_bare s op)
  where
    parts : (e f t u : ℕ) (x y : List AppRecord) → e ≡ f → t ≡ u → x ≡ y → shows (record { next_epoch = e; stamp = t; apps = x; applied = 0 }) op ≡ shows (record { next_epoch = f; stamp = u; apps = y; applied = 0 }) op
    parts e f t u x y a b c = rw (a, b, c) refl
